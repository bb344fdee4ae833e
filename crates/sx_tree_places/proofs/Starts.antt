-- The tokens of a text start in it.
use Rattle.std.proofs.Common.{ℕ, ◌≤◌, List, [], ◌∷◌, arith}
use Rattle.sx_token.specs.declared.kinds.Token.{Token}
use Rattle.sx_token.specs.declared.token_list.Tokens.{Tokens}
use Rattle.sx_token.specs.Sound.{RiseTo}
use Rattle.sx_grammar.specs.Lexemes.{lexemes}
use Rattle.sx_tree_places.proofs.Each.{Each}
use Rattle.sx_tree_places.proofs.Keeps.{LexemePlaced}

rise_within : (end at : ℕ) (ts : List Token) → RiseTo end at ts → at ≤ end
rise_within end at [] h = h
rise_within end at (t ∷ ts) ((h, k), r) = omega (arith, h, k, rise_within end t.span.end ts r)

starts_within : (end at : ℕ) (ts : List Token) → RiseTo end at ts → Each (λ (t : Token). t.span.start ≤ end) ts
starts_within end at [] h = tt
starts_within end at (t ∷ ts) ((h, k), r) = (omega (arith, k, rise_within end t.span.end ts r), starts_within end t.span.end ts r)

-- a lexeme stands where its token does
lexemes_placed : (P : ℕ → Type 0) (names : List (List ℕ)) (ts : List Token) → Each (λ (t : Token). P t.span.start) ts → Each (LexemePlaced P) (lexemes names ts)
unfolding lexemes
lexemes_placed P names [] h = tt
lexemes_placed P names (t ∷ ts) (h, hs) = (h, lexemes_placed P names ts hs)

pub lexemes_within : (tokens : Tokens) (names : List (List ℕ)) → Each (LexemePlaced (λ p. p ≤ tokens.end)) (lexemes names tokens.list.items)
lexemes_within tokens names = lexemes_placed (λ p. p ≤ tokens.end) names tokens.list.items (starts_within tokens.end 0 tokens.list.items tokens.spans_rise)
