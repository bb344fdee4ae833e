-- The places of faults lie in the text, or at its end.
use Rattle.std.proofs.Common.{◌≡◌, ℕ, zero, suc, ◌≤◌, List, [], ◌∷◌, drop, sym, subst, arith, refl}
use Rattle.sx_token.specs.declared.kinds.Token.{Token}
use Rattle.sx_token.specs.declared.token_list.Tokens.{Tokens}
use Rattle.sx_token.specs.Sound.{RiseTo}
use Rattle.sx_grammar.specs.declared.lexemes.Lexeme.{Lexeme}
use Rattle.sx_grammar.specs.Grammar.{Grammar}
use Rattle.sx_grammar.specs.Lexemes.{lexemes}
use Rattle.sx_grammar.specs.Rules.{body}
use Rattle.sx_grammar.specs.Answer.{IsTooDeep, opens_too_much, is_blocked}
use Rattle.sx_grammar.proofs.Suffixes.{Suffix, here, there, front_suffix}
use Rattle.sx_parse_decl.specs.Answer.{place}
use Rattle.sx_parser.specs.Answer.{IsDeep, start_of, names_of}

rises_to : (end at : ℕ) (ts : List Token) → RiseTo end at ts → at ≤ end
rises_to end at [] h = h
rises_to end at (t ∷ ts) h = let x = rises_to end t.span.end ts h.1 in let a = h.0.0 in let b = h.0.1 in omega (arith, x, a, b)

starts_within : (end at count : ℕ) (ts : List Token) → RiseTo end at ts → start_of end (drop count ts) ≤ end
starts_within end at zero [] h = omega arith
starts_within end at zero (t ∷ ts) h = let x = rises_to end t.span.end ts h.1 in let b = h.0.1 in omega (arith, x, b)
starts_within end at (suc count) [] h = omega arith
starts_within end at (suc count) (t ∷ ts) h = starts_within end t.span.end count ts h.1

pub syntax_within : (tokens : Tokens) (count : ℕ) → start_of tokens.end (drop count tokens.list.items) ≤ tokens.end
syntax_within tokens count = starts_within tokens.end 0 count tokens.list.items tokens.spans_rise

first_within : (end at : ℕ) (names : List (List ℕ)) (ts : List Token) → RiseTo end at ts → place end (lexemes names ts) ≤ end
unfolding lexemes
first_within end at names [] h = omega arith
first_within end at names (t ∷ ts) h = let x = rises_to end t.span.end ts h.1 in let b = h.0.1 in omega (arith, x, b)

places_within : {ls rest : List Lexeme} → Suffix ls rest → (end at : ℕ) (names : List (List ℕ)) (ts : List Token) → RiseTo end at ts → lexemes names ts ≡ ls → place end rest ≤ end
unfolding lexemes
places_within here end at names ts h e = subst (λ x. place end x ≤ end) e (first_within end at names ts h)
places_within (there p) end at names [] h e = absurd (cc)
places_within (there {t = l} {ts = ls} p) end at names (t ∷ ts) h e = let f : lexemes names ts ≡ ls = cc in places_within p end t.span.end names ts h.1 f

before_of : (l : ℕ) (g : Grammar) (ts rest : List Lexeme) → IsTooDeep l g ts rest → Suffix ts rest
before_of l g ts rest (opens_too_much o) = front_suffix body o.before
before_of l g ts rest (is_blocked b) = front_suffix body b.front

pub deep_within : (tokens : Tokens) (at : ℕ) → IsDeep tokens at → at ≤ tokens.end
deep_within tokens at d = subst (λ x. x ≤ tokens.end) (sym d.there) (places_within (before_of _ _ _ d.rest d.too_deep) tokens.end 0 (names_of tokens) tokens.list.items tokens.spans_rise refl)
