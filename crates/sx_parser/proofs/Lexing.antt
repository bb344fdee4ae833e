-- The lexemes of the first tokens of a text, and what stands behind them.
use Rattle.std.proofs.Common.{◌≡◌, ℕ, zero, suc, List, [], ◌∷◌, ◌++◌, length, take, drop, refl, sym, ap, ◌∙◌, arith}
use Rattle.sx_token.specs.declared.kinds.Token.{Token}
use Rattle.sx_grammar.specs.declared.lexemes.Lexeme.{Lexeme}
use Rattle.sx_grammar.specs.declared.lexemes.Sort.{Sort}
use Rattle.sx_grammar.specs.declared.lexemes.Sort.TheVariants as sorts
use Rattle.sx_grammar.specs.Lexemes.{lexemes, sort_alone, sort_before, sort_of_first}
use Rattle.sx_parser.specs.Fronts.{first_sort, lexemes_before}

module _ (names : List (List ℕ)) where
  no_sort : (ts : List Token) → sort_of_first names ts ≡ first_sort names sorts.Misfit ts
  no_sort [] = refl
  no_sort (t ∷ ts) = refl

  abbrev lexeme : Token → Sort → Lexeme
  lexeme t behind = record { sort = sort_before (sort_alone names t.kind t) behind; token = t }

  pub as_before : (ts : List Token) → lexemes names ts ≡ lexemes_before names sorts.Misfit ts
  unfolding lexemes lexemes_before
  as_before [] = refl
  as_before (t ∷ ts) = ap (λ (s : Sort). lexeme t s ∷ lexemes names ts) (no_sort ts) ∙ ap (λ (ls : List Lexeme). lexeme t (first_sort names sorts.Misfit ts) ∷ ls) (as_before ts)

  pub length_before : (behind : Sort) (ts : List Token) → length (lexemes_before names behind ts) ≡ length ts
  unfolding lexemes_before
  length_before behind [] = refl
  length_before behind (t ∷ ts) = let e = length_before behind ts in omega (arith, e)

  first_taken : (behind : Sort) (n : ℕ) (ts : List Token) → first_sort names (first_sort names behind (drop n ts)) (take n ts) ≡ first_sort names behind ts
  first_taken behind zero ts = refl
  first_taken behind (suc n) [] = refl
  first_taken behind (suc n) (t ∷ ts) = refl

  -- of the first ones
  pub take_before : (behind : Sort) (n : ℕ) (ts : List Token) → take n (lexemes_before names behind ts) ≡ lexemes_before names (first_sort names behind (drop n ts)) (take n ts)
  unfolding lexemes_before
  take_before behind zero ts = refl
  take_before behind (suc n) [] = refl
  take_before behind (suc n) (t ∷ ts) =
      ap (λ (ls : List Lexeme). lexeme t (first_sort names behind ts) ∷ ls) (take_before behind n ts)
      ∙ ap (λ (s : Sort). lexeme t s ∷ lexemes_before names (first_sort names behind (drop n ts)) (take n ts)) (sym (first_taken behind n ts))

  -- the last one with another sort behind it
  twice : (s behind : Sort) → sort_before (sort_before s sorts.Misfit) behind ≡ sort_before s behind
  twice sorts.OpenBrace behind = refl
  twice sorts.OpenRound behind = refl
  twice s behind = refl

  pub last_before : (behind : Sort) (ts : List Token) (ls : List Lexeme) (l : Lexeme) → lexemes_before names sorts.Misfit ts ≡ ls ++ l ∷ [] → lexemes_before names behind ts ≡ ls ++ record { sort = sort_before l.sort behind; token = l.token } ∷ []
  unfolding lexemes_before
  last_before behind [] [] l e = absurd (cc)
  last_before behind [] (k ∷ ls) l e = absurd (cc)
  last_before behind (t ∷ []) [] l e =
      let x : lexeme t sorts.Misfit ≡ l = cc in
      ap (λ (s : Sort). let k : Lexeme = record { sort = s; token = t } in k ∷ []) (sym (twice (sort_alone names t.kind t) behind))
      ∙ ap (λ (l : Lexeme). let k : Lexeme = record { sort = sort_before l.sort behind; token = l.token } in k ∷ []) x
  last_before behind (t ∷ []) (k ∷ []) l e = absurd (cc)
  last_before behind (t ∷ []) (k ∷ k' ∷ ls) l e = absurd (cc)
  last_before behind (t ∷ t' ∷ ts) [] l e = absurd (cc)
  last_before behind (t ∷ t' ∷ ts) (k ∷ ls) l e =
      let x : lexeme t (sort_alone names t'.kind t') ≡ k = cc in
      let y : lexemes_before names sorts.Misfit (t' ∷ ts) ≡ ls ++ l ∷ [] = cc in
      let z = last_before behind (t' ∷ ts) ls l y in
      cc
