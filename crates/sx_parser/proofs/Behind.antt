-- Fronts of tokens, by the sorts that the last one may have.
use Rattle.std.proofs.Common.{◌≡◌, ℕ, List, [], ◌∷◌, ◌++◌, refl, sym, ap, ◌∙◌, subst, ◌⊎◌, inl, inr, Some, None}
use Rattle.sx_token.specs.declared.kinds.Token.{Token}
use Rattle.sx_grammar.specs.declared.lexemes.Lexeme.{Lexeme}
use Rattle.sx_grammar.specs.declared.lexemes.Sort.{Sort}
use Rattle.sx_grammar.specs.declared.lexemes.Sort.TheVariants as sorts
use Rattle.sx_grammar.specs.Lexemes.{lexemes, sort_before}
use Rattle.sx_parser.specs.Fronts.{AreFront, IsFront, lexemes_before, other_sort}
use Rattle.sx_parser.proofs.Lexing.{as_before, last_before}

one_way : (s b : Sort) → other_sort s ≡ None → sort_before s b ≡ s
one_way sorts.OpenBrace b h = absurd (cc)
one_way sorts.OpenRound b h = absurd (cc)
one_way s b h = refl

two_ways : (s o b : Sort) → other_sort s ≡ Some o → (sort_before s b ≡ s) ⊎ (sort_before s b ≡ o)
two_ways sorts.OpenBrace o sorts.WillSet h = inr (cc)
two_ways sorts.OpenBrace o sorts.DidSet h = inr (cc)
two_ways sorts.OpenBrace o b h = inl refl
two_ways sorts.OpenRound o sorts.Text h = inr (cc)
two_ways sorts.OpenRound o b h = inl refl
two_ways s o b h = absurd (cc)

record Way (s o : Sort) : Type 0 where
  behind : Sort
  is : sort_before s behind ≡ o

other_way : (s o : Sort) → other_sort s ≡ Some o → Way s o
other_way sorts.OpenBrace o h = record { behind = sorts.WillSet; is = cc }
other_way sorts.OpenRound o h = record { behind = sorts.Text; is = cc }
other_way s o h = absurd (cc)

abbrev pub with_sort : Lexeme → Sort → Lexeme
with_sort l s = record { sort = s; token = l.token }

same_with : (ls : List Lexeme) (l : Lexeme) (s : Sort) → s ≡ l.sort → ls ++ with_sort l s ∷ [] ≡ ls ++ l ∷ []
same_with ls l s e = ap (λ (s : Sort). ls ++ with_sort l s ∷ []) e

module _ (names : List (List ℕ)) (ts : List Token) where
  pub as_they_stand : AreFront (lexemes names ts) → IsFront names ts
  as_they_stand x = record { behind = sorts.Misfit; lexemes = subst AreFront (as_before names ts) x }

  ends_with : (behind : Sort) (ls : List Lexeme) (l : Lexeme) → lexemes names ts ≡ ls ++ l ∷ [] → lexemes_before names behind ts ≡ ls ++ with_sort l (sort_before l.sort behind) ∷ []
  ends_with behind ls l e = last_before names behind ts ls l (sym (as_before names ts) ∙ e)

  pub none_behind : (ls : List Lexeme) (l : Lexeme) → lexemes names ts ≡ ls ++ l ∷ [] → other_sort l.sort ≡ None → IsFront names ts → AreFront (lexemes names ts)
  none_behind ls l e n x = subst AreFront (ends_with x.behind ls l e ∙ same_with ls l _ (one_way l.sort x.behind n) ∙ sym e) x.lexemes

  pub by_other : (ls : List Lexeme) (l : Lexeme) (o : Sort) → lexemes names ts ≡ ls ++ l ∷ [] → other_sort l.sort ≡ Some o → AreFront (ls ++ with_sort l o ∷ []) → IsFront names ts
  by_other ls l o e h x =
      let w = other_way l.sort o h in
      record { behind = w.behind; lexemes = subst AreFront (sym (ends_with w.behind ls l e ∙ ap (λ (s : Sort). ls ++ with_sort l s ∷ []) w.is)) x }

  pub then_other : (ls : List Lexeme) (l : Lexeme) (o : Sort) → lexemes names ts ≡ ls ++ l ∷ [] → other_sort l.sort ≡ Some o → (AreFront (lexemes names ts) → ⊥) → IsFront names ts → AreFront (ls ++ with_sort l o ∷ [])
  then_other ls l o e h n x = elim (two_ways l.sort o x.behind h) [
    | inl q ↦ absurd (n (subst AreFront (ends_with x.behind ls l e ∙ same_with ls l _ q ∙ sym e) x.lexemes))
    | inr q ↦ subst AreFront (ends_with x.behind ls l e ∙ ap (λ (s : Sort). ls ++ with_sort l s ∷ []) q) x.lexemes
  ]

module _ (names : List (List ℕ)) where
  pub no_tokens : (ts : List Token) → lexemes names ts ≡ [] → IsFront names ts → AreFront (lexemes names ts)
  unfolding lexemes lexemes_before
  no_tokens [] e x = x.lexemes
  no_tokens (t ∷ ts) e x = absurd (cc)
