-- Tests on sets of classes.
use Rattle.std.proofs.Common.{◌≡◌, ℕ, List, [], ◌∷◌, ◌++◌, Bool, true, false, cond, not, ◌&&◌, ◌||◌, refl, sym, subst, eqb-true, ◌⊎◌, inl, inr}
use Rattle.std.specs.Prelude.{nat_eq}
use Rattle.sx_grammar.specs.declared.lexemes.Lexeme.{Lexeme}
use Rattle.sx_grammar.specs.Classes.{class_of}
use Rattle.sx_grammar.specs.Grammar.{has, starts, stands, apart, within, meet}

pub and_first : (a b : Bool) → (a && b) ≡ true → a ≡ true
and_first true b h = refl
and_first false b h = h

pub and_second : (a b : Bool) → (a && b) ≡ true → b ≡ true
and_second true b h = h
and_second false b h = absurd (cc)

pub or_first : (a b : Bool) → a ≡ true → (a || b) ≡ true
or_first true b h = refl
or_first false b h = absurd (cc)

pub or_second : (a b : Bool) → b ≡ true → (a || b) ≡ true
or_second true b h = refl
or_second false b h = h

pub or_cases : (a b : Bool) → (a || b) ≡ true → (a ≡ true) ⊎ (b ≡ true)
or_cases true b h = inl refl
or_cases false b h = inr h

pub not_true : (a : Bool) → not a ≡ true → a ≡ true → ⊥
not_true true h k = cc
not_true false h k = cc

meet_chosen : (b : Bool) (x : ℕ) (zs : List ℕ) (c : ℕ) → b ≡ true → nat_eq c x ≡ true → has (cond b (x ∷ zs) zs) c ≡ true
meet_chosen true x zs c h e = or_first _ _ e
meet_chosen false x zs c h e = absurd (cc)

meet_here : (x : ℕ) (xs ys : List ℕ) (c : ℕ) → nat_eq c x ≡ true → has ys x ≡ true → has (meet (x ∷ xs) ys) c ≡ true
meet_here x xs ys c e h = meet_chosen (has ys x) x (meet xs ys) c h e

meet_there : (b : Bool) (x : ℕ) (zs : List ℕ) (c : ℕ) → has zs c ≡ true → has (cond b (x ∷ zs) zs) c ≡ true
meet_there true x zs c h = or_second _ _ h
meet_there false x zs c h = h

pub has_left : (xs ys : List ℕ) (c : ℕ) → has xs c ≡ true → has (xs ++ ys) c ≡ true
has_left [] ys c h = absurd (cc)
has_left (x ∷ xs) ys c h = elim (or_cases (nat_eq c x) (has xs c) h) [ inl e ↦ or_first _ _ e | inr e ↦ or_second _ _ (has_left xs ys c e) ]

pub has_right : (xs ys : List ℕ) (c : ℕ) → has ys c ≡ true → has (xs ++ ys) c ≡ true
has_right [] ys c h = h
has_right (x ∷ xs) ys c h = or_second _ _ (has_right xs ys c h)

pub in_left : (xs ys : List ℕ) (ts : List Lexeme) → starts xs ts ≡ true → starts (xs ++ ys) ts ≡ true
in_left xs ys [] h = absurd (cc)
in_left xs ys (t ∷ ts) h = has_left xs ys (class_of t) h

pub in_right : (xs ys : List ℕ) (ts : List Lexeme) → starts ys ts ≡ true → starts (xs ++ ys) ts ≡ true
in_right xs ys [] h = absurd (cc)
in_right xs ys (t ∷ ts) h = has_right xs ys (class_of t) h

pub in_if : (b : Bool) (xs : List ℕ) (ts : List Lexeme) → b ≡ true → starts xs ts ≡ true → starts (cond b xs []) ts ≡ true
in_if true xs ts e h = h
in_if false xs ts e h = absurd (cc)

has_apart : (xs ys : List ℕ) (c : ℕ) → apart xs ys ≡ true → has xs c ≡ true → has ys c ≡ true → ⊥
has_apart [] ys c p h k = cc
has_apart (x ∷ xs) ys c p h k =
    elim (or_cases (nat_eq c x) (has xs c) h) [
      | inl e ↦ let same : c ≡ x = eqb-true c x e in not_true (has ys x) (and_first _ _ p) (subst (λ (z : ℕ). has ys z ≡ true) same k)
      | inr e ↦ has_apart xs ys c (and_second _ _ p) e k
    ]

pub clash : (xs ys : List ℕ) (ts : List Lexeme) → apart xs ys ≡ true → starts xs ts ≡ true → starts ys ts ≡ true → ⊥
clash xs ys [] p h k = cc
clash xs ys (t ∷ ts) p h k = has_apart xs ys (class_of t) p h k

pub has_meet : (xs ys : List ℕ) (c : ℕ) → has xs c ≡ true → has ys c ≡ true → has (meet xs ys) c ≡ true
has_meet [] ys c h k = absurd (cc)
has_meet (x ∷ xs) ys c h k =
    elim (or_cases (nat_eq c x) (has xs c) h) [
      | inl e ↦ let same : c ≡ x = eqb-true c x e in meet_here x xs ys c e (subst (λ (z : ℕ). has ys z ≡ true) same k)
      | inr e ↦ meet_there (has ys x) x (meet xs ys) c (has_meet xs ys c e k)
    ]

pub in_meet : (xs ys : List ℕ) (ts : List Lexeme) → stands xs ts ≡ true → starts ys ts ≡ true → starts (meet xs ys) ts ≡ true
in_meet xs ys [] h k = k
in_meet xs ys (t ∷ ts) h k = has_meet xs ys (class_of t) h k

has_within : (xs ys : List ℕ) (c : ℕ) → within xs ys ≡ true → has xs c ≡ true → has ys c ≡ true
has_within [] ys c p h = absurd (cc)
has_within (x ∷ xs) ys c p h =
    elim (or_cases (nat_eq c x) (has xs c) h) [
      | inl e ↦ let same : c ≡ x = eqb-true c x e in subst (λ (z : ℕ). has ys z ≡ true) (sym same) (and_first _ _ p)
      | inr e ↦ has_within xs ys c (and_second _ _ p) e
    ]

pub in_within : (xs ys : List ℕ) (ts : List Lexeme) → within xs ys ≡ true → starts xs ts ≡ true → starts ys ts ≡ true
in_within xs ys [] p h = absurd (cc)
in_within xs ys (t ∷ ts) p h = has_within xs ys (class_of t) p h
