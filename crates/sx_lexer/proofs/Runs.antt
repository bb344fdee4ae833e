-- A run ends where it can't go on, and nowhere else.
use Rattle.std.proofs.Common.{◌≡◌, ℕ, List, [], ◌∷◌, Bool, true, false, cond, refl, sym, ap, ◌∙◌, subst, length, ◌≤◌, arith}
use Rattle.sx_lexer.specs.declared.characters.RunKind.{RunKind}
use Rattle.sx_lexer.specs.declared.characters.RunKind.TheVariants as run_kinds
use Rattle.sx_lexer.specs.Characters.{runs, past, Run, run_ends, run_goes}

pub no_run : (kind : RunKind) → runs kind [] ≡ false
no_run run_kinds.Word = refl
no_run run_kinds.Operator = refl
no_run run_kinds.Line = refl
no_run run_kinds.Hexadecimal = refl

pub ends_at : (kind : RunKind) (s : List ℕ) → s ≡ [] → Run kind s s
ends_at kind s e = run_ends (subst (λ t. runs kind t ≡ false) (sym e) (no_run kind))

pub ends_before : (kind : RunKind) (s : List ℕ) (b : Bool) → b ≡ runs kind s → b ≡ false → Run kind s s
ends_before kind s b e h = run_ends (sym e ∙ h)

pub goes_on : (kind : RunKind) (c : ℕ) (s t r : List ℕ) (b : Bool) → b ≡ runs kind t → b ≡ true → t ≡ c ∷ s → Run kind s r → Run kind t r
goes_on kind c s t r b e h f x =
    let g : runs kind (c ∷ s) ≡ true = ap (runs kind) (sym f) ∙ (sym e ∙ h) in
    subst (λ u. Run kind u r) (sym f) (run_goes g x)

cond_true : {X : Type 0} (b : Bool) (x y : X) → b ≡ true → cond b x y ≡ x
cond_true true x y h = refl
cond_true false x y h = absurd (cc)

cond_false : {X : Type 0} (b : Bool) (x y : X) → b ≡ false → cond b x y ≡ y
cond_false true x y h = absurd (cc)
cond_false false x y h = refl

pub run_past : (kind : RunKind) (s r : List ℕ) → Run kind s r → past kind s ≡ r
unfolding past
run_past kind [] _ (run_ends h) = refl
run_past kind (c ∷ s) _ (run_ends h) = cond_false _ _ _ h
run_past kind _ r (run_goes {c = c} {s = s} h x) = cond_true _ _ _ h ∙ run_past kind s r x

pub one_run : (kind : RunKind) (s q r : List ℕ) → Run kind s q → Run kind s r → q ≡ r
one_run kind s q r x y = sym (run_past kind s q x) ∙ run_past kind s r y

pub run_shorter : (kind : RunKind) (s r : List ℕ) → Run kind s r → length r ≤ length s
run_shorter kind s _ (run_ends h) = omega arith
run_shorter kind _ r (run_goes {s = s} h x) = let i = run_shorter kind s r x in omega (arith, i)
