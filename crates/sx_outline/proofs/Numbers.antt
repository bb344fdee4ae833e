-- The number of a function type that a list gains.
use Rattle.std.proofs.Common.{◌≡◌, ◌<◌, ◌+◌, ◌∙◌, inl, inr, ℕ, zero, suc, Bool, true, false, not, cond, List, [], ◌∷◌, ◌++◌, length, slice_get, Option, Some, None, Contains, Decides, refl, sym, ap, rules, arith}
use Rattle.std.proofs.lemmas.Option.{slice_get_within}
use Rattle.std.proofs.lemmas.List.Quantifiers.{position-Some}
use Rattle.std.specs.List.{position_or_len}
use Rattle.sx_types.specs.declared.types.Ty.{Ty}
use Rattle.sx_types.specs.declared.types.FunctionParameter.{FunctionParameter}
use Rattle.sx_types.specs.declared.types.FunctionType.{FunctionType}
use Rattle.sx_types.specs.Functions.{Gains, IsOnce}
use Rattle.sx_types.specs.Same.{same, same_parameter, same_parameters, same_function, number_of}
use Rattle.sx_outline.specs.Visit.{with_function}

same_ty : (a b : Ty) → Decides (same a b) (a ≡ b)
same_ty a b = search rules

same_one : (p q : FunctionParameter) → Decides (same_parameter p q) (p ≡ q)
same_one p q = search (rules, same_ty)

same_all : (ps qs : List FunctionParameter) → Decides (same_parameters ps qs) (ps ≡ qs)
same_all [] [] = search rules
same_all [] (q ∷ qs) = search rules
same_all (p ∷ ps) [] = search rules
same_all (p ∷ ps) (q ∷ qs) = search (rules, same_one p q, same_all ps qs)

same_type : (f g : FunctionType) → Decides (same_function f g) (f ≡ g)
same_type f g = search (rules, same_all, same_ty)

-- the only place of an element is that of the first that passes
first_is : (p : FunctionType → Bool) (xs : List FunctionType) (k : ℕ) (x : FunctionType) →
    slice_get xs k ≡ Some x → p x ≡ true → ((j : ℕ) (y : FunctionType) → slice_get xs j ≡ Some y → p y ≡ true → j ≡ k) → position_or_len p xs ≡ k
first_is p [] k x at passing once = cc
first_is p (y ∷ ys) zero x at passing once = grind arith
first_is p (y ∷ ys) (suc k) x at passing once = by (p y) refl (λ before. first_is p ys k x at passing before)
  where
    by : (b : Bool) → p y ≡ b → (((j : ℕ) (z : FunctionType) → slice_get ys j ≡ Some z → p z ≡ true → j ≡ k) → position_or_len p ys ≡ k) → cond (not (p y)) (1 + position_or_len p ys) 0 ≡ suc k
    by true e rest =
        let here : 0 ≡ suc k = once 0 y refl e in
        omega arith
    by false e rest =
        let there : position_or_len p ys ≡ k = rest (λ j z there passes. let both : suc j ≡ suc k = once (suc j) z there passes in omega arith) in
        grind arith

numbered : (fs : List FunctionType) (f : FunctionType) (k : ℕ) →
    slice_get fs k ≡ Some f → ((j : ℕ) → slice_get fs j ≡ Some f → j ≡ k) → number_of fs f ≡ Some k
numbered fs f k at once =
    let first : position_or_len (same_function f) fs ≡ k = first_is (same_function f) fs k f at ((same_type f f).1 refl) (λ j g there passes. once j (there ∙ ap Some (sym ((same_type f g).0 passes)))) in
    let within : k < length fs = slice_get_within fs k f at in
    grind arith

-- behind others it stands last
last : (fs : List FunctionType) (f : FunctionType) (j : ℕ) → ¬ Contains fs f → slice_get (fs ++ f ∷ []) j ≡ Some f → j ≡ length fs
last [] f zero absent at = refl
last [] f (suc j) absent at = cc
last (g ∷ gs) f zero absent at =
    let here : g ≡ f = cc in
    absurd (absent (0, omega arith, here))
last (g ∷ gs) f (suc j) absent at = ap suc (last gs f j (λ (k, within, there). absent (suc k, omega arith, there)) at)

unnumbered : (fs : List FunctionType) (f : FunctionType) → ¬ Contains fs f → number_of fs f ≡ None
unnumbered fs f absent = by (number_of fs f) refl
  where
    by : (o : Option ℕ) → number_of fs f ≡ o → number_of fs f ≡ None
    by None e = e
    by (Some i) e =
        let found = position-Some (same_function f) fs i f e in
        absurd (absent (i, found.0, sym ((same_type f _).0 found.1)))

pub gathers : (fs after : List FunctionType) (f : FunctionType) (k : ℕ) →
    IsOnce fs → Gains fs after f → slice_get after k ≡ Some f → (with_function fs f ≡ after) × (number_of after f ≡ Some k)
gathers fs after f k once (inl (there, same)) at =
    let at_before : slice_get fs k ≡ Some f = cc in
    let number : number_of fs f ≡ Some k = numbered fs f k at_before (λ j other. once j k f other at_before) in
    rw same (grind arith)
gathers fs after f k once (inr (absent, more)) at =
    let at_end : slice_get (fs ++ f ∷ []) k ≡ Some f = cc in
    let none : number_of fs f ≡ None = unnumbered fs f absent in
    let number : number_of (fs ++ f ∷ []) f ≡ Some k = numbered (fs ++ f ∷ []) f k at_end (λ j other. last fs f j absent other ∙ sym (last fs f k absent at_end)) in
    rw more (grind arith)
