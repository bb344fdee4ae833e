-- What a set of keys gains by an insert, where equal keys are the same.
use Rattle.std.proofs.Common.{◌≡◌, ◌⊎◌, inl, inr, ℕ, zero, suc, Bool, true, false, true≢false, List, [], ◌∷◌, ◌++◌, if◌then◌else◌, slice_get, Some, Contains, Decides, refl, sym, ap, ◌∙◌}
use Rattle.std.specs.List.{list_any, AllByRecursion, IsDistinct}
use Rattle.std.proofs.lemmas.Map.Made.{is_member-Decides}
use Rattle.indexmap.specs.IndexSet.{insert_key}

module _ {K : Type 0} (eq : K → K → Bool) (same : (a b : K) → Decides (eq a b) (a ≡ b)) where
  pub gained : (ks after : List K) (k : K) → after ≡ insert_key eq ks k → (Contains ks k × (after ≡ ks)) ⊎ ((¬ Contains ks k) × (after ≡ ks ++ k ∷ []))
  gained ks after k e = by (list_any (eq k) ks) refl
    where
      by : (b : Bool) → list_any (eq k) ks ≡ b → (Contains ks k × (after ≡ ks)) ⊎ ((¬ Contains ks k) × (after ≡ ks ++ k ∷ []))
      by true h = inl ((is_member-Decides same ks k).0 h, e ∙ ap (λ b. if b then ks else ks ++ k ∷ []) h)
      by false h = inr (λ there. true≢false (sym ((is_member-Decides same ks k).1 there) ∙ h), e ∙ ap (λ b. if b then ks else ks ++ k ∷ []) h)

  pub stands : (after : List K) (k stored : K) (n : ℕ) → slice_get after n ≡ Some stored → eq k stored ≡ true → slice_get after n ≡ Some k
  stands after k stored n at found = at ∙ ap Some (sym ((same k stored).0 found))

  absent : (x : K) (ks : List K) → AllByRecursion (λ y. eq x y ≡ false) ks → (j : ℕ) → slice_get ks j ≡ Some x → ⊥
  absent x [] all j at = cc
  absent x (k ∷ ks) all zero at =
      let k_is_x : k ≡ x = cc in
      true≢false (sym ((same x k).1 (sym k_is_x)) ∙ all.0)
  absent x (k ∷ ks) all (suc j) at = absent x ks all.1 j at

  pub once : (ks : List K) → IsDistinct eq ks → (i j : ℕ) (k : K) → slice_get ks i ≡ Some k → slice_get ks j ≡ Some k → i ≡ j
  unfolding IsDistinct
  once [] distinct i j k first second = cc
  once (x ∷ xs) distinct zero zero k first second = refl
  once (x ∷ xs) distinct zero (suc j) k first second = absurd (absent x xs distinct.0 j cc)
  once (x ∷ xs) distinct (suc i) zero k first second = absurd (absent x xs distinct.0 i cc)
  once (x ∷ xs) distinct (suc i) (suc j) k first second = ap suc (once xs distinct.1 i j k first second)
