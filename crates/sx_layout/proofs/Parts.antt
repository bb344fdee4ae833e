-- What is known of the words of a stored property.
use Rattle.std.proofs.Common.{◌≡◌, inl, inr, ℕ, zero, suc, ◌≤◌, List, [], ◌∷◌, length, slice_get, Option, Some, None, option_and_then, arith, refl, sym, ap, ◌∙◌}
use Rattle.sx_types.specs.declared.types.Structure.{Structure}
use Rattle.sx_types.specs.declared.types.Ty.{Ty}
use Rattle.sx_types.specs.declared.types.Ty.TheVariants.{Int, Bool, Void, Array, Struct, Class, Func}
use Rattle.sx_types.specs.Words.{words_by, words_of}
use Rattle.sx_layout.specs.declared.walking.Progress.{Progress}
use Rattle.sx_layout.specs.declared.walking.Progress.TheVariants.{Unseen, Open, Measured}
use Rattle.sx_layout.specs.Walking.{AreRight, IsKnown, words_so_far, words_if_measured}
use Rattle.sx_layout.proofs.Sums.{narrow, none_past}

pub is_past : {A : Type 0} (xs : List A) (k : ℕ) → slice_get xs k ≡ None → length xs ≤ k
is_past [] k e = omega arith
is_past (x ∷ xs) zero e = cc
is_past (x ∷ xs) (suc k) e = let h = is_past xs k e in omega arith

module _ (structures : List Structure) (progress : List Progress) (many : length progress ≡ length structures) (right : AreRight structures progress) where
  told : (k : ℕ) → IsKnown progress (Some (Struct k)) → (o : Option Progress) → slice_get progress k ≡ o → option_and_then words_if_measured o ≡ narrow (words_of structures (Struct k))
  told k known None at = let h = is_past progress k at in sym (ap narrow (none_past structures k (omega arith)))
  told k known (Some Unseen) at = absurd (known k refl (inl at))
  told k known (Some Open) at = absurd (known k refl (inr at))
  told k known (Some (Measured words)) at = right k words at

  part_told : (ty : Option Ty) → IsKnown progress ty → option_and_then (words_by (words_so_far progress)) ty ≡ narrow (option_and_then (words_of structures) ty)
  part_told None known = refl
  part_told (Some Int) known = refl
  part_told (Some Bool) known = refl
  part_told (Some Void) known = refl
  part_told (Some Array) known = refl
  part_told (Some (Struct k)) known = told k known (slice_get progress k) refl
  part_told (Some (Class k)) known = refl
  part_told (Some (Func k)) known = refl

  pub part_right : (ty : Option Ty) (words : Option ℕ) → IsKnown progress ty → words ≡ option_and_then (words_by (words_so_far progress)) ty → narrow (option_and_then (words_of structures) ty) ≡ words
  part_right ty words known e = sym (e ∙ part_told ty known)
