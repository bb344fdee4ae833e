-- One item further in each pass.
use Rattle.std.proofs.Common.{◌≡◌, ℕ, suc, ◌+◌, ◌<◌, ◌≤◌, List, [], ◌∷◌, ◌++◌, length, get_or, drop, Bool, false, refl, sym, ap, ◌∙◌, add-one, arith}
use Rattle.std.specs.Prelude.{if◌then◌else◌}
use Rattle.std.proofs.Math.Seq.{drop-cons}
use Rattle.std.proofs.lemmas.List.{drop_all}
use Rattle.sx_rv_asm.specs.declared.items.Item.{Item}
use Rattle.sx_rv_asm.specs.Items.{is_label, form_size}
use Rattle.sx_rv_asm.specs.Forms.{is_near, form_of}
use Rattle.sx_rv_asm.specs.Layout.{place_from, size_of, nears_from, code_from, all_far}

drop_next : {A : Type 0} (xs : List A) (k : ℕ) (d x : A) → k < length xs → x ≡ get_or xs k d → drop k xs ≡ x ∷ drop (k + 1) xs
drop_next xs k d x h e = rw add-one (drop-cons xs k d h ∙ ap (λ y. y ∷ drop (suc k) xs) (sym e))

module _ (k : ℕ) (items : List Item) (nears : List Bool) (item : Item) (near : Bool) (same_length : length nears ≡ length items) (inside : k < length items) (item_is : item ≡ get_or items k item) (near_is : near ≡ get_or nears k false) where
  items_next : drop k items ≡ item ∷ drop (k + 1) items
  items_next = drop_next items k item item inside item_is

  nears_next : drop k nears ≡ near ∷ drop (k + 1) nears
  nears_next = drop_next nears k false near (omega (arith, same_length, inside)) near_is

  pub size_next : size_of (drop k items) (drop k nears) ≡ form_size near item + size_of (drop (k + 1) items) (drop (k + 1) nears)
  unfolding size_of
  size_next = rw (items_next, nears_next) refl

  pub place_next : (q at found : ℕ) → place_from q at found (drop k items) (drop k nears) ≡ place_from q (at + form_size near item) (if is_label q item then at else found) (drop (k + 1) items) (drop (k + 1) nears)
  unfolding place_from
  place_next q at found = rw (items_next, nears_next) refl

  pub code_next : (place : ℕ → ℕ) (at : ℕ) → code_from place at (drop k items) (drop k nears) ≡ form_of place at near item ++ code_from place (at + form_size near item) (drop (k + 1) items) (drop (k + 1) nears)
  unfolding code_from
  code_next place at = rw (items_next, nears_next) refl

module _ (k : ℕ) (items : List Item) (item : Item) (inside : k < length items) (item_is : item ≡ get_or items k item) where
  item_next : drop k items ≡ item ∷ drop (k + 1) items
  item_next = drop_next items k item item inside item_is

  pub far_next : size_of (drop k items) (all_far (drop k items)) ≡ form_size false item + size_of (drop (k + 1) items) (all_far (drop (k + 1) items))
  unfolding size_of
  far_next = rw item_next refl

  pub nears_next_from : (far : ℕ → ℕ) (at : ℕ) → nears_from far at (drop k items) ≡ is_near far at item ∷ nears_from far (at + form_size false item) (drop (k + 1) items)
  unfolding nears_from
  nears_next_from far at = rw item_next refl

-- behind the last item
pub place_end : (q at found k : ℕ) (items : List Item) (nears : List Bool) → length items ≤ k → place_from q at found (drop k items) nears ≡ found
unfolding place_from
place_end q at found k items nears h = rw (drop_all k items h) refl

pub code_end : (place : ℕ → ℕ) (at k : ℕ) (items : List Item) (nears : List Bool) → length items ≤ k → code_from place at (drop k items) nears ≡ []
unfolding code_from
code_end place at k items nears h = rw (drop_all k items h) refl

pub nears_end : (far : ℕ → ℕ) (at k : ℕ) (items : List Item) → length items ≤ k → nears_from far at (drop k items) ≡ []
unfolding nears_from
nears_end far at k items h = rw (drop_all k items h) refl

pub far_end : (k : ℕ) (items : List Item) → length items ≤ k → size_of (drop k items) (all_far (drop k items)) ≡ 0
unfolding size_of
far_end k items h = rw (drop_all k items h) refl
