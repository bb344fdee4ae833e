-- Addresses of labels.
use Rattle.std.specs.Prelude.{◌≡◌, ℕ, ◌==◌, unwrap_or, Bool, List, if◌then◌else◌}
use Rattle.std.specs.Ordering.{nat_cmp}
use Rattle.std.specs.BTreeMap.{get}
use Rattle.sx_rv_asm.specs.declared.items.Item.{Item}
use Rattle.sx_rv_asm.specs.declared.labels.Labels.{Labels}
use Rattle.sx_rv_asm.specs.Items.{is_label}
use Rattle.sx_rv_asm.specs.Layout.{place_from}

-- the address of a label, 0 where none was set
abbrev pub place_in : Labels → ℕ → ℕ
place_in labels l = unwrap_or (get nat_cmp labels.map l) 0

-- no label has an address
pub record IsNone (labels : Labels) : Type 0 where
  pub none : (l : ℕ) → place_in labels l ≡ 0

-- one label has another address
pub record Sets (old new : Labels) (label address : ℕ) : Type 0 where
  pub places : (l : ℕ) → place_in new l ≡ (if l == label then address else place_in old l)

-- an item is noted: its label, where it is one, has this address
pub record Notes (old new : Labels) (item : Item) (address : ℕ) : Type 0 where
  pub places : (l : ℕ) → place_in new l ≡ (if is_label l item then address else place_in old l)

-- the addresses are those of the items, each in the form that a list tells
pub record Holds (labels : Labels) (items : List Item) (nears : List Bool) : Type 0 where
  pub places : (l : ℕ) → place_in labels l ≡ place_from l 0 0 items nears
