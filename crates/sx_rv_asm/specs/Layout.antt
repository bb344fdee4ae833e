-- Where items and labels stand, and the code of a program.
use Rattle.std.specs.Prelude.{◌≡◌, ℕ, ◌+◌, ◌%◌, ◌^◌, ◌<◌, ◌≤◌, Bool, false, List, [], ◌∷◌, ◌++◌, length, replicate, if◌then◌else◌}
use Rattle.std.specs.Bool.{OnTrue}
use Rattle.sx_rv_asm.specs.declared.items.Item.{Item}
use Rattle.sx_rv_asm.specs.declared.items.Item.TheVariants.{Plain, Label, Branch, Jump, Address, Bytes}
use Rattle.sx_rv_asm.specs.Items.{is_label, form_size, LabelsDiffer, AllWhole}
use Rattle.sx_rv_asm.specs.Forms.{is_near, form_of}

-- the address of the label l, where each item has the form that a list tells, one item behind another from `at` on; `found` where the label stands nowhere
unfoldable pub place_from : ℕ → ℕ → ℕ → List Item → List Bool → ℕ
place_from l at found [] nears = found
place_from l at found (item ∷ items) [] = found
place_from l at found (item ∷ items) (near ∷ nears) = place_from l (at + form_size near item) (if is_label l item then at else found) items nears

-- the bytes of all items
unfoldable pub size_of : List Item → List Bool → ℕ
size_of [] nears = 0
size_of (item ∷ items) [] = 0
size_of (item ∷ items) (near ∷ nears) = form_size near item + size_of items nears

-- every item in its far form
abbrev pub all_far : List Item → List Bool
all_far items = replicate (length items) false

-- where labels stand if every item has its far form
unfoldable pub far_place : List Item → ℕ → ℕ
far_place items l = place_from l 0 0 items (all_far items)

-- an item takes its near form exactly where that reaches its target with every item in its far form, so that no choice depends on another one
unfoldable pub nears_from : (ℕ → ℕ) → ℕ → List Item → List Bool
nears_from far at [] = []
nears_from far at (item ∷ items) = is_near far at item ∷ nears_from far (at + form_size false item) items

unfoldable pub nears_of : List Item → List Bool
nears_of items = nears_from (far_place items) 0 items

-- where labels stand in the code
unfoldable pub place_of : List Item → ℕ → ℕ
place_of items l = place_from l 0 0 items (nears_of items)

-- the bytes of items, one behind another from `at` on
unfoldable pub code_from : (ℕ → ℕ) → ℕ → List Item → List Bool → List ℕ
code_from place at [] nears = []
code_from place at (item ∷ items) [] = []
code_from place at (item ∷ items) (near ∷ nears) = form_of place at near item ++ code_from place (at + form_size near item) items nears

-- the code of a program, whose first byte has the address 0
unfoldable pub code_of : List Item → List ℕ
code_of items = code_from (place_of items) 0 items (nears_of items)

-- the items are a program: its labels differ, its data are whole words and its code is short enough for far forms
pub record IsProgram (items : List Item) : Type 0 where
  pub labels : LabelsDiffer items
  pub whole : AllWhole items
  pub short : length (code_of items) < 2 ^ 30

-- ---- what the code is, item by item

-- an item may have a form at an address: a label stands there, and a near form reaches its target
abbrev pub Fits : (ℕ → ℕ) → ℕ → Bool → Item → Type 0
Fits place at near (Plain instruction) = Unit {0}
Fits place at near (Label m) = place m ≡ at
Fits place at near (Branch cond rs1 rs2 to) = OnTrue near ((place to ≤ at + 4094) × (at ≤ place to + 4096))
Fits place at near (Jump rd to) = OnTrue near ((place to ≤ at + 1048574) × (at ≤ place to + 1048576))
Fits place at near (Address rd to) = Unit {0}
Fits place at near (Bytes bytes) = Unit {0}

-- the items stand one behind another from `at` on, each in one of its forms, and are these bytes
unfoldable pub Stands : (ℕ → ℕ) → ℕ → List Item → List ℕ → Type 0
Stands place at [] bytes = bytes ≡ []
Stands place at (item ∷ items) bytes = (near : Bool) × (rest : List ℕ) × (bytes ≡ form_of place at near item ++ rest) × Fits place at near item × Stands place (at + form_size near item) items rest

-- every label has an address within the code that is a multiple of 4
pub record HasPlaces (place : ℕ → ℕ) (size : ℕ) : Type 0 where
  pub within : (l : ℕ) → place l ≤ size
  pub aligned : (l : ℕ) → place l % 4 ≡ 0
