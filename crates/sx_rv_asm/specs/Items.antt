-- The items of a program: their labels, their targets and their sizes.
use Rattle.std.specs.Prelude.{◌≡◌, ℕ, ◌%◌, ◌==◌, Bool, false, List, [], ◌∷◌, length, if◌then◌else◌}
use Rattle.std.specs.List.{list_any}
use Rattle.sx_rv_asm.specs.declared.items.Item.{Item}
use Rattle.sx_rv_asm.specs.declared.items.Item.TheVariants.{Plain, Label, Branch, Jump, Address, Bytes}

-- an item is the label l
abbrev pub is_label : ℕ → Item → Bool
is_label l (Plain instr) = false
is_label l (Label m) = l == m
is_label l (Branch cond rs1 rs2 to) = false
is_label l (Jump rd to) = false
is_label l (Address rd to) = false
is_label l (Bytes bytes) = false

-- the bytes that an item takes: in its near form, where it has one and near is true, and else in its far form
abbrev pub form_size : Bool → Item → ℕ
form_size near (Plain instr) = 4
form_size near (Label m) = 0
form_size near (Branch cond rs1 rs2 to) = if near then 4 else 12
form_size near (Jump rd to) = if near then 4 else 8
form_size near (Address rd to) = 8
form_size near (Bytes bytes) = length bytes

-- the bytes of data are whole words
abbrev pub IsWhole : Item → Type 0
IsWhole (Plain instr) = Unit {0}
IsWhole (Label m) = Unit {0}
IsWhole (Branch cond rs1 rs2 to) = Unit {0}
IsWhole (Jump rd to) = Unit {0}
IsWhole (Address rd to) = Unit {0}
IsWhole (Bytes bytes) = length bytes % 4 ≡ 0

-- the label l stands among the items
abbrev pub has_label : ℕ → List Item → Bool
has_label l items = list_any (is_label l) items

-- an item's label does not stand behind it
abbrev pub IsOnce : Item → List Item → Type 0
IsOnce (Plain instr) rest = Unit {0}
IsOnce (Label m) rest = has_label m rest ≡ false
IsOnce (Branch cond rs1 rs2 to) rest = Unit {0}
IsOnce (Jump rd to) rest = Unit {0}
IsOnce (Address rd to) rest = Unit {0}
IsOnce (Bytes bytes) rest = Unit {0}

-- no label stands twice
unfoldable pub LabelsDiffer : List Item → Type 0
LabelsDiffer [] = Unit {0}
LabelsDiffer (item ∷ rest) = IsOnce item rest × LabelsDiffer rest

-- all data are whole words
unfoldable pub AllWhole : List Item → Type 0
AllWhole [] = Unit {0}
AllWhole (item ∷ rest) = IsWhole item × AllWhole rest
