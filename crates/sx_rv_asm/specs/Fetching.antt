-- What a fetch finds in the code of a program: the instructions and data of each item, at its address.
use Rattle.std.specs.Prelude.{◌≡◌, ℕ, ◌+◌, ◌%◌, ◌≤◌, Bool, List, [], ◌∷◌, length, take, drop, Some}
use Rattle.std.specs.Int.{w32, from_le_bytes}
use Rattle.sx_rv_isa.specs.declared.instructions.Instr.{Instr}
use Rattle.sx_rv_isa.specs.Words.{decoded}
use Rattle.sx_rv_asm.specs.declared.items.Item.{Item}
use Rattle.sx_rv_asm.specs.Items.{form_size}
use Rattle.sx_rv_asm.specs.Forms.{instructions, data_of}
use Rattle.sx_rv_asm.specs.Layout.{Fits}

-- the bytes of code from an address on
abbrev pub part : List ℕ → ℕ → ℕ → List ℕ
part code at count = take count (drop at code)

-- the words from an address on are those of the instructions
abbrev pub Fetches : List ℕ → ℕ → List Instr → Type 0
Fetches code at [] = Unit {0}
Fetches code at (i ∷ is) = (decoded (from_le_bytes w32 (part code at 4)) ≡ Some i) × Fetches code (at + 4) is

-- an item lies in the code at an address: in one of its forms, which it fits, with its data
pub record LiesAt (code : List ℕ) (place : ℕ → ℕ) (at : ℕ) (near : Bool) (item : Item) : Type 0 where
  pub fits : Fits place at near item
  pub fetches : Fetches code at (instructions place at near item)
  pub bytes : part code at (length (data_of item)) ≡ data_of item
  pub aligned : at % 4 ≡ 0
  pub inside : at + form_size near item ≤ length code

-- the items lie one behind another from an address to another
unfoldable pub Lies : List ℕ → (ℕ → ℕ) → ℕ → List Item → ℕ → Type 0
Lies code place at [] behind = at ≡ behind
Lies code place at (item ∷ items) behind = (near : Bool) × LiesAt code place at near item × Lies code place (at + form_size near item) items behind

-- two lists of items lie one behind the other
pub record LieInParts (code : List ℕ) (place : ℕ → ℕ) (at : ℕ) (first second : List Item) (behind : ℕ) : Type 0 where
  pub between : ℕ
  pub first_lies : Lies code place at first between
  pub second_lies : Lies code place between second behind
