-- What the forms of a branch, a jump and an address do, wherever the code lies.
use Rattle.std.specs.Prelude.{ℕ, ◌+◌, Bool, IsSomeAnd, if◌then◌else◌}
use Rattle.sx_rv_isa.specs.declared.fields.Reg.{Reg}
use Rattle.sx_rv_isa.specs.declared.instructions.BranchOp.{BranchOp}
use Rattle.sx_rv_isa.specs.Effects.{is_taken}
use Rattle.sx_rv_asm.specs.Forms.{base_of, branch_form, jump_form, address_form}
use Rattle.sx_rv_asm.specs.Walking.{Hart, hart, register, through, Arrives}

-- a branch goes to its target where its condition holds, and else behind itself; it changes no register but x31
abbrev pub BranchArrives : Bool → BranchOp → Reg → Reg → ℕ → ℕ → ℕ → (ℕ → ℕ) → Type 0
BranchArrives near cond rs1 rs2 base at target registers =
    let before : Hart = hart (base + at) registers in
    let behind : ℕ = base + at + (if near then 4 else 12) in
    IsSomeAnd (through (base + at) (branch_form near cond rs1 rs2 at target) before) (Arrives before (if is_taken cond (register before rs1.number) (register before rs2.number) then base + target else behind) 0 0 31)

-- a jump goes to its target, with the address behind it in rd; it changes no register but rd, and x31 where rd is x0
abbrev pub JumpArrives : Bool → Reg → ℕ → ℕ → ℕ → (ℕ → ℕ) → Type 0
JumpArrives near rd base at target registers =
    let before : Hart = hart (base + at) registers in
    let behind : ℕ = base + at + (if near then 4 else 8) in
    IsSomeAnd (through (base + at) (jump_form near rd at target) before) (Arrives before (base + target) rd.number behind (base_of rd).number)

-- an address is that of its target, in rd; no other register changes
abbrev pub AddressArrives : Reg → ℕ → ℕ → ℕ → (ℕ → ℕ) → Type 0
AddressArrives rd base at target registers =
    let before : Hart = hart (base + at) registers in
    IsSomeAnd (through (base + at) (address_form rd at target) before) (Arrives before (base + at + 8) rd.number (base + target) rd.number)
