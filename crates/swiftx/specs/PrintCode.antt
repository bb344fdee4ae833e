-- The code of a text of prints.
use Rattle.std.specs.Prelude.{ℕ, ◌+◌, ◌-◌, ◌/◌, ◌%◌, ◌≤◌, List, [], ◌∷◌, ◌++◌, length, replicate}
use Rattle.std.specs.Int.{to_le_bytes, w32}
use Rattle.std.specs.List.{AllByRecursion}
use Rattle.sx_rv_isa.specs.declared.instructions.Instr.{Instr}
use Rattle.sx_rv_isa.specs.declared.instructions.Instr.TheVariants.{Upper, Jump, Immediate, System}
use Rattle.sx_rv_isa.specs.declared.instructions.UpperOp.TheVariants.{Lui, Auipc}
use Rattle.sx_rv_isa.specs.declared.instructions.ImmediateOp.TheVariants.{Addi}
use Rattle.sx_rv_isa.specs.declared.instructions.SystemOp.TheVariants.{Ecall, Ebreak}
use Rattle.sx_rv_isa.specs.Words.{word_of, reg, imm12, imm20}
use Rattle.swiftx.specs.Prints.{line_feed}

-- registers by their names in the calling convention: arguments of a call, and its number
abbrev pub x0 : ℕ
x0 = 0

abbrev pub a0 : ℕ
a0 = 10

abbrev pub a1 : ℕ
a1 = 11

abbrev pub a2 : ℕ
a2 = 12

abbrev pub a7 : ℕ
a7 = 17

abbrev pub add_immediate : ℕ → ℕ → ℕ → Instr
add_immediate rd rs1 imm = Immediate Addi (reg rd) (reg rs1) (imm12 imm)

-- a number below 2 ^ 31 is the sum of what LUI and ADDI give
abbrev pub upper_part : ℕ → ℕ
upper_part n = (n + 2048) / 4096

abbrev pub lower_part : ℕ → ℕ
lower_part n = n % 4096

-- the words of some instructions, the lowest byte first
abbrev pub word_bytes : List Instr → List ℕ
word_bytes [] = []
word_bytes (i ∷ is) = to_le_bytes w32 (word_of i) ++ word_bytes is

-- how many zeros lead from n to the next multiple of 4
abbrev pub padding : ℕ → ℕ
padding n = (4 - n % 4) % 4

-- how many bytes a literal takes behind its instructions: its own, a line feed, and zeros up to a word
abbrev pub line_size : List ℕ → ℕ
line_size literal = length literal + 1

abbrev pub stored_size : List ℕ → ℕ
stored_size literal = line_size literal + padding (line_size literal)

abbrev pub stored : List ℕ → List ℕ
stored literal = (literal ++ line_feed ∷ []) ++ replicate (padding (line_size literal)) 0

-- writes the line that lies behind these eight instructions, and goes on behind it
abbrev pub print_instructions : List ℕ → List Instr
print_instructions literal =
    add_immediate a0 x0 1
    ∷ Upper Auipc (reg a1) (imm20 0) ∷ add_immediate a1 a1 28
    ∷ Upper Lui (reg a2) (imm20 (upper_part (line_size literal))) ∷ add_immediate a2 a2 (lower_part (line_size literal))
    ∷ add_immediate a7 x0 64 ∷ System Ecall
    ∷ Jump (reg x0) (imm20 ((4 + stored_size literal) / 2))
    ∷ []

abbrev pub print_code : List ℕ → List ℕ
print_code literal = word_bytes (print_instructions literal) ++ stored literal

-- exits with status 0
abbrev pub exit_instructions : List Instr
exit_instructions = add_immediate a0 x0 0 ∷ add_immediate a7 x0 93 ∷ System Ecall ∷ System Ebreak ∷ []

unfoldable pub exit_code : List ℕ
exit_code = word_bytes exit_instructions

-- the code that prints these literals, one after another
abbrev pub code_of : List (List ℕ) → List ℕ
code_of [] = exit_code
code_of (literal ∷ literals) = print_code literal ++ code_of literals

-- literals of texts of the size that is taken
abbrev pub AreShort : List (List ℕ) → Type 0
AreShort literals = AllByRecursion (λ (l : List ℕ). length l ≤ 262144) literals
