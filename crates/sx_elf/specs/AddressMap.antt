-- Where a program that was built has its memory.
use Rattle.std.specs.Prelude.{ℕ, ◌+◌, ◌*◌}

-- the code, from its first instruction on
abbrev pub code_start : ℕ
code_start = 0x10000

-- the memory that is read and written
abbrev pub data_start : ℕ
data_start = 0x10000000

-- its first word is the head of the chain of records, and its second the bytes of the heap in use
abbrev pub head_bytes : ℕ
head_bytes = 16

-- then the globals
abbrev pub globals_start : ℕ
globals_start = data_start + head_bytes

abbrev pub globals_bytes : ℕ → ℕ
globals_bytes words = 8 * words

-- then the heap
abbrev pub heap_bytes : ℕ
heap_bytes = 16777216

-- then the bytes that the routines use
abbrev pub routine_bytes : ℕ
routine_bytes = 4096

-- then the stack, which grows down
abbrev pub stack_bytes : ℕ
stack_bytes = 16777216

-- all of the memory that is read and written
abbrev pub memory_size : ℕ → ℕ
memory_size words = head_bytes + heap_bytes + routine_bytes + stack_bytes + globals_bytes words
