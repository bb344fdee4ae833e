use Rattle.std.proofs.Common.{rules}
use Rattle.sx_rv_isa.specs.Words.{decoded, decoded_at, flow_at, memory_at, arithmetic_at}
use Rattle.sx_rv_isa.specs.Table.{upper_at, branch_at, load_at, store_at, immediate_at, shift_at, shift_word_at, register_at}
use Rattle.sx_rv_isa.proofs.decoding.decode_by_table.Goals as goal
use Rattle.sx_rv_isa.proofs.decoding.decode_by_table.Goals.{in_default-via-in-99+in_default, in_default-via-in-3+in_default, in_default-via-in-35+in_default, in_default-via-in-19+in-1+in_default, in_default-via-in-19+in-5+in_default, in_default-via-in-19+in_default, in_default-via-in-27+in-1+in_default, in_default-via-in-27+in-5+in_default, in_default-via-in-27+in_default, in_default-via-in-51+in-0+in_default, in_default-via-in-51+in-1+in_default, in_default-via-in-51+in-2+in_default, in_default-via-in-51+in-3+in_default, in_default-via-in-51+in-4+in_default, in_default-via-in-51+in-5+in_default, in_default-via-in-51+in-6+in_default, in_default-via-in-51+in-7+in_default, in_default-via-in-51+in_default, in_default-via-in-59+in-0+in_default, in_default-via-in-59+in-1+in_default, in_default-via-in-59+in-5+in_default, in_default-via-in-59+in-4+in_default, in_default-via-in-59+in-6+in_default, in_default-via-in-59+in-7+in_default, in_default-via-in-59+in_default, in_default-via-in-103+in_default, in_default-via-in-15+in_default, in_default-via-in_default}

pub returns-in_default : goal.returns-in_default
unfolding decoded decoded_at flow_at memory_at arithmetic_at upper_at branch_at load_at store_at immediate_at shift_at shift_word_at register_at
returns-in_default c =
    elim c.in_default.branch [ in_default-via-in-99+in_default w ↦ search rules | in_default-via-in-3+in_default w ↦ search rules | in_default-via-in-35+in_default w ↦ search rules | in_default-via-in-19+in-1+in_default w ↦ search rules | in_default-via-in-19+in-5+in_default w ↦ search rules | in_default-via-in-19+in_default w ↦ search rules | in_default-via-in-27+in-1+in_default w ↦ search rules | in_default-via-in-27+in-5+in_default w ↦ search rules | in_default-via-in-27+in_default w ↦ search rules | in_default-via-in-51+in-0+in_default w ↦ search rules | in_default-via-in-51+in-1+in_default w ↦ search rules | in_default-via-in-51+in-2+in_default w ↦ search rules | in_default-via-in-51+in-3+in_default w ↦ search rules | in_default-via-in-51+in-4+in_default w ↦ search rules | in_default-via-in-51+in-5+in_default w ↦ search rules | in_default-via-in-51+in-6+in_default w ↦ search rules | in_default-via-in-51+in-7+in_default w ↦ search rules | in_default-via-in-51+in_default w ↦ search rules | in_default-via-in-59+in-0+in_default w ↦ search rules | in_default-via-in-59+in-1+in_default w ↦ search rules | in_default-via-in-59+in-5+in_default w ↦ search rules | in_default-via-in-59+in-4+in_default w ↦ search rules | in_default-via-in-59+in-6+in_default w ↦ search rules | in_default-via-in-59+in-7+in_default w ↦ search rules | in_default-via-in-59+in_default w ↦ search rules | in_default-via-in-103+in_default w ↦ search rules | in_default-via-in-15+in_default w ↦ search rules | in_default-via-in_default w ↦ search rules ]
