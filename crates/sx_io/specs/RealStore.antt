-- What clauses read of a store over the machine's files.
use Rattle.std.specs.Prelude.{ℕ}
use Rattle.sx_io.specs.declared.real_store.RealStore.{RealStore}

-- the count of faults
abbrev pub store_faults : {R F D : Type 0} → RealStore R F D → ℕ
store_faults s = s.faults
