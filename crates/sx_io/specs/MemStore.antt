-- What a store in memory holds, and exactly when each call of it fails.
use Rattle.std.specs.Prelude.{◌⊎◌, ℕ, ◌+◌, List, length, Contains, Result, Ok, Err}
use Rattle.sx_io.specs.Outside.{Files, Call}
use Rattle.sx_io.specs.Files.{files_of, calls_of}
use Rattle.sx_io.specs.declared.mem_store.MemStore.{MemStore}
use Rattle.sx_io.specs.declared.store.StoreStop.{StoreStop}
use Rattle.sx_io.specs.declared.store.StoreStop.TheVariants.{Failed, NoMemory}

-- the files
abbrev pub store_files : MemStore → Files
store_files s = files_of s.files.items

-- the calls so far
abbrev pub store_asked : MemStore → List Call
store_asked s = calls_of s.asked.items

-- the count of faults
abbrev pub store_faults : MemStore → ℕ
store_faults s = s.faults

-- the numbers of the calls that fail
abbrev pub store_failing : MemStore → List ℕ
store_failing s = s.failing.items

-- the next call, whose number is its place among the calls, from 1, is to fail
abbrev pub NextCallFails : MemStore → Type 0
NextCallFails s = Contains (store_failing s) (length (store_asked s) + 1)

-- a call fails exactly where its number is listed, or where it is at fault by itself
abbrev pub IsServed : {T : Type 0} → MemStore → Type 0 → Result T StoreStop → Type 0
IsServed before AtFault (Ok value) = (NextCallFails before → ⊥) × (AtFault → ⊥)
IsServed before AtFault (Err Failed) = NextCallFails before ⊎ AtFault
IsServed before AtFault (Err NoMemory) = Unit {0}
