-- What the calls of a store and of a sink do, and when they may fail.
use Rattle.std.specs.Prelude.{◌≡◌, ℕ, ◌+◌, ◌-◌, ◌^◌, ◌≤◌, min, List, [], ◌∷◌, ◌++◌, take, Option, Some, None, Result, Ok, Err, IfSome, option_map, Vec}
use Rattle.std.specs.Ordering.{nat_cmp}
use Rattle.std.specs.Cmp.Lexicographic.{slice_cmp}
use Rattle.std.specs.FinMap.{FinMap, get, insert}
use Rattle.std.specs.declared.alloc.Global.{Global}
use Rattle.sx_io.specs.declared.store.StoreStop.{StoreStop}
use Rattle.sx_io.specs.declared.store.StoreStop.TheVariants.{Failed, NoMemory}
use Rattle.sx_io.specs.declared.sink.SinkStop.{SinkStop}

-- names of files, and the bytes of each
abbrev pub Files : Type 0
Files = FinMap {K = List ℕ} (slice_cmp nat_cmp) (List ℕ)

-- a call of a store: a read or a write of the file of this name
pub data Call : Type 0 where
  reading : (name : List ℕ) → Call
  writing : (name : List ℕ) → Call

-- a count with one more fault; it stays at its last value
abbrev pub raised : ℕ → ℕ
raised count = min (count + 1) (2 ^ 64 - 1)

-- a count rose: it is larger, or stands at its last value
abbrev pub Rose : ℕ → ℕ → Type 0
Rose before now = (before ≤ now) × (raised before ≤ now)

-- a store fails only where its count rose, and no other answer changes the count
abbrev pub HasStoreCause : {T : Type 0} → ℕ → ℕ → Result T StoreStop → Type 0
HasStoreCause before now (Ok value) = now ≡ before
HasStoreCause before now (Err Failed) = Rose before now
HasStoreCause before now (Err NoMemory) = now ≡ before

-- a sink fails only where its count rose, and no other answer changes the count
abbrev pub HasSinkCause : {T : Type 0} → ℕ → ℕ → Result T SinkStop → Type 0
HasSinkCause before now (Ok value) = now ≡ before
HasSinkCause before now (Err stop) = Rose before now

-- where the calls are told: this one stands at their end, unless memory ran out
abbrev pub HasAdded : {T : Type 0} → Option (List Call) → Option (List Call) → Call → Result T StoreStop → Type 0
HasAdded before now call (Ok value) = now ≡ option_map (λ calls. calls ++ call ∷ []) before
HasAdded before now call (Err Failed) = now ≡ option_map (λ calls. calls ++ call ∷ []) before
HasAdded before now call (Err NoMemory) = now ≡ before

-- where the files are told: there is one of this name, and its first `most` bytes were read
abbrev pub IsReadOf : Option Files → List ℕ → ℕ → Result (Vec ℕ Global) StoreStop → Type 0
IsReadOf files name most (Ok bytes) = IfSome files (λ told. option_map (take most) (get told name) ≡ Some bytes.items)
IsReadOf files name most (Err stop) = Unit {0}

-- the files after a write that stopped: as they were, or with some bytes in the file of this name
abbrev pub replaced : Files → List ℕ → Option (List ℕ) → Files
replaced files name None = files
replaced files name (Some bytes) = insert files name bytes

-- no file but the one of this name has changed
abbrev pub SameButOne : Option Files → Option Files → List ℕ → Type 0
SameButOne before now name = (left : Option (List ℕ)) × (now ≡ option_map (λ files. replaced files name left) before)

-- where the files are told: this one has these bytes, or after a failure any; the others stand
abbrev pub IsWritten : {T : Type 0} → Option Files → Option Files → List ℕ → List ℕ → Result T StoreStop → Type 0
IsWritten before now name bytes (Ok value) = now ≡ option_map (λ told. insert told name bytes) before
IsWritten before now name bytes (Err Failed) = SameButOne before now name
IsWritten before now name bytes (Err NoMemory) = now ≡ before

-- where the bytes are told: these were put at the end, or after a failure a front of them
abbrev pub HasPut : {T : Type 0} → Option (List ℕ) → Option (List ℕ) → List ℕ → Result T SinkStop → Type 0
HasPut before now bytes (Ok value) = now ≡ option_map (λ told. told ++ bytes) before
HasPut before now bytes (Err stop) = (count : ℕ) × (now ≡ option_map (λ told. told ++ take count bytes) before)
