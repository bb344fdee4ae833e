-- What is read of a stream that knows its bytes, and written to one.
use Rattle.std.specs.Prelude.{◌≡◌, ℕ, List, take, Option, Result, Ok, Err, IfSome, Vec}
use Rattle.std.specs.declared.alloc.Global.{Global}
use Rattle.std.specs.Io.KnownBytes.{Appends}
use Rattle.sx_io.specs.declared.store.StoreStop.{StoreStop}
use Rattle.sx_io.specs.declared.sink.SinkStop.{SinkStop}

-- where the reader knows its bytes: the first `most` of them, or all where they are fewer
abbrev pub IsFrontOf : Option (List ℕ) → ℕ → Result (Vec ℕ Global) StoreStop → Type 0
IsFrontOf known most (Ok bytes) = IfSome known (λ whole. bytes.items ≡ take most whole)
IsFrontOf known most (Err stop) = Unit {0}

-- where the writer knows its bytes: all of these were added at the end, or after a failure a front of them
abbrev pub WritesThrough : {T : Type 0} → Option (List ℕ) → Option (List ℕ) → List ℕ → Result T SinkStop → Type 0
WritesThrough before now bytes (Ok value) = Appends before now bytes
WritesThrough before now bytes (Err stop) = (count : ℕ) × Appends before now (take count bytes)
