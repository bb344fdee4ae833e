-- What a sink in memory holds, and exactly what each put does to it.
use Rattle.std.specs.Prelude.{◌≡◌, ◌⊎◌, ℕ, ◌+◌, ◌-◌, ◌<◌, ◌≤◌, List, [], ◌∷◌, ◌++◌, take, length, Contains, Result, Ok, Err}
use Rattle.sx_io.specs.Outside.{raised}
use Rattle.sx_io.specs.declared.mem_sink.MemSink.{MemSink}
use Rattle.sx_io.specs.declared.sink.SinkStop.{SinkStop}

-- the bytes that were written
abbrev pub sink_bytes : MemSink → List ℕ
sink_bytes s = s.bytes.items

-- how many bytes it can hold
abbrev pub sink_room : MemSink → ℕ
sink_room s = s.room

-- the numbers of the puts that fail
abbrev pub sink_failing : MemSink → List ℕ
sink_failing s = s.failing.items

-- the puts of at least one byte so far
abbrev pub sink_puts : MemSink → ℕ
sink_puts s = s.puts

-- the count of faults
abbrev pub sink_faults : MemSink → ℕ
sink_faults s = s.faults

-- the next put of at least one byte is to fail
abbrev pub NextPutFails : MemSink → Type 0
NextPutFails s = Contains (sink_failing s) (raised (sink_puts s))

-- these bytes go past the room
abbrev pub GoesPastRoom : MemSink → List ℕ → Type 0
GoesPastRoom s bytes = sink_room s < length (sink_bytes s) + length bytes

-- the bytes with the front of these that still fits
abbrev pub filled : MemSink → List ℕ → List ℕ
filled s bytes = sink_bytes s ++ take (sink_room s - length (sink_bytes s)) bytes

-- the count of puts: one without bytes is not counted
abbrev pub puts_after : MemSink → List ℕ → ℕ
puts_after s [] = sink_puts s
puts_after s (byte ∷ bytes) = raised (sink_puts s)

-- a put of some bytes fails exactly where its number is listed, and then nothing is kept,
-- or where it goes past the room, and then what fits is kept
abbrev pub IsPutInto : {T : Type 0} → MemSink → MemSink → List ℕ → Result T SinkStop → Type 0
IsPutInto before now bytes (Ok value) = (bytes ≡ []) ⊎ ((NextPutFails before → ⊥) × (length (sink_bytes before) + length bytes ≤ sink_room before))
IsPutInto before now bytes (Err stop) = (NextPutFails before × (sink_bytes now ≡ sink_bytes before))
    ⊎ ((NextPutFails before → ⊥) × GoesPastRoom before bytes × (sink_bytes now ≡ filled before bytes))

-- what no put changes
pub record HasSameSettings (before now : MemSink) : Type 0 where
  pub room : sink_room now ≡ sink_room before
  pub failing : sink_failing now ≡ sink_failing before
