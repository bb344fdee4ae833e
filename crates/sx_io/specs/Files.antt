-- The map of files that a list of them stands for, and the calls that a list of them records.
use Rattle.std.specs.Prelude.{◌≢◌, ℕ, ◌+◌, Bool, List, [], ◌∷◌, map, Option, Some, None, String, Vec, string_bytes, bytes_eq, if◌then◌else◌, AllPairs}
use Rattle.std.specs.declared.alloc.Global.{Global}
use Rattle.std.specs.FinMap.{from_entries}
use Rattle.sx_io.specs.Outside.{Files, Call, reading, writing}
use Rattle.sx_io.specs.declared.mem_store.Asked.{Asked}

-- a file: its name and its bytes
abbrev pub Entry : Type 0
Entry = String Global × Vec ℕ Global

-- the names and bytes of a list of files
abbrev pub rows : List Entry → List (List ℕ × List ℕ)
rows [] = []
rows (file ∷ files) = (string_bytes file.0, file.1.items) ∷ rows files

-- the map that a list of files stands for
abbrev pub files_of : List Entry → Files
files_of files = from_entries (rows files)

-- a call of this kind, for this name
abbrev pub call_in : Bool → List ℕ → Call
call_in write name = if write then writing name else reading name

-- the call that was recorded
abbrev pub call_of : Asked → Call
call_of asked = call_in asked.write (string_bytes asked.name)

-- the calls that were recorded, in order
abbrev pub calls_of : List Asked → List Call
calls_of asked = map call_of asked

-- the index, counted from a number, of the first file of this name
abbrev pub place_from : ℕ → List Entry → List ℕ → Option ℕ
place_from i [] name = None
place_from i (file ∷ files) name = if bytes_eq name (string_bytes file.0) then Some i else place_from (i + 1) files name

-- the names differ
abbrev pub AreApart : List Entry → Type 0
AreApart files = AllPairs (λ one other. string_bytes one.0 ≢ string_bytes other.0) files
