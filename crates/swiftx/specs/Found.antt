-- What a search for the literals of a text finds.
use Rattle.std.specs.Prelude.{ℕ, List, map, Option, Some, None, Vec}
use Rattle.std.specs.declared.alloc.Global.{Global}
use Rattle.swiftx.specs.Prints.{PrintsText, PrintsNothing}
use denote.Ref.{Bor}

abbrev pub bytes_of_all : List (Bor (List ℕ)) → List (List ℕ)
bytes_of_all literals = map (λ l. l.now) literals

abbrev pub HasFound : List ℕ → Option (Vec (Bor (List ℕ)) Global) → Type 0
HasFound text None = PrintsNothing text
HasFound text (Some literals) = PrintsText text (bytes_of_all literals.items)
