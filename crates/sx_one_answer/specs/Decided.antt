-- Each program is typed, or a node in it fails.
use Rattle.std.specs.Prelude.{List}
use Rattle.sx_tree.specs.declared.declarations.Item.{Item}
use Rattle.sx_functions.specs.declared.accessing.OwnNames.{OwnNames}
use Rattle.sx_check_decl.specs.declared.items.Settled.{Settled}
use Rattle.sx_check_decl.specs.Looks.{IsDecided, judged}

-- whatever its declarations settle to
abbrev pub ProgramsAreDecided : Type 0
ProgramsAreDecided = (x : Settled) (names : OwnNames) (is : List Item) → IsDecided (judged x names is)
