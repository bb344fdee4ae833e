-- Typed trees that are the same.
use Rattle.std.specs.Prelude.{◌≡◌}
use Rattle.sx_typed.specs.declared.program.Typed.{Typed}
use Rattle.sx_check_decl.specs.Program.{contents}

-- with the same lists of bytes and numbers, wherever these lie
pub record SameTyped (t u : Typed) : Type 0 where
  pub types : t.types ≡ u.types
  pub structures : t.structures ≡ u.structures
  pub classes : t.classes ≡ u.classes
  pub globals : t.globals ≡ u.globals
  pub functions : t.functions ≡ u.functions
  pub top : t.top ≡ u.top
  pub initialisers : t.initialisers ≡ u.initialisers
  pub locals : t.locals ≡ u.locals
  pub texts : contents t.texts ≡ contents u.texts
  pub names : contents t.names ≡ contents u.names
  pub lines : t.lines.items ≡ u.lines.items
  pub places : t.places.items ≡ u.places.items
