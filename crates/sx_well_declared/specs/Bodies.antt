-- What bodies of functions and accessors are well typed (The Swift Programming Language, "Functions", "Control Transfer
-- Statements").
use Rattle.std.specs.Prelude.{List}
use Rattle.sx_tree.specs.declared.code.Block.{Block, out-Block}
use Rattle.sx_tree.specs.declared.code.Statement.{Statement}
use Rattle.sx_typed.specs.declared.code.Statement.{Statement as TypedStatement}
use Rattle.sx_scope.specs.declared.declarations.Declarations.{Declarations}
use Rattle.sx_scope.specs.declared.walk.Gives.{Gives}
use Rattle.sx_scope.specs.declared.walk.Gives.TheVariants as gives
use Rattle.sx_scope.specs.declared.walk.Place.{Place}
use Rattle.sx_scope.specs.declared.walk.Walk.{Walk}
use Rattle.sx_scope.specs.Walks.{advanced}
use Rattle.sx_well_typed.specs.Claims.{Claim}
use Rattle.sx_well_typed.specs.Endings.{Returns}
use Rattle.sx_well_typed.specs.Rules.{Typed}

-- such statements give the value that is to be given, where it is known, wherever they end
abbrev pub GivesBack : Gives → List Statement → Type 0
GivesBack (gives.Type r) ss = Returns r ss
GivesBack g ss = Unit {0}

-- the body of a function or accessor, at this place, is `ts`
pub data BodyTyped (d : Declarations) (b : Block) (p : Place) : Walk → List TypedStatement → Walk → Type 0 where
  -- The statements of a body are typed behind its node, and give the value that is to be given wherever they end.
  a_body : (ts : List TypedStatement) (w v : Walk) →
      Typed d (Claim.body (out-Block b).statements p (advanced 1 w) ts v) →
      GivesBack p.gives (out-Block b).statements →
      BodyTyped d b p w ts v
