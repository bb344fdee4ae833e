-- Each part of a tree is judged typed so exactly where the rules derive this.
use Rattle.std.specs.Prelude.{◌≡◌, List}
use Rattle.sx_tree.specs.declared.code.Block.{Block}
use Rattle.sx_tree.specs.declared.code.Expr.{Expr}
use Rattle.sx_tree.specs.declared.code.Statement.{Statement}
use Rattle.sx_typed.specs.declared.code.Expr.{Expr as TypedExpr}
use Rattle.sx_typed.specs.declared.code.Statement.{Statement as TypedStatement}
use Rattle.sx_scope.specs.declared.declarations.Declarations.{Declarations}
use Rattle.sx_scope.specs.declared.walk.Asked.{Asked}
use Rattle.sx_scope.specs.declared.walk.Place.{Place}
use Rattle.sx_scope.specs.declared.walk.Use.{Use}
use Rattle.sx_scope.specs.declared.walk.Walk.{Walk}
use Rattle.sx_scope.specs.Verdict.{typed}
use Rattle.sx_bodies.specs.Statements as bodies
use Rattle.sx_check_expr.specs.Judge.{judged_block, judged_expr, judged_statement, judged_statements}
use Rattle.sx_well_typed.specs.Claims.{Claim}
use Rattle.sx_well_typed.specs.Rules.{Typed}

-- an expression
pub record ExpressionsAreDerived : Type 0 where
  pub sound : (d : Declarations) (e : Expr) (p : Place) (q : Asked) (u : Use) (w v : Walk) (t : TypedExpr) → Typed d (Claim.expression e p q u w t v) → (judged_expr d e).value p q u w ≡ typed t v
  pub complete : (d : Declarations) (e : Expr) (p : Place) (q : Asked) (u : Use) (w v : Walk) (t : TypedExpr) → (judged_expr d e).value p q u w ≡ typed t v → Typed d (Claim.expression e p q u w t v)

-- a statement and a block
pub record StatementsAreDerived : Type 0 where
  pub sound : (d : Declarations) (s : Statement) (p : Place) (w v : Walk) (t : TypedStatement) → Typed d (Claim.statement s p w t v) → (judged_statement d s).value p w ≡ typed t v
  pub complete : (d : Declarations) (s : Statement) (p : Place) (w v : Walk) (t : TypedStatement) → (judged_statement d s).value p w ≡ typed t v → Typed d (Claim.statement s p w t v)
  pub block_sound : (d : Declarations) (b : Block) (p : Place) (w v : Walk) (ts : List TypedStatement) → Typed d (Claim.block b p w ts v) → bodies.block p (judged_block d b) w ≡ typed ts v
  pub block_complete : (d : Declarations) (b : Block) (p : Place) (w v : Walk) (ts : List TypedStatement) → bodies.block p (judged_block d b) w ≡ typed ts v → Typed d (Claim.block b p w ts v)

-- the statements of a body
pub record BodiesAreDerived : Type 0 where
  pub sound : (d : Declarations) (ss : List Statement) (p : Place) (w v : Walk) (ts : List TypedStatement) → Typed d (Claim.body ss p w ts v) → bodies.body p (judged_statements d ss) w ≡ typed ts v
  pub complete : (d : Declarations) (ss : List Statement) (p : Place) (w v : Walk) (ts : List TypedStatement) → bodies.body p (judged_statements d ss) w ≡ typed ts v → Typed d (Claim.body ss p w ts v)
