-- Bodies are judged typed, and give what is to be given, exactly where the rules say it.
use Rattle.std.proofs.Common.{◌≡◌, ◌∙◌, false, List, refl, sym, ap}
use Rattle.sx_tree.specs.declared.code.Block.{Block, out-Block}
use Rattle.sx_tree.specs.declared.code.Statement.{Statement}
use Rattle.sx_typed.specs.declared.code.Statement.{Statement as TypedStatement}
use Rattle.sx_scope.specs.declared.declarations.Declarations.{Declarations}
use Rattle.sx_scope.specs.declared.walk.Gives.{Gives}
use Rattle.sx_scope.specs.declared.walk.Gives.TheVariants as gives
use Rattle.sx_scope.specs.declared.walk.Place.{Place}
use Rattle.sx_scope.specs.declared.walk.Walk.{Walk}
use Rattle.sx_scope.specs.Verdict.{typed}
use Rattle.sx_scope.specs.Walks.{advanced}
use Rattle.sx_bodies.specs.Statements as bodies
use Rattle.sx_bodies.specs.Statements.{lacks_return}
use Rattle.sx_check_expr.specs.Judge.{judged_block, judged_statements}
use Rattle.sx_check_expr.proofs.StatementEquations.{block_is}
use Rattle.sx_functions.specs.Places.{body_value}
use Rattle.sx_well_typed.specs.Claims.{Claim}
use Rattle.sx_well_typed.proofs.EndingTree.{returns-told, returns-derived}
use Rattle.sx_well_typed.proofs.Sound.{sound}
use Rattle.sx_well_typed.proofs.Whole.{body-derives}
use Rattle.sx_well_declared.specs.Bodies.{BodyTyped, GivesBack}

module _ (d : Declarations) where
  gives-told : (g : Gives) (ss : List Statement) → GivesBack g ss → lacks_return g (judged_statements d ss) ≡ false
  gives-told gives.Nothing ss h = refl
  gives-told gives.Unknown ss h = refl
  gives-told (gives.Type r) ss h = returns-told d r ss h

  gives-derived : (g : Gives) (ss : List Statement) → lacks_return g (judged_statements d ss) ≡ false → GivesBack g ss
  gives-derived gives.Nothing ss h = tt
  gives-derived gives.Unknown ss h = tt
  gives-derived (gives.Type r) ss h = returns-derived d r ss h

  pub body-told : (b : Block) (p : Place) (w v : Walk) (ts : List TypedStatement) → BodyTyped d b p w ts v → (body_value d p b w ≡ typed ts v) × (lacks_return p.gives (judged_block d b) ≡ false)
  body-told b p _ _ _ (BodyTyped.a_body ts w v h g) = (
    ap (λ js. bodies.body p js (advanced 1 w)) (block_is d b) ∙ sound d (Claim.body (out-Block b).statements p (advanced 1 w) ts v) h,
    ap (lacks_return p.gives) (block_is d b) ∙ gives-told p.gives (out-Block b).statements g,
  )

  pub body-derived : (b : Block) (p : Place) (w v : Walk) (ts : List TypedStatement) → body_value d p b w ≡ typed ts v → lacks_return p.gives (judged_block d b) ≡ false → BodyTyped d b p w ts v
  body-derived b p w v ts h g =
      BodyTyped.a_body ts w v
      (body-derives d (out-Block b).statements p (advanced 1 w) ts v (ap (λ js. bodies.body p js (advanced 1 w)) (sym (block_is d b)) ∙ h))
      (gives-derived p.gives (out-Block b).statements (ap (lacks_return p.gives) (sym (block_is d b)) ∙ g))
