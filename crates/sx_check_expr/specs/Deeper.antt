-- Who judges the parts that stand deeper in a tree.
use Rattle.std.specs.Prelude.{Result}
use denote.Ref.{Bor, MutBor}
use Rattle.sx_tree.specs.declared.code.Expr.{Expr}
use Rattle.sx_tree.specs.declared.code.Statement.{Statement}
use Rattle.sx_typed.specs.declared.code.Expr.{Expr as TypedExpr}
use Rattle.sx_typed.specs.declared.code.Statement.{Statement as TypedStatement}
use Rattle.sx_scope.specs.declared.stop.TypeStop.{TypeStop}
use Rattle.sx_scope.specs.declared.declarations.Declarations.{Declarations}
use Rattle.sx_scope.specs.declared.walk.Asked.{Asked}
use Rattle.sx_scope.specs.declared.walk.Found.{Found}
use Rattle.sx_scope.specs.declared.walk.Place.{Place}
use Rattle.sx_scope.specs.declared.walk.Use.{Use}
use Rattle.sx_scope.specs.declared.walk.Walk.{Walk}
use Rattle.sx_scope.specs.Verdict.{Answers}
use Rattle.sx_check_expr.specs.Judge.{judged_expr, judged_statement}

-- It may be called for every expression, and answers what is judged of it.
pub record JudgesExprs
    (d : Declarations)
    (pre : MutBor Walk → Place → Asked → Use → Bor Expr → Type 0)
    (post : MutBor Walk → Place → Asked → Use → Bor Expr → Result (Found TypedExpr) TypeStop → MutBor Walk → Type 0) : Type 0 where
  pub callable : (w : MutBor Walk) (p : Place) (q : Asked) (u : Use) (e : Bor Expr) → pre w p q u e
  pub judges : (w : MutBor Walk) (p : Place) (q : Asked) (u : Use) (e : Bor Expr) (r : Result (Found TypedExpr) TypeStop) (v : MutBor Walk) → post w p q u e r v → Answers r v.now ((judged_expr d e.now).value p q u w.now)

-- It may be called for every statement, and answers what is judged of it.
pub record JudgesStatements
    (d : Declarations)
    (pre : MutBor Walk → Place → Bor Statement → Type 0)
    (post : MutBor Walk → Place → Bor Statement → Result (Found TypedStatement) TypeStop → MutBor Walk → Type 0) : Type 0 where
  pub callable : (w : MutBor Walk) (p : Place) (s : Bor Statement) → pre w p s
  pub judges : (w : MutBor Walk) (p : Place) (s : Bor Statement) (r : Result (Found TypedStatement) TypeStop) (v : MutBor Walk) → post w p s r v → Answers r v.now ((judged_statement d s.now).value p w.now)
