-- Statements one after another.
use Rattle.std.proofs.Common.{◌≡◌, List, [], ◌∷◌, ◌++◌, refl, sym, ap, ◌∙◌}
use Rattle.sx_scope.specs.declared.declarations.Declarations.{Declarations}
use Rattle.sx_scope.specs.declared.stop.TypeStop.{TypeStop}
use Rattle.sx_scope.specs.declared.walk.Found.{Found}
use Rattle.sx_scope.specs.declared.walk.Place.{Place}
use Rattle.sx_scope.specs.declared.walk.Walk.{Walk}
use Rattle.sx_scope.specs.Verdict.{Verdict, fails, failing, behind, ◌▷◌, both, found}
use Rattle.sx_tree.specs.declared.code.Statement.{Statement}
use Rattle.sx_typed.specs.declared.code.Statement.{Statement as TypedStatement}
use Rattle.sx_calls.specs.Parts.{JudgedStatement}
use Rattle.sx_bodies.specs.Statements.{run_statements, statement_added}
use Rattle.sx_bodies.proofs.Failing.{Fails, both_found, both_fails}
use Rattle.sx_check_expr.specs.Judge.{judged_statement, judged_statements}

-- the first that fails stays the first
stays : (e : TypeStop) (fs : List TypeStop) (w : Walk) (p : Place) (ss : List JudgedStatement) → Fails e (run_statements p (fails e fs w) ss)
stays e fs w p [] = (fs, w, refl)
stays e fs w p (s ∷ ss) = stays e (fs ++ failing (s.value p w)) (behind (s.value p w)) p ss

-- one more that is found
pub goes_on : (d : Declarations) (p : Place) (ss rest : List Statement) (x : Statement) (q q' : Found (List TypedStatement)) (o : Found TypedStatement) (w w' : Walk) (whole : Verdict (List TypedStatement)) → ss ≡ x ∷ rest → run_statements p (found q w) (judged_statements d ss) ≡ whole → (judged_statement d x).value p w ≡ found o w' → found q' w' ≡ both (found q w) (λ _. found o w') ▷ statement_added → run_statements p (found q' w') (judged_statements d rest) ≡ whole
goes_on d p ss rest x q q' o w w' whole at run h added =
    ap (λ v. run_statements p v (judged_statements d rest)) (added ∙ sym (ap (λ v. v ▷ statement_added) (both_found q w w' ((judged_statement d x).value p) o h)))
    ∙ sym (ap (λ (xs : List Statement). run_statements p (found q w) (judged_statements d xs)) at) ∙ run

-- one that fails, behind those that were found
pub stops : (d : Declarations) (p : Place) (ss rest : List Statement) (x : Statement) (q : Found (List TypedStatement)) (e : TypeStop) (fs : List TypeStop) (w w' : Walk) (whole : Verdict (List TypedStatement)) → ss ≡ x ∷ rest → run_statements p (found q w) (judged_statements d ss) ≡ whole → (judged_statement d x).value p w ≡ fails e fs w' → Fails e whole
stops d p ss rest x q e fs w w' whole at run h =
    let r : Fails e (run_statements p (fails e fs w') (judged_statements d rest)) = stays e fs w' p (judged_statements d rest) in (
      r.0,
      r.1,
      sym run ∙ ap (λ (xs : List Statement). run_statements p (found q w) (judged_statements d xs)) at
          ∙ ap (λ v. run_statements p (v ▷ statement_added) (judged_statements d rest)) (both_fails q w w' ((judged_statement d x).value p) e fs h) ∙ r.2,
    )
