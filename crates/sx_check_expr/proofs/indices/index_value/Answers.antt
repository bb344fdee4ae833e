use Rattle.std.proofs.Common.{◌≡◌, ◌∙◌, [], List, Option, Err, length, map, ap, sym, subst}
use Rattle.std.proofs.lemmas.List.{length-map}
use Rattle.sx_types.specs.declared.types.Ty.{Ty}
use Rattle.sx_typed.specs.declared.code.Expr.{Expr}
use Rattle.sx_scope.specs.declared.walk.Walk.{Walk}
use Rattle.sx_scope.specs.Verdict.{Answers, typed, typed_part}
use Rattle.sx_calls.specs.Calls.{indexed_value, run_indices, types_by}
use Rattle.sx_check_expr.specs.Judge.{judged_expr}
use Rattle.sx_check_expr.proofs.Stops.{asked_stops}
use Rattle.sx_check_expr.proofs.indices.index_value.Goals as goal

pub returns-in-Err : goal.returns-in-Err
returns-in-Err g c =
    let d = c.args.declarations.now in
    let w = c.args.walk.now in
    let now = c.run_indices.new.walk in
    let is = map (judged_expr d) c.args.indices.now in
    let ask = λ (o : Option Expr) (u : Walk). run_indices d c.args.place (typed [] u) (types_by d (length is) o) is in
    asked_stops c.in-Err.stop now now c.args.base w ask (indexed_value d c.args.asked c.args.node c.args.site (length is))
    (subst (λ (ts : List Ty). Answers {A = List Expr} (Err c.in-Err.stop) now (run_indices d c.args.place (typed [] w) ts is))
    (c.index_types-types.ensures ∙ ap (λ n. types_by d n (typed_part c.args.base)) (sym (length-map c.args.indices.now (judged_expr d)))) c.in-Err.ensures)
