use Rattle.std.proofs.Common.{◌≡◌, ◌+◌, ◌-◌, map, refl, ap, arith}
use Rattle.std.proofs.lemmas.Result.{err_from_is_err_and}
use Rattle.sx_scope.specs.Verdict.{found}
use Rattle.sx_calls.specs.Parts.{own_nodes}
use Rattle.sx_check_expr.specs.Judge.{judged_part}
use Rattle.sx_check_expr.proofs.Steps.{left_behind, parts_on, parts_stop, step_some}
use Rattle.sx_check_expr.proofs.postfix.run_parts.Goals as goal

pub overflow_sub-left : goal.overflow_sub-left
overflow_sub-left g c =
    let j = judged_part c.args.declarations.now in
    let rest = map j c.behind_step-behind.result.now in
    let all : c.parts.left ≡ c.step_nodes-left.result + own_nodes rest = left_behind (j c.in-Some.part.now) (map j c.in-Some.rest.now) (map j c.parts.parts.now) rest c.parts.left c.step_nodes-left.result (ap (map j) c.in-Some.ensures.cases.0) (c.behind_step-behind.ensures.behind c.args.declarations.now) c.parts.invariant.1 (c.step_nodes-left.ensures c.args.declarations.now) in
    omega (arith, all)

pub run_step-requires-clause-room : goal.run_step-requires-clause-room
run_step-requires-clause-room g c =
    let j = judged_part c.args.declarations.now in
    let rest = map j c.behind_step-behind.result.now in
    let all : c.parts.left ≡ c.step_nodes-left.result + own_nodes rest = left_behind (j c.in-Some.part.now) (map j c.in-Some.rest.now) (map j c.parts.parts.now) rest c.parts.left c.step_nodes-left.result (ap (map j) c.in-Some.ensures.cases.0) (c.behind_step-behind.ensures.behind c.args.declarations.now) c.parts.invariant.1 (c.step_nodes-left.ensures c.args.declarations.now) in
    let some = step_some (j c.in-Some.part.now) (map j c.in-Some.rest.now) in
    let made = c.step_nodes-left.ensures c.args.declarations.now in
    let room = c.parts.invariant.2 in
    omega (arith, all, some, made, room)

pub returns-in_err-value : goal.returns-in_err-value
returns-in_err-value g c =
    let r = err_from_is_err_and c.from_residual.result c.from_residual.ensures.1 in
    let d = c.args.declarations.now in
    let j = judged_part d in
    let at = ap (map j) c.in-Some.ensures.cases.0 in
    let behind = c.behind_step-behind.ensures.behind d in
    let rest = map j c.behind_step-behind.result.now in
    let k = c.step_nodes-left.result in
    let all : c.parts.left ≡ k + own_nodes rest = left_behind (j c.in-Some.part.now) (map j c.in-Some.rest.now) (map j c.parts.parts.now) rest c.parts.left k at behind c.parts.invariant.1 (c.step_nodes-left.ensures d) in
    let left : c.parts.left - k ≡ own_nodes rest = omega (arith, all) in
    rw (r.1, r.2) (parts_stop d c.args.place c.args.asked c.args.start c.args.site (c.parts.left - k + c.args.start) (c.parts.left - k) c.parts.this (found c.parts.value c.parts.walk) c.asked_before-wanted.result (map j c.parts.parts.now) rest (j c.in-Some.part.now) (map j c.in-Some.rest.now) _ c.in_err-value.field-0.0 c.run_step.new.walk c.run_step.new.walk
    at behind (c.asked_before-wanted.ensures d) left refl c.parts.invariant.0 c.in_err-value.ensures)

pub parts-preserved : goal.parts-preserved
parts-preserved g c =
    let d = c.args.declarations.now in
    let j = judged_part d in
    let at = ap (map j) c.in-Some.ensures.cases.0 in
    let behind = c.behind_step-behind.ensures.behind d in
    let rest = map j c.behind_step-behind.result.now in
    let k = c.step_nodes-left.result in
    let all : c.parts.left ≡ k + own_nodes rest = left_behind (j c.in-Some.part.now) (map j c.in-Some.rest.now) (map j c.parts.parts.now) rest c.parts.left k at behind c.parts.invariant.1 (c.step_nodes-left.ensures d) in
    let left : c.parts.left - k ≡ own_nodes rest = omega (arith, all) in
    let room = c.parts.invariant.2 in (
      parts_on d c.args.place c.args.asked c.args.start c.args.site (c.parts.left - k + c.args.start) (c.parts.left - k) c.parts.this (found c.parts.value c.parts.walk) (found c.in_ok-value.value c.run_step.new.walk) c.asked_before-wanted.result (map j c.parts.parts.now) rest (j c.in-Some.part.now) (map j c.in-Some.rest.now) _
          at behind (c.asked_before-wanted.ensures d) left refl c.parts.invariant.0 c.in_ok-value.ensures,
      left,
      omega (arith, room),
    )
