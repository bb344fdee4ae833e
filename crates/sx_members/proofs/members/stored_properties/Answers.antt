use Rattle.std.proofs.Common.{[]}
use Rattle.std.proofs.lemmas.Result.{err_from_is_err_and}
use Rattle.sx_scope.specs.Verdict.{typed}
use Rattle.sx_bodies.proofs.Failing.{carried}
use Rattle.sx_members.specs.Members.{member, nothing_before, run_members, so_far}
use Rattle.sx_members.proofs.Runs.{ends, goes_on}
use Rattle.sx_members.proofs.members.stored_properties.Goals as goal

pub returns-in_err-property : goal.returns-in_err-property
returns-in_err-property c =
    let p = err_from_is_err_and c.from_residual.result c.from_residual.ensures.1 in
    let d = c.args.declarations.now in
    let before = so_far c.list.seen.keys c.list.another c.list.given in
    let whole = run_members d c.args.names c.args.stops.now c.args.owner (typed [] c.args.walk.now) (nothing_before c.args.given) c.args.list.now in
    rw (p.1, p.2) (carried c.in_err-property.field-0.0 c.member.new.walk _ (member d c.args.names c.args.stops.now c.args.owner before c.in-Some.first.now c.list.walk) whole
    (λ fs w h. ends d c.args.names c.args.stops.now c.args.owner before c.list.list.now c.in-Some.rest.now c.in-Some.first.now c.list.properties c.in_err-property.field-0.0 fs c.list.walk w whole c.in-Some.ensures.cases.0 c.list.invariant h)
    c.in_err-property.ensures)

pub list-preserved : goal.list-preserved
list-preserved c =
    let d = c.args.declarations.now in
    goes_on d c.args.names c.args.stops.now c.args.owner (so_far c.list.seen.keys c.list.another c.list.given) _ c.list.list.now c.in-Some.rest.now c.in-Some.first.now c.list.properties c.in_ok-properties.properties c.in_ok-property.property c.list.walk c.member.new.walk
    (run_members d c.args.names c.args.stops.now c.args.owner (typed [] c.args.walk.now) (nothing_before c.args.given) c.args.list.now) c.in-Some.ensures.cases.0 c.list.invariant c.in_ok-property.ensures
    (c.in_ok-properties.ensures c.list.walk c.member.new.walk) c.in_ok-pass.ensures.passed
