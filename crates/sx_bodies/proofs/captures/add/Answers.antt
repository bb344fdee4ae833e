use Rattle.std.proofs.Common.{◌≡◌, not, nat_eq}
use Rattle.std.specs.List.{list_any}
use Rattle.sx_bodies.specs.Literals.{number_of_mention}
use Rattle.sx_bodies.proofs.Once.{gains, keeps}
use Rattle.sx_bodies.proofs.captures.add.Goals as goal

pub returns-in_ok-push-clause-captured : goal.returns-in_ok-push-clause-captured
returns-in_ok-push-clause-captured c =
    let new : c.in-Ok.added ≡ not (list_any (nat_eq (number_of_mention c.args.mention)) c.args.seen.now.keys) = rw c.node_of.ensures at c.in-Ok.ensures.added in
    gains c.args.captured.now _ c.args.mention c.args.seen.now.keys c.in-Ok.added c.requires new c.if-added.true c.in_ok-push.ensures.ok

pub returns-else-added-clause-captured : goal.returns-else-added-clause-captured
returns-else-added-clause-captured c =
    let new : c.in-Ok.added ≡ not (list_any (nat_eq (number_of_mention c.args.mention)) c.args.seen.now.keys) = rw c.node_of.ensures at c.in-Ok.ensures.added in
    keeps c.args.captured.now c.args.mention c.args.seen.now.keys c.in-Ok.added c.requires new c.if-added.false
