use Rattle.std.proofs.Common.{◌≡◌, [], length}
use Rattle.sx_scope.specs.Verdict.{found, typed}
use Rattle.sx_members.specs.Members.{nothing_before, run_members, so_far}
use Rattle.sx_members.proofs.members.stored_properties.Given as goal

abbrev pub invariant-list : goal.invariant-list
invariant-list l =
    run_members l.declarations l.names l.stops l.owner (found l.properties l.walk) (so_far l.seen.keys l.another l.given) l.list
    ≡ run_members l.declarations l.names l.stops l.owner (typed [] l.fn.walk) (nothing_before l.fn.given) l.fn.list

abbrev pub decreases-list : goal.decreases-list
decreases-list l = length l.list
