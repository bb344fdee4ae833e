use Rattle.std.proofs.Common.{◌≡◌, [], ◌++◌, map, length}
use Rattle.sx_settle.specs.Settled.{giving_members}
use Rattle.sx_settle.specs.Steps.{given}
use Rattle.sx_settle.proofs.givings.add_members.Given as goal

abbrev pub invariant-members : goal.invariant-members
invariant-members l =
    map given l.givings.items ++ giving_members l.members l.nodes [] ≡ map given l.fn.givings.items ++ giving_members l.fn.members l.fn.nodes []

abbrev pub decreases-members : goal.decreases-members
decreases-members l = length l.members
