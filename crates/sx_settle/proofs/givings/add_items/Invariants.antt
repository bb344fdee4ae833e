use Rattle.std.proofs.Common.{◌≡◌, ◌++◌, map, length}
use Rattle.sx_settle.specs.Settled.{giving_items}
use Rattle.sx_settle.specs.Steps.{given}
use Rattle.sx_settle.proofs.givings.add_items.Given as goal

abbrev pub invariant-items : goal.invariant-items
invariant-items l =
    map given l.givings.items ++ giving_items l.items l.nodes ≡ map given l.fn.givings.items ++ giving_items l.fn.items l.fn.nodes

abbrev pub decreases-items : goal.decreases-items
decreases-items l = length l.items
