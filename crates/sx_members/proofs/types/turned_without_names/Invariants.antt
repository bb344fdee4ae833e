use Rattle.std.proofs.Common.{◌≡◌, ◌++◌, length, map, reverse}
use Rattle.sx_members.specs.Members.{property_of}
use Rattle.sx_members.proofs.types.turned_without_names.Given as goal

abbrev pub invariant-named : goal.invariant-named
invariant-named l = l.properties ++ reverse (map property_of l.named) ≡ reverse (map property_of l.fn.named)

abbrev pub decreases-named : goal.decreases-named
decreases-named l = length l.named
