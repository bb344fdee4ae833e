use Rattle.std.proofs.Common.{◌≡◌, ◌++◌, length}
use Rattle.sx_check_decl.specs.Fields.{structures_of}
use Rattle.sx_check_decl.proofs.fields.structures_of.Given as goal

abbrev pub invariant-names : goal.invariant-names
invariant-names l = l.structures ++ structures_of l.declarations l.names l.declared ≡ structures_of l.declarations l.fn.names l.fn.declared

abbrev pub decreases-names : goal.decreases-names
decreases-names l = length l.names
