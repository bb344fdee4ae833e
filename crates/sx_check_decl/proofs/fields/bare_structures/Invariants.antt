use Rattle.std.proofs.Common.{◌≡◌, ◌++◌, length, map}
use Rattle.sx_check_decl.specs.Fields.{bare_structure}
use Rattle.sx_check_decl.proofs.fields.bare_structures.Given as goal

abbrev pub invariant-names : goal.invariant-names
invariant-names l = l.structures ++ map bare_structure l.names ≡ map bare_structure l.fn.names

abbrev pub decreases-names : goal.decreases-names
decreases-names l = length l.names
