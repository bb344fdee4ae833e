use Rattle.std.proofs.Common.{◌≡◌, ◌++◌, length, map}
use Rattle.sx_check_decl.specs.Fields.{bare_class}
use Rattle.sx_check_decl.proofs.fields.bare_classes.Given as goal

abbrev pub invariant-names : goal.invariant-names
invariant-names l = l.classes ++ map bare_class l.names ≡ map bare_class l.fn.names

abbrev pub decreases-names : goal.decreases-names
decreases-names l = length l.names
