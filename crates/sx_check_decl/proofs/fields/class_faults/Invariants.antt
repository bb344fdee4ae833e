use Rattle.std.proofs.Common.{◌≡◌, ◌++◌, length, map}
use Rattle.sx_check_decl.specs.Fields.{class_fault}
use Rattle.sx_check_decl.proofs.fields.class_faults.Given as goal

abbrev pub invariant-classes : goal.invariant-classes
invariant-classes l = l.faults ++ map (class_fault l.types.structures) l.classes ≡ map (class_fault l.types.structures) l.types.classes

abbrev pub decreases-classes : goal.decreases-classes
decreases-classes l = length l.classes
