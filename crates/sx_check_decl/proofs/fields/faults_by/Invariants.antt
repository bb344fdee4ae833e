use Rattle.std.proofs.Common.{◌≡◌, ◌++◌, length}
use Rattle.sx_check_decl.specs.Fields.{structure_faults}
use Rattle.sx_check_decl.proofs.fields.faults_by.Given as goal

abbrev pub invariant-structures : goal.invariant-structures
invariant-structures l =
    l.faults ++ structure_faults l.types.structures l.holders l.structures ≡ structure_faults l.types.structures l.fn.holders l.types.structures

abbrev pub decreases-structures : goal.decreases-structures
decreases-structures l = length l.structures
