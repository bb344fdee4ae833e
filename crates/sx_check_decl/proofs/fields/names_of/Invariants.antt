use Rattle.std.proofs.Common.{◌≡◌, ◌++◌, length}
use Rattle.sx_check_decl.specs.Fields.{names_of}
use Rattle.sx_check_decl.proofs.fields.names_of.Given as goal

abbrev pub invariant-items : goal.invariant-items
invariant-items l = l.names.items ++ names_of l.kind l.items ≡ names_of l.kind l.fn.items

abbrev pub decreases-items : goal.decreases-items
decreases-items l = length l.items
