use Rattle.std.proofs.Common.{◌≡◌, ◌++◌, length, map}
use Rattle.sx_check_decl.specs.Program.{bytes_of}
use Rattle.sx_check_decl.proofs.checking.copied.Given as goal

abbrev pub invariant-lists : goal.invariant-lists
invariant-lists l = map bytes_of l.copies.items ++ map bytes_of l.lists ≡ map bytes_of l.fn.lists

abbrev pub decreases-lists : goal.decreases-lists
decreases-lists l = length l.lists
