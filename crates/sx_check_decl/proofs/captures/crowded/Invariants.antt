use Rattle.std.proofs.Common.{◌≡◌, ◌≤◌, length}
use Rattle.sx_check_decl.specs.Captures.{crowded, crowded_from}
use Rattle.sx_check_decl.proofs.captures.crowded.Given as goal

abbrev pub invariant-functions : goal.invariant-functions
invariant-functions l = record {
  whole : crowded_from l.types l.words l.functions ≡ crowded l.types l.fn.functions;
  few : l.words ≤ 65536;
}

abbrev pub decreases-functions : goal.decreases-functions
decreases-functions l = length l.functions
