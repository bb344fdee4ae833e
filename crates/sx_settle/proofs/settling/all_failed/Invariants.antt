use Rattle.std.proofs.Common.{◌≡◌, ◌++◌, drop, map}
use Rattle.sx_settle.specs.Settled.{failed}
use Rattle.sx_settle.proofs.settling.all_failed.Given as goal

abbrev pub invariant-turns : goal.invariant-turns
invariant-turns l = l.all ++ map failed (drop l.index l.given) ≡ map failed l.given
