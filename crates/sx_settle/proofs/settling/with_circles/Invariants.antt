use Rattle.std.proofs.Common.{◌≡◌, ◌++◌, drop, map}
use Rattle.sx_settle.specs.Settled.{in_circle}
use Rattle.sx_settle.proofs.settling.with_circles.Given as goal

abbrev pub invariant-turns : goal.invariant-turns
invariant-turns l = l.all ++ map in_circle (drop l.known-index l.given) ≡ map in_circle l.given
