use Rattle.std.proofs.Common.{◌≡◌, ◌++◌, None, drop, map}
use Rattle.sx_settle.proofs.settling.no_stops.Given as goal

abbrev pub invariant-turns : goal.invariant-turns
invariant-turns l = l.stops ++ map (λ _. None) (drop l.index l.given) ≡ map (λ _. None) l.given
