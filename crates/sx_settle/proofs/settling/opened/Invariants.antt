use Rattle.std.proofs.Common.{◌≡◌, ◌++◌, drop}
use Rattle.sx_settle.specs.Settled.{opened}
use Rattle.sx_settle.proofs.settling.opened.Given as goal

abbrev pub invariant-turns : goal.invariant-turns
invariant-turns l = l.all ++ opened l.number (drop l.number l.given) l.stops ≡ opened 0 l.given l.stops
