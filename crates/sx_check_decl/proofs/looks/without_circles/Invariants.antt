use Rattle.std.proofs.Common.{◌≡◌, ◌++◌, drop, map}
use Rattle.sx_check_decl.specs.Looks.{without_circle}
use Rattle.sx_check_decl.proofs.looks.without_circles.Given as goal

abbrev pub invariant-turns : goal.invariant-turns
invariant-turns l = l.all ++ map without_circle (drop l.known-index l.given) ≡ map without_circle l.given
