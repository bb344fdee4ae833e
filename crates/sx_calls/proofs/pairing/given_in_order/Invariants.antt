use Rattle.std.proofs.Common.{◌≡◌, drop}
use Rattle.sx_calls.specs.Calls.{given_from}
use Rattle.sx_calls.proofs.Given.{behind}
use Rattle.sx_calls.proofs.pairing.given_in_order.Given as goal

abbrev pub invariant-turns : goal.invariant-turns
invariant-turns l = behind l.slots.items l.counted (given_from l.declarations l.number l.coming (drop l.shape-index l.shapes)) ≡ given_from l.declarations 0 l.fn.stored l.shapes
