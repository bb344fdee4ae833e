use Rattle.std.proofs.Common.{◌≤◌, ◌-◌, length, take}
use Rattle.sx_token.specs.Sound.{contents}
use Rattle.sx_parser.specs.Fronts.{IsFront}
use Rattle.sx_parser.proofs.fronts.longest_front.Given as goal

abbrev pub invariant-turns : goal.invariant-turns
invariant-turns l = record { within : l.count ≤ length l.tokens.list.items; front : IsFront (contents l.tokens.names.items) (take l.count l.tokens.list.items) }

abbrev pub decreases-turns : goal.decreases-turns
decreases-turns l = length l.tokens.list.items - l.count
