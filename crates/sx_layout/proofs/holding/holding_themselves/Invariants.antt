use Rattle.std.proofs.Common.{◌≡◌, ◌↔◌, ◌<◌, ℕ, length, slice_get, Some, true}
use Rattle.sx_layout.specs.Holding.{Holds}
use Rattle.sx_layout.proofs.holding.holding_themselves.Given as goal

abbrev pub invariant-loop-number : goal.invariant-loop-number
invariant-loop-number l = (length l.told.items ≡ l.number) × ((k : ℕ) → k < l.number → (slice_get l.told.items k ≡ Some true) ↔ Holds l.structures k k)
