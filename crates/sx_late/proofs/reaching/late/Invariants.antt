use Rattle.std.proofs.Common.{◌≡◌, ℕ, ◌<◌, [], None}
use Rattle.sx_late.specs.Reaching.{IsLate, declared_before}
use Rattle.sx_late.specs.Walking.{IsFollowed}
use Rattle.sx_late.proofs.reaching.late.Given as goal

abbrev pub invariant-loop-index : goal.invariant-loop-index
invariant-loop-index l =
    IsFollowed l.typed l.seen.keys l.declared None []
    × (l.declared ≡ declared_before l.typed l.index)
    × ((i g : ℕ) → i < l.index → ¬ IsLate l.typed i g)
