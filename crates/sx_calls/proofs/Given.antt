-- The arguments of an initialiser, from some on.
use Rattle.std.proofs.Common.{Bool, ◌&&◌, List, ◌++◌}
use Rattle.sx_calls.specs.declared.passed.Pairing.{Pairing}
use Rattle.sx_calls.specs.declared.passed.Slot.{Slot}

-- what stands behind these slots
abbrev pub behind : List Slot → Bool → Pairing → Pairing
behind ss c p = record { slots = ss ++ p.slots; counted = c && p.counted }
