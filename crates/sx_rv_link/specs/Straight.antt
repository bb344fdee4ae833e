-- Instructions one behind another that go straight on: no jump, no write, no end.
use Rattle.std.specs.Prelude.{◌≡◌, ℕ, ◌+◌, ◌==◌, ◌&&◌, Bool, true, false, is_none, List, [], ◌∷◌, length, Option, Some, None, option_and_then, if◌then◌else◌}
use Rattle.sx_rv_isa.specs.declared.instructions.Instr.{Instr}
use Rattle.sx_rv_machine.specs.State.{State}
use Rattle.sx_rv_machine.specs.Step.{Stepped, carried_out}
use Rattle.sx_rv_machine.specs.declared.machine.Event.{Event}
use Rattle.sx_rv_machine.specs.declared.machine.Event.TheVariants.{Went, Wrote, Exited, Faulted}
use Rattle.sx_rv_link.specs.Following.{AllWent, steps}

abbrev pub is_went : Event → Bool
is_went Went = true
is_went (Wrote fd address length) = false
is_went (Exited status) = false
is_went (Faulted kind pc) = false

-- the state after a step that goes on at the next instruction
abbrev pub straight_on : State → Stepped → Option State
straight_on s x = if is_went x.event && ((x.state.pc == s.pc + 4) && is_none x.state.ending) then Some x.state else None

-- the state after some instructions that go straight on
abbrev pub straight : List Instr → State → Option State
straight [] s = Some s
straight (i ∷ is) s = option_and_then (straight is) (straight_on s (carried_out s i))

-- the machine carries out so many instructions and stands behind them
pub record WentStraight (s after : State) (count pc : ℕ) : Type 0 where
  pub quiet : AllWent count s
  pub state : steps count s ≡ after
  pub arrives : after.pc ≡ pc
  pub running : after.ending ≡ None
