-- No step changes the code.
use Rattle.std.proofs.Common.{◌≡◌, ℕ, zero, suc, ◌%◌, ◌^◌, List, Bool, true, false, Option, Some, None, refl, ◌∙◌, set}
use Rattle.std.specs.Prelude.{◌==◌, ◌&&◌, if◌then◌else◌}
use Rattle.sx_rv_isa.specs.declared.effect.Effect.{Effect}
use Rattle.sx_rv_isa.specs.declared.effect.Effect.TheVariants as effects
use Rattle.sx_rv_isa.specs.declared.faults.MachineKind.TheVariants as kind
use Rattle.sx_rv_isa.specs.declared.instructions.Instr.{Instr}
use Rattle.sx_rv_isa.specs.Words.{decoded}
use Rattle.sx_rv_isa.specs.Effects.{effect}
use Rattle.sx_rv_isa.specs.Registers.{destination, first_source, second_source}
use Rattle.sx_rv_machine.specs.Memory.{Area, executable, readable, bytes_at, with_bytes, bytes_of, number_of}
use Rattle.sx_rv_machine.specs.State.{State, register, with_register}
use Rattle.sx_rv_machine.specs.Step.{Stepped, step_of, step_unless, fetched, decoded_to, taken, went, ended, at, advanced, faulted, got, kept, may_write, is_aligned, loaded_value}
use Rattle.sx_rv_machine.specs.declared.machine.Event.TheVariants.{Wrote}
use Rattle.sx_rv_machine.specs.declared.machine.Ending.{Ending}
use Rattle.sx_rv_machine.specs.declared.machine.Ending.TheVariants.{Exits}
use Rattle.sx_rv_link.specs.Following.{LiesFirst, steps}
use Rattle.sx_rv_link.proofs.Followed.{set_memory}
use Rattle.sx_rv_link.proofs.FirstArea.{first_stays}

same_memory : (old new : List Area) (base : ℕ) (code : List ℕ) → new ≡ old → LiesFirst old base code → LiesFirst new base code
same_memory old new base code e h = record { area = h.area; rest = h.rest; first = e ∙ h.first; start = h.start; bytes = h.bytes; may_execute = h.may_execute; may_not_write = h.may_not_write }

module _ (s : State) (base : ℕ) (code : List ℕ) (h : LiesFirst s.memory base code) where
  abbrev Keeps : Stepped → Type 0
  Keeps x = LiesFirst x.state.memory base code

  written : (rd v : ℕ) → LiesFirst (with_register s rd v).memory base code
  written rd v = same_memory s.memory (with_register s rd v).memory base code (set_memory s (rd == 0) (set s.registers rd v)) h

  chosen : (b : Bool) (x y : Stepped) → Keeps x → Keeps y → Keeps (if b then x else y)
  chosen true x y p q = p
  chosen false x y p q = q

  got_keeps : (rd size : ℕ) (signed : Bool) (o : Option (List ℕ)) → Keeps (got s rd size signed o)
  got_keeps rd size signed None = h
  got_keeps rd size signed (Some bytes) = written rd (loaded_value size signed bytes)

  kept_keeps : (place : ℕ) (new : List ℕ) (o : Option (List Area)) → with_bytes s.memory place new ≡ o → Keeps (kept s o)
  kept_keeps place new None e = h
  kept_keeps place new (Some memory) e = first_stays s.memory base code place new memory h e

  taken_keeps : (rd : ℕ) (e : Effect) → Keeps (taken s rd e)
  taken_keeps rd (effects.Value v) = written rd v
  taken_keeps rd (effects.Jump target link) = chosen (is_aligned target 4) (went (at (with_register s rd link) target)) (faulted s kind.JumpMisaligned) (written rd link) h
  taken_keeps rd (effects.Branch target) = chosen (is_aligned target 4) (went (at s target)) (faulted s kind.JumpMisaligned) h h
  taken_keeps rd effects.Next = h
  taken_keeps rd (effects.Load address size signed) = chosen (is_aligned address size) (got s rd size signed (bytes_at s.memory readable address size)) (faulted s kind.LoadMisaligned) (got_keeps rd size signed (bytes_at s.memory readable address size)) h
  taken_keeps rd (effects.Store address size value) = chosen (is_aligned address size) (kept s (with_bytes s.memory address (bytes_of size value))) (faulted s kind.StoreMisaligned) (kept_keeps address (bytes_of size value) (with_bytes s.memory address (bytes_of size value)) refl) h
  taken_keeps rd effects.Environment =
      chosen (register s 17 == 93) (ended s (Exits (register s 10 % 2 ^ 8)))
      (if (register s 17 == 64) && may_write s then record { event = Wrote (register s 10) (register s 11) (register s 12); state = advanced (with_register s 10 (register s 12)) } else faulted s kind.Environment)
      h
      (chosen ((register s 17 == 64) && may_write s) (record { event = Wrote (register s 10) (register s 11) (register s 12); state = advanced (with_register s 10 (register s 12)) }) (faulted s kind.Environment) (written 10 (register s 12)) h)
  taken_keeps rd effects.Breakpoint = h

  decoded_keeps : (o : Option Instr) → Keeps (decoded_to s o)
  decoded_keeps None = h
  decoded_keeps (Some i) = taken_keeps (destination i) (effect i s.pc (register s (first_source i)) (register s (second_source i)))

  fetched_keeps : (o : Option (List ℕ)) → Keeps (fetched s o)
  fetched_keeps None = h
  fetched_keeps (Some bytes) = decoded_keeps (decoded (number_of 4 bytes))

  unless_keeps : (o : Option Ending) → Keeps (step_unless s o)
  unless_keeps (Some ending) = h
  unless_keeps None = chosen (is_aligned s.pc 4) (fetched s (bytes_at s.memory executable s.pc 4)) (faulted s kind.FetchMisaligned) (fetched_keeps (bytes_at s.memory executable s.pc 4)) h

pub step_keeps : (s : State) (base : ℕ) (code : List ℕ) → LiesFirst s.memory base code → LiesFirst (step_of s).state.memory base code
step_keeps s base code h = unless_keeps s base code h s.ending

pub steps_keep : (n : ℕ) (s : State) (base : ℕ) (code : List ℕ) → LiesFirst s.memory base code → LiesFirst (steps n s).memory base code
unfolding steps
steps_keep zero s base code h = h
steps_keep (suc n) s base code h = steps_keep n (step_of s).state base code (step_keeps s base code h)
