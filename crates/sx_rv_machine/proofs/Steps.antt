-- Laws of single steps, and of the machine that they make.
use Rattle.std.proofs.Common.{◌≡◌, ℕ, ◌+◌, ◌-◌, ◌%◌, ◌^◌, ◌≤◌, arith, Bool, true, false, List, [], ◌++◌, Option, Some, None, refl, sym, ap, ◌∙◌, subst, append-nil}
use Rattle.std.specs.Prelude.{if◌then◌else◌, ◌==◌, ◌&&◌}
use Rattle.sx_runs.specs.Machine.{step, steps, after}
use Rattle.sx_runs.specs.Performs.{IsPrefix}
use Rattle.sx_runs.specs.Simulation.{Grown, IsGrowing}
use Rattle.sx_runs.proofs.Steps.{prefix_refl, steps-add, steps-last, step_on, step_ended, grown_steps}
use Rattle.sx_rv_isa.specs.Words.{decoded}
use Rattle.sx_rv_isa.specs.Effects.{effect}
use Rattle.sx_rv_isa.specs.Registers.{destination, first_source, second_source}
use Rattle.sx_rv_isa.specs.declared.effect.Effect.{Effect}
use Rattle.sx_rv_isa.specs.declared.effect.Effect.TheVariants.{Value, Jump, Branch, Next, Load, Store, Environment, Breakpoint}
use Rattle.sx_rv_isa.specs.declared.faults.MachineKind.{MachineKind}
use Rattle.sx_rv_isa.specs.declared.faults.MachineKind.TheVariants as kind
use Rattle.sx_rv_isa.specs.declared.instructions.Instr.{Instr}
use Rattle.sx_rv_machine.specs.Memory.{Area, executable, readable, bytes_at, with_bytes, number_of, bytes_of}
use Rattle.sx_rv_machine.specs.State.{State, register, with_register}
use Rattle.sx_rv_machine.specs.Step.{Stepped, told, went, ended, faulted, at, advanced, is_aligned, got, kept, may_write, called, taken, decoded_to, fetched, instruction, step_unless, step_of}
use Rattle.sx_rv_machine.specs.Run.{Running, next, emitted, written_by, machine_from}
use Rattle.sx_rv_machine.specs.declared.machine.Ending.{Ending}
use Rattle.sx_rv_machine.specs.declared.machine.Ending.TheVariants.{Exits, Faults}
use Rattle.sx_rv_machine.specs.declared.machine.Event.{Event}
use Rattle.sx_rv_machine.specs.declared.machine.Event.TheVariants.{Went, Wrote, Exited, Faulted}

-- ---- an event that goes on leaves the memory as it was where it writes, and one that ends leaves an ending

-- what is true of the state after a step from s, by the step's event
abbrev pub Tells : State → Event → State → Type 0
Tells s Went new = Unit {0}
Tells s (Wrote fd address length) new = (new.memory ≡ s.memory)
Tells s (Exited status) new = (e : Ending) × (new.ending ≡ Some e)
Tells s (Faulted kind pc) new = (e : Ending) × (new.ending ≡ Some e)

abbrev IsTold : State → Stepped → Type 0
IsTold s x = Tells s x.event x.state

told_if : (s : State) (b : Bool) (x y : Stepped) → IsTold s x → IsTold s y → IsTold s (if b then x else y)
told_if s true x y p q = p
told_if s false x y p q = q

told_end : (s new : State) (e : Ending) → new.ending ≡ Some e → Tells s (told e) new
told_end s new (Exits status) h = (Exits status, h)
told_end s new (Faults kind pc) h = (Faults kind pc, h)

told_exit : (s : State) (status : ℕ) → IsTold s (ended s (Exits status))
told_exit s status = (Exits status, refl)

told_fault : (s : State) (why : MachineKind) → IsTold s (faulted s why)
told_fault s why = (Faults why s.pc, refl)

abbrev wrote : State → Stepped
wrote s = record { event = Wrote (register s 10) (register s 11) (register s 12); state = advanced (with_register s 10 (register s 12)) }

told_called : (s : State) → IsTold s (called s)
told_called s =
    told_if
    s
    (register s 17 == 93)
    (ended s (Exits (register s 10 % 2 ^ 8)))
    (if (register s 17 == 64) && may_write s then wrote s else faulted s kind.Environment)
    (told_exit s (register s 10 % 2 ^ 8))
    (told_if s ((register s 17 == 64) && may_write s) (wrote s) (faulted s kind.Environment) refl (told_fault s kind.Environment))

told_got : (s : State) (rd size : ℕ) (signed : Bool) (o : Option (List ℕ)) → IsTold s (got s rd size signed o)
told_got s rd size signed None = told_fault s kind.LoadOutside
told_got s rd size signed (Some bytes) = tt

told_kept : (s : State) (o : Option (List Area)) → IsTold s (kept s o)
told_kept s None = told_fault s kind.StoreOutside
told_kept s (Some memory) = tt

told_taken : (s : State) (rd : ℕ) (x : Effect) → IsTold s (taken s rd x)
told_taken s rd (Value value) = tt
told_taken s rd (Jump target link) =
    told_if s (is_aligned target 4) (went (at (with_register s rd link) target)) (faulted s kind.JumpMisaligned) tt (told_fault s kind.JumpMisaligned)
told_taken s rd (Branch target) =
    told_if s (is_aligned target 4) (went (at s target)) (faulted s kind.JumpMisaligned) tt (told_fault s kind.JumpMisaligned)
told_taken s rd Next = tt
told_taken s rd (Load address size signed) =
    told_if s (is_aligned address size) (got s rd size signed (bytes_at s.memory readable address size)) (faulted s kind.LoadMisaligned) (told_got s rd size signed (bytes_at s.memory readable address size)) (told_fault s kind.LoadMisaligned)
told_taken s rd (Store address size value) =
    told_if s (is_aligned address size) (kept s (with_bytes s.memory address (bytes_of size value))) (faulted s kind.StoreMisaligned) (told_kept s (with_bytes s.memory address (bytes_of size value))) (told_fault s kind.StoreMisaligned)
told_taken s rd Environment = told_called s
told_taken s rd Breakpoint = told_fault s kind.Breakpoint

told_decoded : (s : State) (o : Option Instr) → IsTold s (decoded_to s o)
told_decoded s None = told_fault s kind.Illegal
told_decoded s (Some i) = told_taken s (destination i) (effect i s.pc (register s (first_source i)) (register s (second_source i)))

told_fetched : (s : State) (o : Option (List ℕ)) → IsTold s (fetched s o)
told_fetched s None = told_fault s kind.FetchOutside
told_fetched s (Some bytes) = told_decoded s (decoded (number_of 4 bytes))

told_instruction : (s : State) → IsTold s (instruction s)
told_instruction s =
    told_if s (is_aligned s.pc 4) (fetched s (bytes_at s.memory executable s.pc 4)) (faulted s kind.FetchMisaligned) (told_fetched s (bytes_at s.memory executable s.pc 4)) (told_fault s kind.FetchMisaligned)

told_unless : (s : State) (o : Option Ending) → s.ending ≡ o → IsTold s (step_unless s o)
told_unless s None h = told_instruction s
told_unless s (Some e) h = told_end s s e h

-- what follows from a step's event
pub step_tells : (s : State) (v : Event) → (step_of s).event ≡ v → Tells s v (step_of s).state
step_tells s v is = subst (λ x. Tells s x (step_of s).state) is (told_unless s s.ending refl)

-- what a step writes, by its event and the memory after it
pub emitted_is : (s : State) (v : Event) (output : ℕ) → (step_of s).event ≡ v → written_by (step_of s).state.memory v output ≡ emitted s output
emitted_is s v output is = by v (step_tells s v is) ∙ ap (λ x. written_by s.memory x output) (sym is)
  where
    by : (v : Event) → Tells s v (step_of s).state → written_by (step_of s).state.memory v output ≡ written_by s.memory v output
    by Went t = refl
    by (Wrote fd address length) t = ap (λ (x : List Area). written_by x (Wrote fd address length) output) t
    by (Exited status) t = refl
    by (Faulted kind pc) t = refl

-- ---- the machine that the steps make

told_quiet : (memory : List Area) (e : Ending) (output : ℕ) → written_by memory (told e) output ≡ []
told_quiet memory (Exits status) output = refl
told_quiet memory (Faults kind pc) output = refl

-- a machine that has ended stays, and writes nothing
pub next_ended : (r : Running) (e : Ending) → r.state.ending ≡ Some e → next r ≡ r
next_ended r e h =
    let at : Option Ending → ℕ → List ℕ = λ o output. written_by r.state.memory (step_unless r.state o).event output in
    let onward : Option Ending → Running = λ o. record { state = (step_unless r.state o).state; out = r.out ++ at o 1; err = r.err ++ at o 2 } in
    ap onward h
    ∙ ap (λ (x : List ℕ). record { state = r.state; out = r.out ++ x; err = r.err ++ at (Some e) 2 }) (told_quiet r.state.memory e 1)
    ∙ ap (λ (x : List ℕ). record { state = r.state; out = r.out ++ []; err = r.err ++ x }) (told_quiet r.state.memory e 2)
    ∙ ap (λ (x : List ℕ). record { state = r.state; out = x; err = r.err ++ [] }) (append-nil r.out)
    ∙ ap (λ (x : List ℕ). record { state = r.state; out = r.out; err = x }) (append-nil r.err)

pub step_is_next : (s : State) (r : Running) → step (machine_from s) r ≡ next r
step_is_next s r = by r.state.ending refl
  where
    by : (o : Option Ending) → r.state.ending ≡ o → step (machine_from s) r ≡ next r
    by None h = step_on (machine_from s) r h
    by (Some e) h = step_ended (machine_from s) r e h ∙ sym (next_ended r e h)

-- the last of some steps
pub after_last : (s : State) (n : ℕ) → after (machine_from s) (n + 1) ≡ next (after (machine_from s) n)
after_last s n = steps-last (machine_from s) n (machine_from s).start ∙ step_is_next s (after (machine_from s) n)

-- outputs only grow
pub grows : (s : State) → IsGrowing (machine_from s)
grows s = record {
  grows = λ r. record {
    out = record { rest = emitted r.state 1; is = refl };
    err = record { rest = emitted r.state 2; is = refl };
    events = prefix_refl [];
  };
}

-- what is written by some step stays at the front
pub outputs_grow : (s : State) (k n : ℕ) → k ≤ n → IsPrefix (after (machine_from s) k).out (after (machine_from s) n).out × IsPrefix (after (machine_from s) k).err (after (machine_from s) n).err
outputs_grow s k n le =
    let M = machine_from s in
    let e : n ≡ k + (n - k) = omega arith in
    let to : steps M (n - k) (after M k) ≡ after M n = sym (steps-add M k (n - k) M.start) ∙ ap (λ j. after M j) (sym e) in
    let g : Grown (M.see (after M k)) (M.see (after M n)) = subst (λ r. Grown (M.see (after M k)) (M.see r)) to (grown_steps M (grows s) (n - k) (after M k)) in
    (g.out, g.err)
