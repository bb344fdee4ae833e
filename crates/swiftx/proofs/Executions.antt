-- From what a run of a file's own machine does to what was due.
use Rattle.std.proofs.Common.{◌≡◌, ◌⊎◌, inl, inr, ℕ, ◌<◌, List, [], ◌++◌, length, Option, Some, None, sym, refl, ap, ◌∙◌, subst, append-nil}
use Rattle.std.specs.Prelude.{option_map}
use Rattle.sx_elf.specs.Tests.{first_fault, IsRefusal}
use Rattle.sx_elf.specs.declared.elf_stop.ElfStop.{ElfStop}
use Rattle.sx_elf.specs.declared.elf_stop.ElfStop.TheVariants as stops
use Rattle.sx_rv_isa.specs.declared.faults.MachineKind.{MachineKind}
use Rattle.sx_rv_machine.specs.State.{State}
use Rattle.sx_rv_machine.specs.Run.{Running}
use Rattle.sx_rv_machine.specs.Put.{Told, Grew, BrokeOff, RanThrough, Stopped, end_of}
use Rattle.sx_rv_machine.specs.declared.machine.Ending.{Ending}
use Rattle.sx_rv_machine.specs.declared.machine.Ending.TheVariants.{Exits, Faults}
use Rattle.sx_rv_machine.specs.declared.runs.RunEnd.TheVariants as ends
use Rattle.sx_rv_machine.proofs.Puts.{grew_none, grew_then, broke_then}
use Rattle.swiftx.specs.Answer.{Completed, at_write, at_line}
use Rattle.swiftx.specs.Due.{unloadable, loadable, line_due, exec_due, executed, ended_with, ending_line}
use Rattle.swiftx.specs.Lines.{elf_line, fault_line}
use Rattle.swiftx.specs.Parts.{Said, Settled, RanOut, StopSaid, MachineSettled, ExecSettled}
use Rattle.swiftx.specs.Target.{start}
use Rattle.swiftx.proofs.Settle.{same_run, has_bytes, said_settled}
use Rattle.swiftx.specs.declared.outcome.Outcome.{Outcome}
use Rattle.swiftx.specs.declared.outcome.Outcome.TheVariants.{Exited, Budget, MachineFault, ElfRefused, SinkFault, NoMemory}
use Rattle.swiftx.specs.declared.bench.Bench.{Bench}

-- which ending is answered so
exits : (o : Option Ending) (status : ℕ) → ends.Exited status ≡ end_of o → o ≡ Some (Exits status)
exits None status e = absurd (cc)
exits (Some (Exits s)) status e = cc
exits (Some (Faults kind pc)) status e = absurd (cc)

goes_on : (o : Option Ending) → ends.Budget ≡ end_of o → o ≡ None
goes_on None e = refl
goes_on (Some (Exits s)) e = absurd (cc)
goes_on (Some (Faults kind pc)) e = absurd (cc)

faults : (o : Option Ending) (k : MachineKind) (at : ℕ) → ends.Faulted k at ≡ end_of o → o ≡ Some (Faults k at)
faults None k at e = absurd (cc)
faults (Some (Exits s)) k at e = absurd (cc)
faults (Some (Faults kind pc)) k at e = cc

-- the line of a fault is not empty
fault_has_line : (k : MachineKind) (at : ℕ) → 0 < length (fault_line k at)
unfolding fault_line
fault_has_line k at = has_bytes _ _ (fault_line k at) refl

module _ (file : List ℕ) (steps : ℕ) (out out' err : Told) (bench : Bench) where
  abbrev last : Running
  last = executed file steps

  -- the bench has no file that was built, and the machine that ran
  abbrev pub HasRun : State → Type 0
  HasRun m = (bench.built ≡ None) × (bench.machine ≡ Some m)

  -- the machine's own outputs, and the line of its ending
  completed : (err' : Told) (m : State) (o : Option Ending) → m ≡ last.state → m.ending ≡ o → Grew out out' last.out → Grew err err' (last.err ++ ending_line o) → HasRun m → Completed (exec_due file steps) out out' err err' bench (ended_with o)
  completed err' m o e is out_grew err_grew run =
      let same : o ≡ last.state.ending = sym is ∙ ap (λ (x : State). x.ending) e in
      record {
        answers = ap ended_with same;
        out_grew = out_grew;
        err_grew = subst (λ x. Grew err err' (last.err ++ ending_line x)) same err_grew;
        bench_holds = record { built = ap (option_map (λ b. b.bytes.items)) run.0; machine = run.1 ∙ ap Some (e ∙ ap (λ (x : Running). x.state) (sym (same_run file steps))) };
      }

  with_nothing : (err' : Told) (x : List ℕ) → Grew err err' x → Grew err err' (x ++ [])
  with_nothing err' x g = subst (λ y. Grew err err' y) (sym (append-nil x)) g

  pub machine_exited : (err' : Told) (m0 m : State) (status : ℕ) → RanThrough steps m0 m out out' err err' (ends.Exited status) → HasRun m → m0 ≡ start file → Settled (exec_due file steps) out out' err err' bench (Exited status)
  machine_exited err' m0 m status r run e =
      let r' = subst (λ x. RanThrough steps x m out out' err err' (ends.Exited status)) e r in
      inl (completed err' m (Some (Exits status)) r'.state (exits m.ending status r'.answer) r'.out_grew (with_nothing err' last.err r'.err_grew) run)

  pub machine_goes_on : (err' : Told) (m0 m : State) → RanThrough steps m0 m out out' err err' ends.Budget → HasRun m → m0 ≡ start file → Settled (exec_due file steps) out out' err err' bench Budget
  machine_goes_on err' m0 m r run e =
      let r' = subst (λ x. RanThrough steps x m out out' err err' ends.Budget) e r in
      inl (completed err' m None r'.state (goes_on m.ending r'.answer) r'.out_grew (with_nothing err' last.err r'.err_grew) run)

  -- the line of a fault was said, or not
  pub machine_faulted : (err' err'' : Told) (m0 m : State) (k : MachineKind) (at : ℕ) (line : List ℕ) (result : Outcome) → RanThrough steps m0 m out out' err err' (ends.Faulted k at) → line ≡ fault_line k at → Said (MachineFault k at) result line err' err'' → HasRun m → m0 ≡ start file → Settled (exec_due file steps) out out' err err'' bench result
  machine_faulted err' err'' m0 m k at line result r is (inl said) run e =
      let r' = subst (λ x. RanThrough steps x m out out' err err' (ends.Faulted k at)) e r in
      let grown : Grew err err'' (last.err ++ fault_line k at) = grew_then err err' err'' last.err (fault_line k at) r'.err_grew (subst (λ l. Grew err' err'' l) is said.1) in
      inl (subst (λ x. Completed (exec_due file steps) out out' err err'' bench x) (sym said.0) (completed err'' m (Some (Faults k at)) r'.state (faults m.ending k at r'.answer) r'.out_grew grown run))
  machine_faulted err' err'' m0 m k at line result r is (inr cut) run e =
      let r' = subst (λ x. RanThrough steps x m out out' err err' (ends.Faulted k at)) e r in
      let told = broke_then err err' err'' last.err line r'.err_grew cut.1 in
      let own : last.state.ending ≡ Some (Faults k at) = ap (λ (x : State). x.ending) (sym r'.state) ∙ faults m.ending k at r'.answer in
      let due : line ≡ ending_line last.state.ending = is ∙ ap ending_line (sym own) in
      inr (
        cut.0,
        at_line (record {
          has_line = subst (λ l. 0 < length l) (sym is ∙ due) (fault_has_line k at);
          out_grew = r'.out_grew;
          err_broke = subst (λ l. BrokeOff err err'' last.err l) due told;
          bench_holds = record { built = ap (option_map (λ b. b.bytes.items)) run.0; machine = run.1 ∙ ap Some (r'.state ∙ ap (λ (x : Running). x.state) (sym (same_run file steps))) };
        }),
      )

  -- a put of the machine failed
  pub machine_cut : (err' : Told) (m0 m : State) (fd : ℕ) → Stopped steps m0 m out out' err err' fd → HasRun m → m0 ≡ start file → Settled (exec_due file steps) out out' err err' bench SinkFault
  machine_cut err' m0 m fd s run e =
      let stopped = subst (λ x. Stopped steps x m out out' err err' fd) e s in
      inr (refl, at_write (record { file = file; machine = m; fd = fd; ran = refl; stopped = stopped; built = ap (option_map (λ b. b.bytes.items)) run.0; holds = run.1 }))

-- the answers of a file that was read
pub ran_settled : (file : List ℕ) (steps : ℕ) (out out' err err' : Told) (bench : Bench) (machine : State) (result : Outcome) → first_fault file ≡ None → machine ≡ start file → MachineSettled machine steps out out' err err' bench result → RanOut out out' err err' result ⊎ ExecSettled file steps out out' err err' bench result
ran_settled file steps out out' err err' bench machine result is starts settled =
    inr (record { due = exec_due file steps; is = loadable is; settled = settled file starts })

-- a refusal that has a line is that of a test
is_refusal : (fault : Option ElfStop) (stop : ElfStop) (line : List ℕ) → elf_line stop ≡ Some line → IsRefusal fault stop → fault ≡ Some stop
unfolding elf_line
is_refusal fault (stops.Short end) line is h = h
is_refusal fault stops.BadMagic line is h = h
is_refusal fault stops.BadClass line is h = h
is_refusal fault stops.BadKind line is h = h
is_refusal fault stops.BadMachine line is h = h
is_refusal fault stops.BadTable line is h = h
is_refusal fault (stops.Dynamic header) line is h = h
is_refusal fault (stops.BadSegment header) line is h = h
is_refusal fault (stops.Overlapping one other) line is h = h
is_refusal fault (stops.TooLarge size) line is h = h
is_refusal fault stops.NoMemory line is h = absurd (cc)

some_is : (x y : List ℕ) → Some x ≡ Some y → x ≡ y
some_is x y e = cc

-- the line of a refusal is not empty
refusal_has_line : (stop : ElfStop) (line : List ℕ) → elf_line stop ≡ Some line → 0 < length line
unfolding elf_line
refusal_has_line (stops.Short end) line is = has_bytes _ _ line (some_is _ line is)
refusal_has_line stops.BadMagic line is = has_bytes _ _ line (some_is _ line is)
refusal_has_line stops.BadClass line is = has_bytes _ _ line (some_is _ line is)
refusal_has_line stops.BadKind line is = has_bytes _ _ line (some_is _ line is)
refusal_has_line stops.BadMachine line is = has_bytes _ _ line (some_is _ line is)
refusal_has_line stops.BadTable line is = has_bytes _ _ line (some_is _ line is)
refusal_has_line (stops.Dynamic header) line is = has_bytes _ _ line (some_is _ line is)
refusal_has_line (stops.BadSegment header) line is = has_bytes _ _ line (some_is _ line is)
refusal_has_line (stops.Overlapping one other) line is = has_bytes _ _ line (some_is _ line is)
refusal_has_line (stops.TooLarge size) line is = has_bytes _ _ line (some_is _ line is)
refusal_has_line stops.NoMemory line is = absurd (cc)

pub stop_settled : (file : List ℕ) (steps : ℕ) (out err err' : Told) (bench : Bench) (stop : ElfStop) (result : Outcome) → bench.built ≡ None → bench.machine ≡ None → IsRefusal (first_fault file) stop → ((result ≡ NoMemory) × Grew err err' []) ⊎ StopSaid stop result err err' → RanOut out out err err' result ⊎ ExecSettled file steps out out err err' bench result
stop_settled file steps out err err' bench stop result b m h (inl none) = inl (record { answers = none.0; out_same = grew_none out; err_same = none.1 })
stop_settled file steps out err err' bench stop result b m h (inr s) =
    inr (record {
      due = line_due (ElfRefused stop) s.line;
      is = unloadable stop s.line (is_refusal (first_fault file) stop s.line s.is h) s.is;
      settled = said_settled (ElfRefused stop) result s.line out err err' bench (refusal_has_line stop s.line s.is) (ap (option_map (λ b. b.bytes.items)) b) m s.said;
    })
