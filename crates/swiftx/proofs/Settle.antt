-- From what the machine's run does to what was due.
use Rattle.std.proofs.Common.{◌≡◌, inl, inr, ℕ, ◌<◌, List, ◌∷◌, length, Option, Some, None, sym, refl, ap, ◌∙◌, subst, arith, append-nil}
use Rattle.std.specs.Prelude.{option_map}
use Rattle.sx_runs.specs.Machine.{after, shown, option_as}
use Rattle.sx_rv_isa.specs.declared.faults.MachineKind.{MachineKind}
use Rattle.sx_rv_machine.proofs.Puts.{grew_none}
use Rattle.sx_runs.specs.Ending.{Status, Broken as BrokenEnd}
use Rattle.sx_runs.proofs.Steps.{renamed-steps}
use Rattle.sx_rv_machine.specs.State.{State}
use Rattle.sx_rv_machine.specs.Run.{Running, machine_from}
use Rattle.sx_rv_machine.specs.Put.{Told, Grew, RanThrough, Stopped, end_of}
use Rattle.sx_rv_machine.specs.declared.machine.Ending.{Ending}
use Rattle.sx_rv_machine.specs.declared.machine.Ending.TheVariants.{Exits, Faults}
use Rattle.sx_rv_machine.specs.declared.runs.RunEnd.{RunEnd}
use Rattle.sx_rv_machine.specs.declared.runs.RunEnd.TheVariants as ends
use Rattle.swiftx.specs.Target.{as_end, start, target}
use Rattle.swiftx.specs.Due.{run_due, line_due, ends_as}
use Rattle.swiftx.specs.Answer.{Completed, Broken, at_write, at_line}
use Rattle.swiftx.specs.Parts.{Said, Settled, FileSettled}
use Rattle.swiftx.specs.declared.outcome.Outcome.{Outcome}
use Rattle.swiftx.specs.declared.outcome.Outcome.TheVariants.{Exited, Budget, SinkFault}
use Rattle.swiftx.specs.declared.bench.Bench.{Bench}

-- the machine of a file takes the same steps under the shared endings
pub same_run : (file : List ℕ) (n : ℕ) → after (target file) n ≡ after (machine_from (start file)) n
same_run file n = renamed-steps as_end (machine_from (start file)) n (machine_from (start file)).start

module _ (file : List ℕ) (steps : ℕ) (out out' err err' : Told) (bench : Bench) where
  completed : (m : State) (outcome : Outcome) (end : RunEnd) → RanThrough steps (start file) m out out' err err' end → option_map (λ b. b.bytes.items) bench.built ≡ Some file → bench.machine ≡ Some m → Completed (run_due outcome file steps) out out' err err' bench outcome
  completed m outcome end r built machine =
      let s = sym (same_run file steps) in
      record {
        answers = refl;
        out_grew = subst (λ (x : Running). Grew out out' x.out) s r.out_grew;
        err_grew = subst (λ x. Grew err err' x) (sym (append-nil (shown (target file) steps).err)) (subst (λ (x : Running). Grew err err' x.err) s r.err_grew);
        bench_holds = record { built = built; machine = machine ∙ ap Some (r.state ∙ ap (λ (x : Running). x.state) s) };
      }

  broken : (m : State) (outcome : Outcome) (fd : ℕ) → Stopped steps (start file) m out out' err err' fd → option_map (λ b. b.bytes.items) bench.built ≡ Some file → bench.machine ≡ Some m → Broken (run_due outcome file steps) out out' err err' bench
  broken m outcome fd s built machine = at_write (record { file = file; machine = m; fd = fd; ran = refl; stopped = s; built = built; holds = machine })

  -- the ending that the layers share, of the machine's own
  ending_is : (m : State) → m ≡ (after (machine_from (start file)) steps).state → (shown (target file) steps).ending ≡ option_as as_end m.ending
  ending_is m e = ap (λ (x : Running). option_as as_end x.state.ending) (same_run file steps) ∙ ap (λ (x : State). option_as as_end x.ending) (sym e)

  exits_with : (o : Option Ending) (status : ℕ) → ends.Exited status ≡ end_of o → option_as as_end o ≡ Some (Status status)
  exits_with None status e = absurd (cc)
  exits_with (Some (Exits s)) status e = cc
  exits_with (Some (Faults kind pc)) status e = absurd (cc)

  goes_on : (o : Option Ending) → ends.Budget ≡ end_of o → option_as as_end o ≡ None
  goes_on None e = refl
  goes_on (Some (Exits s)) e = absurd (cc)
  goes_on (Some (Faults kind pc)) e = absurd (cc)

  breaks : (o : Option Ending) (k : MachineKind) (at : ℕ) → ends.Faulted k at ≡ end_of o → option_as as_end o ≡ Some BrokenEnd
  breaks None k at e = absurd (cc)
  breaks (Some (Exits s)) k at e = absurd (cc)
  breaks (Some (Faults kind pc)) k at e = refl

  abbrev IsSound : Type 0
  IsSound = (n : ℕ) → (shown (target file) n).ending ≡ Some BrokenEnd → ⊥

  abbrev HasBuilt : Type 0
  HasBuilt = option_map (λ b. b.bytes.items) bench.built ≡ Some file

  pub file_exited : (m0 m : State) (status : ℕ) → m0 ≡ start file → RanThrough steps m0 m out out' err err' (ends.Exited status) → HasBuilt → bench.machine ≡ Some m → FileSettled file steps out out' err err' bench (Exited status)
  file_exited m0 m status e r built machine =
      let r' = subst (λ x. RanThrough steps x m out out' err err' (ends.Exited status)) e r in
      record {
        outcome = Exited status;
        ends = ap Some (sym (ending_is m r'.state ∙ exits_with m.ending status r'.answer));
        settled = inl (completed m (Exited status) (ends.Exited status) r' built machine);
      }

  pub file_budget : (m0 m : State) → m0 ≡ start file → RanThrough steps m0 m out out' err err' ends.Budget → HasBuilt → bench.machine ≡ Some m → FileSettled file steps out out' err err' bench Budget
  file_budget m0 m e r built machine =
      let r' = subst (λ x. RanThrough steps x m out out' err err' ends.Budget) e r in
      record {
        outcome = Budget;
        ends = ap Some (sym (ending_is m r'.state ∙ goes_on m.ending r'.answer));
        settled = inl (completed m Budget ends.Budget r' built machine);
      }

  pub file_faulted : (m0 m : State) (k : MachineKind) (at : ℕ) → m0 ≡ start file → RanThrough steps m0 m out out' err err' (ends.Faulted k at) → IsSound → ⊥
  file_faulted m0 m k at e r sound =
      let r' = subst (λ x. RanThrough steps x m out out' err err' (ends.Faulted k at)) e r in
      sound steps (ending_is m r'.state ∙ breaks m.ending k at r'.answer)

  -- the outcome that was due where a put failed
  due_outcome : (o : Option Ending) → (shown (target file) steps).ending ≡ option_as as_end o → IsSound → (outcome : Outcome) × (ends_as outcome ≡ Some (shown (target file) steps).ending)
  due_outcome None e sound = (Budget, ap Some (sym e))
  due_outcome (Some (Exits s)) e sound = (Exited s, ap Some (sym e))
  due_outcome (Some (Faults kind pc)) e sound = absurd (sound steps e)

  pub file_cut : (m0 m : State) (fd : ℕ) → m0 ≡ start file → Stopped steps m0 m out out' err err' fd → IsSound → HasBuilt → bench.machine ≡ Some m → FileSettled file steps out out' err err' bench SinkFault
  file_cut m0 m fd e s sound built machine =
      let s' = subst (λ x. Stopped steps x m out out' err err' fd) e s in
      let last = (after (machine_from (start file)) steps).state in
      let d = due_outcome last.ending (ending_is last refl) sound in
      record { outcome = d.0; ends = d.1; settled = inr (refl, broken m d.0 fd s' built machine) }

-- a text that begins with a byte is not empty
pub has_bytes : (c : ℕ) (cs line : List ℕ) → c ∷ cs ≡ line → 0 < length line
has_bytes c cs line e = subst (λ x. 0 < length x) e (omega arith)

-- a line that was said, or not
pub said_settled : (about result : Outcome) (line : List ℕ) (out err err' : Told) (bench : Bench) → 0 < length line → option_map (λ b. b.bytes.items) bench.built ≡ None → bench.machine ≡ None → Said about result line err err' → Settled (line_due about line) out out err err' bench result
said_settled about result line out err err' bench some b m (inl s) =
    inl (record { answers = s.0; out_grew = grew_none out; err_grew = s.1; bench_holds = record { built = b; machine = m } })
said_settled about result line out err err' bench some b m (inr s) =
    inr (s.0, at_line (record { has_line = some; out_grew = grew_none out; err_broke = s.1; bench_holds = record { built = b; machine = m } }))
