-- What a run has done after some steps, one put after another.
use Rattle.std.proofs.Common.{◌≡◌, ℕ, ◌+◌, ◌<◌, List, [], ◌++◌, take, length, Option, Some, None, refl, sym, ap, ◌∙◌, subst, append-nil, append_assoc, add-one, arith}
use Rattle.std.specs.Prelude.{option_map}
use Rattle.sx_io.specs.Outside.{Rose}
use Rattle.sx_runs.specs.Machine.{after}
use Rattle.sx_runs.proofs.Steps.{after_ended}
use Rattle.sx_rv_machine.specs.State.{State}
use Rattle.sx_rv_machine.specs.Step.{step_of}
use Rattle.sx_rv_machine.specs.Run.{Running, emitted, written_by, machine_from}
use Rattle.sx_rv_machine.specs.Put.{end_of, Told, Grew, BrokeOff, RanThrough, Stopped, Ran, GaveFront}
use Rattle.sx_rv_machine.specs.declared.machine.Ending.{Ending}
use Rattle.sx_rv_machine.specs.declared.machine.Ending.TheVariants.{Exits, Faults}
use Rattle.sx_rv_machine.specs.declared.machine.Event.{Event}
use Rattle.sx_rv_machine.specs.declared.machine.Event.TheVariants.{Went, Wrote, Exited, Faulted}
use Rattle.sx_rv_machine.specs.declared.runs.RunEnd.{RunEnd}
use Rattle.sx_rv_machine.proofs.Steps.{step_tells, emitted_is, after_last}

abbrev adds : Option (List ℕ) → List ℕ → Option (List ℕ)
adds told bytes = option_map (λ (t : List ℕ). t ++ bytes) told

adds-append : (t : Option (List ℕ)) (x y : List ℕ) → adds (adds t x) y ≡ adds t (x ++ y)
adds-append None x y = refl
adds-append (Some t) x y = ap Some (append_assoc t x y)

adds-nil : (t : Option (List ℕ)) → adds t [] ≡ t
adds-nil None = refl
adds-nil (Some t) = ap Some (append-nil t)

pub grew_none : (a : Told) → Grew a a []
grew_none a = record { told = sym (adds-nil a.bytes); count = refl }

pub grew_then : (a b c : Told) (x y : List ℕ) → Grew a b x → Grew b c y → Grew a c (x ++ y)
grew_then a b c x y p q = record {
  told = q.told ∙ ap (λ t. adds t y) p.told ∙ adds-append a.bytes x y;
  count = q.count ∙ p.count;
}

pub broke_then : (a b c : Told) (x last : List ℕ) → Grew a b x → BrokeOff b c [] last → BrokeOff a c x last
broke_then a b c x last p q = record {
  taken = q.taken;
  told = q.told ∙ ap (λ t. adds t (take q.taken last)) p.told ∙ adds-append a.bytes x (take q.taken last);
  count = subst (λ k. Rose k c.faults) p.count q.count;
}

-- a run from s has come to m after n steps, and its sinks have grown by the outputs
pub record Reached (s : State) (n : ℕ) (m : State) (out out' err err' : Told) : Type 0 where
  pub state : m ≡ (after (machine_from s) n).state
  pub out_grew : Grew out out' (after (machine_from s) n).out
  pub err_grew : Grew err err' (after (machine_from s) n).err

pub reached_start : (s : State) (out err : Told) → Reached s 0 s out out err err
reached_start s out err = record { state = refl; out_grew = grew_none out; err_grew = grew_none err }

-- one step, and what it puts
pub reached_next : (s m m' : State) (n : ℕ) (v : Event) (o o' o'' e e' e'' : Told) → Reached s n m o o' e e' → m' ≡ (step_of m).state → (step_of m).event ≡ v
    → Grew o' o'' (written_by m'.memory v 1) → Grew e' e'' (written_by m'.memory v 2) → Reached s (n + 1) m' o o'' e e''
reached_next s m m' n v o o' o'' e e' e'' r to is one two =
    let R : Running = after (machine_from s) n in
    let wrote : (k : ℕ) → written_by m'.memory v k ≡ emitted R.state k = λ k. ap (λ (x : State). written_by x.memory v k) to ∙ emitted_is m v k is ∙ ap (λ (x : State). emitted x k) r.state in
    let last = sym (after_last s n) in
    record {
      state = to ∙ ap (λ (x : State). (step_of x).state) r.state ∙ ap (λ (x : Running). x.state) last;
      out_grew = subst (λ (x : Running). Grew o o'' x.out) last (grew_then o o' o'' R.out (emitted R.state 1) r.out_grew (subst (λ b. Grew o' o'' b) (wrote 1) one));
      err_grew = subst (λ (x : Running). Grew e e'' x.err) last (grew_then e e' e'' R.err (emitted R.state 2) r.err_grew (subst (λ b. Grew e' e'' b) (wrote 2) two));
    }

ran_by_end : (steps : ℕ) (s m : State) (o o' e e' : Told) (x : Option Ending) (end : RunEnd) → end ≡ end_of x → RanThrough steps s m o o' e e' end → Ran steps s m o o' e e' end
ran_by_end steps s m o o' e e' None end is r = subst (λ v. Ran steps s m o o' e e' v) (sym is) (subst (λ v. RanThrough steps s m o o' e e' v) is r)
ran_by_end steps s m o o' e e' (Some (Exits status)) end is r = subst (λ v. Ran steps s m o o' e e' v) (sym is) (subst (λ v. RanThrough steps s m o o' e e' v) is r)
ran_by_end steps s m o o' e e' (Some (Faults k at)) end is r = subst (λ v. Ran steps s m o o' e e' v) (sym is) (subst (λ v. RanThrough steps s m o o' e e' v) is r)

-- a run through all its steps
pub ran_through : (steps : ℕ) (s m : State) (o o' e e' : Told) (end : RunEnd) → Reached s steps m o o' e e' → end ≡ end_of m.ending → Ran steps s m o o' e e' end
ran_through steps s m o o' e e' end r is =
    ran_by_end steps s m o o' e e' m.ending end is (record { state = r.state; answer = is; out_grew = r.out_grew; err_grew = r.err_grew })

-- an event that ends
abbrev pub IsOver : Event → Type 0
IsOver Went = ⊥
IsOver (Wrote fd address length) = ⊥
IsOver (Exited status) = Unit {0}
IsOver (Faulted kind at) = Unit {0}

over_ends : (m : State) (v : Event) → IsOver v → (step_of m).event ≡ v → (x : Ending) × ((step_of m).state.ending ≡ Some x)
over_ends m Went over is = absurd over
over_ends m (Wrote fd address length) over is = absurd over
over_ends m (Exited status) over is = step_tells m (Exited status) is
over_ends m (Faulted kind at) over is = step_tells m (Faulted kind at) is

over_quiet : (m : State) (v : Event) (k : ℕ) → IsOver v → written_by m.memory v k ≡ []
over_quiet m Went k over = absurd over
over_quiet m (Wrote fd address length) k over = absurd over
over_quiet m (Exited status) k over = refl
over_quiet m (Faulted kind at) k over = refl

-- a run that has ended within its steps
pub ran_over : (steps n : ℕ) (s m m' : State) (v : Event) (o o' e e' : Told) (end : RunEnd) → n < steps → Reached s n m o o' e e' → m' ≡ (step_of m).state → (step_of m).event ≡ v → IsOver v → end ≡ end_of m'.ending → Ran steps s m' o o' e e' end
ran_over steps n s m m' v o o' e e' end lt r to is over answer =
    let quiet = λ (k : ℕ) (t : Told). subst (λ b. Grew t t b) (sym (over_quiet m' v k over)) (grew_none t) in
    let there : Reached s (n + 1) m' o o' e e' = reached_next s m m' n v o o' o' e e' e' r to is (quiet 1 o') (quiet 2 e') in
    let ends = over_ends m v over is in
    let ended : (after (machine_from s) (n + 1)).state.ending ≡ Some ends.0 = ap (λ (x : State). x.ending) (sym there.state ∙ to) ∙ ends.1 in
    let stays : after (machine_from s) steps ≡ after (machine_from s) (n + 1) = after_ended (machine_from s) (n + 1) steps ends.0 (omega arith) ended in
    ran_through steps s m' o o' e e' end
    (record {
      state = there.state ∙ ap (λ (x : Running). x.state) (sym stays);
      out_grew = subst (λ (x : Running). Grew o o' x.out) (sym stays) there.out_grew;
      err_grew = subst (λ (x : Running). Grew e e' x.err) (sym stays) there.err_grew;
    })
    answer

-- a run that a failed put has stopped
pub stopped : (steps n : ℕ) (s m m' : State) (v : Event) (fd : ℕ) (o o' o'' e e' e'' : Told) → n < steps → Reached s n m o o' e e' → m' ≡ (step_of m).state → (step_of m).event ≡ v
    → GaveFront fd (written_by m'.memory v 1) (written_by m'.memory v 2) o' o'' e' e'' → Stopped steps s m' o o'' e e'' fd
stopped steps n s m m' v fd o o' o'' e e' e'' lt r to is g =
    let R : Running = after (machine_from s) n in
    let wrote : (k : ℕ) → written_by m'.memory v k ≡ emitted R.state k = λ k. ap (λ (x : State). written_by x.memory v k) to ∙ emitted_is m v k is ∙ ap (λ (x : State). emitted x k) r.state in
    let whole_out = λ (q : Grew o' o'' []). subst (λ b. Grew o o'' b) (append-nil R.out) (grew_then o o' o'' R.out [] r.out_grew q) in
    let whole_err = λ (q : Grew e' e'' []). subst (λ b. Grew e e'' b) (append-nil R.err) (grew_then e e' e'' R.err [] r.err_grew q) in
    record {
      before = n;
      within = lt;
      state = to ∙ ap (λ (x : State). (step_of x).state) r.state ∙ ap (λ (x : Running). x.state) (sym (after_last s n)) ∙ ap (λ k. (after (machine_from s) k).state) (add-one n);
      output = g.output;
      out_wrote = λ h. subst (λ b. 0 < length b) (wrote 1) (g.out_wrote h);
      err_wrote = λ h. subst (λ b. 0 < length b) (wrote 2) (g.err_wrote h);
      out_broke = λ h. broke_then o o' o'' R.out (emitted R.state 1) r.out_grew (subst (λ b. BrokeOff o' o'' [] b) (wrote 1) (g.out_broke h));
      out_whole = λ h. whole_out (g.out_whole h);
      err_broke = λ h. broke_then e e' e'' R.err (emitted R.state 2) r.err_grew (subst (λ b. BrokeOff e' e'' [] b) (wrote 2) (g.err_broke h));
      err_whole = λ h. whole_err (g.err_whole h);
    }
