-- Instructions that go straight on are steps of the machine.
use Rattle.std.proofs.Common.{◌≡◌, ℕ, suc, ◌+◌, ◌*◌, ◌%◌, ◌≤◌, List, [], ◌∷◌, length, Bool, true, false, Option, Some, None, refl, sym, ap, ◌∙◌, subst, ⊎_elim, ◌⊎◌, inl, inr, arith}
use Rattle.std.specs.Prelude.{◌==◌, ◌&&◌, is_none, option_and_then, if◌then◌else◌}
use Rattle.std.proofs.lemmas.Bool.{eqb-true}
use Rattle.sx_rv_isa.specs.declared.instructions.Instr.{Instr}
use Rattle.sx_rv_asm.specs.Fetching.{Fetches}
use Rattle.sx_rv_machine.specs.State.{State}
use Rattle.sx_rv_machine.specs.Step.{Stepped, step_of, carried_out}
use Rattle.sx_rv_machine.specs.declared.machine.Event.{Event}
use Rattle.sx_rv_machine.specs.declared.machine.Event.TheVariants.{Went, Wrote, Exited, Faulted}
use Rattle.sx_rv_machine.specs.declared.machine.Ending.{Ending}
use Rattle.sx_rv_link.specs.Following.{LiesFirst, AllWent, steps}
use Rattle.sx_rv_link.specs.Straight.{is_went, straight_on, straight, WentStraight}
use Rattle.sx_rv_link.proofs.Followed.{carried_at}
use Rattle.sx_rv_link.proofs.FirstArea.{first_has_code}
use Rattle.sx_rv_link.proofs.Kept.{step_keeps}

record WentOn (s after : State) (x : Stepped) : Type 0 where
  event : x.event ≡ Went
  state : x.state ≡ after
  pc : x.state.pc ≡ s.pc + 4
  running : x.state.ending ≡ None

went_is : (e : Event) → is_went e ≡ true → e ≡ Went
went_is Went h = refl
went_is (Wrote fd address length) h = absurd (cc)
went_is (Exited status) h = absurd (cc)
went_is (Faulted kind pc) h = absurd (cc)

none_is : (o : Option Ending) → is_none o ≡ true → o ≡ None
none_is None h = refl
none_is (Some e) h = absurd (cc)

both : (x y : Bool) → (x && y) ≡ true → (x ≡ true) × (y ≡ true)
both true y h = (refl, h)
both false y h = absurd (cc)

taken : {A : Type 0} (b : Bool) (x y : A) → (if b then Some x else None) ≡ Some y → (b ≡ true) × (x ≡ y)
taken true x y h = (refl, cc)
taken false x y h = absurd (cc)

went_on : (s after : State) (x : Stepped) → straight_on s x ≡ Some after → WentOn s after x
went_on s after x h =
    let p = taken (is_went x.event && ((x.state.pc == s.pc + 4) && is_none x.state.ending)) x.state after h in
    let q = both (is_went x.event) ((x.state.pc == s.pc + 4) && is_none x.state.ending) p.0 in
    let r = both (x.state.pc == s.pc + 4) (is_none x.state.ending) q.1 in
    record { event = went_is x.event q.0; state = p.1; pc = eqb-true x.state.pc (s.pc + 4) r.0; running = none_is x.state.ending r.1 }

some_or_none : (o : Option State) → ((x : State) × (o ≡ Some x)) ⊎ (o ≡ None)
some_or_none (Some x) = inl (x, refl)
some_or_none None = inr refl

pub straightened : (code : List ℕ) (base at : ℕ) (is : List Instr) (s after : State) → (base + at) % 4 ≡ 0 → at + 4 * length is ≤ length code → Fetches code at is → LiesFirst s.memory base code → s.ending ≡ None → s.pc ≡ base + at → straight is s ≡ Some after → WentStraight s after (length is) (base + (at + 4 * length is))
unfolding steps AllWent
straightened code base at [] s after a l f k r p t =
    let same : s ≡ after = cc in
    let pc : base + at ≡ base + (at + 4 * 0) = omega arith in
    record { quiet = tt; state = same; arrives = ap (λ (x : State). x.pc) (sym same) ∙ p ∙ pc; running = ap (λ (x : State). x.ending) (sym same) ∙ r }
straightened code base at (i ∷ is) s after a l f k r p t = ⊎_elim
    (λ (x : (n : State) × (straight_on s (carried_out s i) ≡ Some n)).
    let next : State = x.0 in
    let w : WentOn s next (carried_out s i) = went_on s next (carried_out s i) x.1 in
    let one : step_of s ≡ carried_out s i = carried_at s code base at i (first_has_code s base code k) (omega arith) a f.0 r p in
    let state : (step_of s).state ≡ next = ap (λ (y : Stepped). y.state) one ∙ w.state in
    let rest : straight is next ≡ Some after = sym (ap (option_and_then (straight is)) x.1) ∙ t in
    let pc : next.pc ≡ base + (at + 4) = (let e : s.pc + 4 ≡ base + (at + 4) = omega arith in ap (λ (y : State). y.pc) (sym w.state) ∙ w.pc ∙ e) in
    let running : next.ending ≡ None = ap (λ (y : State). y.ending) (sym w.state) ∙ w.running in
    let kept : LiesFirst next.memory base code = subst (λ (y : State). LiesFirst y.memory base code) state (step_keeps s base code k) in
    let z : WentStraight next after (length is) (base + (at + 4 + 4 * length is)) = straightened code base (at + 4) is next after (omega arith) (omega arith) f.1 kept running pc rest in
    let end : base + (at + 4 + 4 * length is) ≡ base + (at + 4 * suc (length is)) = omega arith in
    record {
      quiet = (ap (λ (y : Stepped). y.event) one ∙ w.event, subst (λ (y : State). AllWent (length is) y) (sym state) z.quiet);
      state = ap (steps (length is)) state ∙ z.state;
      arrives = z.arrives ∙ end;
      running = z.running;
    })
    (λ (x : straight_on s (carried_out s i) ≡ None). let none : None ≡ Some after = sym (ap (option_and_then (straight is)) x) ∙ t in absurd (cc))
    (some_or_none (straight_on s (carried_out s i)))
