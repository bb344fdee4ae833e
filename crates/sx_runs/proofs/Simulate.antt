-- From a simulation to performing, both ways.
use Rattle.std.proofs.Common.{◌≡◌, ℕ, zero, suc, ◌+◌, ◌-◌, ◌<◌, ◌≤◌, Option, Some, None, inl, ⊎_elim, refl, sym, ap, ◌∙◌, subst, arith}
use Rattle.std.proofs.lemmas.Bool.{cases_lt}
use Rattle.sx_runs.specs.Machine.{Machine, step, steps, after, shown, cost_of, total_cost, without_events, eventless}
use Rattle.sx_runs.specs.Performs.{Shows, Performs, PerformsAll, PerformsWithin}
use Rattle.sx_runs.specs.Simulation.{Coupling, Reply, Simulation, BlockSimulation}
use Rattle.sx_runs.proofs.Steps.{step_on, step_ended, steps_ended, eventless-cost}
use Rattle.sx_runs.proofs.Laws.{performs_from_eventless, shown-eventless}
use Rattle.sx_runs.proofs.Blocks.{reply_then, cost_of_then, catches_up, blocks_perform, blocks_perform_within}

module _ {S T V E : Type 0} (A : Machine S V E) (B : Machine T V E) (t : Coupling S T) (sim : Simulation A B t) where
  abbrev Keeps : S → Type 0
  Keeps a = (i : ℕ) → t.holds (steps A i a)

  -- the answer to a step from a state that has not ended
  reply_of : (a : S) (b : T) → Keeps a → t.relates a b → (A.see a).ending ≡ None → Reply A B t a b
  reply_of a b inv r e = sim.reply a b (inv 0) (subst t.holds (step_on A a e) (inv 1)) r e

  -- as answers to one step at once
  pub as_blocks : BlockSimulation A B t
  as_blocks = record {
    reached = sim.reached;
    grows = sim.grows;
    start = sim.start;
    see = sim.see;
    ended = sim.ended;
    reply = λ a b inv r e.
        let p = reply_of a b inv r e in
        let back = sym (step_on A a e) in
        record {
          more = 0;
          count = p.count;
          most = p.most;
          to = p.to;
          reaches = p.reaches;
          related = subst (λ x. t.relates x p.to) back p.related;
          between = λ i l. let z : i ≡ 0 = omega (arith, l) in inl (ap (λ k. A.see (steps A k a)) z);
          falls = λ z. subst (λ x. t.measure x < t.measure a) back (p.falls z);
          within = p.within;
        };
  }

  pub simulated : PerformsAll A B
  simulated = blocks_perform A B t as_blocks

  pub simulated_within : PerformsWithin A t.cost B t.price
  simulated_within = blocks_perform_within A B t as_blocks

  -- after each number of A's steps, B comes to a related state, at no greater cost
  run_from : (n : ℕ) (a : S) (b : T) → Keeps a → t.relates a b → (m : ℕ) × t.relates (steps A n a) (steps B m b) × cost_of B t.price m b ≤ cost_of A t.cost n a
  run_from zero a b inv r = (0, r, omega arith)
  run_from (suc n) a b inv r = by (λ b' r'. run_from n (step A a) b' (λ i. inv (suc i)) r') (A.see a).ending refl
    where
      by : ((b' : T) → t.relates (step A a) b' → (m : ℕ) × t.relates (steps A n (step A a)) (steps B m b') × cost_of B t.price m b' ≤ cost_of A t.cost n (step A a)) → (o : Option E) → (A.see a).ending ≡ o → (m : ℕ) × t.relates (steps A n (step A a)) (steps B m b) × cost_of B t.price m b ≤ t.cost a + cost_of A t.cost n (step A a)
      by ih None e =
          let p = reply_of a b inv r e in
          let q = ih p.to (subst (λ x. t.relates x p.to) (sym (step_on A a e)) p.related) in (
            p.count + q.0,
            subst (λ x. t.relates (steps A n (step A a)) x) (sym (reply_then B t.price (t.meanwhile a) p.count q.0 p.most b p.to p.reaches)) q.1,
            omega (arith, cost_of_then B t.price (t.meanwhile a) p.count q.0 p.most b p.to p.reaches, p.within, q.2),
          )
      by ih (Some f) e =
          let q = ih b (subst (λ x. t.relates x b) (sym (step_ended A a f e)) r) in
          (q.0, q.1, omega (arith, q.2))

  pub relates_at : (n : ℕ) → (m : ℕ) × t.relates (after A n) (after B m) × total_cost B t.price m ≤ total_cost A t.cost n
  relates_at n = run_from n A.start B.start sim.reached sim.start

  -- each state of B is on the way to one that is related to one of A's
  pub comes_to_relate : (m : ℕ) → (n d : ℕ) × t.relates (after A n) (after B (m + d))
  comes_to_relate = catches_up A B t as_blocks

  abbrev Seeks : ℕ → ℕ → ℕ → Type 0
  Seeks f g m = (a : S) (b : T) → Keeps a → t.relates a b → m < f → t.measure a < g → (n : ℕ) × t.meanwhile (steps A n a) (steps B m b)

  -- the same from the state after A's step
  abbrev SeeksNext : ℕ → ℕ → S → Type 0
  SeeksNext f g a = (m : ℕ) (b : T) → t.relates (step A a) b → m < f → t.measure (step A a) < g → (n : ℕ) × t.meanwhile (steps A n (step A a)) (steps B m b)

  seek : (f : ℕ) → ((m g : ℕ) → Seeks f g m) → (g m : ℕ) → Seeks (suc f) g m
  seek f ih zero m a b inv r l le = absurd (omega arith)
  seek f ih (suc g) m a b inv r l le = by (λ m' b' r' l' le'. seek f ih g m' (step A a) b' (λ i. inv (suc i)) r' l' le') (A.see a).ending refl
    where
      on : SeeksNext (suc f) g a → (A.see a).ending ≡ None → Reply A B t a b → (n : ℕ) × t.meanwhile (steps A n a) (steps B m b)
      on ih' e p =
          ⊎_elim
          (λ early. (0, p.reaches.through m early))
          (λ late.
          let back = sym (step_on A a e) in
          let r' : t.relates (step A a) p.to = subst (λ x. t.relates x p.to) back p.related in
          let k : p.count + (m - p.count) ≡ m = omega (arith, late) in
          let there = sym (reply_then B t.price (t.meanwhile a) p.count (m - p.count) p.most b p.to p.reaches) ∙ ap (λ x. steps B x b) k in
          let found : (n : ℕ) × t.meanwhile (steps A n (step A a)) (steps B (m - p.count) p.to) =
          ⊎_elim
          (λ some. ih (m - p.count) (suc (t.measure (step A a))) (step A a) p.to (λ i. inv (suc i)) r' (omega (arith, some, l, late)) (omega arith))
          (λ none.
          let z : p.count ≡ 0 = omega (arith, none) in
          let low : t.measure (A.next a) < g = omega (arith, p.falls z, le) in
          ih' (m - p.count) p.to r' (omega (arith, l)) (subst (λ x. t.measure x < g) back low))
          (cases_lt 0 p.count) in
          (suc found.0, subst (λ x. t.meanwhile (steps A found.0 (step A a)) x) there found.1))
          (cases_lt m p.count)

      by : SeeksNext (suc f) g a → (o : Option E) → (A.see a).ending ≡ o → (n : ℕ) × t.meanwhile (steps A n a) (steps B m b)
      by ih' None e = on ih' e (reply_of a b inv r e)
      by ih' (Some x) e =
          let over = ap (λ s. s.ending) (sym (sim.see a b (inv 0) r)) ∙ e in
          (0, subst (λ y. t.meanwhile a y) (sym (steps_ended B m b x over)) (sim.ended a b x (inv 0) r e))

  seeks : (f m g : ℕ) → Seeks f g m
  seeks zero m g a b inv r l le = absurd (omega arith)
  seeks (suc f) m g a b inv r l le = seek f (λ m' g'. seeks f m' g') g m a b inv r l le

  -- at each number of B's steps, what holds meanwhile holds of B's state and of one that A comes to
  pub watched : (m : ℕ) → (n : ℕ) × t.meanwhile (after A n) (after B m)
  watched m = seeks (suc m) m (suc (t.measure A.start)) A.start B.start sim.reached sim.start (omega arith) (omega arith)

-- where the events are left out
pub simulated_without_events : {S T V W E : Type 0} (A : Machine S V E) (B : Machine T W E) (t : Coupling S T) → Simulation (eventless A) (eventless B) t → Performs A B × PerformsWithin A t.cost B t.price
simulated_without_events A B t sim =
    let q = simulated_within (eventless A) (eventless B) t sim in (
      performs_from_eventless A B (simulated (eventless A) (eventless B) t sim),
      record {
        forth = λ n. let x = q.forth n in (
          x.0,
          subst (λ s. Shows s (without_events (shown B x.0))) (ap without_events (shown-eventless A n)) (subst (λ y. Shows (without_events (shown (eventless A) n)) y) (ap without_events (shown-eventless B x.0)) x.1),
          omega (arith, x.2, eventless-cost A t.cost n A.start, eventless-cost B t.price x.0 B.start),
        );
      },
    )
