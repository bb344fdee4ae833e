-- From answers to some steps at once to performing, both ways.
use Rattle.std.proofs.Common.{◌≡◌, ℕ, zero, suc, ◌+◌, ◌-◌, ◌<◌, ◌≤◌, Option, Some, None, ◌⊎◌, inl, inr, ⊎_elim, refl, sym, ap, ◌∙◌, subst, arith}
use Rattle.std.proofs.lemmas.Bool.{cases_lt}
use Rattle.sx_runs.specs.Machine.{Seen, Machine, steps, after, shown, cost_of}
use Rattle.sx_runs.specs.Performs.{IsWithin, PerformsAll, PerformsWithin}
use Rattle.sx_runs.specs.Simulation.{Grown, IsGrowing, Coupling, Reaches, BlockReply, BlockSimulation}
use Rattle.sx_runs.proofs.Steps.{steps-add, cost_of-add, steps_ended, grown_steps}
use Rattle.sx_runs.proofs.Laws.{shows_from_path, without_events_shows}

module _ {T V E : Type 0} (B : Machine T V E) (wb : T → ℕ) (P : T → Type 0) where
  -- B's steps of a reply and further ones
  pub reply_then : (k m p : ℕ) (b to : T) → Reaches B wb P b to k p → steps B (k + m) b ≡ steps B m to
  reply_then k m p b to g = steps-add B k m b ∙ ap (λ x. steps B m x) g.is

  pub cost_of_then : (k m p : ℕ) (b to : T) → Reaches B wb P b to k p → cost_of B wb (k + m) b ≤ p + cost_of B wb m to
  cost_of_then k m p b to g =
      let e = cost_of-add B wb k m b ∙ ap (λ x. cost_of B wb k b + cost_of B wb m x) g.is in
      omega (arith, e, g.cost)

  -- a state of B that is on the way to one that shows the same as A's
  pub within_at : IsGrowing B → (s : Seen V E) (b : T) (d : ℕ) → s ≡ B.see (steps B d b) → IsWithin (B.see b) s
  within_at g s b d e =
      let w = subst (λ t. Grown (B.see b) t) (sym e) (grown_steps B g d b) in
      record { out = w.out; err = w.err; events = w.events; ended = λ x h. e ∙ ap B.see (steps_ended B d b x h) }

module _ {S T V E : Type 0} (A : Machine S V E) (B : Machine T V E) (t : Coupling S T) (sim : BlockSimulation A B t) where
  abbrev Keeps : S → Type 0
  Keeps a = (i : ℕ) → t.holds (steps A i a)

  keeps_on : (k : ℕ) (a : S) → Keeps a → Keeps (steps A k a)
  keeps_on k a inv i = subst t.holds (steps-add A k i a) (inv (k + i))

  abbrev HasEnded : S → Type 0
  HasEnded a = (e : E) × ((A.see a).ending ≡ Some e)

  -- whether a state has ended
  abbrev Going : S → Type 0
  Going a = (A.see a).ending ≡ None ⊎ HasEnded a

  going : (a : S) → Going a
  going a = by (A.see a).ending refl
    where
      by : (o : Option E) → (A.see a).ending ≡ o → Going a
      by None e = inl e
      by (Some x) e = inr (x, e)

  over_too : (a : S) (b : T) → t.holds a → t.relates a b → (e : E) → (A.see a).ending ≡ Some e → (B.see b).ending ≡ Some e
  over_too a b i r e h = ap (λ x. x.ending) (sym (sim.see a b i r)) ∙ h

  -- what A shows after some steps, B shows at no greater cost
  abbrev ShownBy : ℕ → S → T → Type 0
  ShownBy n a b = (m : ℕ) × (A.see (steps A n a) ≡ B.see (steps B m b)) × cost_of B t.price m b ≤ cost_of A t.cost n a

  shows_more : (f n : ℕ) (a : S) (b : T) → Keeps a → t.relates a b → (p : BlockReply A B t a b) → ((n' : ℕ) → n' < f → ShownBy n' (steps A (suc p.more) a) p.to) → n < suc f → ShownBy n a b
  shows_more f zero a b inv r p ih l = (0, sim.see a b (inv 0) r, omega arith)
  shows_more f (suc n) a b inv r p ih l =
      ⊎_elim
      (λ early.
      ⊎_elim
      (λ old. (0, old ∙ sim.see a b (inv 0) r, omega arith))
      (λ new. (
        p.count,
        new ∙ sim.see (steps A (suc p.more) a) p.to (inv (suc p.more)) p.related ∙ ap B.see (sym p.reaches.is),
        omega (arith, p.reaches.cost, p.within),
      ))
      (p.between (suc n) (omega arith)))
      (λ late.
      let q = ih (n - p.more) (omega (arith, l, late)) in
      let k : suc p.more + (n - p.more) ≡ suc n = omega (arith, late) in
      let there = sym (steps-add A (suc p.more) (n - p.more) a) ∙ ap (λ x. steps A x a) k in
      let paid = sym (cost_of-add A t.cost (suc p.more) (n - p.more) a) ∙ ap (λ x. cost_of A t.cost x a) k in (
        p.count + q.0,
        sym (ap A.see there) ∙ q.1 ∙ ap B.see (sym (reply_then B t.price (t.meanwhile a) p.count q.0 p.most b p.to p.reaches)),
        omega (arith, paid, cost_of_then B t.price (t.meanwhile a) p.count q.0 p.most b p.to p.reaches, q.2, p.within),
      ))
      (cases_lt n p.more)

  shows_from : (f n : ℕ) (a : S) (b : T) → Keeps a → t.relates a b → n < f → ShownBy n a b
  shows_from zero n a b inv r l = absurd (omega arith)
  shows_from (suc f) n a b inv r l =
      ⊎_elim
      (λ on.
      let p = sim.reply a b inv r on in
      shows_more f n a b inv r p (λ n' l'. shows_from f n' (steps A (suc p.more) a) p.to (keeps_on (suc p.more) a inv) p.related l') l)
      (λ over. (0, ap A.see (steps_ended A n a over.0 over.1) ∙ sim.see a b (inv 0) r, omega arith))
      (going a)

  -- A comes to a state that B comes to by one step or more, or it ends
  abbrev Answered : S → T → Type 0
  Answered a b = (n k : ℕ) × t.relates (steps A n a) (steps B k b) × (0 < k ⊎ HasEnded (steps A n a))

  answered : (f : ℕ) (a : S) (b : T) → Keeps a → t.relates a b → t.measure a < f → Answered a b
  answered zero a b inv r le = absurd (omega arith)
  answered (suc f) a b inv r le =
      ⊎_elim
      (λ on. let p = sim.reply a b inv r on in
      by p (λ l. answered f (steps A (suc p.more) a) p.to (keeps_on (suc p.more) a inv) p.related l))
      (λ over. (0, 0, r, inr over))
      (going a)
    where
      by : (p : BlockReply A B t a b) → (t.measure (steps A (suc p.more) a) < f → Answered (steps A (suc p.more) a) p.to) → Answered a b
      by p ih =
          ⊎_elim
          (λ some. (suc p.more, p.count, subst (λ x. t.relates (steps A (suc p.more) a) x) (sym p.reaches.is) p.related, inl some))
          (λ none.
          let z : p.count ≡ 0 = omega (arith, none) in
          let q = ih (omega (arith, p.falls z, le)) in
          let same = steps-add A (suc p.more) q.0 a in (
            suc p.more + q.0,
            p.count + q.1,
            subst (λ x. t.relates x (steps B (p.count + q.1) b)) (sym same) (subst (λ x. t.relates (steps A q.0 (steps A (suc p.more) a)) x) (sym (reply_then B t.price (t.meanwhile a) p.count q.1 p.most b p.to p.reaches)) q.2),
            ⊎_elim (λ l. inl (omega (arith, l))) (λ h. inr (h.0, ap (λ x. (A.see x).ending) same ∙ h.1)) q.3,
          ))
          (cases_lt 0 p.count)

  -- after each number of B's steps, B comes in some more to a state that is related to one of A's
  covered : (m : ℕ) (a : S) (b : T) → Keeps a → t.relates a b → (n d : ℕ) × t.relates (steps A n a) (steps B (m + d) b)
  covered zero a b inv r = (0, 0, r)
  covered (suc m) a b inv r =
      let q = answered (suc (t.measure a)) a b inv r (omega arith) in
      ⊎_elim
      (λ l.
      let u = covered m (steps A q.0 a) (steps B q.1 b) (keeps_on q.0 a inv) q.2 in
      let n : q.1 + (m + u.1) ≡ suc m + (q.1 - 1 + u.1) = omega (arith, l) in
      let same : steps B (m + u.1) (steps B q.1 b) ≡ steps B (suc m + (q.1 - 1 + u.1)) b = sym (steps-add B q.1 (m + u.1) b) ∙ ap (λ k. steps B k b) n in
      (q.0 + u.0, q.1 - 1 + u.1, subst (λ x. t.relates x (steps B (suc m + (q.1 - 1 + u.1)) b)) (sym (steps-add A q.0 u.0 a)) (subst (λ x. t.relates (steps A u.0 (steps A q.0 a)) x) same u.2)))
      (λ h.
      let over = over_too (steps A q.0 a) (steps B q.1 b) (inv q.0) q.2 h.0 h.1 in
      let n : q.1 + suc m ≡ suc m + q.1 = omega arith in
      let still : steps B (suc m) (steps B q.1 b) ≡ steps B q.1 b = steps_ended B (suc m) (steps B q.1 b) h.0 over in
      let same : steps B q.1 b ≡ steps B (suc m + q.1) b = sym still ∙ sym (steps-add B q.1 (suc m) b) ∙ ap (λ k. steps B k b) n in
      (q.0, q.1, subst (λ x. t.relates (steps A q.0 a) x) same q.2))
      q.3

  -- each state of B is on the way to one that is related to one of A's
  pub catches_up : (m : ℕ) → (n d : ℕ) × t.relates (after A n) (after B (m + d))
  catches_up m = covered m A.start B.start sim.reached sim.start

  shown_by : (n : ℕ) → ShownBy n A.start B.start
  shown_by n = shows_from (suc n) n A.start B.start sim.reached sim.start (omega arith)

  pub blocks_perform : PerformsAll A B
  blocks_perform =
      record {
        forth = λ n. let x = shown_by n in (x.0, shows_from_path (shown A n) (shown B x.0) x.1);
        back = λ m. let x = catches_up m in
            let e = sim.see (after A x.0) (after B (m + x.1)) (sim.reached x.0) x.2 ∙ ap B.see (steps-add B m x.1 B.start) in
            (x.0, within_at B t.price (λ b. t.relates A.start b) sim.grows (shown A x.0) (after B m) x.1 e);
      }

  pub blocks_perform_within : PerformsWithin A t.cost B t.price
  blocks_perform_within = record { forth = λ n. let x = shown_by n in (x.0, without_events_shows (shown A n) (shown B x.0) (shows_from_path (shown A n) (shown B x.0) x.1), x.2) }
