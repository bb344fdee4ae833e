-- Laws of performing.
use Rattle.std.proofs.Common.{◌≡◌, ℕ, zero, suc, ◌+◌, ◌*◌, ◌<◌, ◌≤◌, [], Option, Some, None, refl, sym, ap, ◌∙◌, subst, arith}
use Rattle.std.proofs.Math.Nat.{mul-le-mul_left}
use Rattle.sx_runs.specs.Machine.{Seen, Machine, step, steps, after, shown, cost_of, total_cost, without_events, eventless, option_as, end_as, with_endings}
use Rattle.sx_runs.specs.Performs.{Shows, IsWithin, Performs, PerformsAll, PerformsWithin}
use Rattle.sx_runs.proofs.Steps.{prefix_refl, prefix_trans, eventless-steps, cost_of_ones, after_ended, renamed-steps}

pub shows_refl : {V E : Type 0} (a : Seen V E) → Shows a a
shows_refl a = record { out = refl; err = refl; events = refl; ending = λ e h. h }

pub shows_from_path : {V E : Type 0} (a b : Seen V E) → a ≡ b → Shows a b
shows_from_path a b e = subst (λ x. Shows a x) e (shows_refl a)

pub shows_trans : {V E : Type 0} (a b c : Seen V E) → Shows a b → Shows b c → Shows a c
shows_trans a b c p q =
    record { out = q.out ∙ p.out; err = q.err ∙ p.err; events = q.events ∙ p.events; ending = λ e h. q.ending e (p.ending e h) }

pub within_trans : {V E : Type 0} (a b c : Seen V E) → IsWithin b a → IsWithin c b → IsWithin c a
within_trans a b c p q =
    record {
      out = prefix_trans c.out b.out a.out q.out p.out;
      err = prefix_trans c.err b.err a.err q.err p.err;
      events = prefix_trans c.events b.events a.events q.events p.events;
      ended = λ e h. let bc = q.ended e h in p.ended e (ap (λ s. s.ending) bc ∙ h) ∙ bc;
    }

-- the law of composition
pub performs_trans : {S T X U V W E : Type 0} (A : Machine S U E) (B : Machine T V E) (C : Machine X W E) → Performs A B → Performs B C → Performs A C
performs_trans A B C p q =
    record {
      forth = λ n. let x = p.forth n in let y = q.forth x.0 in (y.0, shows_trans (without_events (shown A n)) (without_events (shown B x.0)) (without_events (shown C y.0)) x.1 y.1);
      back = λ m. let y = q.back m in let x = p.back y.0 in (x.0, within_trans (without_events (shown A x.0)) (without_events (shown B y.0)) (without_events (shown C m)) x.1 y.1);
    }

pub performs_all_trans : {S T X V E : Type 0} (A : Machine S V E) (B : Machine T V E) (C : Machine X V E) → PerformsAll A B → PerformsAll B C → PerformsAll A C
performs_all_trans A B C p q =
    record {
      forth = λ n. let x = p.forth n in let y = q.forth x.0 in (y.0, shows_trans (shown A n) (shown B x.0) (shown C y.0) x.1 y.1);
      back = λ m. let y = q.back m in let x = p.back y.0 in (x.0, within_trans (shown A x.0) (shown B y.0) (shown C m) x.1 y.1);
    }

pub performs_refl : {S V E : Type 0} (A : Machine S V E) → Performs A A
performs_refl A =
    record {
      forth = λ n. (n, shows_refl (without_events (shown A n)));
      back = λ m. (m, record { out = prefix_refl (shown A m).out; err = prefix_refl (shown A m).err; events = prefix_refl []; ended = λ e h. refl });
    }

-- the counted law
pub performs_within_trans : {S T X U V W E : Type 0} (A : Machine S U E) (wa : S → ℕ) (B : Machine T V E) (wb : T → ℕ) (C : Machine X W E) (wc : X → ℕ) → PerformsWithin A wa B wb → PerformsWithin B wb C wc → PerformsWithin A wa C wc
performs_within_trans A wa B wb C wc p q =
    record {
      forth = λ n. let x = p.forth n in let y = q.forth x.0 in
          (y.0, shows_trans (without_events (shown A n)) (without_events (shown B x.0)) (without_events (shown C y.0)) x.1 y.1, omega (arith, x.2, y.2));
    }

-- a dearer step costs more
pub cost_of_le : {S V E : Type 0} (M : Machine S V E) (w v : S → ℕ) → ((s : S) → w s ≤ v s) → (n : ℕ) (s : S) → cost_of M w n s ≤ cost_of M v n s
cost_of_le M w v h zero s = omega arith
cost_of_le M w v h (suc n) s = let a = h s in let b = cost_of_le M w v h n (step M s) in omega (arith, a, b)

-- where no step costs more than c
pub cost_of_bound : {S V E : Type 0} (M : Machine S V E) (w : S → ℕ) (c n : ℕ) (s : S) → ((i : ℕ) → i < n → w (steps M i s) ≤ c) → cost_of M w n s ≤ n * c
cost_of_bound M w c zero s h = omega arith
cost_of_bound M w c (suc n) s h =
    let a : w s ≤ c = h 0 (omega arith) in
    let b : cost_of M w n (step M s) ≤ n * c = cost_of_bound M w c n (step M s) (λ i l. h (suc i) (omega arith)) in
    omega (arith, a, b)

-- a bound on the number of steps, where step i costs c and d for each step before it
pub steps_bound : {S T V W E : Type 0} (A : Machine S V E) (wa : S → ℕ) (B : Machine T W E) → PerformsWithin A wa B (λ s. 1) → (c d : ℕ) → ((i : ℕ) → wa (after A i) ≤ c + d * i) → (n : ℕ) → (m : ℕ) × (m ≤ (c + d * n) * (n + 1)) × Shows (without_events (shown A n)) (without_events (shown B m))
steps_bound A wa B p c d h n =
    let x = p.forth n in
    let each : (i : ℕ) → i < n → wa (after A i) ≤ c + d * n = λ i l. let up : d * i ≤ d * n = mul-le-mul_left d (omega arith) in omega (arith, h i, up) in
    let b : total_cost A wa n ≤ n * (c + d * n) = cost_of_bound A wa (c + d * n) n A.start each in
    let e = cost_of_ones B x.0 B.start in
    (x.0, omega (arith, x.2, b, e), x.1)

-- where B has not ended within a bound, A has not ended
pub not_ended : {S T V W E : Type 0} (A : Machine S V E) (B : Machine T W E) (n k : ℕ) → ((m : ℕ) × (m ≤ k) × Shows (without_events (shown A n)) (without_events (shown B m))) → (shown B k).ending ≡ None → (e : E) → (shown A n).ending ≡ Some e → ⊥
not_ended A B n k p none e h =
    let end : (shown B p.0).ending ≡ Some e = p.2.ending e h in
    let same : (shown B k).ending ≡ Some e = ap (λ s. (B.see s).ending) (after_ended B p.0 k e p.1 end) ∙ end in
    absurd (cc)

-- an ending that A never has, B never has
pub never_ends : {S T V W E : Type 0} (A : Machine S V E) (B : Machine T W E) → Performs A B → (e : E) → ((n : ℕ) → (shown A n).ending ≡ Some e → ⊥) → (m : ℕ) → (shown B m).ending ≡ Some e → ⊥
never_ends A B p e h m end =
    let x = p.back m in
    h x.0 (ap (λ s. s.ending) (x.1.ended e end) ∙ end)

-- without the events
pub without_events_shows : {V E : Type 0} (a b : Seen V E) → Shows a b → Shows (without_events a) (without_events b)
without_events_shows a b p = record { out = p.out; err = p.err; events = refl; ending = p.ending }

pub without_events_within : {V E : Type 0} (b a : Seen V E) → IsWithin b a → IsWithin (without_events b) (without_events a)
without_events_within b a p = record { out = p.out; err = p.err; events = prefix_refl []; ended = λ e h. ap without_events (p.ended e h) }

pub performs_from_all : {S T V E : Type 0} (A : Machine S V E) (B : Machine T V E) → PerformsAll A B → Performs A B
performs_from_all A B p =
    record {
      forth = λ n. let x = p.forth n in (x.0, without_events_shows (shown A n) (shown B x.0) x.1);
      back = λ m. let x = p.back m in (x.0, without_events_within (shown B m) (shown A x.0) x.1);
    }

pub shown-eventless : {S V E : Type 0} (M : Machine S V E) (n : ℕ) → shown (eventless M) n ≡ without_events (shown M n)
shown-eventless M n = ap (λ s. without_events (M.see s)) (eventless-steps M n M.start)

-- between machines without events nothing is left out
pub performs_from_eventless : {S T V W E : Type 0} (A : Machine S V E) (B : Machine T W E) → PerformsAll (eventless A) (eventless B) → Performs A B
performs_from_eventless A B p =
    record {
      forth = λ n. let x = p.forth n in
          (x.0, subst (λ s. Shows s (without_events (shown B x.0))) (shown-eventless A n) (subst (λ t. Shows (shown (eventless A) n) t) (shown-eventless B x.0) x.1));
      back = λ m. let x = p.back m in
          (x.0, subst (λ s. IsWithin (without_events (shown B m)) s) (shown-eventless A x.0) (subst (λ t. IsWithin t (shown (eventless A) x.0)) (shown-eventless B m) x.1));
    }

-- with the endings named anew
ending_from : {E F : Type 0} (f : E → F) (o : Option E) (x : F) → option_as f o ≡ Some x → (e : E) × (o ≡ Some e) × (f e ≡ x)
ending_from f None x h = absurd (cc)
ending_from f (Some e) x h = (e, refl, cc)

pub renamed_shows : {V E F : Type 0} (f : E → F) (a b : Seen V E) → Shows a b → Shows (end_as f a) (end_as f b)
renamed_shows f a b p =
    record {
      out = p.out;
      err = p.err;
      events = p.events;
      ending = λ x h. let y = ending_from f a.ending x h in ap (option_as f) (p.ending y.0 y.1) ∙ ap Some y.2;
    }

pub renamed_within : {V E F : Type 0} (f : E → F) (b a : Seen V E) → IsWithin b a → IsWithin (end_as f b) (end_as f a)
renamed_within f b a p =
    record { out = p.out; err = p.err; events = p.events; ended = λ x h. let y = ending_from f b.ending x h in ap (end_as f) (p.ended y.0 y.1) }

pub shown-renamed : {S V E F : Type 0} (f : E → F) (M : Machine S V E) (n : ℕ) → without_events (shown (with_endings f M) n) ≡ end_as f (without_events (shown M n))
shown-renamed f M n = ap (λ s. without_events (end_as f (M.see s))) (renamed-steps f M n M.start)

pub performs_renamed : {S T V W E F : Type 0} (f : E → F) (A : Machine S V E) (B : Machine T W E) → Performs A B → Performs (with_endings f A) (with_endings f B)
performs_renamed f A B p =
    let a = λ (n : ℕ). without_events (shown A n) in let b = λ (n : ℕ). without_events (shown B n) in
    let fa = λ (n : ℕ). without_events (shown (with_endings f A) n) in let fb = λ (n : ℕ). without_events (shown (with_endings f B) n) in
    record {
      forth = λ n. let x = p.forth n in
          (x.0, subst (λ s. Shows s (fb x.0)) (sym (shown-renamed f A n)) (subst (λ t. Shows (end_as f (a n)) t) (sym (shown-renamed f B x.0)) (renamed_shows f (a n) (b x.0) x.1)));
      back = λ m. let x = p.back m in
          (x.0, subst (λ s. IsWithin (fb m) s) (sym (shown-renamed f A x.0)) (subst (λ t. IsWithin t (end_as f (a x.0))) (sym (shown-renamed f B m)) (renamed_within f (b m) (a x.0) x.1)));
    }
