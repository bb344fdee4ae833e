-- Laws of the steps of one machine.
use Rattle.std.proofs.Common.{◌≡◌, ℕ, zero, suc, ◌+◌, ◌-◌, ◌≤◌, List, [], ◌++◌, Option, Some, None, refl, sym, ap, ◌∙◌, subst, arith, append_assoc, ⊎_elim}
use Rattle.std.proofs.lemmas.List.{append-nil}
use Rattle.std.proofs.lemmas.Bool.{cases_lt}
use Rattle.sx_runs.specs.Machine.{Seen, Machine, unless_ended, step, steps, after, shown, cost_of, eventless, option_as, with_endings, Annotated, annotated}
use Rattle.sx_runs.specs.Performs.{IsPrefix}
use Rattle.sx_runs.specs.Simulation.{Grown, IsGrowing, Reaches}

pub prefix_refl : {A : Type 0} (a : List A) → IsPrefix a a
prefix_refl a = record { rest = []; is = sym (append-nil a) }

pub prefix_trans : {A : Type 0} (a b c : List A) → IsPrefix a b → IsPrefix b c → IsPrefix a c
prefix_trans a b c p q = record { rest = p.rest ++ q.rest; is = q.is ∙ ap (λ x. x ++ q.rest) p.is ∙ append_assoc a p.rest q.rest }

-- steps one after another
pub steps-add : {S V E : Type 0} (M : Machine S V E) (m n : ℕ) (s : S) → steps M (m + n) s ≡ steps M n (steps M m s)
steps-add M zero n s = let e : 0 + n ≡ n = omega arith in ap (λ k. steps M k s) e
steps-add M (suc m) n s =
    let e : suc m + n ≡ suc (m + n) = omega arith in
    ap (λ k. steps M k s) e ∙ steps-add M m n (step M s)

-- the last step
pub steps-last : {S V E : Type 0} (M : Machine S V E) (n : ℕ) (s : S) → steps M (n + 1) s ≡ step M (steps M n s)
steps-last M n s = steps-add M n 1 s

pub cost_of-add : {S V E : Type 0} (M : Machine S V E) (w : S → ℕ) (m n : ℕ) (s : S) → cost_of M w (m + n) s ≡ cost_of M w m s + cost_of M w n (steps M m s)
cost_of-add M w zero n s = let e : 0 + n ≡ n = omega arith in ap (λ k. cost_of M w k s) e ∙ omega arith
cost_of-add M w (suc m) n s =
    let e : suc m + n ≡ suc (m + n) = omega arith in
    let h = cost_of-add M w m n (step M s) in
    ap (λ k. cost_of M w k s) e ∙ omega (arith, h)

-- where each step costs 1, the cost is the number of steps
pub cost_of_ones : {S V E : Type 0} (M : Machine S V E) (n : ℕ) (s : S) → cost_of M (λ x. 1) n s ≡ n
cost_of_ones M zero s = refl
cost_of_ones M (suc n) s = let h = cost_of_ones M n (step M s) in omega (arith, h)

-- where no step costs anything
pub cost_of_free : {S V E : Type 0} (M : Machine S V E) (n : ℕ) (s : S) → cost_of M (λ x. 0) n s ≡ 0
cost_of_free M zero s = refl
cost_of_free M (suc n) s = let h = cost_of_free M n (step M s) in omega (arith, h)

-- an ended state stays
pub step_ended : {S V E : Type 0} (M : Machine S V E) (s : S) (e : E) → (M.see s).ending ≡ Some e → step M s ≡ s
step_ended M s e h = ap (λ o. unless_ended o s (M.next s)) h

pub step_on : {S V E : Type 0} (M : Machine S V E) (s : S) → (M.see s).ending ≡ None → step M s ≡ M.next s
step_on M s h = ap (λ o. unless_ended o s (M.next s)) h

pub steps_ended : {S V E : Type 0} (M : Machine S V E) (n : ℕ) (s : S) (e : E) → (M.see s).ending ≡ Some e → steps M n s ≡ s
steps_ended M zero s e h = refl
steps_ended M (suc n) s e h = ap (λ x. steps M n x) (step_ended M s e h) ∙ steps_ended M n s e h

pub grown_refl : {V E : Type 0} (a : Seen V E) → Grown a a
grown_refl a = record { out = prefix_refl a.out; err = prefix_refl a.err; events = prefix_refl a.events }

pub grown_trans : {V E : Type 0} (a b c : Seen V E) → Grown a b → Grown b c → Grown a c
grown_trans a b c p q =
    record {
      out = prefix_trans a.out b.out c.out p.out q.out;
      err = prefix_trans a.err b.err c.err p.err q.err;
      events = prefix_trans a.events b.events c.events p.events q.events;
    }

grown_unless : {S V E : Type 0} (M : Machine S V E) → IsGrowing M → (s : S) (o : Option E) → Grown (M.see s) (M.see (unless_ended o s (M.next s)))
grown_unless M g s None = g.grows s
grown_unless M g s (Some e) = grown_refl (M.see s)

pub grown_steps : {S V E : Type 0} (M : Machine S V E) → IsGrowing M → (n : ℕ) (s : S) → Grown (M.see s) (M.see (steps M n s))
grown_steps M g zero s = grown_refl (M.see s)
grown_steps M g (suc n) s =
    grown_trans (M.see s) (M.see (step M s)) (M.see (steps M n (step M s))) (grown_unless M g s (M.see s).ending) (grown_steps M g n (step M s))

-- the same steps without the events
pub eventless-steps : {S V E : Type 0} (M : Machine S V E) (n : ℕ) (s : S) → steps (eventless M) n s ≡ steps M n s
eventless-steps M zero s = refl
eventless-steps M (suc n) s = eventless-steps M n (step M s)

pub eventless-cost : {S V E : Type 0} (M : Machine S V E) (w : S → ℕ) (n : ℕ) (s : S) → cost_of (eventless M) w n s ≡ cost_of M w n s
eventless-cost M w zero s = refl
eventless-cost M w (suc n) s = ap (λ k. w s + k) (eventless-cost M w n (step M s))

-- no step, one step, and steps after steps
pub reaches_none : {S V E : Type 0} (M : Machine S V E) (w : S → ℕ) (P : S → Type 0) (s : S) → Reaches M w P s s 0 0
reaches_none M w P s = record { is = refl; cost = omega arith; through = λ j l. absurd (omega arith) }

pub reaches_one : {S V E : Type 0} (M : Machine S V E) (w : S → ℕ) (P : S → Type 0) (s to : S) → (M.see s).ending ≡ None → P s → M.next s ≡ to → Reaches M w P s to 1 (w s)
reaches_one M w P s to on p e =
    record {
      is = step_on M s on ∙ e;
      cost = omega arith;
      through = λ j l. let z : 0 ≡ j = omega arith in subst (λ x. P (steps M x s)) z p;
    }

pub reaches_then : {S V E : Type 0} (M : Machine S V E) (w : S → ℕ) (P : S → Type 0) (s t u : S) (j k p q : ℕ) → Reaches M w P s t j p → Reaches M w P t u k q → Reaches M w P s u (j + k) (p + q)
reaches_then M w P s t u j k p q a b =
    let e = cost_of-add M w j k s ∙ ap (λ x. cost_of M w j s + cost_of M w k x) a.is in
    record {
      is = steps-add M j k s ∙ ap (λ x. steps M k x) a.is ∙ b.is;
      cost = omega (arith, e, a.cost, b.cost);
      through = λ i l.
          ⊎_elim
          (λ early. a.through i early)
          (λ late.
          let n : j + (i - j) ≡ i = omega (arith, late) in
          let there : steps M (i - j) t ≡ steps M i s = ap (λ x. steps M (i - j) x) (sym a.is) ∙ sym (steps-add M j (i - j) s) ∙ ap (λ x. steps M x s) n in
          subst P there (b.through (i - j) (omega (arith, late, l))))
          (cases_lt i j);
    }

-- the same under other names, and at a higher price
pub reaches_as : {S V E : Type 0} (M : Machine S V E) (w : S → ℕ) (P : S → Type 0) (s t u : S) (j k p q : ℕ) → t ≡ u → j ≡ k → p ≤ q → Reaches M w P s t j p → Reaches M w P s u k q
reaches_as M w P s t u j k p q to count price g =
    let e : cost_of M w j s ≡ cost_of M w k s = ap (λ x. cost_of M w x s) count in
    record {
      is = ap (λ x. steps M x s) (sym count) ∙ g.is ∙ to;
      cost = omega (arith, g.cost, e);
      through = λ i l. g.through i (omega (arith, l, count));
    }

-- what holds at the start and is kept by each step holds after any number of steps
pub always : {S V E : Type 0} (M : Machine S V E) (P : S → Type 0) → P M.start → ((s : S) → P s → (M.see s).ending ≡ None → P (M.next s)) → (n : ℕ) → P (after M n)
always {S} {V} {E} M P p0 keep n = from n M.start p0
  where
    one : (s : S) → P s → (o : Option E) → (M.see s).ending ≡ o → P (unless_ended o s (M.next s))
    one s p None e = keep s p e
    one s p (Some x) e = p

    from : (n : ℕ) (s : S) → P s → P (steps M n s)
    from zero s p = p
    from (suc n) s p = from n (step M s) (one s p (M.see s).ending refl)

-- a machine that has ended shows nothing more
pub after_ended : {S V E : Type 0} (M : Machine S V E) (n m : ℕ) (e : E) → n ≤ m → (shown M n).ending ≡ Some e → after M m ≡ after M n
after_ended M n m e le h =
    let k : m ≡ n + (m - n) = omega arith in
    ap (λ x. after M x) k ∙ steps-add M n (m - n) M.start ∙ steps_ended M (m - n) (after M n) e h

-- the same steps with other names of the endings
pub renamed-steps : {S V E F : Type 0} (f : E → F) (M : Machine S V E) (n : ℕ) (s : S) → steps (with_endings f M) n s ≡ steps M n s
renamed-steps f M zero s = refl
renamed-steps {S} {V} {E} {F} f M (suc n) s = ap (λ x. steps (with_endings f M) n x) (one (M.see s).ending) ∙ renamed-steps f M n (step M s)
  where
    one : (o : Option E) → unless_ended (option_as f o) s (M.next s) ≡ unless_ended o s (M.next s)
    one None = refl
    one (Some e) = refl

pub renamed-cost : {S V E F : Type 0} (f : E → F) (M : Machine S V E) (w : S → ℕ) (n : ℕ) (s : S) → cost_of (with_endings f M) w n s ≡ cost_of M w n s
renamed-cost f M w zero s = refl
renamed-cost {S} {V} {E} {F} f M w (suc n) s = ap (λ x. w s + cost_of (with_endings f M) w n x) (one (M.see s).ending) ∙ ap (λ k. w s + k) (renamed-cost f M w n (step M s))
  where
    one : (o : Option E) → unless_ended (option_as f o) s (M.next s) ≡ unless_ended o s (M.next s)
    one None = refl
    one (Some e) = refl

-- the same steps with notes
pub annotated-steps : {S V E T : Type 0} (M : Machine S V E) (t : T) (f : T → S → T) (n : ℕ) (s : Annotated S T) → (steps (annotated M t f) n s).now ≡ steps M n s.now
annotated-steps M t f zero s = refl
annotated-steps {S} {V} {E} {T} M t f (suc n) s = annotated-steps M t f n (step (annotated M t f) s) ∙ ap (λ x. steps M n x) (one (M.see s.now).ending)
  where
    one : (o : Option E) → (unless_ended o s ((annotated M t f).next s)).now ≡ unless_ended o s.now (M.next s.now)
    one None = refl
    one (Some e) = refl
