-- As types are settled, each fault by which a declaration fails lies at the declaration or in its initial value.
use Rattle.std.proofs.Common.{◌≡◌, ◌∙◌, Bool, true, false, cond, ◌⊎◌, inl, inr, ℕ, zero, suc, ◌+◌, List, [], ◌∷◌, map, length, slice_get, slice_set, Option, Some, None, option_and_then, refl, sym, subst, ap, arith}
use Rattle.sx_tree.specs.declared.code.Expr.{Expr}
use Rattle.sx_tree.specs.Nodes.{expr_places}
use Rattle.sx_scope.specs.declared.declarations.Declarations.{Declarations}
use Rattle.sx_scope.specs.declared.stop.TypeStop.{TypeStop}
use Rattle.sx_scope.specs.declared.walk.Walk.{Walk}
use Rattle.sx_scope.specs.Verdict.{Verdict, typed, untold, depends, fails}
use Rattle.sx_scope.specs.Names.{given_known}
use Rattle.sx_scope.specs.Walks.{node}
use Rattle.sx_heads.specs.Heads.{at}
use Rattle.sx_members.specs.Variables.{VariableParts, given_value, stop_of}
use Rattle.sx_settle.specs.declared.taking.Taking.{Taking}
use Rattle.sx_settle.specs.declared.taking.Taking.TheVariants as takings
use Rattle.sx_settle.specs.Settled.{Giving, Settling, enough, judged_again, round_from, rounds, settled, settled_certainly, settled_one, stays, told_by, unsettled, with_failed}
use Rattle.sx_order.specs.Order.{Lies, number_of, Start, Spans, Anything}
use Rattle.sx_order.proofs.Spans.{anything}
use Rattle.sx_order_code.specs.Code.{CodeSpans}
use Rattle.sx_order_items.specs.Stops.{FollowsAt, GivenStops, StopsLie}
use Rattle.sx_order_items.proofs.Variables.{given_value-spans}

-- ---- faults in a list of them
pub get-set : {X : Type 0} (xs : List X) (i j : ℕ) (x : X) → (slice_get (slice_set xs i x) j ≡ slice_get xs j) ⊎ ((j ≡ i) × (slice_get (slice_set xs i x) j ≡ Some x))
get-set [] i j x = inl refl
get-set (y ∷ ys) zero zero x = inr (refl, refl)
get-set (y ∷ ys) zero (suc j) x = inl refl
get-set (y ∷ ys) (suc i) zero x = inl refl
get-set (y ∷ ys) (suc i) (suc j) x = by (get-set ys i j x)
  where
    by : (slice_get (slice_set ys i x) j ≡ slice_get ys j) ⊎ ((j ≡ i) × (slice_get (slice_set ys i x) j ≡ Some x)) →
        (slice_get (slice_set (y ∷ ys) (suc i) x) (suc j) ≡ slice_get (y ∷ ys) (suc j)) ⊎ ((suc j ≡ suc i) × (slice_get (slice_set (y ∷ ys) (suc i) x) (suc j) ≡ Some x))
    by (inl e) = inl e
    by (inr e) = inr (ap suc e.0, e.1)

pub stop_of-set : (stops : List (Option TypeStop)) (i j : ℕ) (o : Option TypeStop) → (stop_of (slice_set stops i o) j ≡ stop_of stops j) ⊎ ((j ≡ i) × (stop_of (slice_set stops i o) j ≡ o))
stop_of-set stops i j o = by (get-set stops i j o)
  where
    by : (slice_get (slice_set stops i o) j ≡ slice_get stops j) ⊎ ((j ≡ i) × (slice_get (slice_set stops i o) j ≡ Some o)) → (stop_of (slice_set stops i o) j ≡ stop_of stops j) ⊎ ((j ≡ i) × (stop_of (slice_set stops i o) j ≡ o))
    by (inl e) = inl (ap (option_and_then (λ (s : Option TypeStop). s)) e)
    by (inr e) = inr (e.0, ap (option_and_then (λ (s : Option TypeStop). s)) e.1)

pub none-stops : {X : Type 0} (xs : List X) (k : ℕ) → stop_of (map (λ _. None) xs) k ≡ None
none-stops [] k = refl
none-stops (x ∷ xs) zero = refl
none-stops (x ∷ xs) (suc k) = none-stops xs k

pub nothing : (f : TypeStop) → None ≡ Some f → ⊥
nothing f e = cc

-- with one more, which lies where it should
pub given-set : (stops : List (Option TypeStop)) (i j n : ℕ) (t : Option TypeStop) (o : Option Expr) → GivenStops stops n j o →
    (j ≡ i → (e : Expr) → o ≡ Some e → (f : TypeStop) → t ≡ Some f → Lies n (length (expr_places e) + suc n) (node (number_of f))) → GivenStops (slice_set stops i t) n j o
given-set stops i j n t None h k = tt
given-set stops i j n t (Some e) h k = λ f q. by f q (stop_of-set stops i j t)
  where
    by : (f : TypeStop) → stop_of (slice_set stops i t) j ≡ Some f → (stop_of (slice_set stops i t) j ≡ stop_of stops j) ⊎ ((j ≡ i) × (stop_of (slice_set stops i t) j ≡ t)) → Lies n (length (expr_places e) + suc n) (node (number_of f))
    by f q (inl same) = h f (sym same ∙ q)
    by f q (inr new) = k new.0 e refl f (sym new.1 ∙ q)

-- ---- one judging of an initial value
module _ (gs : List Giving) (i : ℕ) (g : Giving) (x : Expr) (there : slice_get gs i ≡ Some g) (value : g.value ≡ Some x) where
  pub told-lies : (t : Option TypeStop) (stops : List (Option TypeStop)) → StopsLie gs stops → ((f : TypeStop) → t ≡ Some f → Lies g.node.0 (length (expr_places x) + suc g.node.0) (node (number_of f))) → StopsLie gs (slice_set stops i t)
  told-lies t stops h k j other q = given-set stops i j other.node.0 t other.value (h j other q) here
    where
      here : j ≡ i → (e : Expr) → other.value ≡ Some e → (f : TypeStop) → t ≡ Some f → Lies other.node.0 (length (expr_places e) + suc other.node.0) (node (number_of f))
      here same e has f is =
          let one : other ≡ g = cc in
          let both : e ≡ x = cc in
          subst (λ (z : Giving). Lies z.node.0 (length (expr_places e) + suc z.node.0) (node (number_of f))) (sym one)
          (subst (λ (y : Expr). Lies g.node.0 (length (expr_places y) + suc g.node.0) (node (number_of f))) (sym both) (k f is))

  pub failed-lies : {old : Start} (f : TypeStop) (fs : List TypeStop) (w : Walk) (s : Settling) → Spans {A = VariableParts} old g.node.0 (length (expr_places x) + suc g.node.0) Anything (fails f fs w) → StopsLie gs s.stops → StopsLie gs (slice_set s.stops i (Some f))
  failed-lies f fs w s a h =
      told-lies (Some f) s.stops h
      (λ k e. let same : k ≡ f = cc in subst (λ (z : TypeStop). Lies g.node.0 (length (expr_places x) + suc g.node.0) (node (number_of z))) (sym same) (a.holds.1.0, a.holds.1.1))

  pub told_by-lies : {old : Start} (q : Taking) (v : Verdict VariableParts) (s : Settling) → Spans old g.node.0 (length (expr_places x) + suc g.node.0) Anything v → StopsLie gs s.stops → StopsLie gs (told_by q i v s).stops
  told_by-lies q (typed y w) s a h = told-lies None s.stops h (λ f e. cc)
  told_by-lies q (untold w) s a h = h
  told_by-lies takings.Certain (depends w) s a h = h
  told_by-lies takings.Certain (fails f fs w) s a h = failed-lies f fs w s a h
  told_by-lies takings.Depending (depends w) s a h = told-lies None s.stops h (λ f e. cc)
  told_by-lies takings.Depending (fails f fs w) s a h = h
  told_by-lies takings.Everything (depends w) s a h = told-lies None s.stops h (λ f e. cc)
  told_by-lies takings.Everything (fails f fs w) s a h = failed-lies f fs w s a h

module _ (codes : (d : Declarations) → CodeSpans d) (gs : List Giving) where
  pub judged_again-lies : (q : Taking) (i : ℕ) (g : Giving) (o : Option Expr) (s : Settling) → slice_get gs i ≡ Some g → g.value ≡ o → StopsLie gs s.stops → StopsLie gs (judged_again q i g.node o s).stops
  judged_again-lies q i g None s there value h = h
  judged_again-lies q i g (Some x) s there value h =
      let v : Verdict VariableParts = given_value s.declarations g.node x (at (suc g.node.0)) in
      told_by-lies gs i g x there value q v s
      (anything v (given_value-spans s.declarations (codes s.declarations) g.node x g.node.0 (length (expr_places x) + suc g.node.0) (at (suc g.node.0)) refl refl refl)) h

  pub unless-lies : (b : Bool) (q : Taking) (i : ℕ) (g : Giving) (s : Settling) → slice_get gs i ≡ Some g → StopsLie gs s.stops → StopsLie gs (cond b s (judged_again q i g.node g.value s)).stops
  unless-lies true q i g s there h = h
  unless-lies false q i g s there h = judged_again-lies q i g g.value s there refl h

  pub settled_one-lies : (q : Taking) (i : ℕ) (g : Giving) (s : Settling) → slice_get gs i ≡ Some g → StopsLie gs s.stops → StopsLie gs (settled_one q i g s).stops
  settled_one-lies q i g s there h = unless-lies (stays q (given_known (slice_get s.declarations.given i)) (stop_of s.stops i)) q i g s there h

  -- ---- rounds
  pub round_from-lies : (q : Taking) (hs : List Giving) (i : ℕ) (s : Settling) → FollowsAt gs hs i → StopsLie gs s.stops → StopsLie gs (round_from q i hs s).stops
  round_from-lies q [] i s on h = h
  round_from-lies q (g ∷ hs) i s on h =
      let start : 0 + i ≡ i = omega arith in
      let there : slice_get gs i ≡ Some g = subst (λ (k : ℕ). slice_get gs k ≡ Some g) start (sym (on 0)) in
      round_from-lies q hs (suc i) (settled_one q i g s)
      (λ j. let more : suc j + i ≡ j + suc i = omega arith in subst (λ (k : ℕ). slice_get hs j ≡ slice_get gs k) more (on (suc j)))
      (settled_one-lies q i g s there h)

  pub rounds-lie : (q : Taking) (n : ℕ) (s : Settling) → StopsLie gs s.stops → StopsLie gs (rounds q n gs s).stops
  unfolding rounds
  rounds-lie q zero s h = h
  rounds-lie q (suc n) s h =
      rounds-lie q n (round_from q 0 gs s) (round_from-lies q gs 0 s (λ j. let same : j ≡ j + 0 = omega arith in ap (slice_get gs) same) h)

  pub unsettled-lies : (d : Declarations) → StopsLie gs (unsettled d).stops
  unsettled-lies d i g there = by g.value
    where
      by : (o : Option Expr) → GivenStops (unsettled d).stops g.node.0 i o
      by None = tt
      by (Some e) = λ f q. let none : stop_of (unsettled d).stops i ≡ None = none-stops d.given i in absurd (nothing f (sym none ∙ q))

  pub settled-lies : (d : Declarations) → StopsLie gs (settled gs (unsettled d)).stops
  settled-lies d =
      let certain : StopsLie gs (settled_certainly gs (unsettled d)).stops = rounds-lie takings.Certain (enough gs) (with_failed (unsettled d)) (unsettled-lies d) in
      let depending : StopsLie gs (rounds takings.Depending (enough gs) gs (settled_certainly gs (unsettled d))).stops = rounds-lie takings.Depending (enough gs) (settled_certainly gs (unsettled d)) certain in
      rounds-lie takings.Everything (enough gs) (rounds takings.Depending (enough gs) gs (settled_certainly gs (unsettled d))) depending
