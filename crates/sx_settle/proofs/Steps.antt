-- What is told, and rounds that change nothing.
use Rattle.std.proofs.Common.{Bool, true, false, cond, ◌≡◌, ◌≢◌, ◌∙◌, ◌<◌, ◌+◌, ◌-◌, ◌++◌, ℕ, zero, suc, List, [], ◌∷◌, length, map, drop, slice_get, slice_set, Option, Some, None, Result, Ok, Err, IfOk, refl, sym, ap, arith}
use Rattle.std.proofs.lemmas.List.{append_assoc, set-get_or}
use Rattle.std.proofs.lemmas.Option.{get_or_from_slice_get}
use Rattle.sx_span.specs.declared.places.Node.{Node}
use Rattle.sx_tree.specs.declared.code.Expr.{Expr}
use Rattle.sx_scope.specs.declared.stop.TypeStop.{TypeStop}
use Rattle.sx_scope.specs.declared.stop.TypeStop.TheVariants.{Typing, TooWide, Late, NoMemory}
use Rattle.sx_scope.specs.declared.declarations.Declarations.{Declarations}
use Rattle.sx_scope.specs.declared.declarations.Known.{Known}
use Rattle.sx_scope.specs.declared.declarations.Known.TheVariants as known
use Rattle.sx_scope.specs.declared.walk.Found.{Found}
use Rattle.sx_scope.specs.declared.walk.Found.TheVariants as founds
use Rattle.sx_scope.specs.declared.walk.Walk.{Walk}
use Rattle.sx_scope.specs.Names.{given_known}
use Rattle.sx_scope.specs.Verdict.{Answers, Verdict, typed, untold, depends, fails}
use Rattle.sx_members.specs.Variables.{VariableParts, given_value, stop_of}
use Rattle.sx_heads.specs.Heads.{at}
use Rattle.sx_settle.specs.declared.taking.Taking.{Taking}
use Rattle.sx_settle.specs.declared.taking.Taking.TheVariants as takings
use Rattle.sx_settle.specs.Settled.{Giving, Settling, failed, judged_again, round_from, rounds, settled_as, settled_one, settling, stays, told_by}
use Rattle.sx_settle.specs.Steps.{Told, settled_so, taken, told, told_again, told_answer, told_of}

abbrev no_stop : Known → Option TypeStop
no_stop k = None

-- ---- one declaration
answer_tells : (a : Result (Found VariableParts) TypeStop) (now : Walk) (v : Verdict VariableParts) → a ≢ Err NoMemory → Answers a now v → told_answer a ≡ told v
answer_tells (Ok (founds.Typed x)) now v other h = sym (ap told h)
answer_tells (Ok founds.Untold) now v other h = sym (ap told h)
answer_tells (Ok founds.Depends) now v other h = sym (ap told h)
answer_tells (Err (Typing k n)) now v other (fs, w, h) = sym (ap told h)
answer_tells (Err (TooWide n)) now v other (fs, w, h) = sym (ap told h)
answer_tells (Err (Late at global)) now v other h = absurd h
answer_tells (Err NoMemory) now v other h = absurd (other refl)

pub tells : {X : Type 0} (d : Declarations) (n : Node) (e : Expr) (walk now : Walk) (a : Result (Found VariableParts) TypeStop) (r : Result (Option Told) X) → walk ≡ at (suc n.0) → Answers a now (given_value d n e walk) → IfOk r (λ o. o ≡ told_answer a) → IfOk r (λ o. a ≢ Err NoMemory) → IfOk r (λ o. o ≡ told (given_value d n e (at (suc n.0))))
tells d n e walk now a (Ok o) behind answers told_so other = told_so ∙ answer_tells a now (given_value d n e walk) other answers ∙ ap (λ (w : Walk). told (given_value d n e w)) behind
tells d n e walk now a (Err x) behind answers told_so other = tt

by_told : (q : Taking) (i : ℕ) (v : Verdict VariableParts) (s : Settling) → settled_so i (taken q (told v)) s ≡ told_by q i v s
by_told takings.Certain i (typed x w) s = refl
by_told takings.Certain i (untold w) s = refl
by_told takings.Certain i (depends w) s = refl
by_told takings.Certain i (fails f fs w) s = refl
by_told takings.Depending i (typed x w) s = refl
by_told takings.Depending i (untold w) s = refl
by_told takings.Depending i (depends w) s = refl
by_told takings.Depending i (fails f fs w) s = refl
by_told takings.Everything i (typed x w) s = refl
by_told takings.Everything i (untold w) s = refl
by_told takings.Everything i (depends w) s = refl
by_told takings.Everything i (fails f fs w) s = refl

by_value : (q : Taking) (i : ℕ) (n : Node) (o : Option Expr) (s : Settling) → settled_so i (taken q (told_again s.declarations n o)) s ≡ judged_again q i n o s
by_value q i n None s = refl
by_value q i n (Some e) s = by_told q i (given_value s.declarations n e (at (suc n.0))) s

unless : (b : Bool) (i : ℕ) (t : Option Told) (s : Settling) → settled_so i (cond b None t) s ≡ cond b s (settled_so i t s)
unless true i t s = refl
unless false i t s = refl

by_known : (q : Taking) (k : Known) (o : Option TypeStop) (i : ℕ) (g : Giving) (s : Settling) → settled_so i (told_of q s.declarations k o g) s ≡ cond (stays q k o) s (judged_again q i g.node g.value s)
by_known q k o i g s =
    unless (stays q k o) i (taken q (told_again s.declarations g.node g.value)) s
    ∙ ap (λ (after : Settling). cond (stays q k o) s after) (by_value q i g.node g.value s)

pub settles_one : (q : Taking) (i : ℕ) (g : Giving) (s s' : Settling) (k : Known) (o : Option TypeStop) (t : Option Told) → k ≡ given_known (slice_get s.declarations.given i) → o ≡ stop_of s.stops i → t ≡ told_of q s.declarations k o g → s' ≡ settled_so i t s → s' ≡ settled_one q i g s
settles_one q i g s s' k o t of_known of_stop of_told step =
    step
    ∙ ap (λ (p : Option Told). settled_so i p s) (of_told ∙ ap (λ (j : Known). told_of q s.declarations j o g) of_known ∙ ap (λ (p : Option TypeStop). told_of q s.declarations (given_known (slice_get s.declarations.given i)) p g) of_stop)
    ∙ by_known q (given_known (slice_get s.declarations.given i)) (stop_of s.stops i) i g s

-- ---- what stays as it is
set_same : {A : Type 0} (xs : List A) (i : ℕ) (x : A) → slice_get xs i ≡ Some x → slice_set xs i x ≡ xs
set_same xs i x here = ap (λ y. slice_set xs i y) (sym (get_or_from_slice_get xs i x x here)) ∙ set-get_or xs i x

pub still : (i : ℕ) (k : Known) (o : Option TypeStop) (d : Declarations) (os : List (Option TypeStop)) → slice_get d.given i ≡ Some k → slice_get os i ≡ Some o → settling d os ≡ settled_as i k o (settling d os)
still i k o d os known stop =
    ap (λ (ks : List Known). settling (record d { given = ks }) os) (sym (set_same d.given i k known))
    ∙ ap (λ (ss : List (Option TypeStop)). settling (record d { given = slice_set d.given i k }) ss) (sym (set_same os i o stop))

-- ---- rounds
pub rounds_on : (q : Taking) (n : ℕ) (gs : List Giving) (s s' whole : Settling) → 0 < n → rounds q n gs s ≡ whole → s' ≡ round_from q 0 gs s → rounds q (n - 1) gs s' ≡ whole
unfolding rounds
rounds_on q zero gs s s' whole more run round = absurd (omega (arith, more))
rounds_on q (suc n) gs s s' whole more run round =
    let e : suc n - 1 ≡ n = omega arith in
    ap (λ (k : ℕ). rounds q k gs s') e ∙ ap (rounds q n gs) round ∙ run

all_still : (q : Taking) (n : ℕ) (gs : List Giving) (s : Settling) → round_from q 0 gs s ≡ s → rounds q n gs s ≡ s
unfolding rounds
all_still q zero gs s still = refl
all_still q (suc n) gs s still = ap (rounds q n gs) still ∙ all_still q n gs s still

-- a round that changes nothing is the last that matters
pub rounds_still : (q : Taking) (n : ℕ) (gs : List Giving) (s s' whole : Settling) → rounds q n gs s ≡ whole → s' ≡ round_from q 0 gs s → s' ≡ s → s' ≡ whole
rounds_still q n gs s s' whole run round same = same ∙ sym (all_still q n gs s (sym round ∙ same)) ∙ run

pub rounds_done : (q : Taking) (n : ℕ) (gs : List Giving) (s whole : Settling) → n ≡ 0 → rounds q n gs s ≡ whole → s ≡ whole
unfolding rounds
rounds_done q zero gs s whole none run = run
rounds_done q (suc n) gs s whole none run = absurd (omega (arith, none))

-- ---- none for each
none_first : (ks : List Known) (k : ℕ) → k < length ks → map no_stop (drop k ks) ≡ None ∷ map no_stop (drop (k + 1) ks)
none_first [] k within = absurd (omega (arith, within))
none_first (x ∷ ks) zero within = refl
none_first (x ∷ ks) (suc k) within =
    let rest : k < length ks = omega (arith, within) in
    let e : suc k + 1 ≡ suc (k + 1) = omega arith in
    none_first ks k rest ∙ ap (λ (j : ℕ). None ∷ map no_stop (drop j (x ∷ ks))) (sym e)

pub nones_on : (ks : List Known) (k : ℕ) (before after : List (Option TypeStop)) → k < length ks → before ++ map no_stop (drop k ks) ≡ map no_stop ks → after ≡ before ++ None ∷ [] → after ++ map no_stop (drop (k + 1) ks) ≡ map no_stop ks
nones_on ks k before after within run added =
    ap (λ (os : List (Option TypeStop)). os ++ map no_stop (drop (k + 1) ks)) added
    ∙ append_assoc before (None ∷ []) (map no_stop (drop (k + 1) ks))
    ∙ ap (λ (os : List (Option TypeStop)). before ++ os) (sym (none_first ks k within))
    ∙ run

-- ---- one more that counts as failed, or isn't known any more
failed_first : (ks : List Known) (k : ℕ) → k < length ks → map failed (drop k ks) ≡ known.Failed ∷ map failed (drop (k + 1) ks)
failed_first [] k within = absurd (omega (arith, within))
failed_first (x ∷ ks) zero within = refl
failed_first (x ∷ ks) (suc k) within =
    let rest : k < length ks = omega (arith, within) in
    let e : suc k + 1 ≡ suc (k + 1) = omega arith in
    failed_first ks k rest ∙ ap (λ (j : ℕ). known.Failed ∷ map failed (drop j (x ∷ ks))) (sym e)

pub failed_on : (ks : List Known) (k : ℕ) (before after : List Known) → k < length ks → before ++ map failed (drop k ks) ≡ map failed ks → after ≡ before ++ known.Failed ∷ [] → after ++ map failed (drop (k + 1) ks) ≡ map failed ks
failed_on ks k before after within run added =
    ap (λ (os : List Known). os ++ map failed (drop (k + 1) ks)) added
    ∙ append_assoc before (known.Failed ∷ []) (map failed (drop (k + 1) ks))
    ∙ ap (λ (os : List Known). before ++ os) (sym (failed_first ks k within))
    ∙ run
