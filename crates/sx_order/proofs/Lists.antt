-- Parts of a list, one after another, behind those that were found.
use Rattle.std.proofs.Common.{◌≡◌, ℕ, ◌+◌, ◌≤◌, List, [], ◌∷◌, map, sym, subst, arith}
use Rattle.sx_scope.specs.Verdict.{Verdict, Judging, ◌▷◌, both}
use Rattle.sx_order.specs.Order.{Start, Spans, Stays, Anything, AllTake}
use Rattle.sx_order.proofs.Spans.{run-spans, spans-to}

pub list-spans : {A B X : Type 0} {old : Start} (run : Verdict A → List X → Verdict A) (one : X → Judging B) (added : A × B → Judging A) →
    ((v : Verdict A) → run v [] ≡ v) → ((v : Verdict A) (x : X) (xs : List X) → run v (x ∷ xs) ≡ run (both v (one x) ▷ added) xs) → ((lo hi : ℕ) (p : A × B) → Stays lo hi Anything (added p)) →
    (xs : List X) (n lo mid hi : ℕ) (v : Verdict A) → lo ≤ mid → hi ≡ n + mid → Spans old lo mid Anything v → AllTake n (map one xs) → Spans old lo hi Anything (run v xs)
list-spans {old = old} run one added ends goes adds [] n lo mid hi v l s h t =
    subst (λ u. Spans old lo hi Anything u) (sym (ends v)) (spans-to v (omega (arith, s, t)) h)
list-spans {old = old} run one added ends goes adds (x ∷ xs) n lo mid hi v l s h t =
    let (k, j, e, first, others) = t in
    let here : Spans old lo (k + mid) Anything (both v (one x) ▷ added) = run-spans Anything v (one x) added l (omega arith) h (first mid) (λ p _. adds lo (k + mid) p) in
    subst (λ u. Spans old lo hi Anything u) (sym (goes v x xs))
    (list-spans run one added ends goes adds xs j lo (k + mid) hi (both v (one x) ▷ added) (omega arith) (omega (arith, s, e)) here others)
