-- A fault by which a declaration has failed takes its place among those of the initial value.
use Rattle.std.proofs.Common.{◌≡◌, ℕ, ◌≤◌, ◌<◌, Bool, true, false, cond, nat_le, List, [], ◌∷◌, Option, Some, None, refl, arith}
use Rattle.std.proofs.lemmas.Bool.{leb-true, leb-false}
use Rattle.sx_scope.specs.declared.declarations.Known.{Known}
use Rattle.sx_scope.specs.declared.declarations.Known.TheVariants as known
use Rattle.sx_scope.specs.declared.stop.TypeStop.{TypeStop}
use Rattle.sx_scope.specs.declared.stop.TypeStop.TheVariants.{Typing, TooWide, Late, NoMemory}
use Rattle.sx_scope.specs.declared.walk.Walk.{Walk}
use Rattle.sx_scope.specs.Verdict.{Verdict, fails, failing, behind}
use Rattle.sx_scope.specs.Walks.{node}
use Rattle.sx_members.specs.Variables as variables
use Rattle.sx_order.specs.Order.{Lies, number_of, Rising, Start, Stands, Spans}
use Rattle.sx_order.proofs.Spans.{▷-spans, behind-stands, depends-stays, failing-rises}

pub same-number : (f : TypeStop) → variables.number_of f ≡ number_of f
same-number (Typing kind n) = refl
same-number (TooWide n) = refl
same-number (Late at global) = refl
same-number NoMemory = refl

pub before-it : (g f : TypeStop) → nat_le (variables.number_of g) (variables.number_of f) ≡ true → number_of g ≤ number_of f
before-it g f e =
    let less : variables.number_of g ≤ variables.number_of f = leb-true (variables.number_of g) (variables.number_of f) e in
    omega (arith, less, same-number g, same-number f)

pub behind-it : (g f : TypeStop) → nat_le (variables.number_of g) (variables.number_of f) ≡ false → number_of f ≤ number_of g
behind-it g f e =
    let less : variables.number_of f < variables.number_of g = leb-false (variables.number_of g) (variables.number_of f) e in
    omega (arith, less, same-number g, same-number f)

pub with_stop-rises : (f : TypeStop) (lo hi : ℕ) (gs : List TypeStop) → lo ≤ number_of f → number_of f < hi → Rising lo hi gs → Rising lo hi (variables.with_stop f gs)
with_stop-rises f lo hi [] l u h = (l, u, tt)
with_stop-rises f lo hi (g ∷ gs) l u h =
    by (nat_le (variables.number_of g) (variables.number_of f)) refl (λ before. with_stop-rises f (number_of g) hi gs before u h.2)
  where
    by : (b : Bool) → nat_le (variables.number_of g) (variables.number_of f) ≡ b → (number_of g ≤ number_of f → Rising (number_of g) hi (variables.with_stop f gs)) → Rising lo hi (cond b (g ∷ variables.with_stop f gs) (f ∷ g ∷ gs))
    by true e rest = (h.0, h.1, rest (before-it g f e))
    by false e rest = (l, u, (behind-it g f e, h.1, h.2))

pub failed_with-spans : {old : Start} {Q : variables.VariableParts → Type 0} (f : TypeStop) (lo hi : ℕ) (gs : List TypeStop) (w : Walk) → lo ≤ number_of f → number_of f < hi → Stands old hi w → Rising lo hi gs → Spans old lo hi Q (variables.failed_with f gs w)
failed_with-spans f lo hi [] w l u e h = record { holds = (e, (l, u, tt)) }
failed_with-spans {old = old} {Q = Q} f lo hi (g ∷ gs) w l u e h = by (nat_le (variables.number_of g) (variables.number_of f)) refl
  where
    by : (b : Bool) → nat_le (variables.number_of g) (variables.number_of f) ≡ b → Spans {A = variables.VariableParts} old lo hi Q (cond b (fails g (variables.with_stop f gs) w) (fails f (g ∷ gs) w))
    by true q = record { holds = (e, (h.0, h.1, with_stop-rises f (number_of g) hi gs (before-it g f q) u h.2)) }
    by false q = record { holds = (e, (l, u, (behind-it g f q, h.1, h.2))) }

pub kept-spans : {old : Start} {Q : variables.VariableParts → Type 0} (k : Known) (o : Option TypeStop) (v : Verdict variables.VariableParts) (lo hi : ℕ) → ((f : TypeStop) → o ≡ Some f → Lies lo hi (node (number_of f))) →
    Spans old lo hi Q v → Spans old lo hi Q (variables.kept k o v)
kept-spans known.Failed (Some f) v lo hi i h =
    let here = i f refl in
    failed_with-spans f lo hi (failing v) (behind v) here.0 here.1 (behind-stands v h) (failing-rises v h)
kept-spans known.Failed None v lo hi i h = ▷-spans v variables.depending h (λ x _. depends-stays)
kept-spans known.Untold o v lo hi i h = h
kept-spans known.Circular o v lo hi i h = h
kept-spans (known.Type t) o v lo hi i h = h
