-- Accessors and observers: each is a node, and takes those of its body.
use Rattle.std.proofs.Common.{◌≡◌, ℕ, suc, ◌+◌, ◌≤◌, Bool, false, not, List, Option, Some, None, length, drop, map, refl, arith}
use Rattle.std.specs.Prelude.{nat_le}
use Rattle.sx_span.specs.declared.places.Node.{Node}
use Rattle.sx_tree.specs.declared.declarations.Accessor.{Accessor}
use Rattle.sx_tree.specs.declared.nodes.FaultOf.{FaultOf}
use Rattle.sx_tree.specs.Nodes.{all, accessor_places, block_places}
use Rattle.sx_types.specs.Words.{most_words}
use Rattle.sx_typed.specs.declared.code.Statement.{Statement}
use Rattle.sx_typed.specs.declared.program.Function.{Function}
use Rattle.sx_scope.specs.declared.declarations.Declarations.{Declarations}
use Rattle.sx_scope.specs.declared.stop.TypeKind.TheVariants as kind
use Rattle.sx_scope.specs.declared.walk.LocalKind.TheVariants as local_kind
use Rattle.sx_scope.specs.declared.walk.Walk.{Walk}
use Rattle.sx_scope.specs.Verdict.{Verdict, typed, ◌▷◌, both, moved}
use Rattle.sx_bodies.specs.Statements.{fresh, lacks_return, local_named, unless_taken}
use Rattle.sx_check_expr.specs.Judge.{judged_block}
use Rattle.sx_functions.specs.declared.accessing.Accessed.{Accessed}
use Rattle.sx_functions.specs.declared.accessing.OwnNames.{OwnNames}
use Rattle.sx_functions.specs.Accessors.{modifies, own_name, own_declared, own_parameter, takes, takes_surely, accessor_words, narrow_accessor, gives_in, observed_in, accessor_body, AccessorParts, parts_of, took, own_narrow, accessor_parts, returning, typed_accessor, accessor_added, accessor, nothing_more, run_accessors}
use Rattle.sx_functions.specs.Places.{body_place, left}
use Rattle.sx_order.specs.Order.{Lies, Start, starting, since, Stands, Spans, Stays, Takes, Anything, Anywhere}
use Rattle.sx_order.proofs.Growing.{reaches-first, stands-added}
use Rattle.sx_order.proofs.Lists.{list-spans}
use Rattle.sx_order.proofs.Spans.{▷-spans, behind-adds, both-spans, typed-stays, need-stays, need_narrow-stays, cond-stays, moved-spans, numbered-adds}
use Rattle.sx_order_code.specs.Code.{CodeSpans}
use Rattle.sx_order_items.proofs.Functions.{body_value-spans, left-next}
use Rattle.sx_order_code.proofs.Locals.{fresh-stays, unless_taken-next}
use Rattle.sx_order_items.proofs.Places.{all-take}

-- ---- its own parameter, and the words of its head
pub own_declared-stays : {lo hi : ℕ} (d : Declarations) (c : Accessed) (m : Node) (o : Option ℕ) → Lies lo hi m → Stays lo hi Anything (own_declared d c m o)
own_declared-stays d c m None i w e = typed-stays tt tt w e
own_declared-stays d c m (Some x) i w e =
    moved-spans (unless_taken c.from (local_named x m local_kind.Constant false c.ty)) (fresh d c.from x m w)
    (unless_taken-next c.from (local_named x m local_kind.Constant false c.ty)) (fresh-stays d c.from x m i w e)

pub own_parameter-stays : {lo hi : ℕ} (d : Declarations) (names : OwnNames) (c : Accessed) (a : Accessor) (m : Node) → Lies lo hi m → Stays lo hi Anything (own_parameter d names c a m)
own_parameter-stays d names c a m i =
    cond-stays (modifies a.kind) (own_declared d c m (own_name names a)) (typed tt) (own_declared-stays d c m (own_name names a) i) (typed-stays tt tt)

pub narrow_accessor-stays : {lo hi : ℕ} (d : Declarations) (c : Accessed) (a : Accessor) (m : Node) (takes : Bool) → Lies lo hi m → Stays lo hi Anything (narrow_accessor d c a m takes)
narrow_accessor-stays d c a m takes i = need_narrow-stays (nat_le (accessor_words d.types c a takes) most_words) m (typed tt) i (typed-stays tt tt)

pub took-stays : {lo hi : ℕ} (d : Declarations) (c : Accessed) (a : Accessor) (m : Node) (before : ℕ) (x : Unit {0} × List Statement) → Lies lo hi m → Stays lo hi Anything (took d c a m before x)
took-stays d c a m before (u, ss) i w e =
    let named : Bool = takes a m (drop before w.mentions) in
    ▷-spans (narrow_accessor d c a m named w) (parts_of named ss) (narrow_accessor-stays d c a m named i w e) (λ v _. typed-stays (named, ss) tt)

pub returning-stays : {lo hi : ℕ} (d : Declarations) (c : Accessed) (a : Accessor) (m : Node) (x : AccessorParts) → Lies lo hi m → Stays lo hi Anything (returning d c a m x)
returning-stays d c a m x i = need-stays (not (lacks_return (gives_in c.ty a.kind) (judged_block d a.body))) kind.MissingReturn m (typed x) i (typed-stays x tt)

-- an accessor comes before the literals that stand in it
pub accessor_added-adds : {lo hi : ℕ} (names : OwnNames) (c : Accessed) (a : Accessor) (m : Node) (before : ℕ) (x : AccessorParts) (fs : List Function) (n : ℕ) (w : Walk) → m.0 ≡ n → before ≡ length fs →
    Stands (starting fs (suc n)) hi w → Spans (starting fs n) lo hi Anything (accessor_added names c a m before x w)
accessor_added-adds names c a m before (named, ss) fs n w at e s = record { holds = (stands-added n before (typed_accessor names c a m (named, ss)) w at e s, tt) }

module _ (d : Declarations) (code : CodeSpans d) (names : OwnNames) (c : Accessed) where
  pub accessor_parts-spans : (a : Accessor) (k lo hi : ℕ) (m : Node) (w : Walk) → k ≡ length (block_places a.body) → m.0 ≡ lo → w.next ≡ suc lo → hi ≡ k + suc lo → Spans (since w) lo hi Anything (accessor_parts d names c a m w)
  accessor_parts-spans a k lo hi m w ek at e s =
      let own : Verdict (Unit {0}) = own_parameter d names c a m w in
      let first : Spans (since w) lo (suc lo) Anything (own ▷ own_narrow d c a m) =
      ▷-spans own (own_narrow d c a m) (own_parameter-stays d names c a m (omega (arith, at), omega (arith, at)) w (reaches-first w e))
      (λ u _. narrow_accessor-stays d c a m (takes_surely a) (omega (arith, at), omega (arith, at))) in
      let inner : (u : Walk) → u.next ≡ suc lo → Spans (since u) (suc lo) hi Anything (accessor_body d c a u) =
      λ u g. body_value-spans d code (body_place c.owner (modifies a.kind) (observed_in c.node a.kind) (gives_in c.ty a.kind)) a.body (suc lo) hi u g (omega (arith, s, ek)) in
      ▷-spans (both (own ▷ own_narrow d c a m) (accessor_body d c a)) (took d c a m (length w.mentions))
      (both-spans (own ▷ own_narrow d c a m) (accessor_body d c a) (omega arith) (omega (arith, s)) first inner)
      (λ x _. took-stays d c a m (length w.mentions) x (omega (arith, at), omega (arith, at, s)))

  pub accessor-takes : (a : Accessor) → Takes (suc (length (block_places a.body))) Anywhere (accessor d names c a)
  accessor-takes a =
      numbered-adds Anywhere (length (block_places a.body)) (λ m w. moved (left w) (accessor_parts d names c a m w ▷ returning d c a m) ▷ accessor_added names c a m (length w.literals))
      (λ lo hi m at sum w e. behind-adds lo w (moved (left w) (accessor_parts d names c a m w ▷ returning d c a m)) (accessor_added names c a m (length w.literals)) e
      (moved-spans (left w) (accessor_parts d names c a m w ▷ returning d c a m) (left-next w)
      (▷-spans (accessor_parts d names c a m w) (returning d c a m) (accessor_parts-spans a (length (block_places a.body)) lo hi m w refl at e sum)
      (λ x _. returning-stays d c a m x (omega (arith, at), omega (arith, at, sum)))))
      (λ x _ u g. accessor_added-adds names c a m (length w.literals) x w.literals lo u at refl g))

  -- one after another; whose faults the places are for doesn't count
  pub run_accessors-spans : {old : Start} (of : FaultOf) (place : ℕ) (as_ : List Accessor) (n lo mid hi : ℕ) (v : Verdict (Unit {0})) → n ≡ length (all (map (accessor_places of place) as_)) → lo ≤ mid → hi ≡ n + mid →
      Spans old lo mid Anything v → Spans old lo hi Anything (run_accessors d names c v as_)
  run_accessors-spans of place as_ n lo mid hi v en l s h =
      list-spans (run_accessors d names c) (accessor d names c) nothing_more (λ v. refl) (λ v a as_. refl) (λ lo hi x. typed-stays tt tt) as_
      (length (all (map (accessor_places of place) as_))) lo mid hi v l (omega (arith, s, en)) h (all-take (accessor_places of place) (accessor d names c) accessor-takes as_)
