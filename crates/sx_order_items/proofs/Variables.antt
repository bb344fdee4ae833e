-- Globals and properties: each is a node, and takes those of its type, of its initial value and of its accessors.
use Rattle.std.proofs.Common.{◌≡◌, ℕ, suc, ◌+◌, ◌≤◌, ◌<◌, not, List, [], ◌++◌, Option, Some, None, slice_get, length, length-append, map, refl, sym, arith}
use Rattle.sx_span.specs.declared.places.Node.{Node}
use Rattle.sx_types.specs.declared.types.Ty.{Ty}
use Rattle.sx_tree.specs.declared.code.Expr.{Expr}
use Rattle.sx_tree.specs.declared.declarations.Variable.{Variable}
use Rattle.sx_tree.specs.declared.nodes.FaultOf.{FaultOf}
use Rattle.sx_tree.specs.declared.written_types.WrittenType.{WrittenType}
use Rattle.sx_tree.specs.Nodes.{accessor_places, all, expr_places, option_places, type_places, variable_places}
use Rattle.sx_typed.specs.declared.code.Expr.{Expr as TypedExpr}
use Rattle.sx_scope.specs.declared.declarations.Declarations.{Declarations}
use Rattle.sx_scope.specs.declared.stop.TypeKind.TheVariants as kind
use Rattle.sx_scope.specs.declared.stop.TypeStop.{TypeStop}
use Rattle.sx_scope.specs.declared.walk.Asked.{Asked}
use Rattle.sx_scope.specs.declared.walk.Asked.TheVariants as asked
use Rattle.sx_scope.specs.declared.walk.Use.TheVariants as uses
use Rattle.sx_scope.specs.declared.walk.Walk.{Walk}
use Rattle.sx_scope.specs.Verdict.{Verdict, typed, Judging, ◌▷◌, both, both_by}
use Rattle.sx_scope.specs.Walks.{advanced, node}
use Rattle.sx_scope.specs.Names.{given_known}
use Rattle.sx_scope.specs.WrittenTypes.{is_void, judged_type}
use Rattle.sx_check_expr.specs.Judge.{judged_expr}
use Rattle.sx_functions.specs.declared.accessing.OwnNames.{OwnNames}
use Rattle.sx_functions.specs.Accessors.{run_accessors}
use Rattle.sx_functions.specs.Places.{new_name}
use Rattle.sx_members.specs.Variables.{VariableParts, outer_place, giving_place, asked_of, some_value, initial_value, broken_type, type_fits, written_parts, given_fits, given_value, stop_of, given_parts, parts_by, has_room, narrow_parts, checked_parts, accessed, known_of_parts, typed_variable, variable_made, accessed_parts, variable}
use Rattle.sx_order.specs.Order.{Lies, since, Spans, Stays, Anything, Within}
use Rattle.sx_order.proofs.Growing.{reaches-first}
use Rattle.sx_order.proofs.Spans.{▷-spans, sooner, both_by-spans, spans-to, earlier, implied, typed-first, typed-stays, depends-stays, need-stays, unless_broken-stays, need_narrow-stays}
use Rattle.sx_order.proofs.WrittenTypes.{judged_type-takes}
use Rattle.sx_order_code.specs.Code.{CodeSpans}
use Rattle.sx_order_items.specs.Below.{ValueBelow, VariableBelow}
use Rattle.sx_order_items.specs.Stops.{GivenStops, StopsBy, VariableStops}
use Rattle.sx_order_items.proofs.Accessors.{run_accessors-spans}
use Rattle.sx_order_items.proofs.Functions.{new_name-stays}
use Rattle.sx_order_items.proofs.Kept.{kept-spans}
use Rattle.sx_order.proofs.Own.{own_both-spans}

pub type_fits-stays : {lo hi : ℕ} (owner : Option Ty) (n : Node) (v : Variable) (t : Ty) → Lies lo hi n → Stays lo hi Anything (type_fits owner n v t)
type_fits-stays owner n v t i = unless_broken-stays (broken_type owner v t) n (typed t) i (typed-stays t tt)

-- the initial value of a variable has a node below this number
abbrev PartsBelow : ℕ → VariableParts → Type 0
PartsBelow hi (t, o) = ValueBelow hi o

below-more : (lo hi : ℕ) (x : VariableParts) → lo ≤ hi → PartsBelow lo x → PartsBelow hi x
below-more lo hi (t, None) l h = tt
below-more lo hi (t, Some e) l h = omega (arith, h)

pub given_fits-stays : {lo hi : ℕ} (n : Node) (e : TypedExpr) → Lies lo hi n → e.node.0 < hi → Stays lo hi (PartsBelow hi) (given_fits n e)
given_fits-stays n e i l = need-stays (not (is_void e.ty)) kind.Mismatch n (typed (e.ty, Some e)) i (typed-stays (e.ty, Some e) l)

pub narrow_parts-stays : {lo hi : ℕ} (d : Declarations) (room : Option ℕ) (n : Node) (x : Unit {0} × VariableParts) → Lies lo hi n → PartsBelow hi x.1 → Stays lo hi (λ y. PartsBelow hi y.1) (narrow_parts d room n x)
narrow_parts-stays d room n (u, (t, o)) i l = need_narrow-stays (has_room d.types room t) n (typed (u, (t, o))) i (typed-stays (u, (t, o)) l)

pub variable_made-stays : {lo hi : ℕ} (n : Node) (x : (Unit {0} × VariableParts) × Unit {0}) → n.0 < hi → PartsBelow hi x.0.1 → Stays lo hi (VariableBelow hi) (variable_made n x)
variable_made-stays n ((u, (t, o)), a) l m = typed-stays (typed_variable n (u, (t, o))) (l, m)

module _ (d : Declarations) (code : CodeSpans d) where
  -- ---- initial values
  pub initial_value-spans : (q : Asked) (o : Option Expr) (lo hi : ℕ) (w : Walk) → w.next ≡ lo → hi ≡ length (option_places expr_places o) + lo → Spans (since w) lo hi (ValueBelow hi) (initial_value d q o w)
  initial_value-spans q None lo hi w e s = typed-first None w (omega (arith, e, s)) tt
  initial_value-spans q (Some x) lo hi w e s =
      let v : Verdict TypedExpr = (judged_expr d x).value outer_place q uses.Kept w in
      let h : Spans (since w) lo hi (Within lo (length (expr_places x) + lo)) v = spans-to v (sym s) ((code.exprs x).takes outer_place q uses.Kept lo w e) in
      ▷-spans v some_value h (λ y i. typed-stays (Some y) (omega (arith, i.1, s)))

  -- the value that gives a type, from the node of the declaration on
  pub given_value-spans : (n : Node) (x : Expr) (lo hi : ℕ) (w : Walk) → n.0 ≡ lo → w.next ≡ suc lo → hi ≡ length (expr_places x) + suc lo → Spans (since w) lo hi (PartsBelow hi) (given_value d n x w)
  given_value-spans n x lo hi w at e s =
      let v : Verdict TypedExpr = (judged_expr d x).value (giving_place n) asked.Nothing uses.Kept w in
      let h : Spans (since w) (suc lo) hi (Within (suc lo) (length (expr_places x) + suc lo)) v = spans-to v (sym s) ((code.exprs x).takes (giving_place n) asked.Nothing uses.Kept (suc lo) w e) in
      ▷-spans v (given_fits n) (earlier lo v (omega arith) h) (λ y i. given_fits-stays n y (omega (arith, at), omega (arith, at, s)) (omega (arith, i.1, s)))

  pub given_parts-spans : (stops : List (Option TypeStop)) (n : Node) (k : ℕ) (o : Option Expr) (lo hi : ℕ) (w : Walk) → n.0 ≡ lo → w.next ≡ suc lo → hi ≡ length (option_places expr_places o) + suc lo →
      GivenStops stops lo k o → Spans (since w) lo hi (PartsBelow hi) (given_parts d stops n k o w)
  given_parts-spans stops n k None lo hi w at e s i = let here : w.next ≡ hi = omega (arith, e, s) in depends-stays w (reaches-first w here)
  given_parts-spans stops n k (Some x) lo hi w at e s i =
      kept-spans (given_known (slice_get d.given k)) (stop_of stops k) (given_value d n x w) lo hi (λ f q. let l = i f q in (l.0, omega (arith, l.1, s))) (given_value-spans n x lo hi w at e s)

  -- ---- with a written type
  pub written_parts-spans : (owner : Option Ty) (n : Node) (v : Variable) (t : WrittenType) (k m lo hi : ℕ) (w : Walk) → k ≡ length (type_places t) → m ≡ length (option_places expr_places v.value) →
      n.0 ≡ lo → w.next ≡ suc lo → hi ≡ m + (k + suc lo) → Spans (since w) lo hi (PartsBelow hi) (written_parts d owner n v t w)
  written_parts-spans owner n v t k m lo hi w ek em at e s =
      let u : Verdict Ty = judged_type d t w in
      let sum : length (type_places t) + suc lo ≡ k + suc lo = omega (arith, ek) in
      let written : Spans (since w) lo (k + suc lo) Anything u = earlier lo u (omega arith) (spans-to u sum (judged_type-takes d t (suc lo) w e)) in
      let fits : Spans (since w) lo (k + suc lo) Anything (u ▷ type_fits owner n v) = ▷-spans u (type_fits owner n v) written (λ x _. type_fits-stays owner n v x (omega (arith, at), omega (arith, at))) in
      implied (PartsBelow hi) (both_by (u ▷ type_fits owner n v) (λ o. initial_value d (asked_of o) v.value)) (λ x q. q.1)
      (both_by-spans (u ▷ type_fits owner n v) (λ o. initial_value d (asked_of o) v.value) (omega arith) (omega (arith, s)) fits
      (λ o x g. initial_value-spans (asked_of o) v.value (k + suc lo) hi x g (omega (arith, s, em))))

  pub parts_by-spans : (stops : List (Option TypeStop)) (owner : Option Ty) (n : Node) (k : ℕ) (v : Variable) (o : Option WrittenType) (lo hi : ℕ) (w : Walk) → n.0 ≡ lo → w.next ≡ suc lo →
      hi ≡ length (option_places expr_places v.value) + (length (option_places type_places o) + suc lo) → StopsBy stops lo k v.value o → Spans (since w) lo hi (PartsBelow hi) (parts_by d stops owner n k v o w)
  parts_by-spans stops owner n k v None lo hi w at e s i = given_parts-spans stops n k v.value lo hi w at e (omega (arith, s)) i
  parts_by-spans stops owner n k v (Some t) lo hi w at e s i =
      written_parts-spans owner n v t (length (type_places t)) (length (option_places expr_places v.value)) lo hi w refl refl at e s

  pub checked_parts-spans : (stops : List (Option TypeStop)) (owner : Option Ty) (seen : List ℕ) (room : Option ℕ) (n : Node) (k : ℕ) (v : Variable) (lo hi : ℕ) (w : Walk) → n.0 ≡ lo → w.next ≡ suc lo →
      hi ≡ length (option_places expr_places v.value) + (length (option_places type_places v.ty) + suc lo) → VariableStops stops lo k v → Spans (since w) lo hi (λ x. PartsBelow hi x.1) (checked_parts d stops owner seen room n k v w)
  checked_parts-spans stops owner seen room n k v lo hi w at e s i =
      let u : Verdict (Unit {0} × VariableParts) = both (new_name d seen v.name.number n w) (parts_by d stops owner n k v v.ty) in
      let name : Spans (since w) lo (suc lo) Anything (new_name d seen v.name.number n w) = new_name-stays d seen v.name.number n (omega (arith, at), omega (arith, at)) w (reaches-first w e) in
      ▷-spans u (narrow_parts d room n)
      (own_both-spans (new_name d seen v.name.number n w) (parts_by d stops owner n k v v.ty) (omega (arith, s)) name (λ x g. parts_by-spans stops owner n k v v.ty lo hi x at g s i))
      (λ x q. narrow_parts-stays d room n x (omega (arith, at), omega (arith, at, s)) q.1)

  -- ---- with its accessors
  module _ (names : OwnNames) (stops : List (Option TypeStop)) where
    pub accessed_parts-spans : (of : FaultOf) (owner : Option Ty) (seen : List ℕ) (room : Option ℕ) (n : Node) (k : ℕ) (v : Variable) (j a lo hi : ℕ) (w : Walk) → n.0 ≡ lo → w.next ≡ suc lo →
        j ≡ length (option_places expr_places v.value) + (length (option_places type_places v.ty) + suc lo) → a ≡ length (all (map (accessor_places of v.name.span.start) v.accessors)) → hi ≡ a + j →
        VariableStops stops lo k v → Spans (since w) lo hi (λ x. PartsBelow hi x.0.1) (accessed_parts d names stops owner seen room n k v w)
    accessed_parts-spans of owner seen room n k v j a lo hi w at e ej ea s i =
        let goes : Option (Unit {0} × VariableParts) → Judging (Unit {0}) = λ o u. run_accessors d names (accessed owner n (known_of_parts o) [] (length u.locals)) (typed tt u) v.accessors in
        implied (λ x. PartsBelow hi x.0.1) (both_by (checked_parts d stops owner seen room n k v w) goes) (λ x q. below-more j hi x.0.1 (omega (arith, s)) q.0)
        (both_by-spans (checked_parts d stops owner seen room n k v w) goes (omega (arith, ej)) (omega (arith, s)) (checked_parts-spans stops owner seen room n k v lo j w at e ej i)
        (λ o u g. run_accessors-spans d code names (accessed owner n (known_of_parts o) [] (length u.locals)) of v.name.span.start v.accessors a j j hi (typed tt u) ea (omega arith) s (typed-first tt u g tt)))

    -- whose faults the places are for doesn't count
    pub variable-spans : (of : FaultOf) (owner : Option Ty) (seen : List ℕ) (room : Option ℕ) (k : ℕ) (v : Variable) (lo hi : ℕ) (w : Walk) → w.next ≡ lo → hi ≡ length (variable_places of v) + lo →
        VariableStops stops lo k v → Spans (since w) lo hi (VariableBelow hi) (variable d names stops owner seen room k v w)
    variable-spans of owner seen room k v lo hi w e s i =
        let type_s : List ℕ = option_places type_places v.ty in
        let value_s : List ℕ = option_places expr_places v.value in
        let accessor_s : List ℕ = all (map (accessor_places of v.name.span.start) v.accessors) in
        let whole : length (type_s ++ (value_s ++ accessor_s)) ≡ length type_s + length (value_s ++ accessor_s) = length-append type_s (value_s ++ accessor_s) in
        let behind : length (value_s ++ accessor_s) ≡ length value_s + length accessor_s = length-append value_s accessor_s in
        sooner w.literals (1 + w.next) w.next (variable d names stops owner seen room k v w) (omega arith)
        (▷-spans (accessed_parts d names stops owner seen room (node w.next) k v (advanced 1 w)) (variable_made (node w.next))
        (accessed_parts-spans of owner seen room (node w.next) k v (length value_s + (length type_s + suc lo)) (length accessor_s) lo hi (advanced 1 w) e (omega (arith, e)) refl refl (omega (arith, s, whole, behind)) i)
        (λ x q. variable_made-stays (node w.next) x (omega (arith, e, s)) q))
