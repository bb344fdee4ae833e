-- Calls, subscripts and the parts behind an operand: what a rule derives is judged so, where its parts are.
use Rattle.std.proofs.Common.{◌≡◌, ◌∙◌, ℕ, ◌+◌, Bool, true, false, List, [], ◌∷◌, ◌++◌, map, length, Option, Some, None, refl, sym, ap}
use Rattle.std.proofs.Common as common
use Rattle.sx_span.specs.declared.places.Node.{Node}
use Rattle.sx_tree.specs.declared.code.Argument.{Argument}
use Rattle.sx_tree.specs.declared.code.Closure.{Closure}
use Rattle.sx_tree.specs.declared.code.Expr.{Expr}
use Rattle.sx_tree.specs.declared.code.ExprForm.{ExprForm-F}
use Rattle.sx_tree.specs.declared.code.ExprForm.TheVariants as forms
use Rattle.sx_tree.specs.declared.code.Part.{Part, Part-F}
use Rattle.sx_tree.specs.declared.code.Part.TheVariants as parts_
use Rattle.sx_tree.specs.declared.written_types.Name.{Name}
use Rattle.sx_types.specs.declared.types.Ty.{Ty}
use Rattle.sx_typed.specs.declared.code.Expr.{Expr as TypedExpr}
use Rattle.sx_scope.specs.declared.declarations.Declarations.{Declarations}
use Rattle.sx_scope.specs.declared.walk.Asked.{Asked}
use Rattle.sx_scope.specs.declared.walk.Asked.TheVariants as asked
use Rattle.sx_scope.specs.declared.walk.Callee.{Callee}
use Rattle.sx_scope.specs.declared.walk.Place.{Place}
use Rattle.sx_scope.specs.declared.walk.Use.{Use}
use Rattle.sx_scope.specs.declared.walk.Use.TheVariants as uses
use Rattle.sx_scope.specs.declared.walk.Walk.{Walk}
use Rattle.sx_scope.specs.declared.stop.TypeKind.TheVariants as kind
use Rattle.sx_scope.specs.Verdict.{Verdict, typed, Judging, ◌▷◌, both, both_by, loosely}
use Rattle.sx_scope.specs.Walks.{node, advanced, numbered}
use Rattle.sx_scope.specs.Paths.{subscript_of}
use Rattle.sx_scope.specs.declared.declarations.Subscript.{Subscript}
use Rattle.sx_scope.specs.Names.{agrees, callable, called_member, called_name, member_value}
use Rattle.sx_calls.specs.declared.passed.Passed.{Passed}
use Rattle.sx_calls.specs.declared.passed.Pairing.{Pairing}
use Rattle.sx_calls.specs.declared.passed.Shape.{Shape}
use Rattle.sx_calls.specs.declared.passed.Slot.{Slot}
use Rattle.sx_calls.specs.Calls as calls
use Rattle.sx_calls.specs.Calls.{argument_added, argument_value, asked_in, use_in, is_loose, is_assignable, broken_in, call_value, index_added, index_for, indexed, indexed_value, loose, met_found, met_in, nothing_passed, pairing, run_argument, run_arguments, run_call, run_indices, settled, some_value, subscript, types_by, types_of, with_value}
use Rattle.sx_calls.specs.Parts.{JudgedArgument, JudgedExpr, JudgedPart, asked_before, own_nodes, trailing_shape}
use Rattle.sx_check_expr.specs.Arguments.{judged_arguments, shape_of, shapes_of}
use Rattle.sx_check_expr.specs.Judge as judge
use Rattle.sx_check_expr.specs.Judge.{callee_by, judged_closure, judged_expr, judged_part, run_first, run_parts}
use Rattle.sx_check_expr.specs.Steps.{starts_call}
use Rattle.sx_check_expr.proofs.Equations.{argument_is, shapes_are}
use Rattle.sx_check_expr.proofs.Parts.{member_is, call_is}
use Rattle.sx_check_expr.proofs.Steps.{uncalled}
use Rattle.sx_well_typed.specs.CallRules.{CallIs}
use Rattle.sx_well_typed.specs.Claims.{Claim}
use Rattle.sx_well_typed.proofs.CallRules.{call-typed}
use Rattle.sx_well_typed.proofs.Holds.{Holds}
use Rattle.sx_well_typed.proofs.Judged.{judged_calls, judged_nodes}
use Rattle.sx_well_typed.proofs.Levels.{part-rolled}
use Rattle.sx_well_typed.proofs.SoundExpressions.{form-by}
use Rattle.sx_well_typed.proofs.Subscripts.{indexed-typed, types_of-are}
use Rattle.sx_well_typed.proofs.Verdicts.{then-typed, both-typed, need-typed, unless_broken-typed}

module _ (d : Declarations) where
  -- ---- what is called
  pub called_by_name-sound : (e : Expr) (x : ℕ) (p : Place) (site : ℕ) (w v : Walk) (f : Callee) → (judged_expr d e).name ≡ Some x →
      called_name d p (node w.next) site x (advanced 1 w) ≡ typed f v → Holds d (Claim.called e p site w f v)
  called_by_name-sound e x p site w v f h k = ap (λ o. callee_by d p site (judged_expr d e) o w) h ∙ k

  pub called_value-sound : (e : Expr) (p : Place) (site : ℕ) (w w₁ v : Walk) (x : TypedExpr) (f : Callee) → (judged_expr d e).name ≡ None →
      Holds d (Claim.expression e p asked.Nothing uses.Kept w x w₁) → callable x.node x w₁ ≡ typed f v → Holds d (Claim.called e p site w f v)
  called_value-sound e p site w w₁ v x f h k c =
      ap (λ o. callee_by d p site (judged_expr d e) o w) h ∙ then-typed ((judged_expr d e).value p asked.Nothing uses.Kept w) judge.called_value x w₁ (typed f v) k c

  -- ---- arguments
  -- a part that is for a slot, where it meets it
  pub settled-typed : (s : Slot) (n : Node) (a : Shape) (v : Verdict TypedExpr) (t : TypedExpr) (w : Walk) → is_loose s ≡ false → v ≡ typed t w → is_assignable a t ≡ true → broken_in s a ≡ None →
      settled s n (met_found s n a v) ≡ typed (Some t) w
  settled-typed s n a v t w l h k b =
      let m : met_found s n a v ≡ typed t w = then-typed v (met_in s n a) t w (typed t w) h
      (need-typed (is_assignable a t) kind.NotAssignable t.node _ w (typed t w) k (unless_broken-typed (broken_in s a) n (typed t) w (typed t w) b refl)) in
      ap (λ c. common.cond c (loosely (met_found s n a v) ▷ loose s n) (met_found s n a v ▷ some_value)) l ∙ ap (λ y. y ▷ some_value) m

  pub run_argument-typed : (p : Place) (s : Slot) (j : JudgedArgument) (a : Passed) (w w₁ : Walk) (t : TypedExpr) → is_loose s ≡ false → j.value.value p (asked_in s) (use_in s j.shape) (advanced 1 w) ≡ typed t w₁ →
      is_assignable j.shape t ≡ true → broken_in s j.shape ≡ None → run_argument p (typed a w) s j ≡ typed (with_value s j.shape a t) w₁
  run_argument-typed p s j a w w₁ t l h k b =
      let m : numbered (argument_value p s j) w ≡ typed (Some t) w₁ = settled-typed s (node w.next) j.shape (j.value.value p (asked_in s) (use_in s j.shape) (advanced 1 w)) t w₁ l h k b in
      then-typed (both (typed a w) (numbered (argument_value p s j))) (argument_added s j.shape) (a, Some t) w₁ (typed (with_value s j.shape a t) w₁)
      (both-typed (typed a w) (numbered (argument_value p s j)) a w (Some t) w₁ refl m) refl

  pub arguments_closure-sound : (c : Closure) (p : Place) (s : Slot) (ss : List Slot) (a : Passed) (w v : Walk) (t : TypedExpr) → is_loose s ≡ false →
      Holds d (Claim.closure c p (asked_in s) (use_in s trailing_shape) (advanced 1 w) t v) → is_assignable trailing_shape t ≡ true → broken_in s trailing_shape ≡ None →
      Holds d (Claim.arguments [] (Some c) p (s ∷ ss) a w (with_value s trailing_shape a t) v)
  arguments_closure-sound c p s ss a w v t l h k b = run_argument-typed p s (record { shape = trailing_shape; value = judged_closure d c }) a w v t l h k b

  pub arguments_more-sound : (x : Argument) (as_ : List Argument) (c : Option Closure) (p : Place) (s : Slot) (ss : List Slot) (a b : Passed) (w w₁ v : Walk) (t : TypedExpr) → is_loose s ≡ false →
      Holds d (Claim.expression x.value p (asked_in s) (use_in s (shape_of x)) (advanced 1 w) t w₁) → is_assignable (shape_of x) t ≡ true → broken_in s (shape_of x) ≡ None →
      Holds d (Claim.arguments as_ c p ss (with_value s (shape_of x) a t) w₁ b v) →
      Holds d (Claim.arguments (x ∷ as_) c p (s ∷ ss) a w b v)
  arguments_more-sound x as_ c p s ss a b w w₁ v t l h k g r =
      ap (λ (j : JudgedArgument). run_arguments p (run_argument p (typed a w) s j) ss (judged_arguments d as_ c)) (argument_is d x)
      ∙ ap (λ y. run_arguments p y ss (judged_arguments d as_ c)) (run_argument-typed p s (record { shape = shape_of x; value = judged_expr d x.value }) a w w₁ t l h k g) ∙ r

  pub a_call-sound : (as_ : List Argument) (c : Option Closure) (p : Place) (q : Asked) (n : Node) (site : ℕ) (f : Callee) (a : Passed) (w v : Walk) (t : TypedExpr) →
      (pairing d (Some f) (shapes_of as_ c)).counted ≡ true →
      Holds d (Claim.arguments as_ c p (pairing d (Some f) (shapes_of as_ c)).slots nothing_passed w a v) →
      CallIs d q n site f a t →
      Holds d (Claim.call as_ c p q n site f w t v)
  a_call-sound as_ c p q n site f a w v t h k g =
      let args : List JudgedArgument = judged_arguments d as_ c in
      let pairs : Pairing = pairing d (Some f) (shapes_of as_ c) in
      let run : (b : Bool) → Verdict TypedExpr = λ b. both (typed f w) (λ w. run_arguments p (typed nothing_passed w) pairs.slots args) ▷ calls.called d q n site b in
      ap (λ ss. run_call d p q n site args (typed f w) (pairing d (Some f) ss)) (shapes_are d as_ c)
      ∙ ap run h
      ∙ then-typed (both (typed f w) (λ w. run_arguments p (typed nothing_passed w) pairs.slots args)) (calls.called d q n site true) (f, a) v (typed t v)
      (both-typed (typed f w) (λ w. run_arguments p (typed nothing_passed w) pairs.slots args) f w a v refl k) (call-typed d q n site f a t v g)

  -- of which part something is asked
  pub asked_before-map : (ps : List Part) (q : Asked) → asked_before (map (judged_part d) ps) q ≡ asked_before ps q
  asked_before-map [] q = refl
  asked_before-map (p ∷ ps) q = refl

  -- ---- the operand
  pub operand_called-sound : (e : Expr) (end : ℕ) (as_ : List Argument) (c : Option Closure) (ps : List Part) (site : ℕ) (p : Place) (q : Asked) (u : Use) (w w₁ w₂ v : Walk) (f : Callee) (x t : TypedExpr) →
      Holds d (Claim.called e p site (advanced (judged_nodes d (parts_.Call end as_ c ∷ ps)) w) f w₁) →
      Holds d (Claim.call as_ c p (asked_before ps q) (node (judged_nodes d ps + w.next)) site f w₁ x w₂) →
      Holds d (Claim.parts ps p q w.next site false x w₂ t v) →
      Holds d (Claim.form (forms.Postfix e (parts_.Call end as_ c ∷ ps)) site p q u w t v)
  operand_called-sound e end as_ c ps site p q u w w₁ w₂ v f x t h k r =
      let js : List JudgedPart = map (judged_part d) ps in
      let start : Walk = advanced (judged_nodes d (parts_.Call end as_ c ∷ ps)) w in
      form-by d (ExprForm-F.Postfix e (parts_.Call end as_ c ∷ ps)) (forms.Postfix e (parts_.Call end as_ c ∷ ps)) site p q u w v t (forms.rolls-Postfix e (parts_.Call end as_ c ∷ ps))
      (ap (λ (j : JudgedPart). run_first d p q w.next site (judged_expr d e) (j ∷ js) start) (call_is d end as_ c)
      ∙ ap (λ y. run_parts d p q w.next site false (call_value d p (asked_before js q) (node (own_nodes js + w.next)) site (judged_arguments d as_ c) y) js) h
      ∙ ap (λ y. run_parts d p q w.next site false (call_value d p y (node (own_nodes js + w.next)) site (judged_arguments d as_ c) (typed f w₁)) js) (asked_before-map ps q)
      ∙ ap (λ y. run_parts d p q w.next site false y js) k ∙ r)

  pub operand-sound : (e : Expr) (ps : List Part) (site : ℕ) (p : Place) (q : Asked) (u : Use) (w w₁ v : Walk) (x t : TypedExpr) → judged_calls d ps ≡ false →
      Holds d (Claim.expression e p asked.Nothing uses.Kept (advanced (judged_nodes d ps) w) x w₁) →
      Holds d (Claim.parts ps p q w.next site (judged_expr d e).is_self x w₁ t v) →
      Holds d (Claim.form (forms.Postfix e ps) site p q u w t v)
  operand-sound e ps site p q u w w₁ v x t n h k =
      let js : List JudgedPart = map (judged_part d) ps in
      form-by d (ExprForm-F.Postfix e ps) (forms.Postfix e ps) site p q u w v t (forms.rolls-Postfix e ps)
      (uncalled d p q w.next site (judged_expr d e) js (advanced (judged_nodes d ps) w) n
      ∙ ap (λ y. run_parts d p q w.next site (judged_expr d e).is_self y js) h ∙ k)

  -- ---- parts
  pub index_is : (end : ℕ) (is : List Expr) → judged_part d (parts_.Index end is) ≡ JudgedPart.Index (map (judged_expr d) is)
  index_is end is = ap (judged_part d) (sym (parts_.rolls-Index end is)) ∙ part-rolled d (Part-F.Index end is)

  -- a call, and then the other parts
  call-first : (as_ : List Argument) (c : Option Closure) (ps : List Part) (p : Place) (q : Asked) (start site : ℕ) (y t : TypedExpr) (f : Callee) (w₁ w₂ v : Walk) (r : Verdict Callee) → r ≡ typed f w₁ →
      Holds d (Claim.call as_ c p (asked_before ps q) (node (judged_nodes d ps + start)) site f w₁ y w₂) →
      Holds d (Claim.parts ps p q start site false y w₂ t v) →
      run_parts d p q start site false (call_value d p (asked_before (map (judged_part d) ps) q) (node (judged_nodes d ps + start)) site (judged_arguments d as_ c) r) (map (judged_part d) ps) ≡ typed t v
  call-first as_ c ps p q start site y t f w₁ w₂ v r h k g =
      let js : List JudgedPart = map (judged_part d) ps in
      ap (λ z. run_parts d p q start site false (call_value d p (asked_before js q) (node (own_nodes js + start)) site (judged_arguments d as_ c) z) js) h
      ∙ ap (λ z. run_parts d p q start site false (call_value d p z (node (own_nodes js + start)) site (judged_arguments d as_ c) (typed f w₁)) js) (asked_before-map ps q)
      ∙ ap (λ z. run_parts d p q start site false z js) k ∙ g

  pub member_closure-sound : (end : ℕ) (m : Name) (c : Closure) (ps : List Part) (p : Place) (q : Asked) (start site : ℕ) (this : Bool) (x y t : TypedExpr) (f : Callee) (w w₁ w₂ v : Walk) →
      called_member d p (node (1 + (judged_nodes d ps + start))) site this m.number x w ≡ typed f w₁ →
      Holds d (Claim.call [] (Some c) p (asked_before ps q) (node (judged_nodes d ps + start)) site f w₁ y w₂) →
      Holds d (Claim.parts ps p q start site false y w₂ t v) →
      Holds d (Claim.parts (parts_.Member end m (Some c) ∷ ps) p q start site this x w t v)
  member_closure-sound end m c ps p q start site this x y t f w w₁ w₂ v h k g =
      ap (λ (j : JudgedPart). run_parts d p q start site this (typed x w) (j ∷ map (judged_part d) ps)) (member_is d end m (Some c))
      ∙ call-first [] (Some c) ps p q start site y t f w₁ w₂ v (called_member d p (node (1 + (judged_nodes d ps + start))) site this m.number x w) h k g

  pub member_called-sound : (end behind : ℕ) (m : Name) (as_ : List Argument) (c : Option Closure) (ps : List Part) (p : Place) (q : Asked) (start site : ℕ) (this : Bool) (x y t : TypedExpr) (f : Callee) (w w₁ w₂ v : Walk) →
      called_member d p (node (1 + (judged_nodes d ps + start))) site this m.number x w ≡ typed f w₁ →
      Holds d (Claim.call as_ c p (asked_before ps q) (node (judged_nodes d ps + start)) site f w₁ y w₂) →
      Holds d (Claim.parts ps p q start site false y w₂ t v) →
      Holds d (Claim.parts (parts_.Member end m None ∷ (parts_.Call behind as_ c ∷ ps)) p q start site this x w t v)
  member_called-sound end behind m as_ c ps p q start site this x y t f w w₁ w₂ v h k g =
      ap (λ (j : JudgedPart). run_parts d p q start site this (typed x w) (j ∷ judged_part d (parts_.Call behind as_ c) ∷ map (judged_part d) ps)) (member_is d end m None)
      ∙ ap (λ (j : JudgedPart). run_parts d p q start site this (typed x w) (JudgedPart.Member m.number None ∷ j ∷ map (judged_part d) ps)) (call_is d behind as_ c)
      ∙ call-first as_ c ps p q start site y t f w₁ w₂ v (called_member d p (node (1 + (judged_nodes d ps + start))) site this m.number x w) h k g

  pub member-run : (m : ℕ) (js : List JudgedPart) (p : Place) (q : Asked) (start site : ℕ) (this : Bool) (x : TypedExpr) (w : Walk) → starts_call js ≡ false →
      run_parts d p q start site this (typed x w) (JudgedPart.Member m None ∷ js) ≡ run_parts d p q start site false (member_value d p (asked_before js q) (node (own_nodes js + start)) site this m x w) js
  member-run m [] p q start site this x w h = refl
  member-run m (JudgedPart.Member y c ∷ js) p q start site this x w h = refl
  member-run m (JudgedPart.Index is ∷ js) p q start site this x w h = refl
  member-run m (JudgedPart.Call as_ c ∷ js) p q start site this x w h = absurd (common.true≢false h)

  pub member-sound : (end : ℕ) (m : Name) (ps : List Part) (p : Place) (q : Asked) (start site : ℕ) (this : Bool) (x y t : TypedExpr) (w w₁ v : Walk) → judged_calls d ps ≡ false →
      member_value d p (asked_before ps q) (node (judged_nodes d ps + start)) site this m.number x w ≡ typed y w₁ →
      Holds d (Claim.parts ps p q start site false y w₁ t v) →
      Holds d (Claim.parts (parts_.Member end m None ∷ ps) p q start site this x w t v)
  member-sound end m ps p q start site this x y t w w₁ v n h k =
      let js : List JudgedPart = map (judged_part d) ps in
      ap (λ (j : JudgedPart). run_parts d p q start site this (typed x w) (j ∷ js)) (member_is d end m None)
      ∙ member-run m.number js p q start site this x w n
      ∙ ap (λ z. run_parts d p q start site false (member_value d p z (node (own_nodes js + start)) site this m.number x w) js) (asked_before-map ps q)
      ∙ ap (λ z. run_parts d p q start site false z js) h ∙ k

  pub exprs-length : (es : List Expr) → length (map (judged_expr d) es) ≡ length es
  exprs-length [] = refl
  exprs-length (e ∷ es) = ap common.suc (exprs-length es)

  indexed-sound : (end : ℕ) (is : List Expr) (ps : List Part) (p : Place) (q : Asked) (start site : ℕ) (this : Bool) (x y t : TypedExpr) (es : List TypedExpr) (w w₁ w₂ v : Walk) →
      Holds d (Claim.indices is p (types_of (length is) (subscript d x.ty)) [] w es w₁) →
      indexed (asked_before ps q) (node (judged_nodes d ps + start)) site (length is) x es (subscript d x.ty) w₁ ≡ typed y w₂ →
      Holds d (Claim.parts ps p q start site false y w₂ t v) →
      Holds d (Claim.parts (parts_.Index end is ∷ ps) p q start site this x w t v)
  indexed-sound end is ps p q start site this x y t es w w₁ w₂ v h k g =
      let js : List JudgedPart = map (judged_part d) ps in
      let ks : List JudgedExpr = map (judged_expr d) is in
      let run : (n : ℕ) → Judging (List TypedExpr) = λ n w. run_indices d p (typed [] w) (types_of n (subscript d x.ty)) ks in
      let whole : (z : Asked) (n : ℕ) → Verdict TypedExpr = λ z n. both_by (typed x w) (λ o w. run_indices d p (typed [] w) (types_by d n o) ks) ▷ indexed_value d z (node (own_nodes js + start)) site n in
      ap (λ (j : JudgedPart). run_parts d p q start site this (typed x w) (j ∷ js)) (index_is end is)
      ∙ ap (λ z. run_parts d p q start site false (whole z (length ks)) js) (asked_before-map ps q)
      ∙ ap (λ n. run_parts d p q start site false (whole (asked_before ps q) n) js) (exprs-length is)
      ∙ ap (λ z. run_parts d p q start site false z js) (then-typed (both (typed x w) (run (length is))) (indexed_value d (asked_before ps q) (node (own_nodes js + start)) site (length is)) (x, es) w₁ (typed y w₂)
      (both-typed (typed x w) (run (length is)) x w es w₁ refl h) k)
      ∙ g

  pub subscripted-sound : (end : ℕ) (is : List Expr) (ps : List Part) (p : Place) (q : Asked) (start site : ℕ) (this : Bool) (x t : TypedExpr) (o : Subscript) (es : List TypedExpr) (w w₁ v : Walk) →
      subscript d x.ty ≡ Some o → o.failed ≡ false → length o.parameters ≡ length is →
      Holds d (Claim.indices is p o.parameters [] w es w₁) → agrees (asked_before ps q) o.ty ≡ true →
      Holds d (Claim.parts ps p q start site false (subscript_of (node (judged_nodes d ps + start)) site o.ty x es o.accessors) w₁ t v) →
      Holds d (Claim.parts (parts_.Index end is ∷ ps) p q start site this x w t v)
  subscripted-sound end is ps p q start site this x t o es w w₁ v h f k i g r =
      let n : Node = node (judged_nodes d ps + start) in
      let types : types_of (length is) (subscript d x.ty) ≡ o.parameters = ap (types_of (length is)) h ∙ types_of-are (length is) o f k in
      indexed-sound end is ps p q start site this x (subscript_of n site o.ty x es o.accessors) t es w w₁ w₁ v
      (ap (λ ts. run_indices d p (typed [] w) ts (map (judged_expr d) is)) types ∙ i)
      (ap (λ s. indexed (asked_before ps q) n site (length is) x es s w₁) h ∙ indexed-typed (asked_before ps q) n site (length is) x es o w₁ f k g) r

  pub value_called-sound : (end : ℕ) (as_ : List Argument) (c : Option Closure) (ps : List Part) (p : Place) (q : Asked) (start site : ℕ) (this : Bool) (x y t : TypedExpr) (f : Callee) (w w₁ w₂ v : Walk) →
      callable x.node x w ≡ typed f w₁ →
      Holds d (Claim.call as_ c p (asked_before ps q) (node (judged_nodes d ps + start)) site f w₁ y w₂) →
      Holds d (Claim.parts ps p q start site false y w₂ t v) →
      Holds d (Claim.parts (parts_.Call end as_ c ∷ ps) p q start site this x w t v)
  value_called-sound end as_ c ps p q start site this x y t f w w₁ w₂ v h k g =
      ap (λ (j : JudgedPart). run_parts d p q start site this (typed x w) (j ∷ map (judged_part d) ps)) (call_is d end as_ c)
      ∙ call-first as_ c ps p q start site y t f w₁ w₂ v (callable x.node x w) h k g

  pub indices_more-sound : (i : Expr) (is : List Expr) (p : Place) (t : Ty) (ts : List Ty) (before es : List TypedExpr) (x : TypedExpr) (w w₁ v : Walk) →
      Holds d (Claim.expression i p (asked.Type t) uses.Kept w x w₁) →
      Holds d (Claim.indices is p ts (before ++ x ∷ []) w₁ es v) →
      Holds d (Claim.indices (i ∷ is) p (t ∷ ts) before w es v)
  indices_more-sound i is p t ts before es x w w₁ v h k =
      let m : Judging (Option TypedExpr) = index_for d p (Some t) (judged_expr d i) in
      let one : m w ≡ typed (Some x) w₁ = then-typed ((judged_expr d i).value p (asked.Type t) uses.Kept w) some_value x w₁ (typed (Some x) w₁) h refl in
      ap (λ y. run_indices d p y ts (map (judged_expr d) is)) (then-typed (both (typed before w) m) (index_added d) (before, Some x) w₁ (typed (before ++ x ∷ []) w₁) (both-typed (typed before w) m before w (Some x) w₁ refl one) refl) ∙ k
