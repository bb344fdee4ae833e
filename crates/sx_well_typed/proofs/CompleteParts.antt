-- Parts behind an operand: what is judged typed is derived, where this is so of their parts.
use Rattle.std.proofs.Common.{◌≡◌, ◌∙◌, ℕ, ◌+◌, Bool, false, List, [], ◌∷◌, ◌++◌, map, length, Option, Some, None, refl, sym, ap, subst}
use Rattle.sx_span.specs.declared.places.Node.{Node}
use Rattle.sx_tree.specs.declared.code.Argument.{Argument}
use Rattle.sx_tree.specs.declared.code.Closure.{Closure}
use Rattle.sx_tree.specs.declared.code.Expr.{Expr}
use Rattle.sx_tree.specs.declared.code.ExprForm.{ExprForm-F}
use Rattle.sx_tree.specs.declared.code.ExprForm.TheVariants as forms
use Rattle.sx_tree.specs.declared.code.Part.{Part, Part-F, roll-Part}
use Rattle.sx_tree.specs.declared.code.Part.TheVariants as parts_
use Rattle.sx_tree.specs.declared.written_types.Name.{Name}
use Rattle.sx_typed.specs.declared.code.Expr.{Expr as TypedExpr}
use Rattle.sx_scope.specs.declared.declarations.Declarations.{Declarations}
use Rattle.sx_scope.specs.declared.walk.Asked.{Asked}
use Rattle.sx_scope.specs.declared.walk.Asked.TheVariants as asked
use Rattle.sx_scope.specs.declared.walk.Callee.{Callee}
use Rattle.sx_scope.specs.declared.walk.Place.{Place}
use Rattle.sx_scope.specs.declared.walk.Use.TheVariants as uses
use Rattle.sx_scope.specs.declared.walk.Walk.{Walk}
use Rattle.sx_scope.specs.Verdict.{Verdict, typed, Judging, ◌▷◌, both_by}
use Rattle.sx_scope.specs.Walks.{node, advanced}
use Rattle.sx_scope.specs.Paths.{subscript_of}
use Rattle.sx_scope.specs.Names.{callable, called_member, called_name, member_value}
use Rattle.sx_calls.specs.Calls.{call_value, index_value, indexed_value, run_indices, subscript, types_by, types_of}
use Rattle.sx_calls.specs.Parts.{JudgedArgument, JudgedExpr, JudgedPart, asked_before, own_nodes, trailing}
use Rattle.sx_check_expr.specs.Arguments.{judged_arguments}
use Rattle.sx_check_expr.specs.Judge as judge
use Rattle.sx_check_expr.specs.Judge.{callee, judged_expr, judged_part, run_first, run_parts}
use Rattle.sx_check_expr.specs.Steps.{starts_call}
use Rattle.sx_check_expr.proofs.Parts.{member_is, call_is}
use Rattle.sx_check_expr.proofs.Steps.{uncalled}
use Rattle.sx_well_typed.specs.Claims.{Claim}
use Rattle.sx_well_typed.specs.Rules.{Typed}
use Rattle.sx_well_typed.proofs.Derives.{Any, Each, ArgumentDerives, ClosureDerives, ExprDerives, PartDerives, PartsDerive}
use Rattle.sx_well_typed.proofs.Judged.{judged_calls, judged_nodes}
use Rattle.sx_well_typed.proofs.CompleteExpressions.{FormFrom}
use Rattle.sx_well_typed.proofs.CompleteArguments.{call-complete, call-first, called-complete, indices-complete}
use Rattle.sx_well_typed.proofs.SoundCalls.{asked_before-map, exprs-length, index_is, member-run}
use Rattle.sx_well_typed.proofs.Subscripts.{indexed-inverted, types_of-are}
use Rattle.sx_well_typed.proofs.Told.{member_closure-judged, member_called-judged, member-judged, subscripted-judged, value_called-judged, operand_called-judged, operand-judged}
use Rattle.sx_well_typed.proofs.Verdicts.{First, typed-as, asked-first, then-first, asked-inverted}

module _ (d : Declarations) where
  -- ---- what stands before parts that are typed is typed
  called-first : (p : Place) (q : Asked) (n : Node) (site : ℕ) (args : List JudgedArgument) (r : Verdict TypedExpr) (f : TypedExpr → Judging Callee) (t : TypedExpr) (v : Walk) → call_value d p q n site args (r ▷ f) ≡ typed t v → First r
  called-first p q n site args r f t v h =
      let (c, w, one) = call-first d p q n site args (r ▷ f) t v h in
      then-first r f c w one

  run_parts-first : (p : Place) (q : Asked) (start site : ℕ) (this : Bool) (r : Verdict TypedExpr) (js : List JudgedPart) (t : TypedExpr) (v : Walk) → run_parts d p q start site this r js ≡ typed t v → First r
  run_parts-first p q start site this r [] t v h = (t, v, h)
  run_parts-first p q start site this r (JudgedPart.Member x (Some c) ∷ js) t v h =
      let f : TypedExpr → Judging Callee = called_member d p (node (1 + (own_nodes js + start))) site this x in
      let (y, w, one) = run_parts-first p q start site false (call_value d p (asked_before js q) (node (own_nodes js + start)) site (trailing (Some c)) (r ▷ f)) js t v h in
      called-first p (asked_before js q) (node (own_nodes js + start)) site (trailing (Some c)) r f y w one
  run_parts-first p q start site this r (JudgedPart.Member x None ∷ []) t v h = then-first r (member_value d p q (node (0 + start)) site this x) t v h
  run_parts-first p q start site this r (JudgedPart.Member x None ∷ (JudgedPart.Member z c ∷ js)) t v h =
      let f : TypedExpr → Judging TypedExpr = member_value d p asked.Nothing (node (own_nodes (JudgedPart.Member z c ∷ js) + start)) site this x in
      let (y, w, one) = run_parts-first p q start site false (r ▷ f) (JudgedPart.Member z c ∷ js) t v h in
      then-first r f y w one
  run_parts-first p q start site this r (JudgedPart.Member x None ∷ (JudgedPart.Index is ∷ js)) t v h =
      let f : TypedExpr → Judging TypedExpr = member_value d p asked.Nothing (node (own_nodes (JudgedPart.Index is ∷ js) + start)) site this x in
      let (y, w, one) = run_parts-first p q start site false (r ▷ f) (JudgedPart.Index is ∷ js) t v h in
      then-first r f y w one
  run_parts-first p q start site this r (JudgedPart.Member x None ∷ (JudgedPart.Call as_ c ∷ js)) t v h =
      let f : TypedExpr → Judging Callee = called_member d p (node (1 + (own_nodes js + start))) site this x in
      let (y, w, one) = run_parts-first p q start site false (call_value d p (asked_before js q) (node (own_nodes js + start)) site (as_ ++ trailing c) (r ▷ f)) js t v h in
      called-first p (asked_before js q) (node (own_nodes js + start)) site (as_ ++ trailing c) r f y w one
  run_parts-first p q start site this r (JudgedPart.Index is ∷ js) t v h =
      let n : Node = node (own_nodes js + start) in
      let (y, w, one) = run_parts-first p q start site false (index_value d p (asked_before js q) n site is r) js t v h in
      asked-first r (λ o w. run_indices d p (typed [] w) (types_by d (length is) o) is) (indexed_value d (asked_before js q) n site (length is)) y w one
  run_parts-first p q start site this r (JudgedPart.Call as_ c ∷ js) t v h =
      let (y, w, one) = run_parts-first p q start site false (call_value d p (asked_before js q) (node (own_nodes js + start)) site (as_ ++ trailing c) (r ▷ judge.called_value)) js t v h in
      called-first p (asked_before js q) (node (own_nodes js + start)) site (as_ ++ trailing c) r judge.called_value y w one

  -- ---- a call, and then the other parts
  abbrev pub CallThen : List Argument → Option Closure → List Part → Place → Asked → ℕ → ℕ → Verdict Callee → TypedExpr → Walk → Type 0
  CallThen as_ c ps p q start site r t v = (f : Callee) × (w₁ : Walk) × (y : TypedExpr) × (w₂ : Walk) × (r ≡ typed f w₁) × Typed d (Claim.call as_ c p (asked_before ps q) (node (judged_nodes d ps + start)) site f w₁ y w₂) × Typed d (Claim.parts ps p q start site false y w₂ t v)

  call-then : (as_ : List Argument) (c : Option Closure) (ps : List Part) → Each (ArgumentDerives d) as_ → Any (ClosureDerives d) c → PartsDerive d ps → (p : Place) (q : Asked) (start site : ℕ) (r : Verdict Callee) (t : TypedExpr) (v : Walk) →
      run_parts d p q start site false (call_value d p (asked_before (map (judged_part d) ps) q) (node (judged_nodes d ps + start)) site (judged_arguments d as_ c) r) (map (judged_part d) ps) ≡ typed t v → CallThen as_ c ps p q start site r t v
  call-then as_ c ps k i others p q start site r t v h =
      let js : List JudgedPart = map (judged_part d) ps in
      let n : Node = node (own_nodes js + start) in
      let args : List JudgedArgument = judged_arguments d as_ c in
      let run : run_parts d p q start site false (call_value d p (asked_before ps q) n site args r) js ≡ typed t v =
      ap (λ z. run_parts d p q start site false (call_value d p z n site args r) js) (sym (asked_before-map d ps q)) ∙ h in
      let (y, w₂, one) = run_parts-first p q start site false (call_value d p (asked_before ps q) n site args r) js t v run in
      let (f, w₁, first) = call-first d p (asked_before ps q) n site args r y w₂ one in (
        f,
        w₁,
        y,
        w₂,
        first,
        call-complete d as_ c k i p (asked_before ps q) n site f w₁ y w₂ (ap (call_value d p (asked_before ps q) n site args) (sym first) ∙ one),
        others p q start site false y w₂ t v (ap (λ z. run_parts d p q start site false z js) (sym one) ∙ run),
      )

  -- ---- one step each
  member_closure-complete : (end : ℕ) (m : Name) (c : Closure) (ps : List Part) → ClosureDerives d c → PartsDerive d ps → PartsDerive d (parts_.Member end m (Some c) ∷ ps)
  member_closure-complete end m c ps i others p q start site this x w t v h =
      let js : List JudgedPart = map (judged_part d) ps in
      let r : Verdict Callee = called_member d p (node (1 + (own_nodes js + start))) site this m.number x w in
      let (f, w₁, y, w₂, first, called, behind) = call-then [] (Some c) ps tt i others p q start site r t v
      (ap (λ (j : JudgedPart). run_parts d p q start site this (typed x w) (j ∷ js)) (sym (member_is d end m (Some c))) ∙ h) in
      member_closure-judged d end m c ps p q start site this x y t f w w₁ w₂ v first called behind

  member_called-complete : (end behind : ℕ) (m : Name) (as_ : List Argument) (c : Option Closure) (ps : List Part) → Each (ArgumentDerives d) as_ → Any (ClosureDerives d) c → PartsDerive d ps → PartsDerive d (parts_.Member end m None ∷ (parts_.Call behind as_ c ∷ ps))
  member_called-complete end behind m as_ c ps k i others p q start site this x w t v h =
      let js : List JudgedPart = map (judged_part d) ps in
      let r : Verdict Callee = called_member d p (node (1 + (own_nodes js + start))) site this m.number x w in
      let (f, w₁, y, w₂, first, called, rest) = call-then as_ c ps k i others p q start site r t v
      (ap (λ (j : JudgedPart). run_parts d p q start site this (typed x w) (JudgedPart.Member m.number None ∷ j ∷ js)) (sym (call_is d behind as_ c))
      ∙ ap (λ (j : JudgedPart). run_parts d p q start site this (typed x w) (j ∷ judged_part d (parts_.Call behind as_ c) ∷ js)) (sym (member_is d end m None)) ∙ h) in
      member_called-judged d end behind m as_ c ps p q start site this x y t f w w₁ w₂ v first called rest

  value_called-complete : (end : ℕ) (as_ : List Argument) (c : Option Closure) (ps : List Part) → Each (ArgumentDerives d) as_ → Any (ClosureDerives d) c → PartsDerive d ps → PartsDerive d (parts_.Call end as_ c ∷ ps)
  value_called-complete end as_ c ps k i others p q start site this x w t v h =
      let js : List JudgedPart = map (judged_part d) ps in
      let (f, w₁, y, w₂, first, called, behind) = call-then as_ c ps k i others p q start site (callable x.node x w) t v
      (ap (λ (j : JudgedPart). run_parts d p q start site this (typed x w) (j ∷ js)) (sym (call_is d end as_ c)) ∙ h) in
      value_called-judged d end as_ c ps p q start site this x y t f w w₁ w₂ v first called behind

  member-complete : (end : ℕ) (m : Name) (ps : List Part) → judged_calls d ps ≡ false → PartsDerive d ps → PartsDerive d (parts_.Member end m None ∷ ps)
  member-complete end m ps n others p q start site this x w t v h =
      let js : List JudgedPart = map (judged_part d) ps in
      let value : Asked → Verdict TypedExpr = λ z. member_value d p z (node (own_nodes js + start)) site this m.number x w in
      let run : run_parts d p q start site false (value (asked_before ps q)) js ≡ typed t v =
      ap (λ z. run_parts d p q start site false (value z) js) (sym (asked_before-map d ps q)) ∙ sym (member-run d m.number js p q start site this x w n)
      ∙ ap (λ (j : JudgedPart). run_parts d p q start site this (typed x w) (j ∷ js)) (sym (member_is d end m None)) ∙ h in
      let (y, w₁, first) = run_parts-first p q start site false (value (asked_before ps q)) js t v run in
      member-judged d end m ps p q start site this x y t w w₁ v n first (others p q start site false y w₁ t v (ap (λ z. run_parts d p q start site false z js) (sym first) ∙ run))

  subscripted-complete : (end : ℕ) (is : List Expr) (ps : List Part) → Each (ExprDerives d) is → PartsDerive d ps → PartsDerive d (parts_.Index end is ∷ ps)
  subscripted-complete end is ps k others p q start site this x w t v h =
      let js : List JudgedPart = map (judged_part d) ps in
      let ks : List JudgedExpr = map (judged_expr d) is in
      let n : Node = node (own_nodes js + start) in
      let inner : ℕ → Option TypedExpr → Judging (List TypedExpr) = λ count o w. run_indices d p (typed [] w) (types_by d count o) ks in
      let whole : Asked → ℕ → Verdict TypedExpr = λ z count. both_by (typed x w) (inner count) ▷ indexed_value d z n site count in
      let q' : Asked = asked_before ps q in
      let count : ℕ = length is in
      let run : run_parts d p q start site false (whole q' count) js ≡ typed t v =
      ap (λ c. run_parts d p q start site false (whole q' c) js) (sym (exprs-length d is)) ∙ ap (λ z. run_parts d p q start site false (whole z (length ks)) js) (sym (asked_before-map d ps q))
      ∙ ap (λ (j : JudgedPart). run_parts d p q start site this (typed x w) (j ∷ js)) (sym (index_is d end is)) ∙ h in
      let (y, w₂, one) = run_parts-first p q start site false (whole q' count) js t v run in
      let (es, w₁, all, made) = asked-inverted x w (inner count) (indexed_value d q' n site count) y w₂ one in
      let (o, is_there, works, counted, agreed, same) = indexed-inverted q' n site count x es (subscript d x.ty) w₁ y w₂ made in
      let types : o.parameters ≡ types_of count (subscript d x.ty) = sym (ap (types_of count) is_there ∙ types_of-are count o works counted) in
      let within : run_indices d p (typed [] w) o.parameters ks ≡ typed es w₁ = ap (λ ts. run_indices d p (typed [] w) ts ks) types ∙ all in
      subscripted-judged d end is ps p q start site this x t o es w w₁ v is_there works counted (indices-complete d is k p o.parameters [] w es w₁ counted within) agreed
      (others p q start site false (subscript_of n site o.ty x es o.accessors) w₁ t v (ap (λ z. run_parts d p q start site false z js) (same ∙ sym one) ∙ run))

  -- a part is this one
  part-as : (x y : Part) (ps : List Part) → y ≡ x → PartsDerive d (y ∷ ps) → PartsDerive d (x ∷ ps)
  part-as x y ps e h = subst (λ z. PartsDerive d (z ∷ ps)) e h

  member-uncalled : (end : ℕ) (m : Name) (c : Option Closure) (x : Part) (ps : List Part) → roll-Part (Part-F.Member end m c) ≡ x → judged_calls d (x ∷ ps) ≡ false
  member-uncalled end m c x ps e =
      ap (λ (j : JudgedPart). starts_call (j ∷ map (judged_part d) ps)) (ap (judged_part d) (sym e ∙ parts_.rolls-Member end m c) ∙ member_is d end m c)

  index-uncalled : (end : ℕ) (is : List Expr) (x : Part) (ps : List Part) → roll-Part (Part-F.Index end is) ≡ x → judged_calls d (x ∷ ps) ≡ false
  index-uncalled end is x ps e =
      ap (λ (j : JudgedPart). starts_call (j ∷ map (judged_part d) ps)) (ap (judged_part d) (sym e ∙ parts_.rolls-Index end is) ∙ index_is d end is)

  parts_end-complete : PartsDerive d []
  parts_end-complete p q start site this x w t v h = typed-as (λ t v. Typed d (Claim.parts [] p q start site this x w t v)) x t w v h (Typed.parts_end p q start site this x w)

  pub parts-complete : (ps : List Part) → Each (PartDerives d) ps → PartsDerive d ps
  parts-complete [] k = parts_end-complete
  parts-complete (x ∷ ps) ((Part-F.Member end m (Some c), e, i), k) =
      part-as x (parts_.Member end m (Some c)) ps (sym (parts_.rolls-Member end m (Some c)) ∙ e) (member_closure-complete end m c ps i (parts-complete ps k))
  parts-complete (x ∷ []) ((Part-F.Member end m None, e, i), k) =
      part-as x (parts_.Member end m None) [] (sym (parts_.rolls-Member end m None) ∙ e) (member-complete end m [] refl (parts-complete [] k))
  parts-complete (x ∷ (z ∷ ps)) ((Part-F.Member end m None, e, i), ((Part-F.Call behind as_ c, f, l), k)) =
      subst (λ y. PartsDerive d (y ∷ z ∷ ps)) (sym (parts_.rolls-Member end m None) ∙ e)
      (subst (λ y. PartsDerive d (parts_.Member end m None ∷ y ∷ ps)) (sym (parts_.rolls-Call behind as_ c) ∙ f) (member_called-complete end behind m as_ c ps l.0 l.1 (parts-complete ps k)))
  parts-complete (x ∷ (z ∷ ps)) ((Part-F.Member end m None, e, i), ((Part-F.Member end' m' c, f, l), k)) =
      part-as x (parts_.Member end m None) (z ∷ ps) (sym (parts_.rolls-Member end m None) ∙ e) (member-complete end m (z ∷ ps) (member-uncalled end' m' c z ps f) (parts-complete (z ∷ ps) ((Part-F.Member end' m' c, f, l), k)))
  parts-complete (x ∷ (z ∷ ps)) ((Part-F.Member end m None, e, i), ((Part-F.Index end' is, f, l), k)) =
      part-as x (parts_.Member end m None) (z ∷ ps) (sym (parts_.rolls-Member end m None) ∙ e) (member-complete end m (z ∷ ps) (index-uncalled end' is z ps f) (parts-complete (z ∷ ps) ((Part-F.Index end' is, f, l), k)))
  parts-complete (x ∷ ps) ((Part-F.Index end is, e, i), k) = part-as x (parts_.Index end is) ps (sym (parts_.rolls-Index end is) ∙ e) (subscripted-complete end is ps i (parts-complete ps k))
  parts-complete (x ∷ ps) ((Part-F.Call end as_ c, e, i), k) = part-as x (parts_.Call end as_ c) ps (sym (parts_.rolls-Call end as_ c) ∙ e) (value_called-complete end as_ c ps i.0 i.1 (parts-complete ps k))

  -- ---- the operand
  operand_called-complete : (e : Expr) (end : ℕ) (as_ : List Argument) (c : Option Closure) (ps : List Part) → ExprDerives d e → Each (ArgumentDerives d) as_ → Any (ClosureDerives d) c → PartsDerive d ps →
      FormFrom d (ExprForm-F.Postfix e (parts_.Call end as_ c ∷ ps)) (forms.Postfix e (parts_.Call end as_ c ∷ ps))
  operand_called-complete e end as_ c ps k l i others site p q u w t v h =
      let js : List JudgedPart = map (judged_part d) ps in
      let start : Walk = advanced (judged_nodes d (parts_.Call end as_ c ∷ ps)) w in
      let (f, w₁, y, w₂, first, called, behind) = call-then as_ c ps l i others p q w.next site (callee d p site (judged_expr d e) start) t v
      (ap (λ (j : JudgedPart). run_first d p q w.next site (judged_expr d e) (j ∷ js) start) (sym (call_is d end as_ c)) ∙ h) in
      operand_called-judged d e end as_ c ps site p q u w w₁ w₂ v f y t (called-complete d e k p site start f w₁ first) called behind

  operand-complete : (e : Expr) (ps : List Part) → judged_calls d ps ≡ false → ExprDerives d e → PartsDerive d ps → FormFrom d (ExprForm-F.Postfix e ps) (forms.Postfix e ps)
  operand-complete e ps n k others site p q u w t v h =
      let js : List JudgedPart = map (judged_part d) ps in
      let start : Walk = advanced (judged_nodes d ps) w in
      let j : JudgedExpr = judged_expr d e in
      let run : run_parts d p q w.next site j.is_self (j.value p asked.Nothing uses.Kept start) js ≡ typed t v = sym (uncalled d p q w.next site j js start n) ∙ h in
      let (x, w₁, first) = run_parts-first p q w.next site j.is_self (j.value p asked.Nothing uses.Kept start) js t v run in
      operand-judged d e ps site p q u w w₁ v x t n (k p asked.Nothing uses.Kept start x w₁ first)
      (others p q w.next site j.is_self x w₁ t v (ap (λ r. run_parts d p q w.next site j.is_self r js) (sym first) ∙ run))

  abbrev pub PostfixFrom : Expr → List Part → Type 0
  PostfixFrom e ps = FormFrom d (ExprForm-F.Postfix e ps) (forms.Postfix e ps)

  pub postfix-complete : (e : Expr) (ps : List Part) → ExprDerives d e → Each (PartDerives d) ps → PostfixFrom e ps
  postfix-complete e [] k l = operand-complete e [] refl k (parts-complete [] l)
  postfix-complete e (x ∷ ps) k ((Part-F.Member end m c, f, i), l) = operand-complete e (x ∷ ps) (member-uncalled end m c x ps f) k (parts-complete (x ∷ ps) ((Part-F.Member end m c, f, i), l))
  postfix-complete e (x ∷ ps) k ((Part-F.Index end is, f, i), l) = operand-complete e (x ∷ ps) (index-uncalled end is x ps f) k (parts-complete (x ∷ ps) ((Part-F.Index end is, f, i), l))
  postfix-complete e (x ∷ ps) k ((Part-F.Call end as_ c, f, i), l) =
      subst (λ y. PostfixFrom e (y ∷ ps)) (sym (parts_.rolls-Call end as_ c) ∙ f) (operand_called-complete e end as_ c ps k i.0 i.1 (parts-complete ps l))

  -- a name with a closure literal behind it
  pub named_call-complete : (x : ℕ) (c : Closure) → ClosureDerives d c → FormFrom d (ExprForm-F.Named x (Some c)) (forms.Named x (Some c))
  named_call-complete x c i site p q u w t v h =
      let r : Verdict Callee = called_name d p (node (advanced 1 w).next) site x (advanced 1 (advanced 1 w)) in
      let args : List JudgedArgument = judged_arguments d [] (Some c) in
      let (f, w₁, first) = call-first d p q (node w.next) site args r t v h in
      Typed.named_call x site c p q u w w₁ v f t first (call-complete d [] (Some c) tt i p q (node w.next) site f w₁ t v (ap (call_value d p q (node w.next) site args) (sym first) ∙ h))
