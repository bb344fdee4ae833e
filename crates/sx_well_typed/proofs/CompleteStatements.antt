-- Statements: what is judged typed is derived, where this is so of their parts.
use Rattle.std.proofs.Common.{◌≡◌, ◌∙◌, ℕ, Bool, true, false, not, List, [], ◌∷◌, Option, Some, None, cond, is_some, refl, sym, ap, subst}
use Rattle.sx_span.specs.declared.places.Node.{Node}
use Rattle.sx_tree.specs.declared.code.Block.{Block}
use Rattle.sx_tree.specs.declared.code.Else.{Else, Else-F, roll-Else}
use Rattle.sx_tree.specs.declared.code.Else.TheVariants as otherwises
use Rattle.sx_tree.specs.declared.code.Expr.{Expr}
use Rattle.sx_tree.specs.declared.code.Local.{Local}
use Rattle.sx_tree.specs.declared.code.Statement.{Statement}
use Rattle.sx_tree.specs.declared.code.StatementForm.{StatementForm, StatementForm-F, roll-StatementForm}
use Rattle.sx_tree.specs.declared.code.StatementForm.TheVariants as statement_forms
use Rattle.sx_tree.specs.declared.operators.Assignment.{Assignment}
use Rattle.sx_types.specs.declared.types.Ty.{Ty}
use Rattle.sx_types.specs.declared.types.Ty.TheVariants as ty
use Rattle.sx_typed.specs.declared.code.Expr.{Expr as TypedExpr}
use Rattle.sx_typed.specs.declared.code.Statement.{Statement as TypedStatement}
use Rattle.sx_typed.specs.declared.code.StatementForm.TheVariants as typed_statements
use Rattle.sx_scope.specs.declared.declarations.Declarations.{Declarations}
use Rattle.sx_scope.specs.declared.declarations.Known.TheVariants as known
use Rattle.sx_scope.specs.declared.stop.TypeKind.TheVariants as kind
use Rattle.sx_scope.specs.declared.walk.Asked.TheVariants as asked
use Rattle.sx_scope.specs.declared.walk.Gives.{Gives}
use Rattle.sx_scope.specs.declared.walk.Gives.TheVariants as gives
use Rattle.sx_scope.specs.declared.walk.Place.{Place}
use Rattle.sx_scope.specs.declared.walk.Use.TheVariants as uses
use Rattle.sx_scope.specs.declared.walk.Walk.{Walk}
use Rattle.sx_scope.specs.Verdict.{Verdict, typed, Judging, ◌▷◌, both, both_by, fault}
use Rattle.sx_scope.specs.Walks.{node, advanced}
use Rattle.sx_scope.specs.Paths.{modifiable}
use Rattle.sx_scope.specs.WrittenTypes.{is_void, judged_option}
use Rattle.sx_calls.specs.Parts.{JudgedExpr, JudgedStatement}
use Rattle.sx_bodies.specs.Statements as bodies
use Rattle.sx_bodies.specs.Statements.{asked_by_written, asked_of_left, asked_of_right, asked_to_give, assigned, assigned_form, assignable, declared_local, declared_with, declares, fresh, giving_in, has_value, if_made, in_loop, is_fresh, is_void_option, known_local, local_form, local_kind_of, local_named, local_stated, local_value, not_void_written, return_alone, return_with, returned, type_by, unless_taken, while_made}
use Rattle.sx_check_expr.specs.Judge.{judged_block, judged_else, judged_expr, judged_statement, else_step, statement_form_step}
use Rattle.sx_well_typed.specs.Claims.{Claim}
use Rattle.sx_well_typed.specs.Rules.{may_give_none, Typed}
use Rattle.sx_well_typed.proofs.Derives.{BlockDerives, ElseDerives, ExprDerives, LocalDerives, StatementDerives}
use Rattle.sx_well_typed.proofs.Holds.{Holds}
use Rattle.sx_well_typed.proofs.Levels.{OfParts, judged_in_else, judged_in_statement_form, else-rolled, statement_form-rolled}
use Rattle.sx_well_typed.proofs.SoundStatements.{local_is}
use Rattle.sx_well_typed.proofs.Verdicts.{typed-as, not-typed, same-part, then-inverted, both_by-inverted, need-inverted, moved-inverted}

-- no, so not not so
pub is-not : (b : Bool) → not b ≡ true → b ≡ false
is-not true h = sym h
is-not false h = refl

module _ (d : Declarations) where
  abbrev pub StatementFrom : OfParts StatementForm-F → StatementForm → Type 0
  StatementFrom x f = (site : ℕ) (p : Place) (w : Walk) (t : TypedStatement) (v : Walk) → (statement_form_step d (judged_in_statement_form d x) site).value p w ≡ typed t v → Typed d (Claim.statement_form f site p w t v)

  pub statement_form-from : (x : OfParts StatementForm-F) (f : StatementForm) → roll-StatementForm x ≡ f → StatementFrom x f →
      (site : ℕ) (p : Place) (w : Walk) (t : TypedStatement) (v : Walk) → Holds d (Claim.statement_form (roll-StatementForm x) site p w t v) → Typed d (Claim.statement_form (roll-StatementForm x) site p w t v)
  statement_form-from x f e k site p w t v h =
      subst (λ g. Typed d (Claim.statement_form g site p w t v)) (sym e) (k site p w t v (ap (λ (j : ℕ → JudgedStatement). (j site).value p w) (sym (statement_form-rolled d x)) ∙ h))

  -- ---- statements
  pub expression_statement-complete : (e : Expr) → ExprDerives d e → StatementFrom (StatementForm-F.Expr e) (statement_forms.Expr e)
  expression_statement-complete e k site p w t v h =
      let (x, w₁, first, made) = then-inverted ((judged_expr d e).value p asked.Nothing uses.Kept (advanced 1 w)) (λ e. typed (bodies.statement site (typed_statements.Expr e))) t v h in
      typed-as (λ t v. Typed d (Claim.statement_form (statement_forms.Expr e) site p w t v)) (bodies.statement site (typed_statements.Expr x)) t w₁ v made
      (Typed.expression_statement e site p w w₁ x (k p asked.Nothing uses.Kept (advanced 1 w) x w₁ first))

  pub assign-complete : (a : Assignment) (l e : Expr) → ExprDerives d l → ExprDerives d e → StatementFrom (StatementForm-F.Assign a l e) (statement_forms.Assign a l e)
  assign-complete a l e k i site p w t v h =
      let left : Verdict TypedExpr = (judged_expr d l).value p (asked_of_left a) uses.Modified (advanced 1 w) in
      let right : Option TypedExpr → Judging TypedExpr = λ o. (judged_expr d e).value p (asked_of_right a o) uses.Kept in
      let (x, w₂, all, made) = then-inverted (both_by (left ▷ assignable) right) (assigned a site) t v h in
      let (w₁, one, two) = both_by-inverted (left ▷ assignable) right x w₂ all in
      let (y, w₀, first, kept) = then-inverted left assignable x.0 w₁ one in
      let c = need-inverted (modifiable y) kind.NotAssignable y.node (typed y) w₀ x.0 w₁ kept in
      typed-as (λ t v. Typed d (Claim.statement_form (statement_forms.Assign a l e) site p w t v)) (bodies.statement site (assigned_form a x.0 x.1)) t w₂ v made
      (Typed.assign a l e site p w w₁ w₂ x.0 x.1 (k p (asked_of_left a) uses.Modified (advanced 1 w) x.0 w₁ (first ∙ c.1)) (ap modifiable (sym (same-part y x.0 w₀ w₁ c.1)) ∙ c.0)
      (i p (asked_of_right a (Some x.0)) uses.Kept w₁ x.1 w₂ two))

  pub if-complete : (c : Expr) (a : Block) (b : Else) → ExprDerives d c → BlockDerives d a → ElseDerives d b → StatementFrom (StatementForm-F.If c a b) (statement_forms.If c a b)
  if-complete c a b k i j site p w t v h =
      let first : Verdict TypedExpr = (judged_expr d c).value p (asked.Type ty.Bool) uses.Kept (advanced 1 w) in
      let second : Judging (List TypedStatement) = bodies.block p (judged_block d a) in
      let third : Judging (List TypedStatement) = bodies.else_block p (judged_else d b) in
      let (x, w₃, all, made) = then-inverted (both (both first second) third) (if_made site) t v h in
      let (w₂, two, three) = both_by-inverted (both first second) (λ _. third) x w₃ all in
      let (w₁, one, between) = both_by-inverted first (λ _. second) x.0 w₂ two in
      typed-as (λ t v. Typed d (Claim.statement_form (statement_forms.If c a b) site p w t v)) (bodies.statement site (typed_statements.If x.0.0 x.0.1 x.1)) t w₃ v made
      (Typed.if_ c a b site p w w₁ w₂ w₃ x.0.0 x.0.1 x.1 (k p (asked.Type ty.Bool) uses.Kept (advanced 1 w) x.0.0 w₁ one) (i p w₁ x.0.1 w₂ between) (j p w₂ x.1 w₃ three))

  pub while-complete : (c : Expr) (a : Block) → ExprDerives d c → BlockDerives d a → StatementFrom (StatementForm-F.While c a) (statement_forms.While c a)
  while-complete c a k i site p w t v h =
      let first : Verdict TypedExpr = (judged_expr d c).value p (asked.Type ty.Bool) uses.Kept (advanced 1 w) in
      let second : Judging (List TypedStatement) = bodies.block (in_loop p) (judged_block d a) in
      let (x, w₂, all, made) = then-inverted (both first second) (while_made site) t v h in
      let (w₁, one, two) = both_by-inverted first (λ _. second) x w₂ all in
      typed-as (λ t v. Typed d (Claim.statement_form (statement_forms.While c a) site p w t v)) (bodies.statement site (typed_statements.While x.0 x.1)) t w₂ v made
      (Typed.while_ c a site p w w₁ w₂ x.0 x.1 (k p (asked.Type ty.Bool) uses.Kept (advanced 1 w) x.0 w₁ one) (i (in_loop p) w₁ x.1 w₂ two))

  -- a value is given back
  abbrev pub GivesBack : Gives → JudgedExpr → ℕ → Place → Walk → TypedStatement → Walk → Type 0
  GivesBack g j site p w t v = (x : TypedExpr) × (w₁ : Walk) × (has_value g ≡ true) × (j.value p (asked_to_give g) uses.Kept w ≡ typed x w₁) × (typed (bodies.statement site (typed_statements.Return (Some x))) w₁ ≡ typed t v)

  return_with-inverted : (g : Gives) (j : JudgedExpr) (site : ℕ) (n : Node) (p : Place) (w : Walk) (t : TypedStatement) (v : Walk) → return_with g j site n p w ≡ typed t v → GivesBack g j site p w t v
  return_with-inverted gives.Nothing j site n p w t v h =
      let (x, w₁, first, made) = then-inverted (j.value p asked.Nothing uses.Kept w) (λ e. fault kind.BreakOutside n) t v h in
      not-typed (GivesBack gives.Nothing j site p w t v) (fault {A = TypedStatement} kind.BreakOutside n w₁) t v refl made
  return_with-inverted gives.Unknown j site n p w t v h =
      let (x, w₁, first, made) = then-inverted (j.value p asked.Unknown uses.Kept w) (λ e. returned site (Some e)) t v h in
      (x, w₁, refl, first, made)
  return_with-inverted (gives.Type s) j site n p w t v h = by (is_void s) refl h
    where
      by : (b : Bool) → is_void s ≡ b → cond b (j.value p asked.Nothing uses.Kept w ▷ (λ e. fault kind.Mismatch n)) (j.value p (asked.Type s) uses.Kept w ▷ (λ e. returned site (Some e))) ≡ typed t v → GivesBack (gives.Type s) j site p w t v
      by true e k =
          let (x, w₁, first, made) = then-inverted (j.value p asked.Nothing uses.Kept w) (λ e. fault kind.Mismatch n) t v k in
          not-typed (GivesBack (gives.Type s) j site p w t v) (fault {A = TypedStatement} kind.Mismatch n w₁) t v refl made
      by false e k =
          let (x, w₁, first, made) = then-inverted (j.value p (asked.Type s) uses.Kept w) (λ e. returned site (Some e)) t v k in
          (x, w₁, ap not e, first, made)

  pub return_value-complete : (e : Expr) → ExprDerives d e → StatementFrom (StatementForm-F.Return (Some e)) (statement_forms.Return (Some e))
  return_value-complete e k site p w t v h =
      let (x, w₁, some, first, made) = return_with-inverted p.gives (judged_expr d e) site (node w.next) p (advanced 1 w) t v h in
      typed-as (λ t v. Typed d (Claim.statement_form (statement_forms.Return (Some e)) site p w t v)) (bodies.statement site (typed_statements.Return (Some x))) t w₁ v made
      (Typed.return_value e site p w w₁ x some (k p (asked_to_give p.gives) uses.Kept (advanced 1 w) x w₁ first))

  return_alone-inverted : (g : Gives) (site : ℕ) (n : Node) (w : Walk) (t : TypedStatement) (v : Walk) → return_alone g site n w ≡ typed t v → (may_give_none g ≡ true) × (typed (bodies.statement site (typed_statements.Return None)) w ≡ typed t v)
  return_alone-inverted gives.Nothing site n w t v h =
      not-typed ((may_give_none gives.Nothing ≡ true) × (typed (bodies.statement site (typed_statements.Return None)) w ≡ typed t v)) (fault {A = TypedStatement} kind.BreakOutside n w) t v refl h
  return_alone-inverted gives.Unknown site n w t v h = (refl, h)
  return_alone-inverted (gives.Type s) site n w t v h = need-inverted (is_void s) kind.Mismatch n (returned site None) w t v h

  pub return_none-complete : StatementFrom (StatementForm-F.Return None) (statement_forms.Return None)
  return_none-complete site p w t v h =
      let r = return_alone-inverted p.gives site (node w.next) (advanced 1 w) t v h in
      typed-as (λ t v. Typed d (Claim.statement_form (statement_forms.Return None) site p w t v)) (bodies.statement site (typed_statements.Return None)) t (advanced 1 w) v r.1 (Typed.return_none site p w r.0)

  pub break-complete : StatementFrom StatementForm-F.Break statement_forms.Break
  break-complete site p w t v h =
      let s : TypedStatement = bodies.statement site typed_statements.Break in
      let r = need-inverted p.in_loop kind.BreakOutside (node w.next) (typed s) (advanced 1 w) t v h in
      typed-as (λ t v. Typed d (Claim.statement_form statement_forms.Break site p w t v)) s t (advanced 1 w) v r.1 (Typed.break site p w r.0)

  pub continue-complete : StatementFrom StatementForm-F.Continue statement_forms.Continue
  continue-complete site p w t v h =
      let s : TypedStatement = bodies.statement site typed_statements.Continue in
      let r = need-inverted p.in_loop kind.BreakOutside (node w.next) (typed s) (advanced 1 w) t v h in
      typed-as (λ t v. Typed d (Claim.statement_form statement_forms.Continue site p w t v)) s t (advanced 1 w) v r.1 (Typed.continue site p w r.0)

  pub local_statement-complete : (l : Local) → LocalDerives d l → StatementFrom (StatementForm-F.Local l) (statement_forms.Local l)
  local_statement-complete l k site p w t v h = Typed.local_statement l site p w v t (k site p w t v h)

  -- ---- locals
  pub local-complete : (l : Local) → ExprDerives d l.value → LocalDerives d l
  local-complete l k site p w t v h =
      let n : Node = node w.next in
      let y : ℕ = l.name.number in
      let here : Walk = advanced 1 w in
      let c : Bool = l.constant in
      let value : Option (Option Ty) → Judging TypedExpr = λ o. (judged_expr d l.value).value (giving_in p (is_some l.ty) n) (asked_by_written o) uses.Kept in
      let written : Judging (Option Ty) = λ w. judged_option d l.ty w ▷ not_void_written n in
      let second : Judging (Option Ty × TypedExpr) = λ w. both_by (written w) value in
      let whole : Verdict TypedExpr = local_value d p y (is_some l.ty) (judged_option d l.ty) (judged_expr d l.value) n here in
      let stated : Option Ty = local_stated d p y (judged_option d l.ty) n here in
      let run : declares p y c n stated whole ▷ declared_local c n y site ≡ typed t v = ap (λ (j : ℕ → JudgedStatement). (j site).value p w) (sym (local_is d l)) ∙ h in
      let (x, w₄, declared, made) = then-inverted (declares p y c n stated whole) (declared_local c n y site) t v run in
      let (w₃, is, behind) = moved-inverted (unless_taken p.outside_block (local_named y n (local_kind_of c) false (known_local stated whole))) whole x w₄ declared in
      let (z, w₂, all, kept) = then-inverted (both (fresh d p.outside_block y n here) second) (declared_with n) x w₃ is in
      let e = need-inverted (not (is_void (type_by z.1.0 z.1.1))) kind.Mismatch n (typed z.1.1) w₂ x w₃ kept in
      let (w₀, new, others) = both_by-inverted (fresh d p.outside_block y n here) (λ _. second) z w₂ all in
      let f = need-inverted (is_fresh d p.outside_block y here) kind.Duplicate n (typed tt) here z.0 w₀ new in
      let others' : second here ≡ typed z.1 w₂ = typed-as (λ u w. second w ≡ typed z.1 w₂) z.0 tt w₀ here (sym f.1) others in
      let (w₁, told, valued) = both_by-inverted (written here) value z.1 w₂ others' in
      let (o, u₁, first, plain) = then-inverted (judged_option d l.ty here) (not_void_written n) z.1.0 w₁ told in
      let g = need-inverted (not (is_void_option o)) kind.Mismatch n (typed o) u₁ z.1.0 w₁ plain in
      let first' : judged_option d l.ty here ≡ typed z.1.0 w₁ = first ∙ g.1 in
      let not_void : is_void_option z.1.0 ≡ false = ap is_void_option (sym (same-part o z.1.0 u₁ w₁ g.1)) ∙ is-not (is_void_option o) g.0 in
      let whole-is : whole ≡ typed z.1.1 w₂ = is ∙ sym e.1 in
      let result : declares p y c n stated (typed z.1.1 w₂) ▷ declared_local c n y site ≡ typed t v = ap (λ r. declares p y c n stated r ▷ declared_local c n y site) (sym whole-is) ∙ run in
      typed-as (λ t v. Typed d (Claim.local l site p w t v)) (bodies.statement site (local_form c n y z.1.1)) t (unless_taken p.outside_block (local_named y n (local_kind_of c) false (known.Type z.1.1.ty)) w₂) v result
      (Typed.a_local l site p w w₁ w₂ z.1.0 z.1.1 f.0 first' not_void (k (giving_in p (is_some l.ty) n) (asked_by_written (Some z.1.0)) uses.Kept w₁ z.1.1 w₂ valued) (is-not (is_void (type_by z.1.0 z.1.1)) e.0))

  -- ---- what follows the block of an `if`
  abbrev pub ElseFrom : OfParts Else-F → Else → Type 0
  ElseFrom x e = (p : Place) (w : Walk) (ts : List TypedStatement) (v : Walk) → bodies.else_block p (else_step d (judged_in_else d x)) w ≡ typed ts v → Typed d (Claim.otherwise e p w ts v)

  pub else-from : (x : OfParts Else-F) (e : Else) → roll-Else x ≡ e → ElseFrom x e → ElseDerives d (roll-Else x)
  else-from x e i k p w ts v h = subst (λ g. Typed d (Claim.otherwise g p w ts v)) (sym i) (k p w ts v (ap (λ j. bodies.else_block p j w) (sym (else-rolled d x)) ∙ h))

  pub no_else-complete : ElseFrom Else-F.Absent otherwises.Absent
  no_else-complete p w ts v h = typed-as (λ ts v. Typed d (Claim.otherwise otherwises.Absent p w ts v)) [] ts w v h (Typed.no_else p w)

  pub else_block-complete : (b : Block) → BlockDerives d b → ElseFrom (Else-F.Block b) (otherwises.Block b)
  else_block-complete b k p w ts v h = Typed.else_block b p w v ts (k p w ts v h)

  pub else_if-complete : (s : Statement) → StatementDerives d s → ElseFrom (Else-F.ElseIf s) (otherwises.ElseIf s)
  else_if-complete s k p w ts v h =
      let (t, w₁, first, made) = then-inverted ((judged_statement d s).value p w) (λ s. typed (s ∷ [])) ts v h in
      typed-as (λ ts v. Typed d (Claim.otherwise (otherwises.ElseIf s) p w ts v)) (t ∷ []) ts w₁ v made (Typed.else_if s p w w₁ t (k.0 p w t w₁ first))
