-- Statements: what a rule derives is judged so, where its parts are.
use Rattle.std.proofs.Common.{◌≡◌, ◌∙◌, ℕ, Bool, true, false, not, List, [], ◌∷◌, Option, Some, None, is_some, refl, sym, ap, true≢false}
use Rattle.std.proofs.Common as common
use Rattle.sx_span.specs.declared.places.Node.{Node}
use Rattle.sx_tree.specs.declared.code.Block.{Block}
use Rattle.sx_tree.specs.declared.code.Closure.{Closure}
use Rattle.sx_tree.specs.declared.code.Else.{Else, Else-F, roll-Else}
use Rattle.sx_tree.specs.declared.code.Else.TheVariants as otherwises
use Rattle.sx_tree.specs.declared.code.Expr.{Expr}
use Rattle.sx_tree.specs.declared.code.ExprForm.{ExprForm-F}
use Rattle.sx_tree.specs.declared.code.ExprForm.TheVariants as forms
use Rattle.sx_tree.specs.declared.code.Local.{Local}
use Rattle.sx_tree.specs.declared.code.Statement.{Statement}
use Rattle.sx_tree.specs.declared.code.StatementForm.{StatementForm, StatementForm-F, roll-StatementForm}
use Rattle.sx_tree.specs.declared.code.StatementForm.TheVariants as statement_forms
use Rattle.sx_tree.specs.declared.operators.Assignment.{Assignment}
use Rattle.sx_types.specs.declared.types.Ty.{Ty}
use Rattle.sx_types.specs.declared.types.Ty.TheVariants as ty
use Rattle.sx_typed.specs.declared.code.Expr.{Expr as TypedExpr}
use Rattle.sx_typed.specs.declared.code.Statement.{Statement as TypedStatement}
use Rattle.sx_typed.specs.declared.code.StatementForm.{StatementForm as TypedForm}
use Rattle.sx_typed.specs.declared.code.StatementForm.TheVariants as typed_statements
use Rattle.sx_scope.specs.declared.declarations.Declarations.{Declarations}
use Rattle.sx_scope.specs.declared.declarations.Known.TheVariants as known
use Rattle.sx_scope.specs.declared.stop.TypeKind.TheVariants as kind
use Rattle.sx_scope.specs.declared.walk.Asked.{Asked}
use Rattle.sx_scope.specs.declared.walk.Asked.TheVariants as asked
use Rattle.sx_scope.specs.declared.walk.Gives.{Gives}
use Rattle.sx_scope.specs.declared.walk.Gives.TheVariants as gives
use Rattle.sx_scope.specs.declared.walk.Place.{Place}
use Rattle.sx_scope.specs.declared.walk.Use.{Use}
use Rattle.sx_scope.specs.declared.walk.Use.TheVariants as uses
use Rattle.sx_scope.specs.declared.walk.Walk.{Walk}
use Rattle.sx_scope.specs.Verdict.{Verdict, typed, Judging, ◌▷◌, both, both_by, fault}
use Rattle.sx_scope.specs.Walks.{node, advanced}
use Rattle.sx_scope.specs.Paths.{modifiable}
use Rattle.sx_scope.specs.WrittenTypes.{is_void, judged_option}
use Rattle.sx_calls.specs.Parts.{JudgedExpr, JudgedStatement}
use Rattle.sx_bodies.specs.Statements as bodies
use Rattle.sx_bodies.specs.Statements.{asked_by_written, asked_of_left, asked_of_right, asked_to_give, assigned, assigned_form, assignable, declared_local, declared_with, declares, fresh, giving_in, has_value, if_made, in_loop, is_fresh, is_void_option, leaving, local_form, local_kind_of, local_named, local_stated, local_value, not_void_written, return_alone, return_with, returned, type_by, unless_taken, while_made}
use Rattle.sx_check_expr.specs.Judge.{judged_block, judged_else, judged_expr, judged_local, judged_statement, judged_statement_form, else_step, statement_form_step, local_step}
use Rattle.sx_well_typed.specs.Claims.{Claim}
use Rattle.sx_well_typed.specs.Rules.{may_give_none}
use Rattle.sx_well_typed.proofs.Holds.{Holds}
use Rattle.sx_well_typed.proofs.Levels.{OfParts, judged_in_else, judged_in_statement_form, else-rolled, expr-rolled, local-rolled, statement-rolled, statement_form-rolled}
use Rattle.sx_well_typed.proofs.SoundExpressions.{form-by}
use Rattle.sx_well_typed.proofs.Verdicts.{then-typed, both-typed, both_by-typed, need-typed}

module _ (d : Declarations) where
  pub statement_form-at : (x : OfParts StatementForm-F) (f : StatementForm) → roll-StatementForm x ≡ f → judged_statement_form d f ≡ statement_form_step d (judged_in_statement_form d x)
  statement_form-at x f h = ap (judged_statement_form d) (sym h) ∙ statement_form-rolled d x

  pub statement_form-by : (x : OfParts StatementForm-F) (f : StatementForm) (site : ℕ) (p : Place) (w v : Walk) (t : TypedStatement) →
      roll-StatementForm x ≡ f → (statement_form_step d (judged_in_statement_form d x) site).value p w ≡ typed t v → Holds d (Claim.statement_form f site p w t v)
  statement_form-by x f site p w v t h k = ap (λ (j : ℕ → JudgedStatement). (j site).value p w) (statement_form-at x f h) ∙ k

  -- ---- an expression and a statement by their forms
  pub an_expression-sound : (e : Expr) (p : Place) (q : Asked) (u : Use) (w v : Walk) (t : TypedExpr) → Holds d (Claim.form e.form e.span.start p q u w t v) → Holds d (Claim.expression e p q u w t v)
  an_expression-sound e p q u w v t h = ap (λ (j : JudgedExpr). j.value p q u w) (expr-rolled d (record { span = e.span; form = e.form })) ∙ h

  pub a_statement-sound : (s : Statement) (p : Place) (w v : Walk) (t : TypedStatement) → Holds d (Claim.statement_form s.form s.span.start p w t v) → Holds d (Claim.statement s p w t v)
  a_statement-sound s p w v t h = ap (λ (j : JudgedStatement). j.value p w) (statement-rolled d (record { span = s.span; form = s.form })) ∙ h

  pub literal-sound : (c : Closure) (site : ℕ) (p : Place) (q : Asked) (u : Use) (w v : Walk) (t : TypedExpr) → Holds d (Claim.closure c p q u w t v) → Holds d (Claim.form (forms.Closure c) site p q u w t v)
  literal-sound c site p q u w v t h = form-by d (ExprForm-F.Closure c) (forms.Closure c) site p q u w v t (forms.rolls-Closure c) h

  -- ---- statements
  pub expression_statement-sound : (e : Expr) (site : ℕ) (p : Place) (w v : Walk) (x : TypedExpr) → Holds d (Claim.expression e p asked.Nothing uses.Kept (advanced 1 w) x v) →
      Holds d (Claim.statement_form (statement_forms.Expr e) site p w (bodies.statement site (typed_statements.Expr x)) v)
  expression_statement-sound e site p w v x h =
      let t : TypedStatement = bodies.statement site (typed_statements.Expr x) in
      statement_form-by (StatementForm-F.Expr e) (statement_forms.Expr e) site p w v t (statement_forms.rolls-Expr e)
      (then-typed ((judged_expr d e).value p asked.Nothing uses.Kept (advanced 1 w)) (λ e. typed (bodies.statement site (typed_statements.Expr e))) x v (typed t v) h refl)

  pub assign-sound : (a : Assignment) (l e : Expr) (site : ℕ) (p : Place) (w w₁ v : Walk) (x y : TypedExpr) →
      Holds d (Claim.expression l p (asked_of_left a) uses.Modified (advanced 1 w) x w₁) → modifiable x ≡ true →
      Holds d (Claim.expression e p (asked_of_right a (Some x)) uses.Kept w₁ y v) →
      Holds d (Claim.statement_form (statement_forms.Assign a l e) site p w (bodies.statement site (assigned_form a x y)) v)
  assign-sound a l e site p w w₁ v x y h m k =
      let t : TypedStatement = bodies.statement site (assigned_form a x y) in
      let left : Verdict TypedExpr = (judged_expr d l).value p (asked_of_left a) uses.Modified (advanced 1 w) in
      let right : Option TypedExpr → Judging TypedExpr = λ o. (judged_expr d e).value p (asked_of_right a o) uses.Kept in
      statement_form-by (StatementForm-F.Assign a l e) (statement_forms.Assign a l e) site p w v t (statement_forms.rolls-Assign a l e)
      (then-typed (both_by (left ▷ assignable) right) (assigned a site) (x, y) v (typed t v)
      (both_by-typed (left ▷ assignable) right x w₁ y v (then-typed left assignable x w₁ (typed x w₁) h (need-typed (modifiable x) kind.NotAssignable x.node (typed x) w₁ (typed x w₁) m refl)) k) refl)

  pub if-sound : (c : Expr) (a : Block) (b : Else) (site : ℕ) (p : Place) (w w₁ w₂ v : Walk) (x : TypedExpr) (ss ts : List TypedStatement) →
      Holds d (Claim.expression c p (asked.Type ty.Bool) uses.Kept (advanced 1 w) x w₁) → Holds d (Claim.block a p w₁ ss w₂) → Holds d (Claim.otherwise b p w₂ ts v) →
      Holds d (Claim.statement_form (statement_forms.If c a b) site p w (bodies.statement site (typed_statements.If x ss ts)) v)
  if-sound c a b site p w w₁ w₂ v x ss ts h k r =
      let t : TypedStatement = bodies.statement site (typed_statements.If x ss ts) in
      let first : Verdict TypedExpr = (judged_expr d c).value p (asked.Type ty.Bool) uses.Kept (advanced 1 w) in
      let second : Judging (List TypedStatement) = bodies.block p (judged_block d a) in
      let third : Judging (List TypedStatement) = bodies.else_block p (judged_else d b) in
      statement_form-by (StatementForm-F.If c a b) (statement_forms.If c a b) site p w v t (statement_forms.rolls-If c a b)
      (then-typed (both (both first second) third) (if_made site) ((x, ss), ts) v (typed t v)
      (both-typed (both first second) third (x, ss) w₂ ts v (both-typed first second x w₁ ss w₂ h k) r) refl)

  pub while-sound : (c : Expr) (a : Block) (site : ℕ) (p : Place) (w w₁ v : Walk) (x : TypedExpr) (ss : List TypedStatement) →
      Holds d (Claim.expression c p (asked.Type ty.Bool) uses.Kept (advanced 1 w) x w₁) → Holds d (Claim.block a (in_loop p) w₁ ss v) →
      Holds d (Claim.statement_form (statement_forms.While c a) site p w (bodies.statement site (typed_statements.While x ss)) v)
  while-sound c a site p w w₁ v x ss h k =
      let t : TypedStatement = bodies.statement site (typed_statements.While x ss) in
      let first : Verdict TypedExpr = (judged_expr d c).value p (asked.Type ty.Bool) uses.Kept (advanced 1 w) in
      let second : Judging (List TypedStatement) = bodies.block (in_loop p) (judged_block d a) in
      statement_form-by (StatementForm-F.While c a) (statement_forms.While c a) site p w v t (statement_forms.rolls-While c a)
      (then-typed (both first second) (while_made site) (x, ss) v (typed t v) (both-typed first second x w₁ ss v h k) refl)

  return_with-typed : (g : Gives) (j : JudgedExpr) (site : ℕ) (n : Node) (p : Place) (w v : Walk) (x : TypedExpr) → has_value g ≡ true →
      j.value p (asked_to_give g) uses.Kept w ≡ typed x v → return_with g j site n p w ≡ typed (bodies.statement site (typed_statements.Return (Some x))) v
  return_with-typed gives.Nothing j site n p w v x h k = absurd (true≢false (sym h))
  return_with-typed gives.Unknown j site n p w v x h k =
      then-typed (j.value p asked.Unknown uses.Kept w) (λ e. returned site (Some e)) x v (typed (bodies.statement site (typed_statements.Return (Some x))) v) k refl
  return_with-typed (gives.Type t) j site n p w v x h k =
      let r : Verdict TypedStatement = typed (bodies.statement site (typed_statements.Return (Some x))) v in
      ap (λ b. common.cond b (j.value p asked.Nothing uses.Kept w ▷ (λ e. fault kind.Mismatch n)) (j.value p (asked.Type t) uses.Kept w ▷ (λ e. returned site (Some e)))) (is-not (is_void t) h)
      ∙ then-typed (j.value p (asked.Type t) uses.Kept w) (λ e. returned site (Some e)) x v r k refl
    where
      is-not : (b : Bool) → not b ≡ true → b ≡ false
      is-not true h = sym h
      is-not false h = refl

  pub return_value-sound : (e : Expr) (site : ℕ) (p : Place) (w v : Walk) (x : TypedExpr) → has_value p.gives ≡ true →
      Holds d (Claim.expression e p (asked_to_give p.gives) uses.Kept (advanced 1 w) x v) →
      Holds d (Claim.statement_form (statement_forms.Return (Some e)) site p w (bodies.statement site (typed_statements.Return (Some x))) v)
  return_value-sound e site p w v x h k =
      let t : TypedStatement = bodies.statement site (typed_statements.Return (Some x)) in
      statement_form-by (StatementForm-F.Return (Some e)) (statement_forms.Return (Some e)) site p w v t (statement_forms.rolls-Return (Some e))
      (return_with-typed p.gives (judged_expr d e) site (node w.next) p (advanced 1 w) v x h k)

  return_alone-typed : (g : Gives) (site : ℕ) (n : Node) (w : Walk) → may_give_none g ≡ true → return_alone g site n w ≡ typed (bodies.statement site (typed_statements.Return None)) w
  return_alone-typed gives.Nothing site n w h = absurd (true≢false (sym h))
  return_alone-typed gives.Unknown site n w h = refl
  return_alone-typed (gives.Type t) site n w h = need-typed (is_void t) kind.Mismatch n (returned site None) w (typed (bodies.statement site (typed_statements.Return None)) w) h refl

  pub return_none-sound : (site : ℕ) (p : Place) (w : Walk) → may_give_none p.gives ≡ true →
      Holds d (Claim.statement_form (statement_forms.Return None) site p w (bodies.statement site (typed_statements.Return None)) (advanced 1 w))
  return_none-sound site p w h =
      let t : TypedStatement = bodies.statement site (typed_statements.Return None) in
      statement_form-by (StatementForm-F.Return None) (statement_forms.Return None) site p w (advanced 1 w) t (statement_forms.rolls-Return None) (return_alone-typed p.gives site (node w.next) (advanced 1 w) h)

  leaving-typed : (f : TypedForm) (site : ℕ) (p : Place) (w : Walk) → p.in_loop ≡ true → leaving f site p w ≡ typed (bodies.statement site f) (advanced 1 w)
  leaving-typed f site p w h = need-typed p.in_loop kind.BreakOutside (node w.next) (typed (bodies.statement site f)) (advanced 1 w) (typed (bodies.statement site f) (advanced 1 w)) h refl

  pub break-sound : (site : ℕ) (p : Place) (w : Walk) → p.in_loop ≡ true → Holds d (Claim.statement_form statement_forms.Break site p w (bodies.statement site typed_statements.Break) (advanced 1 w))
  break-sound site p w h =
      statement_form-by StatementForm-F.Break statement_forms.Break site p w (advanced 1 w) (bodies.statement site typed_statements.Break) statement_forms.rolls-Break (leaving-typed typed_statements.Break site p w h)

  pub continue-sound : (site : ℕ) (p : Place) (w : Walk) → p.in_loop ≡ true → Holds d (Claim.statement_form statement_forms.Continue site p w (bodies.statement site typed_statements.Continue) (advanced 1 w))
  continue-sound site p w h =
      statement_form-by StatementForm-F.Continue statement_forms.Continue site p w (advanced 1 w) (bodies.statement site typed_statements.Continue) statement_forms.rolls-Continue (leaving-typed typed_statements.Continue site p w h)

  pub local_statement-sound : (l : Local) (site : ℕ) (p : Place) (w v : Walk) (t : TypedStatement) → Holds d (Claim.local l site p w t v) → Holds d (Claim.statement_form (statement_forms.Local l) site p w t v)
  local_statement-sound l site p w v t h = statement_form-by (StatementForm-F.Local l) (statement_forms.Local l) site p w v t (statement_forms.rolls-Local l) h

  -- ---- locals
  pub local_is : (l : Local) → judged_local d l ≡ local_step d (record { constant = l.constant; name = l.name; ty = l.ty; value = judged_expr d l.value })
  local_is l = local-rolled d (record { constant = l.constant; name = l.name; ty = l.ty; value = l.value })

  pub a_local-sound : (l : Local) (site : ℕ) (p : Place) (w w₁ w₂ : Walk) (o : Option Ty) (x : TypedExpr) →
      is_fresh d p.outside_block l.name.number (advanced 1 w) ≡ true →
      judged_option d l.ty (advanced 1 w) ≡ typed o w₁ → is_void_option o ≡ false →
      Holds d (Claim.expression l.value (giving_in p (is_some l.ty) (node w.next)) (asked_by_written (Some o)) uses.Kept w₁ x w₂) → is_void (type_by o x) ≡ false →
      Holds d (Claim.local l site p w (bodies.statement site (local_form l.constant (node w.next) l.name.number x))
      (unless_taken p.outside_block (local_named l.name.number (node w.next) (local_kind_of l.constant) false (known.Type x.ty)) w₂))
  a_local-sound l site p w w₁ w₂ o x f h n k m =
      let i : Node = node w.next in
      let y : ℕ = l.name.number in
      let here : Walk = advanced 1 w in
      let value : Option (Option Ty) → Judging TypedExpr = λ t. (judged_expr d l.value).value (giving_in p (is_some l.ty) i) (asked_by_written t) uses.Kept in
      let second : Judging (Option Ty × TypedExpr) = λ w. both_by (judged_option d l.ty w ▷ not_void_written i) value in
      let new : fresh d p.outside_block y i here ≡ typed tt here = need-typed (is_fresh d p.outside_block y here) kind.Duplicate i (typed tt) here (typed tt here) f refl in
      let written : judged_option d l.ty here ▷ not_void_written i ≡ typed o w₁ = then-typed (judged_option d l.ty here) (not_void_written i) o w₁ (typed o w₁) h (need-typed (not (is_void_option o)) kind.Mismatch i (typed o) w₁ (typed o w₁) (ap not n) refl) in
      let whole : local_value d p y (is_some l.ty) (judged_option d l.ty) (judged_expr d l.value) i here ≡ typed x w₂ =
      then-typed (both (fresh d p.outside_block y i here) second) (declared_with i) (tt, (o, x)) w₂ (typed x w₂)
      (both-typed (fresh d p.outside_block y i here) second tt here (o, x) w₂ new (both_by-typed (judged_option d l.ty here ▷ not_void_written i) value o w₁ x w₂ written k))
      (need-typed (not (is_void (type_by o x))) kind.Mismatch i (typed x) w₂ (typed x w₂) (ap not m) refl) in
      ap (λ (j : ℕ → JudgedStatement). (j site).value p w) (local_is l)
      ∙ ap (λ r. declares p y l.constant i (local_stated d p y (judged_option d l.ty) i here) r ▷ declared_local l.constant i y site) whole

  -- ---- what follows the block of an `if`
  else-by : (x : OfParts Else-F) (e : Else) (p : Place) (w v : Walk) (ts : List TypedStatement) → roll-Else x ≡ e → bodies.else_block p (else_step d (judged_in_else d x)) w ≡ typed ts v → Holds d (Claim.otherwise e p w ts v)
  else-by x e p w v ts h k = ap (λ j. bodies.else_block p j w) (ap (judged_else d) (sym h) ∙ else-rolled d x) ∙ k

  pub no_else-sound : (p : Place) (w : Walk) → Holds d (Claim.otherwise otherwises.Absent p w [] w)
  no_else-sound p w = else-by Else-F.Absent otherwises.Absent p w w [] otherwises.rolls-Absent refl

  pub else_block-sound : (b : Block) (p : Place) (w v : Walk) (ts : List TypedStatement) → Holds d (Claim.block b p w ts v) → Holds d (Claim.otherwise (otherwises.Block b) p w ts v)
  else_block-sound b p w v ts h = else-by (Else-F.Block b) (otherwises.Block b) p w v ts (otherwises.rolls-Block b) h

  pub else_if-sound : (s : Statement) (p : Place) (w v : Walk) (t : TypedStatement) → Holds d (Claim.statement s p w t v) → Holds d (Claim.otherwise (otherwises.ElseIf s) p w (t ∷ []) v)
  else_if-sound s p w v t h =
      else-by (Else-F.ElseIf s) (otherwises.ElseIf s) p w v (t ∷ []) (otherwises.rolls-ElseIf s) (then-typed ((judged_statement d s).value p w) (λ s. typed (s ∷ [])) t v (typed (t ∷ []) v) h refl)
