-- Statements in a row, bodies and closure literals: what a rule derives is judged so, where its parts are.
use Rattle.std.proofs.Common.{◌≡◌, ◌∙◌, ℕ, Bool, true, false, List, [], ◌∷◌, ◌++◌, map, length, Option, Some, None, refl, sym, ap}
use Rattle.std.proofs.Common as common
use Rattle.sx_span.specs.declared.places.Node.{Node}
use Rattle.sx_tree.specs.declared.code.Block.{Block, out-Block}
use Rattle.sx_tree.specs.declared.code.Closure.{Closure, out-Closure, fold_out-Closure}
use Rattle.sx_tree.specs.declared.code.Expr.{Expr}
use Rattle.sx_tree.specs.declared.code.Statement.{Statement}
use Rattle.sx_tree.specs.declared.code.StatementForm.{StatementForm-F, roll-StatementForm}
use Rattle.sx_tree.specs.declared.code.StatementForm.TheVariants as statement_forms
use Rattle.sx_types.specs.declared.types.Ty.{Ty}
use Rattle.sx_typed.specs.declared.code.Expr.{Expr as TypedExpr}
use Rattle.sx_typed.specs.declared.code.Statement.{Statement as TypedStatement}
use Rattle.sx_typed.specs.declared.code.StatementForm.TheVariants as typed_statements
use Rattle.sx_typed.specs.declared.program.Parameter.{Parameter}
use Rattle.sx_scope.specs.declared.declarations.Declarations.{Declarations}
use Rattle.sx_scope.specs.declared.walk.Asked.{Asked}
use Rattle.sx_scope.specs.declared.walk.Gives.TheVariants as gives
use Rattle.sx_scope.specs.declared.walk.Place.{Place}
use Rattle.sx_scope.specs.declared.walk.Use.{Use}
use Rattle.sx_scope.specs.declared.walk.Use.TheVariants as uses
use Rattle.sx_scope.specs.declared.walk.Walk.{Walk}
use Rattle.sx_scope.specs.Verdict.{Verdict, typed, Judging, both, both_by}
use Rattle.sx_scope.specs.Walks.{node, advanced, with_locals}
use Rattle.sx_calls.specs.Parts.{JudgedExpr, JudgedLink, JudgedArgument, JudgedPart, JudgedStatement, JudgedElse}
use Rattle.sx_bodies.specs.Statements as bodies
use Rattle.sx_bodies.specs.Statements.{asked_to_give, body_by, given_back, has_value, inside, lacks_return, run_statements, scoped, single, statement_added}
use Rattle.sx_bodies.specs.Literals as literals
use Rattle.sx_bodies.specs.Literals.{closed, escapes, inside_literal, judged_signature, JudgedSignature, gives_by, literal_by, literal_function, literal_made, literal_parts, literal_type, with_literal}
use Rattle.sx_check_expr.specs.Judge.{judged_closure, judged_expr, judged_statement, judged_statements, else_step, form_step, part_step, statement_form_step, argument_step, block_step, closure_step, expr_step, link_step, local_step, statement_step}
use Rattle.sx_check_expr.proofs.StatementEquations.{block_is}
use Rattle.sx_well_typed.specs.Claims.{Claim}
use Rattle.sx_well_typed.specs.LiteralRules.{LiteralFits, mentioned_since}
use Rattle.sx_well_typed.proofs.Holds.{Holds}
use Rattle.sx_well_typed.proofs.Levels.{OfParts, judged_in_statement_form, statement-rolled}
use Rattle.sx_well_typed.proofs.LiteralRules.{literal_expr, made-typed}
use Rattle.sx_well_typed.proofs.Verdicts.{then-typed, both-typed, both_by-typed, moved-typed}
use Rattle.sx_well_typed.proofs.SoundStatements.{statement_form-at}

module _ (d : Declarations) where
  -- ---- statements in a row
  pub statements_more-sound : (s : Statement) (ss : List Statement) (p : Place) (before ts : List TypedStatement) (t : TypedStatement) (w w₁ v : Walk) →
      Holds d (Claim.statement s p w t w₁) → Holds d (Claim.statements ss p (before ++ t ∷ []) w₁ ts v) → Holds d (Claim.statements (s ∷ ss) p before w ts v)
  statements_more-sound s ss p before ts t w w₁ v h k =
      let m : Judging TypedStatement = (judged_statement d s).value p in
      ap (λ r. run_statements p r (map (judged_statement d) ss)) (then-typed (both (typed before w) m) statement_added (before, t) w₁ (typed (before ++ t ∷ []) w₁) (both-typed (typed before w) m before w t w₁ refl h) refl) ∙ k

  pub scoped-typed : (p : Place) (ss : List Statement) (w v : Walk) (ts : List TypedStatement) → Holds d (Claim.statements ss (inside p w) [] w ts v) → scoped p (judged_statements d ss) w ≡ typed ts (with_locals (length w.locals) v)
  scoped-typed p ss w v ts h = moved-typed (with_locals (length w.locals)) (run_statements (inside p w) (typed [] w) (judged_statements d ss)) ts v h

  pub a_block-sound : (b : Block) (p : Place) (w v : Walk) (ts : List TypedStatement) → Holds d (Claim.statements (out-Block b).statements (inside p (advanced 1 w)) [] (advanced 1 w) ts v) →
      Holds d (Claim.block b p w ts (with_locals (length w.locals) v))
  a_block-sound b p w v ts h = ap (λ js. bodies.block p js w) (block_is d b) ∙ scoped-typed p (out-Block b).statements (advanced 1 w) v ts h

  -- ---- bodies
  pub statement_is : (s : Statement) (x : OfParts StatementForm-F) → s.form ≡ roll-StatementForm x → judged_statement d s ≡ statement_form_step d (judged_in_statement_form d x) s.span.start
  statement_is s x h =
      statement-rolled d (record { span = s.span; form = s.form }) ∙ ap (λ (j : ℕ → JudgedStatement). j s.span.start) (statement_form-at d x s.form (sym h))

  pub body_value-sound : (e : Expr) (s : Statement) (p : Place) (w v : Walk) (x : TypedExpr) → s.form ≡ statement_forms.Expr e → has_value p.gives ≡ true →
      Holds d (Claim.expression e p (asked_to_give p.gives) uses.Kept (advanced 1 w) x v) →
      Holds d (Claim.body (s ∷ []) p w (bodies.statement s.span.start (typed_statements.Return (Some x)) ∷ []) v)
  body_value-sound e s p w v x f g h =
      let j : JudgedStatement = statement_form_step d (StatementForm-F.Expr (judged_expr d e)) s.span.start in
      let r : Verdict (List TypedStatement) = typed (bodies.statement s.span.start (typed_statements.Return (Some x)) ∷ []) v in
      ap (λ (j : JudgedStatement). bodies.body p (j ∷ []) w) (statement_is s (StatementForm-F.Expr e) (f ∙ sym (statement_forms.rolls-Expr e)))
      ∙ ap (λ b. body_by p (j ∷ []) (common.cond b (Some (judged_expr d e)) None) w) g
      ∙ then-typed ((judged_expr d e).value p (asked_to_give p.gives) uses.Kept (advanced 1 w)) (given_back s.span.start) x v r h refl

  pub body_statements-sound : (ss : List Statement) (p : Place) (w v : Walk) (ts : List TypedStatement) → single p.gives (judged_statements d ss) ≡ None →
      Holds d (Claim.statements ss (inside p w) [] w ts v) → Holds d (Claim.body ss p w ts (with_locals (length w.locals) v))
  body_statements-sound ss p w v ts h k = ap (λ o. body_by p (judged_statements d ss) o w) h ∙ scoped-typed p ss w v ts k

  -- ---- closure literals
  pub closure_is : (c : Closure) → judged_closure d c ≡ closure_step d (record { span = (out-Closure c).span; signature = (out-Closure c).signature; body = judged_statements d (out-Closure c).body })
  closure_is c = fold_out-Closure JudgedElse (ℕ → JudgedExpr) JudgedPart (ℕ → JudgedStatement) JudgedArgument (List JudgedStatement) JudgedExpr JudgedExpr JudgedLink (ℕ → JudgedStatement) JudgedStatement (else_step d) (form_step d) (part_step d) (statement_form_step d) (argument_step d) (block_step d) (closure_step d) (expr_step d) (link_step d) (local_step d) (statement_step d) c

  made-sound : (c : Closure) (p : Place) (q : Asked) (u : Use) (w w₁ w₂ w₃ v : Walk) (ps : List Parameter) (r : Ty) (ss : List TypedStatement) (t : TypedExpr) →
      literals.parameters d q (judged_signature d (out-Closure c).signature) (advanced 1 w) ≡ typed ps w₁ →
      literals.result d q (judged_signature d (out-Closure c).signature) w₁ ≡ typed r w₂ →
      Holds d (Claim.body (out-Closure c).body (inside_literal p u (length w.locals) (gives.Type r)) w₂ ss w₃) →
      literal_made d q u (node w.next) (out-Closure c).span.start (length w.mentions) (length w.literals) (lacks_return (gives.Type r) (judged_statements d (out-Closure c).body)) (ps, (r, ss)) (closed (node w.next) (length w.locals) (length w.mentions) w₃) ≡ typed t v →
      Holds d (Claim.closure c p q u w t v)
  made-sound c p q u w w₁ w₂ w₃ v ps r ss t h k b m =
      let g : JudgedSignature = judged_signature d (out-Closure c).signature in
      let js : List JudgedStatement = judged_statements d (out-Closure c).body in
      let inner : Option Ty → Judging (List TypedStatement) = λ o. bodies.body (inside_literal p u (length w.locals) (gives_by o)) js in
      let all : literal_parts d p q u g js (length w.locals) (advanced 1 w) ≡ typed (ps, (r, ss)) w₃ =
      both-typed (literals.parameters d q g (advanced 1 w)) (λ w. both_by (literals.result d q g w) inner) ps w₁ (r, ss) w₃ h
      (both_by-typed (literals.result d q g w₁) inner r w₂ ss w₃ k b) in
      ap (λ (j : JudgedExpr). j.value p q u w) (closure_is c)
      ∙ ap (λ y. literal_by d q u (node w.next) (out-Closure c).span.start (length w.mentions) (length w.literals) g js y)
      (moved-typed (closed (node w.next) (length w.locals) (length w.mentions)) (literal_parts d p q u g js (length w.locals) (advanced 1 w)) (ps, (r, ss)) w₃ all)
      ∙ m

  pub a_closure-sound : (c : Closure) (p : Place) (q : Asked) (u : Use) (w w₁ w₂ w₃ v : Walk) (ps : List Parameter) (r : Ty) (ss : List TypedStatement) (k : ℕ) →
      literals.parameters d q (judged_signature d (out-Closure c).signature) (advanced 1 w) ≡ typed ps w₁ →
      literals.result d q (judged_signature d (out-Closure c).signature) w₁ ≡ typed r w₂ →
      Holds d (Claim.body (out-Closure c).body (inside_literal p u (length w.locals) (gives.Type r)) w₂ ss w₃) →
      closed (node w.next) (length w.locals) (length w.mentions) w₃ ≡ v →
      lacks_return (gives.Type r) (judged_statements d (out-Closure c).body) ≡ false → LiteralFits d q (mentioned_since w v) (literal_type (ps, (r, ss))) k →
      Holds d (Claim.closure c p q u w (literal_expr d (node w.next) (out-Closure c).span.start k) (with_literal (length w.literals) (literal_function (escapes u) (node w.next) (mentioned_since w v) (ps, (r, ss))) v))
  a_closure-sound c p q u w w₁ w₂ w₃ v ps r ss k h i b left returns fits =
      let n : Node = node w.next in
      let site : ℕ = (out-Closure c).span.start in
      let lacking : Bool = lacks_return (gives.Type r) (judged_statements d (out-Closure c).body) in
      made-sound c p q u w w₁ w₂ w₃ (with_literal (length w.literals) (literal_function (escapes u) n (mentioned_since w v) (ps, (r, ss))) v) ps r ss (literal_expr d n site k) h i b
      (ap (literal_made d q u n site (length w.mentions) (length w.literals) lacking (ps, (r, ss))) left
      ∙ made-typed d q u n site (length w.mentions) (length w.literals) lacking (ps, (r, ss)) v k fits returns)
