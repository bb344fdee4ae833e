-- What is seen of a tree is what the judgement tells of it beside its types.
use Rattle.std.proofs.Common.{◌≡◌, ◌∙◌, ℕ, ◌+◌, Bool, true, false, List, [], ◌∷◌, map, Option, Some, None, option_map, cond, refl, sym, ap, true≢false}
use Rattle.sx_tree.specs.declared.code.Expr.{Expr}
use Rattle.sx_tree.specs.declared.code.ExprForm.{ExprForm-F, out-ExprForm, roll-out-ExprForm}
use Rattle.sx_tree.specs.declared.code.Part.{Part, Part-F, out-Part, roll-out-Part}
use Rattle.sx_tree.specs.declared.code.Statement.{Statement}
use Rattle.sx_tree.specs.declared.code.StatementForm.{StatementForm-F, out-StatementForm, roll-out-StatementForm}
use Rattle.sx_scope.specs.declared.declarations.Declarations.{Declarations}
use Rattle.sx_scope.specs.declared.walk.Gives.{Gives}
use Rattle.sx_calls.specs.Parts.{JudgedExpr, JudgedPart, JudgedStatement, own_nodes, own_nodes_of}
use Rattle.sx_bodies.specs.Statements.{has_value, single}
use Rattle.sx_check_expr.specs.Judge.{form_step, judged_expr, judged_part, judged_statements, part_step, statement_form_step}
use Rattle.sx_check_expr.specs.Steps.{starts_call}
use Rattle.sx_well_typed.specs.Trees.{OfParts, alone_name, alone_value, calls_first, calls_in, is_self_word, name_in, nodes_in, nodes_of, self_in, value_in}
use Rattle.sx_well_typed.proofs.Levels.{judged_in_form, judged_in_part, judged_in_statement_form, expr-rolled, part-rolled}
use Rattle.sx_well_typed.proofs.SoundExpressions.{form-at}
use Rattle.sx_well_typed.proofs.SoundBodies.{closure_is, statement_is}
use Rattle.sx_well_typed.proofs.SoundStatements.{local_is}

module _ (d : Declarations) where
  pub expr_is : (e : Expr) → judged_expr d e ≡ form_step d (judged_in_form d (out-ExprForm e.form)) e.span.start
  expr_is e =
      expr-rolled d (record { span = e.span; form = e.form })
      ∙ ap (λ (j : ℕ → JudgedExpr). j e.span.start) (form-at d (out-ExprForm e.form) e.form (roll-out-ExprForm e.form))

  name_in-is : (y : OfParts ExprForm-F) (site : ℕ) → (form_step d (judged_in_form d y) site).name ≡ name_in y
  name_in-is (ExprForm-F.Int n) site = refl
  name_in-is ExprForm-F.LeastInt site = refl
  name_in-is (ExprForm-F.Bool b) site = refl
  name_in-is (ExprForm-F.Named x None) site = refl
  name_in-is (ExprForm-F.Named x (Some c)) site = refl
  name_in-is ExprForm-F.SelfWord site = refl
  name_in-is (ExprForm-F.Bracketed e) site = refl
  name_in-is (ExprForm-F.PrintText t) site = refl
  name_in-is (ExprForm-F.Negate e) site = refl
  name_in-is (ExprForm-F.Not e) site = refl
  name_in-is (ExprForm-F.Chain e ls) site = refl
  name_in-is (ExprForm-F.Postfix e ps) site = refl
  name_in-is (ExprForm-F.Closure c) site = ap (λ (j : JudgedExpr). j.name) (closure_is d c)
  name_in-is (ExprForm-F.Array es) site = refl

  self_in-is : (y : OfParts ExprForm-F) (site : ℕ) → (form_step d (judged_in_form d y) site).is_self ≡ self_in y
  self_in-is (ExprForm-F.Int n) site = refl
  self_in-is ExprForm-F.LeastInt site = refl
  self_in-is (ExprForm-F.Bool b) site = refl
  self_in-is (ExprForm-F.Named x None) site = refl
  self_in-is (ExprForm-F.Named x (Some c)) site = refl
  self_in-is ExprForm-F.SelfWord site = refl
  self_in-is (ExprForm-F.Bracketed e) site = refl
  self_in-is (ExprForm-F.PrintText t) site = refl
  self_in-is (ExprForm-F.Negate e) site = refl
  self_in-is (ExprForm-F.Not e) site = refl
  self_in-is (ExprForm-F.Chain e ls) site = refl
  self_in-is (ExprForm-F.Postfix e ps) site = refl
  self_in-is (ExprForm-F.Closure c) site = ap (λ (j : JudgedExpr). j.is_self) (closure_is d c)
  self_in-is (ExprForm-F.Array es) site = refl

  pub name-is : (e : Expr) → (judged_expr d e).name ≡ alone_name e
  name-is e = ap (λ (j : JudgedExpr). j.name) (expr_is e) ∙ name_in-is (out-ExprForm e.form) e.span.start

  pub self-is : (e : Expr) → (judged_expr d e).is_self ≡ is_self_word e
  self-is e = ap (λ (j : JudgedExpr). j.is_self) (expr_is e) ∙ self_in-is (out-ExprForm e.form) e.span.start

  -- ---- parts behind an operand
  part_is : (x : Part) → judged_part d x ≡ part_step d (judged_in_part d (out-Part x))
  part_is x = ap (judged_part d) (sym (roll-out-Part x)) ∙ part-rolled d (out-Part x)

  nodes_in-are : (y : OfParts Part-F) → own_nodes_of (part_step d (judged_in_part d y)) ≡ nodes_in y
  nodes_in-are (Part-F.Member end x None) = refl
  nodes_in-are (Part-F.Member end x (Some c)) = refl
  nodes_in-are (Part-F.Index end is) = refl
  nodes_in-are (Part-F.Call end as_ c) = refl

  pub nodes-are : (ps : List Part) → own_nodes (map (judged_part d) ps) ≡ nodes_of ps
  nodes-are [] = refl
  nodes-are (x ∷ ps) =
      ap (λ (j : JudgedPart). own_nodes_of j + own_nodes (map (judged_part d) ps)) (part_is x)
      ∙ ap (λ n. n + own_nodes (map (judged_part d) ps)) (nodes_in-are (out-Part x)) ∙ ap (λ n. nodes_in (out-Part x) + n) (nodes-are ps)

  calls_in-are : (y : OfParts Part-F) (js : List JudgedPart) → starts_call (part_step d (judged_in_part d y) ∷ js) ≡ calls_in y
  calls_in-are (Part-F.Member end x c) js = refl
  calls_in-are (Part-F.Index end is) js = refl
  calls_in-are (Part-F.Call end as_ c) js = refl

  pub calls-are : (ps : List Part) → starts_call (map (judged_part d) ps) ≡ calls_first ps
  calls-are [] = refl
  calls-are (x ∷ ps) = ap (λ (j : JudgedPart). starts_call (j ∷ map (judged_part d) ps)) (part_is x) ∙ calls_in-are (out-Part x) (map (judged_part d) ps)

  -- ---- bodies of one expression
  alone-is : (y : OfParts StatementForm-F) (site : ℕ) → (statement_form_step d (judged_in_statement_form d y) site).alone ≡ option_map (judged_expr d) (value_in y)
  alone-is (StatementForm-F.Expr e) site = refl
  alone-is (StatementForm-F.Assign a l e) site = refl
  alone-is (StatementForm-F.If c a b) site = refl
  alone-is (StatementForm-F.While c a) site = refl
  alone-is (StatementForm-F.Return e) site = refl
  alone-is StatementForm-F.Break site = refl
  alone-is StatementForm-F.Continue site = refl
  alone-is (StatementForm-F.Local l) site = ap (λ (j : ℕ → JudgedStatement). (j site).alone) (local_is d l)

  where-given : (b : Bool) (o : Option Expr) → cond b (option_map (judged_expr d) o) None ≡ option_map (judged_expr d) (cond b o None)
  where-given true o = refl
  where-given false o = refl

  pub single-is : (g : Gives) (ss : List Statement) → single g (judged_statements d ss) ≡ option_map (judged_expr d) (alone_value g ss)
  single-is g [] = refl
  single-is g (s ∷ []) =
      let y : OfParts StatementForm-F = out-StatementForm s.form in
      ap (λ (o : Option JudgedExpr). cond (has_value g) o None) (ap (λ (j : JudgedStatement). j.alone) (statement_is d s y (sym (roll-out-StatementForm s.form))) ∙ alone-is y s.span.start)
      ∙ where-given (has_value g) (value_in y)
  single-is g (s ∷ (z ∷ ss)) = refl

  -- there is none where none is seen, and only there
  pub none-of : (g : Gives) (ss : List Statement) → alone_value g ss ≡ None → single g (judged_statements d ss) ≡ None
  none-of g ss h = single-is g ss ∙ ap (option_map (judged_expr d)) h

  pub none-in : (g : Gives) (ss : List Statement) → single g (judged_statements d ss) ≡ None → alone_value g ss ≡ None
  none-in g ss h = no-expression (alone_value g ss) (sym (single-is g ss) ∙ h)
    where
      told : Option JudgedExpr → Bool
      told None = true
      told (Some j) = false

      no-expression : (o : Option Expr) → option_map (judged_expr d) o ≡ None → o ≡ None
      no-expression None e = refl
      no-expression (Some x) e = absurd (true≢false (sym (ap told e)))
