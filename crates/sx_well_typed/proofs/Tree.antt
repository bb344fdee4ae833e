-- By induction over trees: what is judged typed is derived.
use Rattle.std.proofs.Common.{◌≡◌, ◌∙◌, List, map, Some, None, refl, sym, ap, subst}
use Rattle.sx_tree.specs.declared.code.Else.{Else-F, roll-Else}
use Rattle.sx_tree.specs.declared.code.ExprForm.{ExprForm-F, roll-ExprForm}
use Rattle.sx_tree.specs.declared.code.Part.{Part, Part-F, roll-Part}
use Rattle.sx_tree.specs.declared.code.StatementForm.{StatementForm-F, roll-StatementForm}
use Rattle.sx_tree.specs.declared.code.Argument.{Argument-F, roll-Argument}
use Rattle.sx_tree.specs.declared.code.Block.{Block, Block-F, ind-Block, roll-Block, out-roll-Block}
use Rattle.sx_tree.specs.declared.code.Closure.{Closure, Closure-F, ind-Closure, roll-Closure, out-roll-Closure}
use Rattle.sx_tree.specs.declared.code.Expr.{Expr, Expr-F, ind-Expr, roll-Expr}
use Rattle.sx_tree.specs.declared.code.Link.{Link, Link-F, roll-Link}
use Rattle.sx_tree.specs.declared.code.Local.{Local-F, roll-Local}
use Rattle.sx_tree.specs.declared.code.Statement.{Statement, Statement-F, ind-Statement, roll-Statement}
use Rattle.sx_tree.specs.declared.code.Else.TheVariants as otherwises
use Rattle.sx_tree.specs.declared.code.ExprForm.TheVariants as forms
use Rattle.sx_tree.specs.declared.code.StatementForm.TheVariants as statement_forms
use Rattle.sx_scope.specs.declared.declarations.Declarations.{Declarations}
use Rattle.sx_well_typed.specs.Rules.{Typed}
use Rattle.sx_well_typed.proofs.Derives.{Each, ElseDerives, FormDerives, PartDerives, StatementFormDerives, ArgumentDerives, BlockDerives, ClosureDerives, ExprDerives, LinkDerives, LocalDerives, StatementDerives}
use Rattle.sx_well_typed.proofs.Levels.{OfParts, expr-rolled, statement-rolled}
use Rattle.sx_well_typed.proofs.Known.{each-known, OfKnown, parts_of_else, parts_of_form, parts_of_part, parts_of_statement_form, parts_of_argument, parts_of_block, parts_of_closure, parts_of_expr, parts_of_link, parts_of_local, parts_of_statement}
use Rattle.sx_well_typed.proofs.CompleteExpressions.{form-from, integer-complete, least_integer-complete, truth-complete, printed_text-complete, name-complete, self_word-complete, bracketed-complete, negate-complete, invert-complete, chain-complete, array-complete}
use Rattle.sx_well_typed.proofs.CompleteParts.{postfix-complete, named_call-complete}
use Rattle.sx_well_typed.proofs.CompleteStatements.{statement_form-from, expression_statement-complete, assign-complete, if-complete, while-complete, return_value-complete, return_none-complete, break-complete, continue-complete, local_statement-complete, local-complete, else-from, no_else-complete, else_block-complete, else_if-complete}
use Rattle.sx_well_typed.proofs.CompleteBodies.{block-complete, closure-complete}

module _ (d : Declarations) where
  -- ---- levels
  else_level : (y : OfKnown d Else-F) → ElseDerives d (roll-Else (parts_of_else d y))
  else_level Else-F.Absent = else-from d Else-F.Absent otherwises.Absent otherwises.rolls-Absent (no_else-complete d)
  else_level (Else-F.Block b) = else-from d (Else-F.Block b.0) (otherwises.Block b.0) (otherwises.rolls-Block b.0) (else_block-complete d b.0 b.1)
  else_level (Else-F.ElseIf s) = else-from d (Else-F.ElseIf s.0) (otherwises.ElseIf s.0) (otherwises.rolls-ElseIf s.0) (else_if-complete d s.0 s.1)

  form_level : (y : OfKnown d ExprForm-F) → FormDerives d (roll-ExprForm (parts_of_form d y))
  form_level (ExprForm-F.Int n) = form-from d (ExprForm-F.Int n) (forms.Int n) (forms.rolls-Int n) (integer-complete d n)
  form_level ExprForm-F.LeastInt = form-from d ExprForm-F.LeastInt forms.LeastInt forms.rolls-LeastInt (least_integer-complete d)
  form_level (ExprForm-F.Bool b) = form-from d (ExprForm-F.Bool b) (forms.Bool b) (forms.rolls-Bool b) (truth-complete d b)
  form_level (ExprForm-F.Named x None) = form-from d (ExprForm-F.Named x None) (forms.Named x None) (forms.rolls-Named x None) (name-complete d x)
  form_level (ExprForm-F.Named x (Some c)) = form-from d (ExprForm-F.Named x (Some c.0)) (forms.Named x (Some c.0)) (forms.rolls-Named x (Some c.0)) (named_call-complete d x c.0 c.1)
  form_level ExprForm-F.SelfWord = form-from d ExprForm-F.SelfWord forms.SelfWord forms.rolls-SelfWord (self_word-complete d)
  form_level (ExprForm-F.Bracketed e) = form-from d (ExprForm-F.Bracketed e.0) (forms.Bracketed e.0) (forms.rolls-Bracketed e.0) (bracketed-complete d e.0 e.1)
  form_level (ExprForm-F.PrintText n) = form-from d (ExprForm-F.PrintText n) (forms.PrintText n) (forms.rolls-PrintText n) (printed_text-complete d n)
  form_level (ExprForm-F.Negate e) = form-from d (ExprForm-F.Negate e.0) (forms.Negate e.0) (forms.rolls-Negate e.0) (negate-complete d e.0 e.1)
  form_level (ExprForm-F.Not e) = form-from d (ExprForm-F.Not e.0) (forms.Not e.0) (forms.rolls-Not e.0) (invert-complete d e.0 e.1)
  form_level (ExprForm-F.Chain e ls) =
      let js : List Link = map (λ l. l.0) ls in
      form-from d (ExprForm-F.Chain e.0 js) (forms.Chain e.0 js) (forms.rolls-Chain e.0 js) (chain-complete d e.0 js e.1 (each-known (LinkDerives d) ls))
  form_level (ExprForm-F.Postfix e ps) =
      let js : List Part = map (λ p. p.0) ps in
      form-from d (ExprForm-F.Postfix e.0 js) (forms.Postfix e.0 js) (forms.rolls-Postfix e.0 js) (postfix-complete d e.0 js e.1 (each-known (PartDerives d) ps))
  form_level (ExprForm-F.Closure c) =
      form-from d (ExprForm-F.Closure c.0) (forms.Closure c.0) (forms.rolls-Closure c.0) (λ site p q u w t v h. Typed.literal c.0 site p q u w v t (c.1 p q u w t v h))
  form_level (ExprForm-F.Array es) =
      let js : List Expr = map (λ e. e.0) es in
      form-from d (ExprForm-F.Array js) (forms.Array js) (forms.rolls-Array js) (array-complete d js (each-known (ExprDerives d) es))

  part_level : (y : OfKnown d Part-F) → PartDerives d (roll-Part (parts_of_part d y))
  part_level (Part-F.Member end x None) = (Part-F.Member end x None, refl, tt)
  part_level (Part-F.Member end x (Some c)) = (Part-F.Member end x (Some c.0), refl, c.1)
  part_level (Part-F.Index end is) = (Part-F.Index end (map (λ i. i.0) is), refl, each-known (ExprDerives d) is)
  part_level (Part-F.Call end as_ None) = (Part-F.Call end (map (λ a. a.0) as_) None, refl, (each-known (ArgumentDerives d) as_, tt))
  part_level (Part-F.Call end as_ (Some c)) = (Part-F.Call end (map (λ a. a.0) as_) (Some c.0), refl, (each-known (ArgumentDerives d) as_, c.1))

  statement_form_level : (y : OfKnown d StatementForm-F) → StatementFormDerives d (roll-StatementForm (parts_of_statement_form d y))
  statement_form_level (StatementForm-F.Expr e) =
      (statement_form-from d (StatementForm-F.Expr e.0) (statement_forms.Expr e.0) (statement_forms.rolls-Expr e.0) (expression_statement-complete d e.0 e.1), (StatementForm-F.Expr e.0, refl, e.1))
  statement_form_level (StatementForm-F.Assign a l e) =
      (statement_form-from d (StatementForm-F.Assign a l.0 e.0) (statement_forms.Assign a l.0 e.0) (statement_forms.rolls-Assign a l.0 e.0) (assign-complete d a l.0 e.0 l.1 e.1), (StatementForm-F.Assign a l.0 e.0, refl, tt))
  statement_form_level (StatementForm-F.If c a b) =
      (statement_form-from d (StatementForm-F.If c.0 a.0 b.0) (statement_forms.If c.0 a.0 b.0) (statement_forms.rolls-If c.0 a.0 b.0) (if-complete d c.0 a.0 b.0 c.1 a.1 b.1), (StatementForm-F.If c.0 a.0 b.0, refl, tt))
  statement_form_level (StatementForm-F.While c a) =
      (statement_form-from d (StatementForm-F.While c.0 a.0) (statement_forms.While c.0 a.0) (statement_forms.rolls-While c.0 a.0) (while-complete d c.0 a.0 c.1 a.1), (StatementForm-F.While c.0 a.0, refl, tt))
  statement_form_level (StatementForm-F.Return None) =
      (statement_form-from d (StatementForm-F.Return None) (statement_forms.Return None) (statement_forms.rolls-Return None) (return_none-complete d), (StatementForm-F.Return None, refl, tt))
  statement_form_level (StatementForm-F.Return (Some e)) =
      (statement_form-from d (StatementForm-F.Return (Some e.0)) (statement_forms.Return (Some e.0)) (statement_forms.rolls-Return (Some e.0)) (return_value-complete d e.0 e.1), (StatementForm-F.Return (Some e.0), refl, tt))
  statement_form_level StatementForm-F.Break =
      (statement_form-from d StatementForm-F.Break statement_forms.Break statement_forms.rolls-Break (break-complete d), (StatementForm-F.Break, refl, tt))
  statement_form_level StatementForm-F.Continue =
      (statement_form-from d StatementForm-F.Continue statement_forms.Continue statement_forms.rolls-Continue (continue-complete d), (StatementForm-F.Continue, refl, tt))
  statement_form_level (StatementForm-F.Local l) =
      (statement_form-from d (StatementForm-F.Local l.0) (statement_forms.Local l.0) (statement_forms.rolls-Local l.0) (local_statement-complete d l.0 l.1), (StatementForm-F.Local l.0, refl, tt))

  argument_level : (y : OfKnown d Argument-F) → ArgumentDerives d (roll-Argument (parts_of_argument d y))
  argument_level y = y.value.1

  block_level : (y : OfKnown d Block-F) → BlockDerives d (roll-Block (parts_of_block d y))
  block_level y =
      let x : OfParts Block-F = parts_of_block d y in
      block-complete d (roll-Block x) (subst (λ (z : OfParts Block-F). Each (StatementDerives d) z.statements) (sym (out-roll-Block x)) (each-known (StatementDerives d) y.statements))

  closure_level : (y : OfKnown d Closure-F) → ClosureDerives d (roll-Closure (parts_of_closure d y))
  closure_level y =
      let x : OfParts Closure-F = parts_of_closure d y in
      closure-complete d (roll-Closure x) (subst (λ (z : OfParts Closure-F). Each (StatementDerives d) z.body) (sym (out-roll-Closure x)) (each-known (StatementDerives d) y.body))

  expr_level : (y : OfKnown d Expr-F) → ExprDerives d (roll-Expr (parts_of_expr d y))
  expr_level y p q u w t v h =
      let e : Expr = roll-Expr (parts_of_expr d y) in
      Typed.an_expression e p q u w v t (y.form.1 y.span.start p q u w t v (ap (λ j. j.value p q u w) (sym (expr-rolled d (parts_of_expr d y))) ∙ h))

  link_level : (y : OfKnown d Link-F) → LinkDerives d (roll-Link (parts_of_link d y))
  link_level y = y.operand.1

  local_level : (y : OfKnown d Local-F) → LocalDerives d (roll-Local (parts_of_local d y))
  local_level y = local-complete d (roll-Local (parts_of_local d y)) y.value.1

  statement_level : (y : OfKnown d Statement-F) → StatementDerives d (roll-Statement (parts_of_statement d y))
  statement_level y =
      let s : Statement = roll-Statement (parts_of_statement d y) in
      (λ p w t v h. Typed.a_statement s p w v t (y.form.1.0 y.span.start p w t v (ap (λ j. j.value p w) (sym (statement-rolled d (parts_of_statement d y))) ∙ h)), y.form.1.1)

  else_known : (x : OfParts Else-F) (y : OfKnown d Else-F) → parts_of_else d y ≡ x → ElseDerives d (roll-Else x)
  else_known x y e = subst (λ z. ElseDerives d (roll-Else z)) e (else_level y)

  form_known : (x : OfParts ExprForm-F) (y : OfKnown d ExprForm-F) → parts_of_form d y ≡ x → FormDerives d (roll-ExprForm x)
  form_known x y e = subst (λ z. FormDerives d (roll-ExprForm z)) e (form_level y)

  part_known : (x : OfParts Part-F) (y : OfKnown d Part-F) → parts_of_part d y ≡ x → PartDerives d (roll-Part x)
  part_known x y e = subst (λ z. PartDerives d (roll-Part z)) e (part_level y)

  statement_form_known : (x : OfParts StatementForm-F) (y : OfKnown d StatementForm-F) → parts_of_statement_form d y ≡ x → StatementFormDerives d (roll-StatementForm x)
  statement_form_known x y e = subst (λ z. StatementFormDerives d (roll-StatementForm z)) e (statement_form_level y)

  argument_known : (x : OfParts Argument-F) (y : OfKnown d Argument-F) → parts_of_argument d y ≡ x → ArgumentDerives d (roll-Argument x)
  argument_known x y e = subst (λ z. ArgumentDerives d (roll-Argument z)) e (argument_level y)

  block_known : (x : OfParts Block-F) (y : OfKnown d Block-F) → parts_of_block d y ≡ x → BlockDerives d (roll-Block x)
  block_known x y e = subst (λ z. BlockDerives d (roll-Block z)) e (block_level y)

  closure_known : (x : OfParts Closure-F) (y : OfKnown d Closure-F) → parts_of_closure d y ≡ x → ClosureDerives d (roll-Closure x)
  closure_known x y e = subst (λ z. ClosureDerives d (roll-Closure z)) e (closure_level y)

  expr_known : (x : OfParts Expr-F) (y : OfKnown d Expr-F) → parts_of_expr d y ≡ x → ExprDerives d (roll-Expr x)
  expr_known x y e = subst (λ z. ExprDerives d (roll-Expr z)) e (expr_level y)

  link_known : (x : OfParts Link-F) (y : OfKnown d Link-F) → parts_of_link d y ≡ x → LinkDerives d (roll-Link x)
  link_known x y e = subst (λ z. LinkDerives d (roll-Link z)) e (link_level y)

  local_known : (x : OfParts Local-F) (y : OfKnown d Local-F) → parts_of_local d y ≡ x → LocalDerives d (roll-Local x)
  local_known x y e = subst (λ z. LocalDerives d (roll-Local z)) e (local_level y)

  statement_known : (x : OfParts Statement-F) (y : OfKnown d Statement-F) → parts_of_statement d y ≡ x → StatementDerives d (roll-Statement x)
  statement_known x y e = subst (λ z. StatementDerives d (roll-Statement z)) e (statement_level y)

  pub block-derives : (x : Block) → BlockDerives d x
  block-derives = ind-Block (ElseDerives d) (FormDerives d) (PartDerives d) (StatementFormDerives d) (ArgumentDerives d) (BlockDerives d) (ClosureDerives d) (ExprDerives d) (LinkDerives d) (LocalDerives d) (StatementDerives d) (λ x y e. else_known x y e) (λ x y e. form_known x y e) (λ x y e. part_known x y e) (λ x y e. statement_form_known x y e) (λ x y e. argument_known x y e) (λ x y e. block_known x y e) (λ x y e. closure_known x y e) (λ x y e. expr_known x y e) (λ x y e. link_known x y e) (λ x y e. local_known x y e) (λ x y e. statement_known x y e)

  pub closure-derives : (x : Closure) → ClosureDerives d x
  closure-derives = ind-Closure (ElseDerives d) (FormDerives d) (PartDerives d) (StatementFormDerives d) (ArgumentDerives d) (BlockDerives d) (ClosureDerives d) (ExprDerives d) (LinkDerives d) (LocalDerives d) (StatementDerives d) (λ x y e. else_known x y e) (λ x y e. form_known x y e) (λ x y e. part_known x y e) (λ x y e. statement_form_known x y e) (λ x y e. argument_known x y e) (λ x y e. block_known x y e) (λ x y e. closure_known x y e) (λ x y e. expr_known x y e) (λ x y e. link_known x y e) (λ x y e. local_known x y e) (λ x y e. statement_known x y e)

  pub expr-derives : (x : Expr) → ExprDerives d x
  expr-derives = ind-Expr (ElseDerives d) (FormDerives d) (PartDerives d) (StatementFormDerives d) (ArgumentDerives d) (BlockDerives d) (ClosureDerives d) (ExprDerives d) (LinkDerives d) (LocalDerives d) (StatementDerives d) (λ x y e. else_known x y e) (λ x y e. form_known x y e) (λ x y e. part_known x y e) (λ x y e. statement_form_known x y e) (λ x y e. argument_known x y e) (λ x y e. block_known x y e) (λ x y e. closure_known x y e) (λ x y e. expr_known x y e) (λ x y e. link_known x y e) (λ x y e. local_known x y e) (λ x y e. statement_known x y e)

  pub statement-derives : (x : Statement) → StatementDerives d x
  statement-derives = ind-Statement (ElseDerives d) (FormDerives d) (PartDerives d) (StatementFormDerives d) (ArgumentDerives d) (BlockDerives d) (ClosureDerives d) (ExprDerives d) (LinkDerives d) (LocalDerives d) (StatementDerives d) (λ x y e. else_known x y e) (λ x y e. form_known x y e) (λ x y e. part_known x y e) (λ x y e. statement_form_known x y e) (λ x y e. argument_known x y e) (λ x y e. block_known x y e) (λ x y e. closure_known x y e) (λ x y e. expr_known x y e) (λ x y e. link_known x y e) (λ x y e. local_known x y e) (λ x y e. statement_known x y e)
