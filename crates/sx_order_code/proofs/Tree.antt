-- By induction over trees: what is judged of each part takes as many nodes as the part has places.
use Rattle.std.proofs.Common.{◌≡◌, length, refl, subst}
use Rattle.sx_tree.specs.declared.code.Else.{Else, Else-F, ind-Else, roll-Else}
use Rattle.sx_tree.specs.declared.code.ExprForm.{ExprForm, ExprForm-F, ind-ExprForm, roll-ExprForm}
use Rattle.sx_tree.specs.declared.code.Part.{Part, Part-F, ind-Part, roll-Part}
use Rattle.sx_tree.specs.declared.code.StatementForm.{StatementForm, StatementForm-F, ind-StatementForm, roll-StatementForm}
use Rattle.sx_tree.specs.declared.code.Argument.{Argument, Argument-F, ind-Argument, roll-Argument}
use Rattle.sx_tree.specs.declared.code.Block.{Block, Block-F, ind-Block, roll-Block}
use Rattle.sx_tree.specs.declared.code.Closure.{Closure, Closure-F, ind-Closure, roll-Closure}
use Rattle.sx_tree.specs.declared.code.Expr.{Expr, Expr-F, ind-Expr, roll-Expr}
use Rattle.sx_tree.specs.declared.code.Link.{Link, Link-F, ind-Link, roll-Link}
use Rattle.sx_tree.specs.declared.code.Local.{Local, Local-F, ind-Local, roll-Local}
use Rattle.sx_tree.specs.declared.code.Statement.{Statement, Statement-F, ind-Statement, roll-Statement}
use Rattle.sx_tree.specs.Nodes as nodes
use Rattle.sx_scope.specs.declared.declarations.Declarations.{Declarations}
use Rattle.sx_check_expr.specs.Judge.{argument_step, expr_step, link_step, statement_step}
use Rattle.sx_order_code.specs.Tied.{TiedArgument, TiedExpr, TiedLink, TiedStatement}
use Rattle.sx_order_code.specs.Layers.{OfParts, OfKnown, placed_argument, placed_expr, placed_link, placed_statement, judged_in_argument, judged_in_expr, judged_in_link, judged_in_statement, parts_of_else, parts_of_form, parts_of_part, parts_of_statement_form, parts_of_argument, parts_of_block, parts_of_closure, parts_of_expr, parts_of_link, parts_of_local, parts_of_statement, ElseIsTied, ExprFormIsTied, PartIsTied, StatementFormIsTied, ArgumentIsTied, BlockIsTied, ClosureIsTied, ExprIsTied, LinkIsTied, LocalIsTied, StatementIsTied}
use Rattle.sx_order_code.proofs.Forms.{form_level, part_level, closure_level}
use Rattle.sx_order_code.proofs.StatementForms.{statement_form_level, else_level, block_level, local_level}
use Rattle.sx_order_code.proofs.Rolled.{else-rolled, form-rolled, part-rolled, statement_form-rolled, argument-rolled, block-rolled, closure-rolled, expr-rolled, link-rolled, local-rolled, statement-rolled}

module _ (d : Declarations) where
  pub argument_level : (y : OfKnown d Argument-F) → TiedArgument (argument_step d (judged_in_argument d (parts_of_argument d y))) (nodes.argument_step (placed_argument (parts_of_argument d y)))
  argument_level y = (length (nodes.expr_places y.value.0), refl, y.value.1.0)

  pub expr_level : (y : OfKnown d Expr-F) → TiedExpr (expr_step d (judged_in_expr d (parts_of_expr d y))) (nodes.expr_step (placed_expr (parts_of_expr d y)))
  expr_level y = y.form.1 y.span.start y.span.start

  pub link_level : (y : OfKnown d Link-F) → TiedLink (link_step d (judged_in_link d (parts_of_link d y))) (nodes.link_step (placed_link (parts_of_link d y)))
  link_level y = y.operand.1.0

  pub statement_level : (y : OfKnown d Statement-F) → TiedStatement (statement_step d (judged_in_statement d (parts_of_statement d y))) (nodes.statement_step (placed_statement (parts_of_statement d y)))
  statement_level y = y.form.1 y.span.start y.span.start

  pub else_known : (x : OfParts Else-F) (y : OfKnown d Else-F) → parts_of_else d y ≡ x → ElseIsTied d (roll-Else x)
  else_known x y p = subst (λ z. ElseIsTied d (roll-Else z)) p (else-rolled d (parts_of_else d y) (else_level d y))

  pub form_known : (x : OfParts ExprForm-F) (y : OfKnown d ExprForm-F) → parts_of_form d y ≡ x → ExprFormIsTied d (roll-ExprForm x)
  form_known x y p = subst (λ z. ExprFormIsTied d (roll-ExprForm z)) p (form-rolled d (parts_of_form d y) (form_level d y))

  pub part_known : (x : OfParts Part-F) (y : OfKnown d Part-F) → parts_of_part d y ≡ x → PartIsTied d (roll-Part x)
  part_known x y p = subst (λ z. PartIsTied d (roll-Part z)) p (part-rolled d (parts_of_part d y) (part_level d y))

  pub statement_form_known : (x : OfParts StatementForm-F) (y : OfKnown d StatementForm-F) → parts_of_statement_form d y ≡ x → StatementFormIsTied d (roll-StatementForm x)
  statement_form_known x y p = subst (λ z. StatementFormIsTied d (roll-StatementForm z)) p (statement_form-rolled d (parts_of_statement_form d y) (statement_form_level d y))

  pub argument_known : (x : OfParts Argument-F) (y : OfKnown d Argument-F) → parts_of_argument d y ≡ x → ArgumentIsTied d (roll-Argument x)
  argument_known x y p = subst (λ z. ArgumentIsTied d (roll-Argument z)) p (argument-rolled d (parts_of_argument d y) (argument_level y))

  pub block_known : (x : OfParts Block-F) (y : OfKnown d Block-F) → parts_of_block d y ≡ x → BlockIsTied d (roll-Block x)
  block_known x y p = subst (λ z. BlockIsTied d (roll-Block z)) p (block-rolled d (parts_of_block d y) (block_level d y))

  pub closure_known : (x : OfParts Closure-F) (y : OfKnown d Closure-F) → parts_of_closure d y ≡ x → ClosureIsTied d (roll-Closure x)
  closure_known x y p = subst (λ z. ClosureIsTied d (roll-Closure z)) p (closure-rolled d (parts_of_closure d y) (closure_level d y))

  pub expr_known : (x : OfParts Expr-F) (y : OfKnown d Expr-F) → parts_of_expr d y ≡ x → ExprIsTied d (roll-Expr x)
  expr_known x y p = subst (λ z. ExprIsTied d (roll-Expr z)) p (expr-rolled d (parts_of_expr d y) (expr_level y))

  pub link_known : (x : OfParts Link-F) (y : OfKnown d Link-F) → parts_of_link d y ≡ x → LinkIsTied d (roll-Link x)
  link_known x y p = subst (λ z. LinkIsTied d (roll-Link z)) p (link-rolled d (parts_of_link d y) (link_level y))

  pub local_known : (x : OfParts Local-F) (y : OfKnown d Local-F) → parts_of_local d y ≡ x → LocalIsTied d (roll-Local x)
  local_known x y p = subst (λ z. LocalIsTied d (roll-Local z)) p (local-rolled d (parts_of_local d y) (local_level d y))

  pub statement_known : (x : OfParts Statement-F) (y : OfKnown d Statement-F) → parts_of_statement d y ≡ x → StatementIsTied d (roll-Statement x)
  statement_known x y p = subst (λ z. StatementIsTied d (roll-Statement z)) p (statement-rolled d (parts_of_statement d y) (statement_level y))

  pub else-tied : (x : Else) → ElseIsTied d x
  else-tied = ind-Else (ElseIsTied d) (ExprFormIsTied d) (PartIsTied d) (StatementFormIsTied d) (ArgumentIsTied d) (BlockIsTied d) (ClosureIsTied d) (ExprIsTied d) (LinkIsTied d) (LocalIsTied d) (StatementIsTied d) (λ x y p. else_known x y p) (λ x y p. form_known x y p) (λ x y p. part_known x y p) (λ x y p. statement_form_known x y p) (λ x y p. argument_known x y p) (λ x y p. block_known x y p) (λ x y p. closure_known x y p) (λ x y p. expr_known x y p) (λ x y p. link_known x y p) (λ x y p. local_known x y p) (λ x y p. statement_known x y p)

  pub form-tied : (x : ExprForm) → ExprFormIsTied d x
  form-tied = ind-ExprForm (ElseIsTied d) (ExprFormIsTied d) (PartIsTied d) (StatementFormIsTied d) (ArgumentIsTied d) (BlockIsTied d) (ClosureIsTied d) (ExprIsTied d) (LinkIsTied d) (LocalIsTied d) (StatementIsTied d) (λ x y p. else_known x y p) (λ x y p. form_known x y p) (λ x y p. part_known x y p) (λ x y p. statement_form_known x y p) (λ x y p. argument_known x y p) (λ x y p. block_known x y p) (λ x y p. closure_known x y p) (λ x y p. expr_known x y p) (λ x y p. link_known x y p) (λ x y p. local_known x y p) (λ x y p. statement_known x y p)

  pub part-tied : (x : Part) → PartIsTied d x
  part-tied = ind-Part (ElseIsTied d) (ExprFormIsTied d) (PartIsTied d) (StatementFormIsTied d) (ArgumentIsTied d) (BlockIsTied d) (ClosureIsTied d) (ExprIsTied d) (LinkIsTied d) (LocalIsTied d) (StatementIsTied d) (λ x y p. else_known x y p) (λ x y p. form_known x y p) (λ x y p. part_known x y p) (λ x y p. statement_form_known x y p) (λ x y p. argument_known x y p) (λ x y p. block_known x y p) (λ x y p. closure_known x y p) (λ x y p. expr_known x y p) (λ x y p. link_known x y p) (λ x y p. local_known x y p) (λ x y p. statement_known x y p)

  pub statement_form-tied : (x : StatementForm) → StatementFormIsTied d x
  statement_form-tied = ind-StatementForm (ElseIsTied d) (ExprFormIsTied d) (PartIsTied d) (StatementFormIsTied d) (ArgumentIsTied d) (BlockIsTied d) (ClosureIsTied d) (ExprIsTied d) (LinkIsTied d) (LocalIsTied d) (StatementIsTied d) (λ x y p. else_known x y p) (λ x y p. form_known x y p) (λ x y p. part_known x y p) (λ x y p. statement_form_known x y p) (λ x y p. argument_known x y p) (λ x y p. block_known x y p) (λ x y p. closure_known x y p) (λ x y p. expr_known x y p) (λ x y p. link_known x y p) (λ x y p. local_known x y p) (λ x y p. statement_known x y p)

  pub argument-tied : (x : Argument) → ArgumentIsTied d x
  argument-tied = ind-Argument (ElseIsTied d) (ExprFormIsTied d) (PartIsTied d) (StatementFormIsTied d) (ArgumentIsTied d) (BlockIsTied d) (ClosureIsTied d) (ExprIsTied d) (LinkIsTied d) (LocalIsTied d) (StatementIsTied d) (λ x y p. else_known x y p) (λ x y p. form_known x y p) (λ x y p. part_known x y p) (λ x y p. statement_form_known x y p) (λ x y p. argument_known x y p) (λ x y p. block_known x y p) (λ x y p. closure_known x y p) (λ x y p. expr_known x y p) (λ x y p. link_known x y p) (λ x y p. local_known x y p) (λ x y p. statement_known x y p)

  pub block-tied : (x : Block) → BlockIsTied d x
  block-tied = ind-Block (ElseIsTied d) (ExprFormIsTied d) (PartIsTied d) (StatementFormIsTied d) (ArgumentIsTied d) (BlockIsTied d) (ClosureIsTied d) (ExprIsTied d) (LinkIsTied d) (LocalIsTied d) (StatementIsTied d) (λ x y p. else_known x y p) (λ x y p. form_known x y p) (λ x y p. part_known x y p) (λ x y p. statement_form_known x y p) (λ x y p. argument_known x y p) (λ x y p. block_known x y p) (λ x y p. closure_known x y p) (λ x y p. expr_known x y p) (λ x y p. link_known x y p) (λ x y p. local_known x y p) (λ x y p. statement_known x y p)

  pub closure-tied : (x : Closure) → ClosureIsTied d x
  closure-tied = ind-Closure (ElseIsTied d) (ExprFormIsTied d) (PartIsTied d) (StatementFormIsTied d) (ArgumentIsTied d) (BlockIsTied d) (ClosureIsTied d) (ExprIsTied d) (LinkIsTied d) (LocalIsTied d) (StatementIsTied d) (λ x y p. else_known x y p) (λ x y p. form_known x y p) (λ x y p. part_known x y p) (λ x y p. statement_form_known x y p) (λ x y p. argument_known x y p) (λ x y p. block_known x y p) (λ x y p. closure_known x y p) (λ x y p. expr_known x y p) (λ x y p. link_known x y p) (λ x y p. local_known x y p) (λ x y p. statement_known x y p)

  pub expr-tied : (x : Expr) → ExprIsTied d x
  expr-tied = ind-Expr (ElseIsTied d) (ExprFormIsTied d) (PartIsTied d) (StatementFormIsTied d) (ArgumentIsTied d) (BlockIsTied d) (ClosureIsTied d) (ExprIsTied d) (LinkIsTied d) (LocalIsTied d) (StatementIsTied d) (λ x y p. else_known x y p) (λ x y p. form_known x y p) (λ x y p. part_known x y p) (λ x y p. statement_form_known x y p) (λ x y p. argument_known x y p) (λ x y p. block_known x y p) (λ x y p. closure_known x y p) (λ x y p. expr_known x y p) (λ x y p. link_known x y p) (λ x y p. local_known x y p) (λ x y p. statement_known x y p)

  pub link-tied : (x : Link) → LinkIsTied d x
  link-tied = ind-Link (ElseIsTied d) (ExprFormIsTied d) (PartIsTied d) (StatementFormIsTied d) (ArgumentIsTied d) (BlockIsTied d) (ClosureIsTied d) (ExprIsTied d) (LinkIsTied d) (LocalIsTied d) (StatementIsTied d) (λ x y p. else_known x y p) (λ x y p. form_known x y p) (λ x y p. part_known x y p) (λ x y p. statement_form_known x y p) (λ x y p. argument_known x y p) (λ x y p. block_known x y p) (λ x y p. closure_known x y p) (λ x y p. expr_known x y p) (λ x y p. link_known x y p) (λ x y p. local_known x y p) (λ x y p. statement_known x y p)

  pub local-tied : (x : Local) → LocalIsTied d x
  local-tied = ind-Local (ElseIsTied d) (ExprFormIsTied d) (PartIsTied d) (StatementFormIsTied d) (ArgumentIsTied d) (BlockIsTied d) (ClosureIsTied d) (ExprIsTied d) (LinkIsTied d) (LocalIsTied d) (StatementIsTied d) (λ x y p. else_known x y p) (λ x y p. form_known x y p) (λ x y p. part_known x y p) (λ x y p. statement_form_known x y p) (λ x y p. argument_known x y p) (λ x y p. block_known x y p) (λ x y p. closure_known x y p) (λ x y p. expr_known x y p) (λ x y p. link_known x y p) (λ x y p. local_known x y p) (λ x y p. statement_known x y p)

  pub statement-tied : (x : Statement) → StatementIsTied d x
  statement-tied = ind-Statement (ElseIsTied d) (ExprFormIsTied d) (PartIsTied d) (StatementFormIsTied d) (ArgumentIsTied d) (BlockIsTied d) (ClosureIsTied d) (ExprIsTied d) (LinkIsTied d) (LocalIsTied d) (StatementIsTied d) (λ x y p. else_known x y p) (λ x y p. form_known x y p) (λ x y p. part_known x y p) (λ x y p. statement_form_known x y p) (λ x y p. argument_known x y p) (λ x y p. block_known x y p) (λ x y p. closure_known x y p) (λ x y p. expr_known x y p) (λ x y p. link_known x y p) (λ x y p. local_known x y p) (λ x y p. statement_known x y p)
