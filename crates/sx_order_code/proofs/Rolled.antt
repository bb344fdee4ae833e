-- What is tied at one level is tied in the tree that is made of it.
use Rattle.std.proofs.Common.{ℕ, List, sym, subst}
use Rattle.sx_tree.specs.declared.code.Else.{Else-F, fold-roll-Else, roll-Else}
use Rattle.sx_tree.specs.declared.code.ExprForm.{ExprForm-F, fold-roll-ExprForm, roll-ExprForm}
use Rattle.sx_tree.specs.declared.code.Part.{Part-F, fold-roll-Part, roll-Part}
use Rattle.sx_tree.specs.declared.code.StatementForm.{StatementForm-F, fold-roll-StatementForm, roll-StatementForm}
use Rattle.sx_tree.specs.declared.code.Argument.{Argument-F, fold-roll-Argument, roll-Argument}
use Rattle.sx_tree.specs.declared.code.Block.{Block-F, fold-roll-Block, roll-Block}
use Rattle.sx_tree.specs.declared.code.Closure.{Closure-F, fold-roll-Closure, roll-Closure}
use Rattle.sx_tree.specs.declared.code.Expr.{Expr-F, fold-roll-Expr, roll-Expr}
use Rattle.sx_tree.specs.declared.code.Link.{Link-F, fold-roll-Link, roll-Link}
use Rattle.sx_tree.specs.declared.code.Local.{Local-F, fold-roll-Local, roll-Local}
use Rattle.sx_tree.specs.declared.code.Statement.{Statement-F, fold-roll-Statement, roll-Statement}
use Rattle.sx_tree.specs.Nodes as nodes
use Rattle.sx_tree.specs.Nodes.{Places, PartNodes}
use Rattle.sx_scope.specs.declared.declarations.Declarations.{Declarations}
use Rattle.sx_calls.specs.Parts.{JudgedExpr, JudgedLink, JudgedArgument, JudgedPart, JudgedStatement, JudgedElse}
use Rattle.sx_check_expr.specs.Judge.{else_step, form_step, part_step, statement_form_step, argument_step, block_step, closure_step, expr_step, link_step, local_step, statement_step}
use Rattle.sx_order_code.specs.Tied.{TiedElse, TiedForm, TiedPart, TiedStatementForm, TiedArgument, TiedBlock, TiedClosure, TiedExpr, TiedLink, TiedLocal, TiedStatement}
use Rattle.sx_order_code.specs.Layers.{OfParts, placed_else, placed_form, placed_part, placed_statement_form, placed_argument, placed_block, placed_closure, placed_expr, placed_link, placed_local, placed_statement, judged_in_else, judged_in_form, judged_in_part, judged_in_statement_form, judged_in_argument, judged_in_block, judged_in_closure, judged_in_expr, judged_in_link, judged_in_local, judged_in_statement, ElseIsTied, ExprFormIsTied, PartIsTied, StatementFormIsTied, ArgumentIsTied, BlockIsTied, ClosureIsTied, ExprIsTied, LinkIsTied, LocalIsTied, StatementIsTied}

module _ (d : Declarations) where
  pub else-rolled : (x : OfParts Else-F) → TiedElse (else_step d (judged_in_else d x)) (nodes.else_step (placed_else x)) → ElseIsTied d (roll-Else x)
  else-rolled x h =
      let a = fold-roll-Else JudgedElse (ℕ → JudgedExpr) JudgedPart (ℕ → JudgedStatement) JudgedArgument (List JudgedStatement) JudgedExpr JudgedExpr JudgedLink (ℕ → JudgedStatement) JudgedStatement (else_step d) (form_step d) (part_step d) (statement_form_step d) (argument_step d) (block_step d) (closure_step d) (expr_step d) (link_step d) (local_step d) (statement_step d) x in
      let b = fold-roll-Else Places (ℕ → Places) PartNodes (ℕ → Places) Places Places Places Places Places Places Places nodes.else_step nodes.form_step nodes.part_step nodes.statement_form_step nodes.argument_step nodes.block_step nodes.closure_step nodes.expr_step nodes.link_step nodes.local_step nodes.statement_step x in
      subst (λ j. TiedElse j (nodes.else_places (roll-Else x))) (sym a) (subst (λ ps. TiedElse (else_step d (judged_in_else d x)) ps) (sym b) h)

  pub form-rolled : (x : OfParts ExprForm-F) → TiedForm (form_step d (judged_in_form d x)) (nodes.form_step (placed_form x)) → ExprFormIsTied d (roll-ExprForm x)
  form-rolled x h =
      let a = fold-roll-ExprForm JudgedElse (ℕ → JudgedExpr) JudgedPart (ℕ → JudgedStatement) JudgedArgument (List JudgedStatement) JudgedExpr JudgedExpr JudgedLink (ℕ → JudgedStatement) JudgedStatement (else_step d) (form_step d) (part_step d) (statement_form_step d) (argument_step d) (block_step d) (closure_step d) (expr_step d) (link_step d) (local_step d) (statement_step d) x in
      let b = fold-roll-ExprForm Places (ℕ → Places) PartNodes (ℕ → Places) Places Places Places Places Places Places Places nodes.else_step nodes.form_step nodes.part_step nodes.statement_form_step nodes.argument_step nodes.block_step nodes.closure_step nodes.expr_step nodes.link_step nodes.local_step nodes.statement_step x in
      subst (λ j. TiedForm j (nodes.form_places (roll-ExprForm x))) (sym a) (subst (λ ps. TiedForm (form_step d (judged_in_form d x)) ps) (sym b) h)

  pub part-rolled : (x : OfParts Part-F) → TiedPart (part_step d (judged_in_part d x)) (nodes.part_step (placed_part x)) → PartIsTied d (roll-Part x)
  part-rolled x h =
      let a = fold-roll-Part JudgedElse (ℕ → JudgedExpr) JudgedPart (ℕ → JudgedStatement) JudgedArgument (List JudgedStatement) JudgedExpr JudgedExpr JudgedLink (ℕ → JudgedStatement) JudgedStatement (else_step d) (form_step d) (part_step d) (statement_form_step d) (argument_step d) (block_step d) (closure_step d) (expr_step d) (link_step d) (local_step d) (statement_step d) x in
      let b = fold-roll-Part Places (ℕ → Places) PartNodes (ℕ → Places) Places Places Places Places Places Places Places nodes.else_step nodes.form_step nodes.part_step nodes.statement_form_step nodes.argument_step nodes.block_step nodes.closure_step nodes.expr_step nodes.link_step nodes.local_step nodes.statement_step x in
      subst (λ j. TiedPart j (nodes.part_nodes (roll-Part x))) (sym a) (subst (λ ps. TiedPart (part_step d (judged_in_part d x)) ps) (sym b) h)

  pub statement_form-rolled : (x : OfParts StatementForm-F) → TiedStatementForm (statement_form_step d (judged_in_statement_form d x)) (nodes.statement_form_step (placed_statement_form x)) → StatementFormIsTied d (roll-StatementForm x)
  statement_form-rolled x h =
      let a = fold-roll-StatementForm JudgedElse (ℕ → JudgedExpr) JudgedPart (ℕ → JudgedStatement) JudgedArgument (List JudgedStatement) JudgedExpr JudgedExpr JudgedLink (ℕ → JudgedStatement) JudgedStatement (else_step d) (form_step d) (part_step d) (statement_form_step d) (argument_step d) (block_step d) (closure_step d) (expr_step d) (link_step d) (local_step d) (statement_step d) x in
      let b = fold-roll-StatementForm Places (ℕ → Places) PartNodes (ℕ → Places) Places Places Places Places Places Places Places nodes.else_step nodes.form_step nodes.part_step nodes.statement_form_step nodes.argument_step nodes.block_step nodes.closure_step nodes.expr_step nodes.link_step nodes.local_step nodes.statement_step x in
      subst (λ j. TiedStatementForm j (nodes.statement_form_places (roll-StatementForm x))) (sym a) (subst (λ ps. TiedStatementForm (statement_form_step d (judged_in_statement_form d x)) ps) (sym b) h)

  pub argument-rolled : (x : OfParts Argument-F) → TiedArgument (argument_step d (judged_in_argument d x)) (nodes.argument_step (placed_argument x)) → ArgumentIsTied d (roll-Argument x)
  argument-rolled x h =
      let a = fold-roll-Argument JudgedElse (ℕ → JudgedExpr) JudgedPart (ℕ → JudgedStatement) JudgedArgument (List JudgedStatement) JudgedExpr JudgedExpr JudgedLink (ℕ → JudgedStatement) JudgedStatement (else_step d) (form_step d) (part_step d) (statement_form_step d) (argument_step d) (block_step d) (closure_step d) (expr_step d) (link_step d) (local_step d) (statement_step d) x in
      let b = fold-roll-Argument Places (ℕ → Places) PartNodes (ℕ → Places) Places Places Places Places Places Places Places nodes.else_step nodes.form_step nodes.part_step nodes.statement_form_step nodes.argument_step nodes.block_step nodes.closure_step nodes.expr_step nodes.link_step nodes.local_step nodes.statement_step x in
      subst (λ j. TiedArgument j (nodes.argument_places (roll-Argument x))) (sym a) (subst (λ ps. TiedArgument (argument_step d (judged_in_argument d x)) ps) (sym b) h)

  pub block-rolled : (x : OfParts Block-F) → TiedBlock (block_step d (judged_in_block d x)) (nodes.block_step (placed_block x)) → BlockIsTied d (roll-Block x)
  block-rolled x h =
      let a = fold-roll-Block JudgedElse (ℕ → JudgedExpr) JudgedPart (ℕ → JudgedStatement) JudgedArgument (List JudgedStatement) JudgedExpr JudgedExpr JudgedLink (ℕ → JudgedStatement) JudgedStatement (else_step d) (form_step d) (part_step d) (statement_form_step d) (argument_step d) (block_step d) (closure_step d) (expr_step d) (link_step d) (local_step d) (statement_step d) x in
      let b = fold-roll-Block Places (ℕ → Places) PartNodes (ℕ → Places) Places Places Places Places Places Places Places nodes.else_step nodes.form_step nodes.part_step nodes.statement_form_step nodes.argument_step nodes.block_step nodes.closure_step nodes.expr_step nodes.link_step nodes.local_step nodes.statement_step x in
      subst (λ j. TiedBlock j (nodes.block_places (roll-Block x))) (sym a) (subst (λ ps. TiedBlock (block_step d (judged_in_block d x)) ps) (sym b) h)

  pub closure-rolled : (x : OfParts Closure-F) → TiedClosure (closure_step d (judged_in_closure d x)) (nodes.closure_step (placed_closure x)) → ClosureIsTied d (roll-Closure x)
  closure-rolled x h =
      let a = fold-roll-Closure JudgedElse (ℕ → JudgedExpr) JudgedPart (ℕ → JudgedStatement) JudgedArgument (List JudgedStatement) JudgedExpr JudgedExpr JudgedLink (ℕ → JudgedStatement) JudgedStatement (else_step d) (form_step d) (part_step d) (statement_form_step d) (argument_step d) (block_step d) (closure_step d) (expr_step d) (link_step d) (local_step d) (statement_step d) x in
      let b = fold-roll-Closure Places (ℕ → Places) PartNodes (ℕ → Places) Places Places Places Places Places Places Places nodes.else_step nodes.form_step nodes.part_step nodes.statement_form_step nodes.argument_step nodes.block_step nodes.closure_step nodes.expr_step nodes.link_step nodes.local_step nodes.statement_step x in
      subst (λ j. TiedClosure j (nodes.closure_places (roll-Closure x))) (sym a) (subst (λ ps. TiedClosure (closure_step d (judged_in_closure d x)) ps) (sym b) h)

  pub expr-rolled : (x : OfParts Expr-F) → TiedExpr (expr_step d (judged_in_expr d x)) (nodes.expr_step (placed_expr x)) → ExprIsTied d (roll-Expr x)
  expr-rolled x h =
      let a = fold-roll-Expr JudgedElse (ℕ → JudgedExpr) JudgedPart (ℕ → JudgedStatement) JudgedArgument (List JudgedStatement) JudgedExpr JudgedExpr JudgedLink (ℕ → JudgedStatement) JudgedStatement (else_step d) (form_step d) (part_step d) (statement_form_step d) (argument_step d) (block_step d) (closure_step d) (expr_step d) (link_step d) (local_step d) (statement_step d) x in
      let b = fold-roll-Expr Places (ℕ → Places) PartNodes (ℕ → Places) Places Places Places Places Places Places Places nodes.else_step nodes.form_step nodes.part_step nodes.statement_form_step nodes.argument_step nodes.block_step nodes.closure_step nodes.expr_step nodes.link_step nodes.local_step nodes.statement_step x in
      subst (λ j. TiedExpr j (nodes.expr_places (roll-Expr x))) (sym a) (subst (λ ps. TiedExpr (expr_step d (judged_in_expr d x)) ps) (sym b) h)

  pub link-rolled : (x : OfParts Link-F) → TiedLink (link_step d (judged_in_link d x)) (nodes.link_step (placed_link x)) → LinkIsTied d (roll-Link x)
  link-rolled x h =
      let a = fold-roll-Link JudgedElse (ℕ → JudgedExpr) JudgedPart (ℕ → JudgedStatement) JudgedArgument (List JudgedStatement) JudgedExpr JudgedExpr JudgedLink (ℕ → JudgedStatement) JudgedStatement (else_step d) (form_step d) (part_step d) (statement_form_step d) (argument_step d) (block_step d) (closure_step d) (expr_step d) (link_step d) (local_step d) (statement_step d) x in
      let b = fold-roll-Link Places (ℕ → Places) PartNodes (ℕ → Places) Places Places Places Places Places Places Places nodes.else_step nodes.form_step nodes.part_step nodes.statement_form_step nodes.argument_step nodes.block_step nodes.closure_step nodes.expr_step nodes.link_step nodes.local_step nodes.statement_step x in
      subst (λ j. TiedLink j (nodes.link_places (roll-Link x))) (sym a) (subst (λ ps. TiedLink (link_step d (judged_in_link d x)) ps) (sym b) h)

  pub local-rolled : (x : OfParts Local-F) → TiedLocal (local_step d (judged_in_local d x)) (nodes.local_step (placed_local x)) → LocalIsTied d (roll-Local x)
  local-rolled x h =
      let a = fold-roll-Local JudgedElse (ℕ → JudgedExpr) JudgedPart (ℕ → JudgedStatement) JudgedArgument (List JudgedStatement) JudgedExpr JudgedExpr JudgedLink (ℕ → JudgedStatement) JudgedStatement (else_step d) (form_step d) (part_step d) (statement_form_step d) (argument_step d) (block_step d) (closure_step d) (expr_step d) (link_step d) (local_step d) (statement_step d) x in
      let b = fold-roll-Local Places (ℕ → Places) PartNodes (ℕ → Places) Places Places Places Places Places Places Places nodes.else_step nodes.form_step nodes.part_step nodes.statement_form_step nodes.argument_step nodes.block_step nodes.closure_step nodes.expr_step nodes.link_step nodes.local_step nodes.statement_step x in
      subst (λ j. TiedLocal j (nodes.local_places (roll-Local x))) (sym a) (subst (λ ps. TiedLocal (local_step d (judged_in_local d x)) ps) (sym b) h)

  pub statement-rolled : (x : OfParts Statement-F) → TiedStatement (statement_step d (judged_in_statement d x)) (nodes.statement_step (placed_statement x)) → StatementIsTied d (roll-Statement x)
  statement-rolled x h =
      let a = fold-roll-Statement JudgedElse (ℕ → JudgedExpr) JudgedPart (ℕ → JudgedStatement) JudgedArgument (List JudgedStatement) JudgedExpr JudgedExpr JudgedLink (ℕ → JudgedStatement) JudgedStatement (else_step d) (form_step d) (part_step d) (statement_form_step d) (argument_step d) (block_step d) (closure_step d) (expr_step d) (link_step d) (local_step d) (statement_step d) x in
      let b = fold-roll-Statement Places (ℕ → Places) PartNodes (ℕ → Places) Places Places Places Places Places Places Places nodes.else_step nodes.form_step nodes.part_step nodes.statement_form_step nodes.argument_step nodes.block_step nodes.closure_step nodes.expr_step nodes.link_step nodes.local_step nodes.statement_step x in
      subst (λ j. TiedStatement j (nodes.statement_places (roll-Statement x))) (sym a) (subst (λ ps. TiedStatement (statement_step d (judged_in_statement d x)) ps) (sym b) h)
