-- One level of a tree: over its parts and over what is judged of them.
use Rattle.std.proofs.Common.{◌≡◌, ℕ, List}
use Rattle.sx_tree.specs.declared.code.Else.{Else, Else-F, map-Else, roll-Else, fold-roll-Else}
use Rattle.sx_tree.specs.declared.code.ExprForm.{ExprForm, ExprForm-F, map-ExprForm, roll-ExprForm, fold-roll-ExprForm}
use Rattle.sx_tree.specs.declared.code.Part.{Part, Part-F, map-Part, roll-Part, fold-roll-Part}
use Rattle.sx_tree.specs.declared.code.StatementForm.{StatementForm, StatementForm-F, map-StatementForm, roll-StatementForm, fold-roll-StatementForm}
use Rattle.sx_tree.specs.declared.code.Argument.{Argument, Argument-F, map-Argument, roll-Argument, fold-roll-Argument}
use Rattle.sx_tree.specs.declared.code.Block.{Block, Block-F, map-Block, roll-Block, fold-roll-Block}
use Rattle.sx_tree.specs.declared.code.Closure.{Closure, Closure-F, map-Closure, roll-Closure, fold-roll-Closure}
use Rattle.sx_tree.specs.declared.code.Expr.{Expr, Expr-F, map-Expr, roll-Expr, fold-roll-Expr}
use Rattle.sx_tree.specs.declared.code.Link.{Link, Link-F, map-Link, roll-Link, fold-roll-Link}
use Rattle.sx_tree.specs.declared.code.Local.{Local, Local-F, map-Local, roll-Local, fold-roll-Local}
use Rattle.sx_tree.specs.declared.code.Statement.{Statement, Statement-F, map-Statement, roll-Statement, fold-roll-Statement}
use Rattle.sx_scope.specs.declared.declarations.Declarations.{Declarations}
use Rattle.sx_calls.specs.Parts.{JudgedExpr, JudgedLink, JudgedArgument, JudgedPart, JudgedStatement, JudgedElse}
use Rattle.sx_check_expr.specs.Judge.{judged_else, judged_form, judged_part, judged_statement_form, judged_argument, judged_block, judged_closure, judged_expr, judged_link, judged_local, judged_statement, else_step, form_step, part_step, statement_form_step, argument_step, block_step, closure_step, expr_step, link_step, local_step, statement_step}
pub use Rattle.sx_well_typed.specs.Trees.{OfParts}

abbrev pub OfJudged : (Type 0 → Type 0 → Type 0 → Type 0 → Type 0 → Type 0 → Type 0 → Type 0 → Type 0 → Type 0 → Type 0 → Type 0) → Type 0
OfJudged F = F JudgedElse (ℕ → JudgedExpr) JudgedPart (ℕ → JudgedStatement) JudgedArgument (List JudgedStatement) JudgedExpr JudgedExpr JudgedLink (ℕ → JudgedStatement) JudgedStatement

module _ (d : Declarations) where
  -- what is judged of the parts at one level
  abbrev pub judged_in_else : OfParts Else-F → OfJudged Else-F
  judged_in_else = map-Else Else ExprForm Part StatementForm Argument Block Closure Expr Link Local Statement JudgedElse (ℕ → JudgedExpr) JudgedPart (ℕ → JudgedStatement) JudgedArgument (List JudgedStatement) JudgedExpr JudgedExpr JudgedLink (ℕ → JudgedStatement) JudgedStatement (judged_else d) (judged_form d) (judged_part d) (judged_statement_form d) (judged_argument d) (judged_block d) (judged_closure d) (judged_expr d) (judged_link d) (judged_local d) (judged_statement d)

  abbrev pub judged_in_form : OfParts ExprForm-F → OfJudged ExprForm-F
  judged_in_form = map-ExprForm Else ExprForm Part StatementForm Argument Block Closure Expr Link Local Statement JudgedElse (ℕ → JudgedExpr) JudgedPart (ℕ → JudgedStatement) JudgedArgument (List JudgedStatement) JudgedExpr JudgedExpr JudgedLink (ℕ → JudgedStatement) JudgedStatement (judged_else d) (judged_form d) (judged_part d) (judged_statement_form d) (judged_argument d) (judged_block d) (judged_closure d) (judged_expr d) (judged_link d) (judged_local d) (judged_statement d)

  abbrev pub judged_in_part : OfParts Part-F → OfJudged Part-F
  judged_in_part = map-Part Else ExprForm Part StatementForm Argument Block Closure Expr Link Local Statement JudgedElse (ℕ → JudgedExpr) JudgedPart (ℕ → JudgedStatement) JudgedArgument (List JudgedStatement) JudgedExpr JudgedExpr JudgedLink (ℕ → JudgedStatement) JudgedStatement (judged_else d) (judged_form d) (judged_part d) (judged_statement_form d) (judged_argument d) (judged_block d) (judged_closure d) (judged_expr d) (judged_link d) (judged_local d) (judged_statement d)

  abbrev pub judged_in_statement_form : OfParts StatementForm-F → OfJudged StatementForm-F
  judged_in_statement_form = map-StatementForm Else ExprForm Part StatementForm Argument Block Closure Expr Link Local Statement JudgedElse (ℕ → JudgedExpr) JudgedPart (ℕ → JudgedStatement) JudgedArgument (List JudgedStatement) JudgedExpr JudgedExpr JudgedLink (ℕ → JudgedStatement) JudgedStatement (judged_else d) (judged_form d) (judged_part d) (judged_statement_form d) (judged_argument d) (judged_block d) (judged_closure d) (judged_expr d) (judged_link d) (judged_local d) (judged_statement d)

  abbrev pub judged_in_argument : OfParts Argument-F → OfJudged Argument-F
  judged_in_argument = map-Argument Else ExprForm Part StatementForm Argument Block Closure Expr Link Local Statement JudgedElse (ℕ → JudgedExpr) JudgedPart (ℕ → JudgedStatement) JudgedArgument (List JudgedStatement) JudgedExpr JudgedExpr JudgedLink (ℕ → JudgedStatement) JudgedStatement (judged_else d) (judged_form d) (judged_part d) (judged_statement_form d) (judged_argument d) (judged_block d) (judged_closure d) (judged_expr d) (judged_link d) (judged_local d) (judged_statement d)

  abbrev pub judged_in_block : OfParts Block-F → OfJudged Block-F
  judged_in_block = map-Block Else ExprForm Part StatementForm Argument Block Closure Expr Link Local Statement JudgedElse (ℕ → JudgedExpr) JudgedPart (ℕ → JudgedStatement) JudgedArgument (List JudgedStatement) JudgedExpr JudgedExpr JudgedLink (ℕ → JudgedStatement) JudgedStatement (judged_else d) (judged_form d) (judged_part d) (judged_statement_form d) (judged_argument d) (judged_block d) (judged_closure d) (judged_expr d) (judged_link d) (judged_local d) (judged_statement d)

  abbrev pub judged_in_closure : OfParts Closure-F → OfJudged Closure-F
  judged_in_closure = map-Closure Else ExprForm Part StatementForm Argument Block Closure Expr Link Local Statement JudgedElse (ℕ → JudgedExpr) JudgedPart (ℕ → JudgedStatement) JudgedArgument (List JudgedStatement) JudgedExpr JudgedExpr JudgedLink (ℕ → JudgedStatement) JudgedStatement (judged_else d) (judged_form d) (judged_part d) (judged_statement_form d) (judged_argument d) (judged_block d) (judged_closure d) (judged_expr d) (judged_link d) (judged_local d) (judged_statement d)

  abbrev pub judged_in_expr : OfParts Expr-F → OfJudged Expr-F
  judged_in_expr = map-Expr Else ExprForm Part StatementForm Argument Block Closure Expr Link Local Statement JudgedElse (ℕ → JudgedExpr) JudgedPart (ℕ → JudgedStatement) JudgedArgument (List JudgedStatement) JudgedExpr JudgedExpr JudgedLink (ℕ → JudgedStatement) JudgedStatement (judged_else d) (judged_form d) (judged_part d) (judged_statement_form d) (judged_argument d) (judged_block d) (judged_closure d) (judged_expr d) (judged_link d) (judged_local d) (judged_statement d)

  abbrev pub judged_in_link : OfParts Link-F → OfJudged Link-F
  judged_in_link = map-Link Else ExprForm Part StatementForm Argument Block Closure Expr Link Local Statement JudgedElse (ℕ → JudgedExpr) JudgedPart (ℕ → JudgedStatement) JudgedArgument (List JudgedStatement) JudgedExpr JudgedExpr JudgedLink (ℕ → JudgedStatement) JudgedStatement (judged_else d) (judged_form d) (judged_part d) (judged_statement_form d) (judged_argument d) (judged_block d) (judged_closure d) (judged_expr d) (judged_link d) (judged_local d) (judged_statement d)

  abbrev pub judged_in_local : OfParts Local-F → OfJudged Local-F
  judged_in_local = map-Local Else ExprForm Part StatementForm Argument Block Closure Expr Link Local Statement JudgedElse (ℕ → JudgedExpr) JudgedPart (ℕ → JudgedStatement) JudgedArgument (List JudgedStatement) JudgedExpr JudgedExpr JudgedLink (ℕ → JudgedStatement) JudgedStatement (judged_else d) (judged_form d) (judged_part d) (judged_statement_form d) (judged_argument d) (judged_block d) (judged_closure d) (judged_expr d) (judged_link d) (judged_local d) (judged_statement d)

  abbrev pub judged_in_statement : OfParts Statement-F → OfJudged Statement-F
  judged_in_statement = map-Statement Else ExprForm Part StatementForm Argument Block Closure Expr Link Local Statement JudgedElse (ℕ → JudgedExpr) JudgedPart (ℕ → JudgedStatement) JudgedArgument (List JudgedStatement) JudgedExpr JudgedExpr JudgedLink (ℕ → JudgedStatement) JudgedStatement (judged_else d) (judged_form d) (judged_part d) (judged_statement_form d) (judged_argument d) (judged_block d) (judged_closure d) (judged_expr d) (judged_link d) (judged_local d) (judged_statement d)

  -- what is judged of a part is made of that
  pub else-rolled : (x : OfParts Else-F) → judged_else d (roll-Else x) ≡ else_step d (judged_in_else x)
  else-rolled x = fold-roll-Else JudgedElse (ℕ → JudgedExpr) JudgedPart (ℕ → JudgedStatement) JudgedArgument (List JudgedStatement) JudgedExpr JudgedExpr JudgedLink (ℕ → JudgedStatement) JudgedStatement (else_step d) (form_step d) (part_step d) (statement_form_step d) (argument_step d) (block_step d) (closure_step d) (expr_step d) (link_step d) (local_step d) (statement_step d) x

  pub form-rolled : (x : OfParts ExprForm-F) → judged_form d (roll-ExprForm x) ≡ form_step d (judged_in_form x)
  form-rolled x = fold-roll-ExprForm JudgedElse (ℕ → JudgedExpr) JudgedPart (ℕ → JudgedStatement) JudgedArgument (List JudgedStatement) JudgedExpr JudgedExpr JudgedLink (ℕ → JudgedStatement) JudgedStatement (else_step d) (form_step d) (part_step d) (statement_form_step d) (argument_step d) (block_step d) (closure_step d) (expr_step d) (link_step d) (local_step d) (statement_step d) x

  pub part-rolled : (x : OfParts Part-F) → judged_part d (roll-Part x) ≡ part_step d (judged_in_part x)
  part-rolled x = fold-roll-Part JudgedElse (ℕ → JudgedExpr) JudgedPart (ℕ → JudgedStatement) JudgedArgument (List JudgedStatement) JudgedExpr JudgedExpr JudgedLink (ℕ → JudgedStatement) JudgedStatement (else_step d) (form_step d) (part_step d) (statement_form_step d) (argument_step d) (block_step d) (closure_step d) (expr_step d) (link_step d) (local_step d) (statement_step d) x

  pub statement_form-rolled : (x : OfParts StatementForm-F) → judged_statement_form d (roll-StatementForm x) ≡ statement_form_step d (judged_in_statement_form x)
  statement_form-rolled x = fold-roll-StatementForm JudgedElse (ℕ → JudgedExpr) JudgedPart (ℕ → JudgedStatement) JudgedArgument (List JudgedStatement) JudgedExpr JudgedExpr JudgedLink (ℕ → JudgedStatement) JudgedStatement (else_step d) (form_step d) (part_step d) (statement_form_step d) (argument_step d) (block_step d) (closure_step d) (expr_step d) (link_step d) (local_step d) (statement_step d) x

  pub argument-rolled : (x : OfParts Argument-F) → judged_argument d (roll-Argument x) ≡ argument_step d (judged_in_argument x)
  argument-rolled x = fold-roll-Argument JudgedElse (ℕ → JudgedExpr) JudgedPart (ℕ → JudgedStatement) JudgedArgument (List JudgedStatement) JudgedExpr JudgedExpr JudgedLink (ℕ → JudgedStatement) JudgedStatement (else_step d) (form_step d) (part_step d) (statement_form_step d) (argument_step d) (block_step d) (closure_step d) (expr_step d) (link_step d) (local_step d) (statement_step d) x

  pub block-rolled : (x : OfParts Block-F) → judged_block d (roll-Block x) ≡ block_step d (judged_in_block x)
  block-rolled x = fold-roll-Block JudgedElse (ℕ → JudgedExpr) JudgedPart (ℕ → JudgedStatement) JudgedArgument (List JudgedStatement) JudgedExpr JudgedExpr JudgedLink (ℕ → JudgedStatement) JudgedStatement (else_step d) (form_step d) (part_step d) (statement_form_step d) (argument_step d) (block_step d) (closure_step d) (expr_step d) (link_step d) (local_step d) (statement_step d) x

  pub closure-rolled : (x : OfParts Closure-F) → judged_closure d (roll-Closure x) ≡ closure_step d (judged_in_closure x)
  closure-rolled x = fold-roll-Closure JudgedElse (ℕ → JudgedExpr) JudgedPart (ℕ → JudgedStatement) JudgedArgument (List JudgedStatement) JudgedExpr JudgedExpr JudgedLink (ℕ → JudgedStatement) JudgedStatement (else_step d) (form_step d) (part_step d) (statement_form_step d) (argument_step d) (block_step d) (closure_step d) (expr_step d) (link_step d) (local_step d) (statement_step d) x

  pub expr-rolled : (x : OfParts Expr-F) → judged_expr d (roll-Expr x) ≡ expr_step d (judged_in_expr x)
  expr-rolled x = fold-roll-Expr JudgedElse (ℕ → JudgedExpr) JudgedPart (ℕ → JudgedStatement) JudgedArgument (List JudgedStatement) JudgedExpr JudgedExpr JudgedLink (ℕ → JudgedStatement) JudgedStatement (else_step d) (form_step d) (part_step d) (statement_form_step d) (argument_step d) (block_step d) (closure_step d) (expr_step d) (link_step d) (local_step d) (statement_step d) x

  pub link-rolled : (x : OfParts Link-F) → judged_link d (roll-Link x) ≡ link_step d (judged_in_link x)
  link-rolled x = fold-roll-Link JudgedElse (ℕ → JudgedExpr) JudgedPart (ℕ → JudgedStatement) JudgedArgument (List JudgedStatement) JudgedExpr JudgedExpr JudgedLink (ℕ → JudgedStatement) JudgedStatement (else_step d) (form_step d) (part_step d) (statement_form_step d) (argument_step d) (block_step d) (closure_step d) (expr_step d) (link_step d) (local_step d) (statement_step d) x

  pub local-rolled : (x : OfParts Local-F) → judged_local d (roll-Local x) ≡ local_step d (judged_in_local x)
  local-rolled x = fold-roll-Local JudgedElse (ℕ → JudgedExpr) JudgedPart (ℕ → JudgedStatement) JudgedArgument (List JudgedStatement) JudgedExpr JudgedExpr JudgedLink (ℕ → JudgedStatement) JudgedStatement (else_step d) (form_step d) (part_step d) (statement_form_step d) (argument_step d) (block_step d) (closure_step d) (expr_step d) (link_step d) (local_step d) (statement_step d) x

  pub statement-rolled : (x : OfParts Statement-F) → judged_statement d (roll-Statement x) ≡ statement_step d (judged_in_statement x)
  statement-rolled x = fold-roll-Statement JudgedElse (ℕ → JudgedExpr) JudgedPart (ℕ → JudgedStatement) JudgedArgument (List JudgedStatement) JudgedExpr JudgedExpr JudgedLink (ℕ → JudgedStatement) JudgedStatement (else_step d) (form_step d) (part_step d) (statement_form_step d) (argument_step d) (block_step d) (closure_step d) (expr_step d) (link_step d) (local_step d) (statement_step d) x
