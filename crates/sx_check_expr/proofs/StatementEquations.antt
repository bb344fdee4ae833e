-- The judgement of a tree, by those of its parts.
use Rattle.std.proofs.Common.{◌≡◌, ◌∙◌, ℕ, List, ap}
use Rattle.sx_tree.specs.declared.code.Block.{Block, out-Block, fold_out-Block}
use Rattle.sx_tree.specs.declared.code.Else.{Else, Else-F, fold-roll-Else}
use Rattle.sx_tree.specs.declared.code.Else.TheVariants as otherwise
use Rattle.sx_tree.specs.declared.code.Expr.{Expr}
use Rattle.sx_tree.specs.declared.code.Statement.{Statement, fold_out-Statement}
use Rattle.sx_tree.specs.declared.code.StatementForm.{StatementForm, StatementForm-F, fold-roll-StatementForm}
use Rattle.sx_tree.specs.declared.code.StatementForm.TheVariants as form
use Rattle.sx_scope.specs.declared.declarations.Declarations.{Declarations}
use Rattle.sx_calls.specs.Parts.{JudgedExpr, JudgedLink, JudgedArgument, JudgedPart, JudgedStatement, JudgedElse}
use Rattle.sx_check_expr.specs.Judge.{else_step, form_step, part_step, statement_form_step, argument_step, block_step, closure_step, expr_step, link_step, local_step, statement_step, judged_block, judged_else, judged_expr, judged_statement, judged_statement_form, judged_statements}

pub block_is : (d : Declarations) (b : Block) → judged_block d b ≡ judged_statements d (out-Block b).statements
block_is d b =
    fold_out-Block JudgedElse (ℕ → JudgedExpr) JudgedPart (ℕ → JudgedStatement) JudgedArgument (List JudgedStatement) JudgedExpr JudgedExpr JudgedLink (ℕ → JudgedStatement) JudgedStatement (else_step d) (form_step d) (part_step d) (statement_form_step d) (argument_step d) (block_step d) (closure_step d) (expr_step d) (link_step d) (local_step d) (statement_step d) b

-- what follows the block of an `if`
pub else_block_is : (d : Declarations) (e : Else) (b : Block) → e ≡ otherwise.Block b → judged_else d e ≡ JudgedElse.Block (judged_block d b)
unfolding Rattle.sx_tree.specs.declared.code.Else.TheViews.roll-Else denote.Hole.Carrier.roll
else_block_is d e b is =
    ap (judged_else d) is
    ∙ fold-roll-Else JudgedElse (ℕ → JudgedExpr) JudgedPart (ℕ → JudgedStatement) JudgedArgument (List JudgedStatement) JudgedExpr JudgedExpr JudgedLink (ℕ → JudgedStatement) JudgedStatement (else_step d) (form_step d) (part_step d) (statement_form_step d) (argument_step d) (block_step d) (closure_step d) (expr_step d) (link_step d) (local_step d) (statement_step d) (Else-F.Block b)

pub else_if_is : (d : Declarations) (e : Else) (s : Statement) → e ≡ otherwise.ElseIf s → judged_else d e ≡ JudgedElse.ElseIf (judged_statement d s)
unfolding Rattle.sx_tree.specs.declared.code.Else.TheViews.roll-Else denote.Hole.Carrier.roll
else_if_is d e s is =
    ap (judged_else d) is
    ∙ fold-roll-Else JudgedElse (ℕ → JudgedExpr) JudgedPart (ℕ → JudgedStatement) JudgedArgument (List JudgedStatement) JudgedExpr JudgedExpr JudgedLink (ℕ → JudgedStatement) JudgedStatement (else_step d) (form_step d) (part_step d) (statement_form_step d) (argument_step d) (block_step d) (closure_step d) (expr_step d) (link_step d) (local_step d) (statement_step d) (Else-F.ElseIf s)

-- a statement of this form
statement_is : (d : Declarations) (s : Statement) (f : StatementForm) → s.form ≡ f → judged_statement d s ≡ judged_statement_form d f s.span.start
statement_is d s f e =
    fold_out-Statement JudgedElse (ℕ → JudgedExpr) JudgedPart (ℕ → JudgedStatement) JudgedArgument (List JudgedStatement) JudgedExpr JudgedExpr JudgedLink (ℕ → JudgedStatement) JudgedStatement (else_step d) (form_step d) (part_step d) (statement_form_step d) (argument_step d) (block_step d) (closure_step d) (expr_step d) (link_step d) (local_step d) (statement_step d) s
    ∙ ap (λ (g : StatementForm). judged_statement_form d g s.span.start) e

pub if_is : (d : Declarations) (s : Statement) (c : Expr) (a : Block) (b : Else) → s.form ≡ form.If c a b → judged_statement d s ≡ statement_form_step d (StatementForm-F.If (judged_expr d c) (judged_block d a) (judged_else d b)) s.span.start
unfolding Rattle.sx_tree.specs.declared.code.Else.TheViews.roll-StatementForm denote.Hole.Carrier.roll
if_is d s c a b e =
    statement_is d s (form.If c a b) e
    ∙ ap (λ (f : ℕ → JudgedStatement). f s.span.start) (fold-roll-StatementForm JudgedElse (ℕ → JudgedExpr) JudgedPart (ℕ → JudgedStatement) JudgedArgument (List JudgedStatement) JudgedExpr JudgedExpr JudgedLink (ℕ → JudgedStatement) JudgedStatement (else_step d) (form_step d) (part_step d) (statement_form_step d) (argument_step d) (block_step d) (closure_step d) (expr_step d) (link_step d) (local_step d) (statement_step d) (StatementForm-F.If c a b))

pub while_is : (d : Declarations) (s : Statement) (c : Expr) (a : Block) → s.form ≡ form.While c a → judged_statement d s ≡ statement_form_step d (StatementForm-F.While (judged_expr d c) (judged_block d a)) s.span.start
unfolding Rattle.sx_tree.specs.declared.code.Else.TheViews.roll-StatementForm denote.Hole.Carrier.roll
while_is d s c a e =
    statement_is d s (form.While c a) e
    ∙ ap (λ (f : ℕ → JudgedStatement). f s.span.start) (fold-roll-StatementForm JudgedElse (ℕ → JudgedExpr) JudgedPart (ℕ → JudgedStatement) JudgedArgument (List JudgedStatement) JudgedExpr JudgedExpr JudgedLink (ℕ → JudgedStatement) JudgedStatement (else_step d) (form_step d) (part_step d) (statement_form_step d) (argument_step d) (block_step d) (closure_step d) (expr_step d) (link_step d) (local_step d) (statement_step d) (StatementForm-F.While c a))
