use Rattle.std.proofs.Common.{◌≤◌, length, arith, ap, sym, ◌∙◌}
use Rattle.sx_bodies.specs.Statements.{any_breaks, else_breaks}
use Rattle.sx_check_expr.proofs.LastStatements.{all_stay, if_leaves_else, if_leaves_first, in_block, one_leaves, one_stays}
use Rattle.sx_check_expr.proofs.StatementEquations.{else_block_is, else_if_is}
use Rattle.sx_check_expr.specs.Judge.{judged_statement}
use Rattle.sx_tree.specs.declared.code.Statement.{Statement}
use Rattle.sx_check_expr.proofs.ends.+leaving.Goals as goal

pub any_breaks-returns-then-breaks : goal.any_breaks-returns-then-breaks
any_breaks-returns-then-breaks t c = λ d. one_leaves d c.args.statements.now c.statements.statement-index c.statement-item.result c.breaks.result c.statements-test.true c.statement-item.is (c.statements.invariant d) (c.breaks.ensures d) c.if-breaks.true

pub any_breaks-statements-preserved : goal.any_breaks-statements-preserved
any_breaks-statements-preserved t c = λ d. one_stays d c.args.statements.now c.statements.statement-index c.statement-item.result c.breaks.result c.statements-test.true c.statement-item.is (c.statements.invariant d) (c.breaks.ensures d) c.if-breaks.false

pub any_breaks-returns : goal.any_breaks-returns
any_breaks-returns t c =
    let past : length c.args.statements.now ≤ c.statements.statement-index = omega arith in
    λ d. all_stay d c.args.statements.now c.statements.statement-index past (c.statements.invariant d)

pub breaks-returns-then-any_breaks : goal.breaks-returns-then-any_breaks
breaks-returns-then-any_breaks t c = λ d. if_leaves_first d c.args.statement.now c.in-If.field-0 c.in-If.block c.in-If.otherwise c.as_slice.result.now c.any_breaks.result c.in-If.is c.as_slice.ensures (c.any_breaks.ensures d) c.if-any_breaks.true

pub breaks-returns-else-any_breaks : goal.breaks-returns-else-any_breaks
breaks-returns-else-any_breaks t c = λ d. if_leaves_else d c.args.statement.now c.in-If.field-0 c.in-If.block c.in-If.otherwise c.as_slice.result.now c.any_breaks.result c.else_breaks.result c.in-If.is c.as_slice.ensures (c.any_breaks.ensures d) c.if-any_breaks.false (c.else_breaks.ensures d)

pub else_breaks-returns-in-Block : goal.else_breaks-returns-in-Block
else_breaks-returns-in-Block t c = λ d. in_block any_breaks d c.in-Block.block c.as_slice.result.now c.any_breaks.result c.as_slice.ensures (c.any_breaks.ensures d) ∙ ap else_breaks (sym (else_block_is d c.args.otherwise.now c.in-Block.block c.in-Block.is))

pub else_breaks-returns-in-ElseIf : goal.else_breaks-returns-in-ElseIf
else_breaks-returns-in-ElseIf t c = λ d. c.breaks.ensures d ∙ ap (λ (s : Statement). (judged_statement d s).breaks) c.get.ensures ∙ ap else_breaks (sym (else_if_is d c.args.otherwise.now c.in-ElseIf.statement c.in-ElseIf.is))
