use Rattle.std.proofs.Common.{ap, sym, ◌∙◌}
use Rattle.sx_bodies.specs.Statements.{passes_end, else_passes}
use Rattle.sx_check_expr.proofs.LastStatements.{by_last, if_passes_else, if_passes_first, in_block, while_is_left, while_may_end}
use Rattle.sx_check_expr.proofs.StatementEquations.{else_block_is, else_if_is}
use Rattle.sx_check_expr.specs.Judge.{judged_statement}
use Rattle.sx_tree.specs.declared.code.Statement.{Statement}
use Rattle.sx_check_expr.proofs.ends.+passing.Goals as goal

pub else_passes-returns-in-Block : goal.else_passes-returns-in-Block
else_passes-returns-in-Block t c = λ d. in_block passes_end d c.in-Block.block c.as_slice.result.now c.passes_end.result c.as_slice.ensures (c.passes_end.ensures d) ∙ ap else_passes (sym (else_block_is d c.args.otherwise.now c.in-Block.block c.in-Block.is))

pub else_passes-returns-in-ElseIf : goal.else_passes-returns-in-ElseIf
else_passes-returns-in-ElseIf t c = λ d. c.passes.ensures d ∙ ap (λ (s : Statement). (judged_statement d s).passes) c.get.ensures ∙ ap else_passes (sym (else_if_is d c.args.otherwise.now c.in-ElseIf.statement c.in-ElseIf.is))

pub passes-returns-then-passes_end : goal.passes-returns-then-passes_end
passes-returns-then-passes_end t c = λ d. if_passes_first d c.args.statement.now c.in-If.field-0 c.in-If.block c.in-If.otherwise c.as_slice.result.now c.passes_end.result c.in-If.is c.as_slice.ensures (c.passes_end.ensures d) c.if-passes_end.true

pub passes-returns-else-passes_end : goal.passes-returns-else-passes_end
passes-returns-else-passes_end t c = λ d. if_passes_else d c.args.statement.now c.in-If.field-0 c.in-If.block c.in-If.otherwise c.as_slice.result.now c.passes_end.result c.else_passes.result c.in-If.is c.as_slice.ensures (c.passes_end.ensures d) c.if-passes_end.false (c.else_passes.ensures d)

pub passes-returns-then-not-is_true : goal.passes-returns-then-not-is_true
passes-returns-then-not-is_true t c = λ d. while_may_end d c.args.statement.now c.in-While.condition c.in-While.block c.is_true.result c.in-While.is (c.is_true.ensures d) c.if-not-is_true.true

pub passes-returns-else-not-is_true : goal.passes-returns-else-not-is_true
passes-returns-else-not-is_true t c = λ d. while_is_left d c.args.statement.now c.in-While.condition c.in-While.block c.is_true.result c.as_slice-else-not-is_true.result.now c.any_breaks.result c.in-While.is (c.is_true.ensures d) c.if-not-is_true.false c.as_slice-else-not-is_true.ensures (c.any_breaks.ensures d)

pub passes_end-returns-in-Some : goal.passes_end-returns-in-Some
passes_end-returns-in-Some t c = λ d. by_last d c.args.statements.now c.in-Some.last.now c.passes.result c.in-Some.ensures.value (c.passes.ensures d)
