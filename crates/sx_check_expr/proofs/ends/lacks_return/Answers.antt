use Rattle.std.proofs.Common.{is_none, ◌&&◌, ap, ◌∙◌}
use Rattle.sx_bodies.specs.Statements.{knows_value, passes_end, single}
use Rattle.sx_check_expr.proofs.LastStatements.{and_first, and_second, is_none_by, none_mapped}
use Rattle.sx_check_expr.specs.Judge.{judged_expr, judged_statements}
use Rattle.sx_check_expr.proofs.ends.lacks_return.Goals as goal

pub returns-then-needs_return : goal.returns-then-needs_return
returns-then-needs_return c = λ d.
    and_second c.needs_return.result c.is_none.result (knows_value c.args.gives && passes_end (judged_statements d c.args.statements.now)) (is_none (single c.args.gives (judged_statements d c.args.statements.now))) (c.needs_return.ensures d) c.if-needs_return.true
    (is_none_by c.single.result c.is_none.result c.is_none.ensures ∙ none_mapped (λ x. judged_expr d x.1.now) c.single.result ∙ ap is_none (c.single.ensures.expr d))

pub returns-else-needs_return : goal.returns-else-needs_return
returns-else-needs_return c = λ d.
    and_first c.needs_return.result (knows_value c.args.gives && passes_end (judged_statements d c.args.statements.now)) (is_none (single c.args.gives (judged_statements d c.args.statements.now))) (c.needs_return.ensures d) c.if-needs_return.false
