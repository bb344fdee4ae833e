use Rattle.std.proofs.Common.{is_some}
use Rattle.std.proofs.lemmas.Result.{err_from_is_err_and}
use Rattle.sx_scope.specs.WrittenTypes.{judged_option}
use Rattle.sx_check_expr.specs.Judge.{judged_expr}
use Rattle.sx_check_expr.proofs.FreshLocals.{local_stops}
use Rattle.sx_check_expr.proofs.locals.local_statement.Goals as goal

pub returns-in_err-value : goal.returns-in_err-value
returns-in_err-value g c =
    let r = err_from_is_err_and c.from_residual-in_err-value.result c.from_residual-in_err-value.ensures.1 in
    let d = c.args.declarations.now in
    let l = c.args.local.now in
    rw (r.1, r.2) (local_stops d c.args.place l.name.number l.constant (is_some l.ty) (judged_option d l.ty) (judged_expr d l.value) c.args.site c.in_err-value.field-0.0 c.declared_value.new.walk c.in_ok-node.node c.take_node.new.self c.args.walk.now c.in_ok-node.ensures.node c.in_ok-node.ensures.walk c.in_err-value.ensures)
