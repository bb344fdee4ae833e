use Rattle.std.proofs.Common.{◌∙◌, Option, map, option_map, sym, ap}
use Rattle.sx_tree.specs.declared.code.Closure.{Closure}
use Rattle.sx_calls.specs.Parts.{JudgedPart}
use Rattle.sx_check_expr.specs.Judge.{judged_closure, judged_part}
use Rattle.sx_check_expr.specs.Steps.{step_nodes}
use Rattle.sx_check_expr.proofs.Parts.{member_is}
use Rattle.sx_check_expr.proofs.postfix.step_nodes.Goals as goal

pub returns-in-None : goal.returns-in-None
returns-in-None c = λ d.
    c.member_nodes.ensures d
    ∙ sym (ap (λ (x : JudgedPart). step_nodes x (map (judged_part d) c.args.rest.now))
    (ap (judged_part d) c.in-Member.is ∙ member_is d c.in-Member.field-0 c.in-Member.field-1 _ ∙ ap (λ (o : Option Closure). JudgedPart.Member c.in-Member.field-1.number (option_map (judged_closure d) o)) c.in-None.is))
