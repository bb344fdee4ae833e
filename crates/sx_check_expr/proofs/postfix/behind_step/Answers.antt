use Rattle.std.proofs.Common.{◌∙◌, Option, map, option_map, sym, ap}
use Rattle.sx_tree.specs.declared.code.Closure.{Closure}
use Rattle.sx_calls.specs.Parts.{JudgedPart}
use Rattle.sx_check_expr.specs.Judge.{judged_closure, judged_part}
use Rattle.sx_check_expr.specs.Steps.{behind_step}
use Rattle.sx_check_expr.proofs.Parts.{member_is}
use Rattle.sx_check_expr.proofs.postfix.behind_step.Goals as goal

pub returns-in-None-clause-behind : goal.returns-in-None-clause-behind
returns-in-None-clause-behind c = λ d.
    c.behind_member.ensures.behind d
    ∙ sym (ap (λ (x : JudgedPart). behind_step x (map (judged_part d) c.args.rest.now))
    (ap (judged_part d) c.in-Member.is ∙ member_is d c.in-Member.field-0 c.in-Member.field-1 _ ∙ ap (λ (o : Option Closure). JudgedPart.Member c.in-Member.field-1.number (option_map (judged_closure d) o)) c.in-None.is))
