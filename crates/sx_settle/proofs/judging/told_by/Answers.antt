use Rattle.sx_settle.proofs.Steps.{tells}
use Rattle.sx_settle.proofs.judging.told_by.Goals as goal

pub returns : goal.returns
returns c =
    tells c.args.declarations.now c.args.node c.args.value.now c.in_ok-walk.walk c.given_value-judged.new.walk c.given_value-judged.result c.told_answer.result c.in_ok-walk.ensures c.given_value-judged.ensures c.told_answer.ensures.told c.told_answer.ensures.other
