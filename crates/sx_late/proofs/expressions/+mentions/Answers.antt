use Rattle.sx_late.specs.Mentions.{component_mentions}
use Rattle.sx_late.proofs.Purposes.{next_part}
use Rattle.sx_late.proofs.expressions.+mentions.Goals as goal

pub put_components-loop-index-preserved : goal.put_components-loop-index-preserved
put_components-loop-index-preserved t c =
    next_part (component_mentions c.args.typed.now) c.args.components.now c.loop-index.index c.index-components-index.result _ c.args.purpose _ _ _ _ c.loop-index.invariant c.loop-index-test.true c.purpose_before-part_purpose.ensures c.index-components-index.is c.in_ok-put_component.ensures
