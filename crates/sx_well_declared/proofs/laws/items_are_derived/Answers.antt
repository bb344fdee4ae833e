use Rattle.sx_well_declared.proofs.Items.{item-told, item-derived, items-told, items-derived}
use Rattle.sx_well_declared.proofs.laws.items_are_derived.Goals as goal

pub returns : goal.returns
returns c =
    record {
      sound = λ x names seen k words i w v t h. item-told x names seen k words i w t v h;
      complete = λ x names seen k words i w v t h. item-derived x names seen k words i w t v h;
      all_sound = λ x names b seen k words is before p w v h. items-told x names b seen k words is before w p v h;
      all_complete = λ x names b seen k words is before p w v h. items-derived x names b seen k words is before w p v h;
    }
