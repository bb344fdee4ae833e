use Rattle.sx_well_declared.proofs.Accessors.{accessor-told, accessor-derived, accessors-told, accessors-derived}
use Rattle.sx_well_declared.proofs.laws.accessors_are_derived.Goals as goal

pub returns : goal.returns
returns c =
    record {
      sound = λ d names c a w v h. accessor-told d names c a w v h;
      complete = λ d names c a w v h. accessor-derived d names c a w v h;
      all_sound = λ d names c as_ w v h. accessors-told d names c as_ w v h;
      all_complete = λ d names c as_ w v h. accessors-derived d names c as_ w v h;
    }
