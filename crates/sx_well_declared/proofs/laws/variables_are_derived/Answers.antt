use Rattle.sx_well_declared.proofs.Variables.{variable-told, variable-derived}
use Rattle.sx_well_declared.proofs.laws.variables_are_derived.Goals as goal

pub returns : goal.returns
returns c =
    record {
      sound = λ d names stops owner seen room k x w v y h. variable-told d names stops owner seen room k x w y v h;
      complete = λ d names stops owner seen room k x w v y h. variable-derived d names stops owner seen room k x w y v h;
    }
