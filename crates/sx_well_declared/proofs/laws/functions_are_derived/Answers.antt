use Rattle.sx_well_declared.proofs.Functions.{function-told, function-derived}
use Rattle.sx_well_declared.proofs.laws.functions_are_derived.Goals as goal

pub returns : goal.returns
returns c =
    record {
      sound = λ d owner seen f w v h. function-told d owner seen f w v h;
      complete = λ d owner seen f w v h. function-derived d owner seen f w v h;
    }
