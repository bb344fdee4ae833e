use Rattle.std.proofs.Common.{None}
use Rattle.sx_well_declared.proofs.Subscripts.{subscript-told, subscript-derived}
use Rattle.sx_well_declared.proofs.laws.subscripts_are_derived.Goals as goal

pub returns : goal.returns
returns c =
    record {
      sound = λ d names owner another s w v h. subscript-told d names owner another s w v h;
      complete = λ d names owner another s w v h. (subscript-derived d names owner another s w None v h).1;
    }
