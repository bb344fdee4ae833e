use Rattle.sx_well_declared.proofs.Members.{type-told, type-derived}
use Rattle.sx_well_declared.proofs.laws.types_are_derived.Goals as goal

pub returns : goal.returns
returns c =
    record {
      sound = λ d names stops seen f k t x w v y h. type-told d names stops seen f k t x w y v h;
      complete = λ d names stops seen f k t x w v y h. type-derived d names stops seen f k t x w y v h;
    }
