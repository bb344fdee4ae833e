use Rattle.sx_well_declared.proofs.Bodies.{body-told, body-derived}
use Rattle.sx_well_declared.proofs.laws.function_bodies_are_derived.Goals as goal

pub returns : goal.returns
returns c =
    record {
      sound = λ d b p w v ts h. (body-told d b p w v ts h).0;
      sound_return = λ d b p w v ts h. (body-told d b p w v ts h).1;
      complete = λ d b p w v ts h g. body-derived d b p w v ts h g;
    }
