use Rattle.sx_well_declared.proofs.Programs.{program-told, program-derived}
use Rattle.sx_well_declared.proofs.laws.programs_are_derived.Goals as goal

pub returns : goal.returns
returns c =
    record {
      sound = λ x names is p v h. program-told x names is p v h;
      complete = λ x names is p v h. program-derived x names is p v h;
    }
