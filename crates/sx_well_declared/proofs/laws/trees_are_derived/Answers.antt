use Rattle.sx_well_declared.proofs.Programs.{tree-told, tree-derived}
use Rattle.sx_well_declared.proofs.laws.trees_are_derived.Goals as goal

pub returns : goal.returns
returns c =
    record {
      sound = λ tree t h. tree-told tree t h;
      complete = λ tree t h. tree-derived tree t h;
    }
