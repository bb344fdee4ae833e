use Rattle.sx_well_typed.specs.Claims.{Claim}
use Rattle.sx_well_typed.proofs.Sound.{sound}
use Rattle.sx_well_typed.proofs.Tree.{expr-derives}
use Rattle.sx_well_typed.proofs.laws.typed_expressions_are_derived.Goals as goal

pub returns : goal.returns
returns c =
    record {
      sound = λ d e p q u w v t h. sound d (Claim.expression e p q u w t v) h;
      complete = λ d e p q u w v t h. expr-derives d e p q u w t v h;
    }
