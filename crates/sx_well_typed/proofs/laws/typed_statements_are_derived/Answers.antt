use Rattle.sx_well_typed.specs.Claims.{Claim}
use Rattle.sx_well_typed.proofs.Sound.{sound}
use Rattle.sx_well_typed.proofs.Tree.{block-derives, statement-derives}
use Rattle.sx_well_typed.proofs.laws.typed_statements_are_derived.Goals as goal

pub returns : goal.returns
returns c =
    record {
      sound = λ d s p w v t h. sound d (Claim.statement s p w t v) h;
      complete = λ d s p w v t h. (statement-derives d s).0 p w t v h;
      block_sound = λ d b p w v ts h. sound d (Claim.block b p w ts v) h;
      block_complete = λ d b p w v ts h. block-derives d b p w ts v h;
    }
