-- Whole expressions, statements, blocks and bodies are judged typed so exactly where this is derived.
use Rattle.std.proofs.Common.{List, [], ◌∷◌}
use Rattle.sx_tree.specs.declared.code.Statement.{Statement}
use Rattle.sx_scope.specs.declared.declarations.Declarations.{Declarations}
use Rattle.sx_scope.specs.declared.walk.Place.{Place}
use Rattle.sx_scope.specs.declared.walk.Walk.{Walk}
use Rattle.sx_typed.specs.declared.code.Statement.{Statement as TypedStatement}
use Rattle.sx_well_typed.specs.Claims.{Claim}
use Rattle.sx_well_typed.proofs.Derives.{Derives, Each, StatementDerives}
use Rattle.sx_well_typed.proofs.CompleteBodies.{body-complete}
use Rattle.sx_well_typed.proofs.Tree.{statement-derives}

module _ (d : Declarations) where
  pub statements-derive : (ss : List Statement) → Each (StatementDerives d) ss
  statements-derive [] = tt
  statements-derive (s ∷ ss) = (statement-derives d s, statements-derive ss)

  pub body-derives : (ss : List Statement) (p : Place) (w : Walk) (ts : List TypedStatement) (v : Walk) → Derives d (Claim.body ss p w ts v)
  body-derives ss p w ts v = body-complete d ss (statements-derive ss) p w ts v
