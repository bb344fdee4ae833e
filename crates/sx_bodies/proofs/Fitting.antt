-- Literals that may not stand where they do.
use Rattle.std.proofs.Common.{◌≡◌, ℕ, Bool, List, Option, Result, Err, sym, ap, ◌∙◌}
use Rattle.sx_scope.specs.declared.declarations.Declarations.{Declarations}
use Rattle.sx_scope.specs.declared.stop.TypeKind.{TypeKind}
use Rattle.sx_scope.specs.declared.stop.TypeStop.TheVariants.{Typing}
use Rattle.sx_scope.specs.declared.walk.Asked.{Asked}
use Rattle.sx_scope.specs.declared.walk.Walk.{Walk}
use Rattle.sx_scope.specs.WrittenTypes.{number_of}
use Rattle.sx_span.specs.declared.places.Node.{Node}
use Rattle.sx_typed.specs.declared.program.Mention.{Mention}
use Rattle.sx_types.specs.declared.types.FunctionType.{FunctionType}
use Rattle.sx_bodies.specs.Literals.{literal_number, narrow_number, number_fitting, where_it_fits}
use Rattle.sx_bodies.proofs.Failing.{Fails, told}

pub misfit : (d : Declarations) (q : Asked) (n : Node) (lacking : Bool) (ms : List Mention) (f g : FunctionType) (o : Option ℕ) (k : TypeKind) (w : Walk) → g ≡ f → o ≡ number_of d.types.functions g → Err k ≡ number_fitting q lacking g o → Fails (Typing k n) (literal_number d q n lacking ms f w)
misfit d q n lacking ms f g o k w same at fits =
    let e : number_fitting q lacking f (number_of d.types.functions f) ≡ Err k =
    sym (fits ∙ ap (number_fitting q lacking g) at ∙ ap (λ (x : FunctionType). number_fitting q lacking x (number_of d.types.functions x)) same) in
    told _ _ _ _ (ap (λ (r : Result ℕ TypeKind). where_it_fits r n (narrow_number d n ms f) w) e)
