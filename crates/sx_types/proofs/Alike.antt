-- Equal by `==` is the same.
use Rattle.std.proofs.Common.{◌≡◌, Bool, true, false, ◌&&◌, List, [], ◌∷◌, Option, ℕ, refl, ap, rules}
use Rattle.std.specs.Prelude.{position}
use Rattle.std.specs.Cmp.Lexicographic.{pointwise}
use Rattle.sx_types.specs.declared.types.Ty.{Ty}
use Rattle.sx_types.specs.declared.types.FunctionParameter.{FunctionParameter}
use Rattle.sx_types.specs.declared.types.FunctionType.{FunctionType}
use Rattle.sx_types.specs.contracts.types.TyPartialEq.TheImpl as ty
use Rattle.sx_types.specs.contracts.types.FunctionParameterPartialEq.TheImpl as parameter
use Rattle.sx_types.specs.contracts.types.FunctionTypePartialEq.TheImpl as function
use Rattle.sx_types.specs.Same.{same, same_parameter, same_parameters, same_function, number_of}

pub ty_alike : (a b : Ty) → (ty.ghosts).eq a b ≡ same a b
ty_alike a b = search rules

pub parameter_alike : (p q : FunctionParameter) → (parameter.ghosts).eq p q ≡ same_parameter p q
parameter_alike p q = search (rules, ty_alike)

parameters_alike : (ps qs : List FunctionParameter) → pointwise (parameter.ghosts).eq ps qs ≡ same_parameters ps qs
parameters_alike [] [] = refl
parameters_alike [] (q ∷ qs) = refl
parameters_alike (p ∷ ps) [] = refl
parameters_alike (p ∷ ps) (q ∷ qs) = search (rules, parameter_alike p q, parameters_alike ps qs)

pub function_alike : (f g : FunctionType) → (function.ghosts).eq f g ≡ same_function f g
function_alike f g = search (rules, parameters_alike, ty_alike)

pub numbered : (types : List FunctionType) (f : FunctionType) → position ((function.ghosts).eq f) types ≡ number_of types f
numbered types f = ap (λ (same_as_f : FunctionType → Bool). position same_as_f types) (λ i g. function_alike f g i)
