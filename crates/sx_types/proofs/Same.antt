-- Types that are equal by `==` are the same.
use Rattle.std.proofs.Common.{◌≡◌, List, rules, refl, Decides}
use Rattle.std.proofs.lemmas.Slice.Eq.{slice_eq-Decides}
use Rattle.std.specs.Cmp.Lexicographic.{pointwise}
use Rattle.sx_types.specs.declared.types.Ty.{Ty}
use Rattle.sx_types.specs.declared.types.FunctionParameter.{FunctionParameter}
use Rattle.sx_types.specs.declared.types.FunctionType.{FunctionType}
use Rattle.sx_types.specs.contracts.types.TyPartialEq.TheImpl as ty
use Rattle.sx_types.specs.contracts.types.FunctionParameterPartialEq.TheImpl as parameter
use Rattle.sx_types.specs.contracts.types.FunctionTypePartialEq.TheImpl as function

pub same_ty : (a b : Ty) → Decides ((ty.ghosts).eq a b) (a ≡ b)
same_ty a b = search rules

pub same_parameter : (a b : FunctionParameter) → Decides ((parameter.ghosts).eq a b) (a ≡ b)
same_parameter a b = search rules

same_parameters : (xs ys : List FunctionParameter) → Decides (pointwise (parameter.ghosts).eq xs ys) (xs ≡ ys)
same_parameters xs ys = slice_eq-Decides same_parameter xs ys _ refl

pub same_function : (a b : FunctionType) → Decides ((function.ghosts).eq a b) (a ≡ b)
same_function a b = search (rules, same_parameters, same_ty)
