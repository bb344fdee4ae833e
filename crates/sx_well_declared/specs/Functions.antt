-- What functions and methods are well typed (The Swift Programming Language, "Functions", "Methods").
use Rattle.std.specs.Prelude.{◌≡◌, ℕ, true, List, length, Option, None}
use Rattle.sx_tree.specs.declared.declarations.Function.{Function}
use Rattle.sx_types.specs.declared.types.Ty.{Ty}
use Rattle.sx_typed.specs.declared.code.Statement.{Statement as TypedStatement}
use Rattle.sx_scope.specs.declared.declarations.Declarations.{Declarations}
use Rattle.sx_scope.specs.declared.walk.Gives.TheVariants as gives
use Rattle.sx_scope.specs.declared.walk.Walk.{Walk}
use Rattle.sx_scope.specs.Walks.{node, advanced}
use Rattle.sx_bodies.specs.Literals.{with_literal}
use Rattle.sx_heads.specs.declared.parameters.HeadParameter.{HeadParameter}
use Rattle.sx_heads.specs.declared.parameters.ParameterList.TheVariants as lists
use Rattle.sx_heads.specs.Widths.{is_narrow_head}
use Rattle.sx_functions.specs.Functions.{typed_function}
use Rattle.sx_functions.specs.Places.{body_place, is_new, left}
use Rattle.sx_well_declared.specs.Bodies.{BodyTyped}
use Rattle.sx_well_declared.specs.Heads.{HeadDeclared}

-- a function, or a method of the owner, beside what has these names
pub data FunctionDeclared (d : Declarations) (owner : Option Ty) (seen : List ℕ) (f : Function) : Walk → Walk → Type 0 where
  -- The name of a function is new, its parameters and its result have types, with few enough words, and its body, where the
  -- parameters are in scope, gives the result. Behind it what it has declared is out of scope, and it comes before the literals
  -- that stand in it.
  a_function : (ps : List HeadParameter) (r : Ty) (ss : List TypedStatement) (w w₁ v : Walk) →
      is_new d seen f.name.number ≡ true →
      HeadDeclared d lists.OfFunction f.parameters f.result (advanced 1 w) ps r w₁ →
      is_narrow_head d.types f.mutating owner ps ≡ true →
      BodyTyped d f.body (body_place owner f.mutating None (gives.Type r)) w₁ ss v →
      FunctionDeclared d owner seen f w (with_literal (length w.literals) (typed_function owner (node w.next) f ((ps, r), ss)) (left w v))
