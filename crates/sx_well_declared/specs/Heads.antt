-- What heads of functions and subscripts are well typed: their parameters, and what they give (The Swift Programming Language,
-- "Functions", "Subscripts").
use Rattle.std.specs.Prelude.{◌≡◌, ℕ, true, false, not, ◌&&◌, List, [], ◌∷◌, ◌++◌, length, Option, Some, None}
use Rattle.sx_tree.specs.declared.declarations.Parameter.{Parameter}
use Rattle.sx_tree.specs.declared.written_types.WrittenType.{WrittenType}
use Rattle.sx_types.specs.declared.types.Ty.{Ty}
use Rattle.sx_types.specs.declared.types.Ty.TheVariants as ty
use Rattle.sx_scope.specs.declared.declarations.Declarations.{Declarations}
use Rattle.sx_scope.specs.declared.declarations.Known.TheVariants as known
use Rattle.sx_scope.specs.declared.walk.Walk.{Walk}
use Rattle.sx_scope.specs.Verdict.{typed}
use Rattle.sx_scope.specs.Walks.{node, advanced}
use Rattle.sx_scope.specs.Names.{is_function}
use Rattle.sx_scope.specs.WrittenTypes.{judged_type}
use Rattle.sx_bodies.specs.Statements.{is_fresh, unless_taken}
use Rattle.sx_heads.specs.declared.parameters.HeadParameter.{HeadParameter}
use Rattle.sx_heads.specs.declared.parameters.ParameterList.{ParameterList}
use Rattle.sx_heads.specs.Heads.{head_parameter, is_escaping, may_not_be, parameter_local}

-- a parameter of a head, whose parameters are the locals from this number on
pub data ParameterDeclared (d : Declarations) (l : ParameterList) (from : ℕ) (p : Parameter) : Walk → HeadParameter → Walk → Type 0 where
  -- The name of a parameter is new in its head, its type is one that such a parameter may have, and only a function is marked
  -- `@escaping`; it comes into scope behind its type.
  a_parameter : (t : Ty) (w v : Walk) →
      is_fresh d from p.name.number (advanced 1 w) ≡ true →
      judged_type d p.ty (advanced 1 w) ≡ typed t v →
      may_not_be l p.marker t ≡ false →
      (is_escaping p.marker && not (is_function t)) ≡ false →
      ParameterDeclared d l from p w (head_parameter (node w.next) p t) (unless_taken from (parameter_local (node w.next) p (known.Type t)) v)

-- parameters one after another: with those before, the parameters are these
pub data ParametersDeclared (d : Declarations) (l : ParameterList) (from : ℕ) : List Parameter → List HeadParameter → Walk → List HeadParameter → Walk → Type 0 where
  -- No more parameters.
  parameters_end : (before : List HeadParameter) (w : Walk) →
      ParametersDeclared d l from [] before w before w
  -- A parameter, and those behind it.
  parameters_more : (p : Parameter) (ps : List Parameter) (h : HeadParameter) (before hs : List HeadParameter) (w w₁ v : Walk) →
      ParameterDeclared d l from p w h w₁ →
      ParametersDeclared d l from ps (before ++ h ∷ []) w₁ hs v →
      ParametersDeclared d l from (p ∷ ps) before w hs v

-- the type of a result
pub data ResultDeclared (d : Declarations) : Option WrittenType → Walk → Ty → Walk → Type 0 where
  -- Where none is written it is `Void`.
  no_result : (w : Walk) →
      ResultDeclared d None w ty.Void w
  -- Else it is the written type.
  a_result : (y : WrittenType) (t : Ty) (w v : Walk) →
      judged_type d y w ≡ typed t v →
      ResultDeclared d (Some y) w t v

-- the head of a function or subscript
pub data HeadDeclared (d : Declarations) (l : ParameterList) (ps : List Parameter) (r : Option WrittenType) : Walk → List HeadParameter → Ty → Walk → Type 0 where
  -- A head is its parameters, and then its result.
  a_head : (hs : List HeadParameter) (t : Ty) (w w₁ v : Walk) →
      ParametersDeclared d l (length w.locals) ps [] w hs w₁ →
      ResultDeclared d r w₁ t v →
      HeadDeclared d l ps r w hs t v
