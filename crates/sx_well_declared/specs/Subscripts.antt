-- What subscripts are well typed (The Swift Programming Language, "Subscripts").
use Rattle.std.specs.Prelude.{◌≡◌, Bool, false, List, length, Option, Some}
use Rattle.sx_tree.specs.declared.declarations.Subscript.{Subscript}
use Rattle.sx_types.specs.declared.types.Ty.{Ty}
use Rattle.sx_scope.specs.declared.declarations.Declarations.{Declarations}
use Rattle.sx_scope.specs.declared.declarations.Known.TheVariants as known
use Rattle.sx_scope.specs.declared.walk.Walk.{Walk}
use Rattle.sx_scope.specs.Walks.{node, advanced}
use Rattle.sx_scope.specs.WrittenTypes.{is_void}
use Rattle.sx_heads.specs.declared.parameters.HeadParameter.{HeadParameter}
use Rattle.sx_heads.specs.declared.parameters.ParameterList.TheVariants as lists
use Rattle.sx_functions.specs.declared.accessing.OwnNames.{OwnNames}
use Rattle.sx_functions.specs.Places.{left}
use Rattle.sx_members.specs.Variables.{accessed}
use Rattle.sx_well_declared.specs.Accessors.{AccessorsDeclared}
use Rattle.sx_well_declared.specs.Heads.{HeadDeclared}

-- a subscript of the owner, which may have another before it
pub data SubscriptDeclared (d : Declarations) (names : OwnNames) (owner : Option Ty) (another : Bool) (s : Subscript) : Walk → Walk → Type 0 where
  -- A subscript is the only one of its type, its parameters and what it gives have types, which isn't `Void`, and its accessors
  -- stand where the parameters are in scope. Behind it what it has declared is out of scope.
  a_subscript : (ps : List HeadParameter) (r : Ty) (w w₁ v : Walk) →
      another ≡ false →
      HeadDeclared d lists.OfSubscript s.parameters (Some s.result) (advanced 1 w) ps r w₁ →
      is_void r ≡ false →
      AccessorsDeclared d names (accessed owner (node w.next) (known.Type r) ps (length w.locals)) s.accessors w₁ v →
      SubscriptDeclared d names owner another s w (left w v)
