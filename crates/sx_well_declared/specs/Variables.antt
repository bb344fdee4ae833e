-- What globals and properties are well typed (The Swift Programming Language, "Declarations", variables and constants).
use Rattle.std.specs.Prelude.{◌≡◌, ℕ, Bool, true, false, List, [], length, slice_get, Option, Some, None}
use Rattle.sx_span.specs.declared.places.Node.{Node}
use Rattle.sx_tree.specs.declared.code.Expr.{Expr}
use Rattle.sx_tree.specs.declared.declarations.Variable.{Variable}
use Rattle.sx_tree.specs.declared.written_types.WrittenType.{WrittenType}
use Rattle.sx_types.specs.declared.types.Ty.{Ty}
use Rattle.sx_typed.specs.declared.code.Expr.{Expr as TypedExpr}
use Rattle.sx_scope.specs.declared.declarations.Declarations.{Declarations}
use Rattle.sx_scope.specs.declared.declarations.Known.{Known}
use Rattle.sx_scope.specs.declared.declarations.Known.TheVariants as known
use Rattle.sx_scope.specs.declared.walk.Asked.TheVariants as asked
use Rattle.sx_scope.specs.declared.walk.Use.TheVariants as uses
use Rattle.sx_scope.specs.declared.walk.Walk.{Walk}
use Rattle.sx_scope.specs.Verdict.{typed}
use Rattle.sx_scope.specs.Walks.{node, advanced}
use Rattle.sx_scope.specs.Names.{given_known}
use Rattle.sx_scope.specs.WrittenTypes.{is_void, judged_type}
use Rattle.sx_heads.specs.Variables.{lacks_value}
use Rattle.sx_functions.specs.declared.accessing.OwnNames.{OwnNames}
use Rattle.sx_functions.specs.Places.{is_new}
use Rattle.sx_members.specs.declared.variables.TypedVariable.{TypedVariable}
use Rattle.sx_members.specs.Variables.{accessed, giving_place, has_room, outer_place}
use Rattle.sx_well_typed.specs.Claims.{Claim}
use Rattle.sx_well_typed.specs.Rules.{Typed}
use Rattle.sx_well_declared.specs.Accessors.{AccessorsDeclared}

abbrev pub is_failed : Known → Bool
is_failed known.Failed = true
is_failed k = false

-- the initial value, where this type is written
pub data InitialValue (d : Declarations) (t : Ty) : Option Expr → Walk → Option TypedExpr → Walk → Type 0 where
  -- There may be none.
  no_value : (w : Walk) →
      InitialValue d t None w None w
  -- An initial value has the written type.
  a_value : (e : Expr) (x : TypedExpr) (w v : Walk) →
      Typed d (Claim.expression e outer_place (asked.Type t) uses.Kept w x v) →
      InitialValue d t (Some e) w (Some x) v

-- the type and the initial value of a declaration at this node, which is a member of the owner if there is one
pub data TypeAndValue (d : Declarations) (owner : Option Ty) (n : Node) (k : ℕ) (x : Variable) : Walk → Ty → Option TypedExpr → Walk → Type 0 where
  -- The type is written and isn't `Void`, and the initial value has it, which a stored property of a class doesn't lack.
  written : (y : WrittenType) (t : Ty) (o : Option TypedExpr) (w w₁ v : Walk) →
      x.ty ≡ Some y →
      judged_type d y w ≡ typed t w₁ →
      is_void t ≡ false →
      lacks_value owner x ≡ false →
      InitialValue d t x.value w₁ o v →
      TypeAndValue d owner n k x w t o v
  -- The initial value gives the type, which isn't `Void`, and the declaration, which has this number among those whose initial
  -- values give their types, has not failed.
  given : (e : Expr) (y : TypedExpr) (w v : Walk) →
      x.ty ≡ None →
      x.value ≡ Some e →
      is_failed (given_known (slice_get d.given k)) ≡ false →
      Typed d (Claim.expression e (giving_place n) asked.Nothing uses.Kept w y v) →
      is_void y.ty ≡ false →
      TypeAndValue d owner n k x w y.ty (Some y) v

-- a global, or a property of the owner, beside what has these names, where there is room for so many words
pub data VariableDeclared (d : Declarations) (names : OwnNames) (owner : Option Ty) (seen : List ℕ) (room : Option ℕ) (k : ℕ) (x : Variable) : Walk → TypedVariable → Walk → Type 0 where
  -- The name of a variable is new, there is room for a value of its type, and its accessors and observers stand behind its value.
  a_variable : (t : Ty) (o : Option TypedExpr) (w w₁ v : Walk) →
      is_new d seen x.name.number ≡ true →
      TypeAndValue d owner (node w.next) k x (advanced 1 w) t o w₁ →
      has_room d.types room t ≡ true →
      AccessorsDeclared d names (accessed owner (node w.next) (known.Type t) [] (length w₁.locals)) x.accessors w₁ v →
      VariableDeclared d names owner seen room k x w (record { node = node w.next; ty = t; value = o }) v
