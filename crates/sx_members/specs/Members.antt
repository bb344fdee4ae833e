-- Structures and classes with their members (The Swift Programming Language, "Structures and Classes").
use Rattle.std.specs.Prelude.{ℕ, suc, Bool, true, false, not, List, [], ◌∷◌, ◌++◌, map, length, nat_eq, Option, Some, None, is_none, cond}
use Rattle.std.specs.List.{list_any}
use Rattle.sx_span.specs.declared.places.Node.{Node}
use Rattle.sx_tree.specs.declared.declarations.Function.{Function as WrittenFunction}
use Rattle.sx_tree.specs.declared.declarations.Member.{Member}
use Rattle.sx_tree.specs.declared.declarations.Member.TheVariants as members
use Rattle.sx_tree.specs.declared.declarations.Subscript.{Subscript}
use Rattle.sx_tree.specs.declared.declarations.TypeDeclaration.{TypeDeclaration as WrittenDeclaration}
use Rattle.sx_tree.specs.declared.declarations.Variable.{Variable}
use Rattle.sx_types.specs.declared.types.Ty.{Ty}
use Rattle.sx_types.specs.declared.types.Ty.TheVariants as ty
use Rattle.sx_typed.specs.declared.program.Function.{Function}
use Rattle.sx_typed.specs.declared.program.FunctionKind.TheVariants as function_kind
use Rattle.sx_typed.specs.declared.program.Marker.TheVariants as passing
use Rattle.sx_typed.specs.declared.program.Parameter.{Parameter}
use Rattle.sx_typed.specs.declared.program.Property.{Property}
use Rattle.sx_typed.specs.declared.program.TypeDeclaration.{TypeDeclaration}
use Rattle.sx_scope.specs.declared.stop.TypeKind.TheVariants as kind
use Rattle.sx_scope.specs.declared.stop.TypeStop.{TypeStop}
use Rattle.sx_scope.specs.declared.stop.TypeStop.TheVariants.{TooWide}
use Rattle.sx_scope.specs.declared.declarations.Declarations.{Declarations}
use Rattle.sx_scope.specs.declared.declarations.Known.{Known}
use Rattle.sx_scope.specs.declared.declarations.Known.TheVariants as known
use Rattle.sx_scope.specs.declared.walk.Walk.{Walk}
use Rattle.sx_scope.specs.Verdict.{Verdict, typed, depends, fails, Judging, ◌▷◌, both, both_by, need, fault, moved}
use Rattle.sx_scope.specs.Walks.{numbered}
use Rattle.sx_scope.specs.WrittenTypes.{is_void}
use Rattle.sx_bodies.specs.Literals.{with_literal}
use Rattle.sx_heads.specs.declared.parameters.HeadParameter.{HeadParameter}
use Rattle.sx_heads.specs.declared.parameters.ParameterList.TheVariants as lists
use Rattle.sx_heads.specs.Heads.{checked_head}
use Rattle.sx_heads.specs.Variables.{is_computed}
use Rattle.sx_functions.specs.declared.accessing.OwnNames.{OwnNames}
use Rattle.sx_functions.specs.Accessors.{run_accessors}
use Rattle.sx_functions.specs.Functions.{function}
use Rattle.sx_functions.specs.Places.{left, new_name}
use Rattle.sx_members.specs.declared.members.NamedProperty.{NamedProperty}
use Rattle.sx_members.specs.declared.types.TypeFault.{TypeFault}
use Rattle.sx_members.specs.declared.types.TypeFault.TheVariants as faults
use Rattle.sx_members.specs.declared.variables.TypedVariable.{TypedVariable}
use Rattle.sx_members.specs.Variables.{accessed, variable}

-- ---- properties: a stored one is a property of the type
abbrev pub named_property : Variable → TypedVariable → NamedProperty
named_property v x = record { name = v.name.number; property = record { node = x.node; ty = x.ty; default = x.value } }

abbrev pub property_made : Variable → TypedVariable → Judging (Option NamedProperty)
property_made v x = typed (cond (is_computed v.accessors) None (Some (named_property v x)))

-- ---- subscripts: a type has at most one
abbrev pub HeadParts : Type 0
HeadParts = Unit {0} × (List HeadParameter × Ty)

abbrev pub result_fits : Node → List HeadParameter × Ty → Judging (List HeadParameter × Ty)
result_fits n h = need (not (is_void h.1)) kind.Mismatch n (typed h)

abbrev pub subscript_head : Declarations → Bool → Node → Subscript → Judging HeadParts
subscript_head d another n s w =
    both (need (not another) kind.Duplicate n (typed tt) w) (λ w. checked_head d lists.OfSubscript s.parameters (Some s.result) w ▷ result_fits n)

abbrev pub known_of_head : Option HeadParts → Known
known_of_head None = known.Failed
known_of_head (Some (u, h)) = known.Type h.1

abbrev pub parameters_of : Option HeadParts → List HeadParameter
parameters_of None = []
parameters_of (Some (u, h)) = h.0

abbrev pub no_property : {A : Type 0} → A → Judging (Option NamedProperty)
no_property x = typed None

abbrev pub subscript_parts : Declarations → OwnNames → Option Ty → Bool → Node → Subscript → Judging (HeadParts × Unit {0})
subscript_parts d names owner another n s w =
    both_by (subscript_head d another n s w)
    (λ o v. run_accessors d names (accessed owner n (known_of_head o) (parameters_of o) (length w.locals)) (typed tt v) s.accessors)

abbrev pub subscript : Declarations → OwnNames → Option Ty → Bool → Subscript → Judging (Option NamedProperty)
subscript d names owner another s = numbered (λ n w. moved (left w) (subscript_parts d names owner another n s w) ▷ no_property)

-- ---- members one after another
-- what was declared before a member: the names, whether there was a subscript, and how many declarations were given types
pub record Before : Type 0 where
  pub names : List ℕ
  pub subscript : Bool
  pub given : ℕ

abbrev pub so_far : List ℕ → Bool → ℕ → Before
so_far names another k = record { names = names; subscript = another; given = k }

abbrev pub with_name : ℕ → List ℕ → List ℕ
with_name x xs = cond (list_any (nat_eq x) xs) xs (xs ++ x ∷ [])

abbrev pub number_behind : Variable → ℕ → ℕ
number_behind v k = cond (is_none v.ty) (suc k) k

abbrev pub behind_member : Member → Before → Before
behind_member (members.Property v) b = record b { names = with_name v.name.number b.names; given = number_behind v b.given }
behind_member (members.Method f) b = record b { names = with_name f.name.number b.names }
behind_member (members.Subscript s) b = record b { subscript = true }
behind_member (members.Initialiser i) b = b

abbrev pub method : Declarations → Ty → List ℕ → WrittenFunction → Judging (Option NamedProperty)
method d t seen f w = function d (Some t) seen f w ▷ no_property

-- no text gives a written initialiser
abbrev pub member : Declarations → OwnNames → List (Option TypeStop) → Ty → Before → Member → Judging (Option NamedProperty)
member d names stops t b (members.Property v) w = variable d names stops (Some t) b.names None b.given v w ▷ property_made v
member d names stops t b (members.Method f) w = method d t b.names f w
member d names stops t b (members.Subscript s) w = subscript d names (Some t) b.subscript s w
member d names stops t b (members.Initialiser i) w = depends w

abbrev pub with_property : List NamedProperty → Option NamedProperty → List NamedProperty
with_property ps None = ps
with_property ps (Some p) = ps ++ p ∷ []

abbrev pub property_added : List NamedProperty × Option NamedProperty → Judging (List NamedProperty)
property_added (ps, o) = typed (with_property ps o)

abbrev pub run_members : Declarations → OwnNames → List (Option TypeStop) → Ty → Verdict (List NamedProperty) → Before → List Member → Verdict (List NamedProperty)
run_members d names stops t v b [] = v
run_members d names stops t v b (m ∷ ms) = run_members d names stops t (both v (member d names stops t b m) ▷ property_added) (behind_member m b) ms

abbrev pub nothing_before : ℕ → Before
nothing_before k = so_far [] false k

-- ---- a structure or class
-- what it fails by at its name, but for the name itself
abbrev pub unfaulted : Option TypeFault → Node → Judging (Unit {0})
unfaulted None n w = typed tt w
unfaulted (Some faults.Recursive) n w = fault kind.RecursiveStruct n w
unfaulted (Some faults.Wide) n w = fails (TooWide n) [] w

abbrev pub unfaulted_name : Option TypeFault → Node → Unit {0} → Judging (Unit {0})
unfaulted_name f n u = unfaulted f n

abbrev pub type_parts : Declarations → OwnNames → List (Option TypeStop) → List ℕ → Option TypeFault → ℕ → Ty → Node → WrittenDeclaration → Judging (Unit {0} × List NamedProperty)
type_parts d names stops seen f k t n x w =
    both (new_name d seen x.name.number n w ▷ unfaulted_name f n) (λ w. run_members d names stops t (typed [] w) (nothing_before k) x.members)

-- the parameters of its initialiser: the stored properties of a structure, which may be kept
abbrev pub initialiser_parameter : NamedProperty → Parameter
initialiser_parameter p = record { node = p.property.node; name = Some p.name; marker = passing.Escaping; ty = p.property.ty }

abbrev pub initialiser_parameters : Ty → List NamedProperty → List Parameter
initialiser_parameters (ty.Struct k) ps = map initialiser_parameter ps
initialiser_parameters t ps = []

abbrev pub initialiser_with : Ty → Node → List Parameter → Function
initialiser_with t n ps = record {
  kind = function_kind.Initialiser;
  node = n;
  owner = Some t;
  parameters = ps;
  result = t;
  body = [];
  mentions = [];
}

abbrev pub initialiser : Ty → Node → List NamedProperty → Function
initialiser t n ps = initialiser_with t n (initialiser_parameters t ps)

abbrev pub property_of : NamedProperty → Property
property_of p = p.property

-- the initialiser comes before the functions of the members
abbrev pub type_made : Ty → Node → ℕ → Unit {0} × List NamedProperty → Judging TypeDeclaration
type_made t n before (u, ps) w = typed (record { node = n; stored = map property_of ps }) (with_literal before (initialiser t n ps) w)

-- the structure or class that is the type t, beside what has these names
abbrev pub type_declaration : Declarations → OwnNames → List (Option TypeStop) → List ℕ → Option TypeFault → ℕ → Ty → WrittenDeclaration → Judging TypeDeclaration
type_declaration d names stops seen f k t x =
    numbered (λ n w. type_parts d names stops seen f k t n x w ▷ type_made t n (length w.literals))
