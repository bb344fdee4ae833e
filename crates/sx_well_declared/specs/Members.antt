-- What structures and classes are well typed, with their members (The Swift Programming Language, "Structures and Classes").
use Rattle.std.specs.Prelude.{◌≡◌, ℕ, true, false, List, [], ◌∷◌, map, length, Option, Some, None}
use Rattle.sx_tree.specs.declared.declarations.Function.{Function}
use Rattle.sx_tree.specs.declared.declarations.Member.{Member}
use Rattle.sx_tree.specs.declared.declarations.Member.TheVariants as members
use Rattle.sx_tree.specs.declared.declarations.Subscript.{Subscript}
use Rattle.sx_tree.specs.declared.declarations.TypeDeclaration.{TypeDeclaration as WrittenDeclaration}
use Rattle.sx_tree.specs.declared.declarations.Variable.{Variable}
use Rattle.sx_types.specs.declared.types.Ty.{Ty}
use Rattle.sx_typed.specs.declared.program.TypeDeclaration.{TypeDeclaration}
use Rattle.sx_scope.specs.declared.declarations.Declarations.{Declarations}
use Rattle.sx_scope.specs.declared.walk.Walk.{Walk}
use Rattle.sx_scope.specs.Walks.{node, advanced}
use Rattle.sx_bodies.specs.Literals.{with_literal}
use Rattle.sx_heads.specs.Variables.{is_computed}
use Rattle.sx_functions.specs.declared.accessing.OwnNames.{OwnNames}
use Rattle.sx_functions.specs.Places.{is_new}
use Rattle.sx_members.specs.declared.members.NamedProperty.{NamedProperty}
use Rattle.sx_members.specs.declared.types.TypeFault.{TypeFault}
use Rattle.sx_members.specs.declared.variables.TypedVariable.{TypedVariable}
use Rattle.sx_members.specs.Members.{Before, behind_member, initialiser, named_property, nothing_before, property_of, with_property}
use Rattle.sx_well_declared.specs.Functions.{FunctionDeclared}
use Rattle.sx_well_declared.specs.Subscripts.{SubscriptDeclared}
use Rattle.sx_well_declared.specs.Variables.{VariableDeclared}

-- a member of a type, behind what was declared before it, and the property of the type that it is, if it is one
pub data MemberDeclared (d : Declarations) (names : OwnNames) (t : Ty) (b : Before) : Member → Walk → Option NamedProperty → Walk → Type 0 where
  -- A stored property is a property of the type.
  stored : (x : Variable) (y : TypedVariable) (w v : Walk) →
      is_computed x.accessors ≡ false →
      VariableDeclared d names (Some t) b.names None b.given x w y v →
      MemberDeclared d names t b (members.Property x) w (Some (named_property x y)) v
  -- A computed one has no place of its own.
  computed : (x : Variable) (y : TypedVariable) (w v : Walk) →
      is_computed x.accessors ≡ true →
      VariableDeclared d names (Some t) b.names None b.given x w y v →
      MemberDeclared d names t b (members.Property x) w None v
  -- A method is a function that is a member.
  method : (f : Function) (w v : Walk) →
      FunctionDeclared d (Some t) b.names f w v →
      MemberDeclared d names t b (members.Method f) w None v
  -- A subscript.
  subscript : (s : Subscript) (w v : Walk) →
      SubscriptDeclared d names (Some t) b.subscript s w v →
      MemberDeclared d names t b (members.Subscript s) w None v

-- members one after another, behind what was declared before them: with the properties before, the properties are these
pub data MembersDeclared (d : Declarations) (names : OwnNames) (t : Ty) : Before → List Member → List NamedProperty → Walk → List NamedProperty → Walk → Type 0 where
  -- No more members.
  members_end : (b : Before) (ps : List NamedProperty) (w : Walk) →
      MembersDeclared d names t b [] ps w ps w
  -- A member, and those behind it.
  members_more : (b : Before) (m : Member) (ms : List Member) (before ps : List NamedProperty) (o : Option NamedProperty) (w w₁ v : Walk) →
      MemberDeclared d names t b m w o w₁ →
      MembersDeclared d names t (behind_member m b) ms (with_property before o) w₁ ps v →
      MembersDeclared d names t b (m ∷ ms) before w ps v

-- the structure or class that is the type `t`, beside what has these names; what it fails by, if anything, is told
pub data TypeDeclared (d : Declarations) (names : OwnNames) (seen : List ℕ) (f : Option TypeFault) (k : ℕ) (t : Ty) (x : WrittenDeclaration) : Walk → TypeDeclaration → Walk → Type 0 where
  -- The name of a type is new, it neither contains itself nor is too wide, and its members are well typed; its initialiser comes
  -- before their functions.
  a_type : (ps : List NamedProperty) (w v : Walk) →
      is_new d seen x.name.number ≡ true →
      f ≡ None →
      MembersDeclared d names t (nothing_before k) x.members [] (advanced 1 w) ps v →
      TypeDeclared d names seen f k t x w (record { node = node w.next; stored = map property_of ps }) (with_literal (length w.literals) (initialiser t (node w.next) ps) v)
