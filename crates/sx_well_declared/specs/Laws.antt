-- Each declaration and each program is judged typed so exactly where the rules derive this.
use Rattle.std.specs.Prelude.{◌≡◌, ℕ, Bool, false, List, Option, None, Ok}
use Rattle.sx_tree.specs.declared.code.Block.{Block}
use Rattle.sx_tree.specs.declared.declarations.Accessor.{Accessor}
use Rattle.sx_tree.specs.declared.declarations.Function.{Function}
use Rattle.sx_tree.specs.declared.declarations.Item.{Item}
use Rattle.sx_tree.specs.declared.declarations.Member.{Member}
use Rattle.sx_tree.specs.declared.declarations.Parameter.{Parameter}
use Rattle.sx_tree.specs.declared.declarations.Subscript.{Subscript}
use Rattle.sx_tree.specs.declared.declarations.TypeDeclaration.{TypeDeclaration as WrittenDeclaration}
use Rattle.sx_tree.specs.declared.declarations.Variable.{Variable}
use Rattle.sx_tree.specs.declared.tree.Tree.{Tree}
use Rattle.sx_tree.specs.declared.written_types.WrittenType.{WrittenType}
use Rattle.sx_types.specs.declared.types.Ty.{Ty}
use Rattle.sx_typed.specs.declared.code.Statement.{Statement}
use Rattle.sx_typed.specs.declared.program.TypeDeclaration.{TypeDeclaration}
use Rattle.sx_typed.specs.declared.program.Typed.{Typed}
use Rattle.sx_scope.specs.declared.declarations.Declarations.{Declarations}
use Rattle.sx_scope.specs.declared.stop.TypeStop.{TypeStop}
use Rattle.sx_scope.specs.declared.walk.Place.{Place}
use Rattle.sx_scope.specs.declared.walk.Walk.{Walk}
use Rattle.sx_scope.specs.Verdict.{typed}
use Rattle.sx_bodies.specs.Statements.{lacks_return}
use Rattle.sx_check_expr.specs.Judge.{judged_block}
use Rattle.sx_heads.specs.declared.parameters.HeadParameter.{HeadParameter}
use Rattle.sx_heads.specs.declared.parameters.ParameterList.{ParameterList}
use Rattle.sx_heads.specs.Heads.{checked_head}
use Rattle.sx_tables.specs.declared.names.Numbers.{Numbers}
use Rattle.sx_functions.specs.declared.accessing.Accessed.{Accessed}
use Rattle.sx_functions.specs.declared.accessing.OwnNames.{OwnNames}
use Rattle.sx_functions.specs.Accessors.{accessor, run_accessors}
use Rattle.sx_functions.specs.Functions.{function}
use Rattle.sx_functions.specs.Places.{body_value}
use Rattle.sx_members.specs.declared.members.NamedProperty.{NamedProperty}
use Rattle.sx_members.specs.declared.types.TypeFault.{TypeFault}
use Rattle.sx_members.specs.declared.variables.TypedVariable.{TypedVariable}
use Rattle.sx_members.specs.Members.{Before, member, run_members, subscript, type_declaration}
use Rattle.sx_members.specs.Variables.{variable}
use Rattle.sx_check_decl.specs.declared.items.Blame.{Blame}
use Rattle.sx_check_decl.specs.declared.items.Program.{Program}
use Rattle.sx_check_decl.specs.declared.items.Settled.{Settled}
use Rattle.sx_check_decl.specs.declared.items.TypedItem.{TypedItem}
use Rattle.sx_check_decl.specs.Items.{item, run_items}
use Rattle.sx_check_decl.specs.Looks.{judged}
use Rattle.sx_check_decl.specs.Program.{Checked}
use Rattle.sx_well_declared.specs.Bodies.{BodyTyped}
use Rattle.sx_well_declared.specs.Heads.{HeadDeclared}
use Rattle.sx_well_declared.specs.Functions.{FunctionDeclared}
use Rattle.sx_well_declared.specs.Accessors.{AccessorDeclared, AccessorsDeclared}
use Rattle.sx_well_declared.specs.Variables.{VariableDeclared}
use Rattle.sx_well_declared.specs.Subscripts.{SubscriptDeclared}
use Rattle.sx_well_declared.specs.Members.{MemberDeclared, MembersDeclared, TypeDeclared}
use Rattle.sx_well_declared.specs.Items.{ItemDeclared, ItemsDeclared}
use Rattle.sx_well_declared.specs.Programs.{ProgramDeclared, TreeDeclared}

-- the body of a function or accessor, which then doesn't lack a `return`
pub record FunctionBodiesAreDerived : Type 0 where
  pub sound : (d : Declarations) (b : Block) (p : Place) (w v : Walk) (ts : List Statement) → BodyTyped d b p w ts v → body_value d p b w ≡ typed ts v
  pub sound_return : (d : Declarations) (b : Block) (p : Place) (w v : Walk) (ts : List Statement) → BodyTyped d b p w ts v → lacks_return p.gives (judged_block d b) ≡ false
  pub complete : (d : Declarations) (b : Block) (p : Place) (w v : Walk) (ts : List Statement) → body_value d p b w ≡ typed ts v → lacks_return p.gives (judged_block d b) ≡ false → BodyTyped d b p w ts v

-- the head of a function or subscript
pub record HeadsAreDerived : Type 0 where
  pub sound : (d : Declarations) (l : ParameterList) (ps : List Parameter) (r : Option WrittenType) (w v : Walk) (hs : List HeadParameter) (t : Ty) →
      HeadDeclared d l ps r w hs t v → checked_head d l ps r w ≡ typed (hs, t) v
  pub complete : (d : Declarations) (l : ParameterList) (ps : List Parameter) (r : Option WrittenType) (w v : Walk) (hs : List HeadParameter) (t : Ty) →
      checked_head d l ps r w ≡ typed (hs, t) v → HeadDeclared d l ps r w hs t v

-- a function or method
pub record FunctionsAreDerived : Type 0 where
  pub sound : (d : Declarations) (owner : Option Ty) (seen : List ℕ) (f : Function) (w v : Walk) → FunctionDeclared d owner seen f w v → function d owner seen f w ≡ typed tt v
  pub complete : (d : Declarations) (owner : Option Ty) (seen : List ℕ) (f : Function) (w v : Walk) → function d owner seen f w ≡ typed tt v → FunctionDeclared d owner seen f w v

-- an accessor or observer, and several one after another
pub record AccessorsAreDerived : Type 0 where
  pub sound : (d : Declarations) (names : OwnNames) (c : Accessed) (a : Accessor) (w v : Walk) → AccessorDeclared d names c a w v → accessor d names c a w ≡ typed tt v
  pub complete : (d : Declarations) (names : OwnNames) (c : Accessed) (a : Accessor) (w v : Walk) → accessor d names c a w ≡ typed tt v → AccessorDeclared d names c a w v
  pub all_sound : (d : Declarations) (names : OwnNames) (c : Accessed) (as_ : List Accessor) (w v : Walk) → AccessorsDeclared d names c as_ w v → run_accessors d names c (typed tt w) as_ ≡ typed tt v
  pub all_complete : (d : Declarations) (names : OwnNames) (c : Accessed) (as_ : List Accessor) (w v : Walk) → run_accessors d names c (typed tt w) as_ ≡ typed tt v → AccessorsDeclared d names c as_ w v

-- a global or property, whatever was told of what failed before
pub record VariablesAreDerived : Type 0 where
  pub sound : (d : Declarations) (names : OwnNames) (stops : List (Option TypeStop)) (owner : Option Ty) (seen : List ℕ) (room : Option ℕ) (k : ℕ) (x : Variable) (w v : Walk) (y : TypedVariable) →
      VariableDeclared d names owner seen room k x w y v → variable d names stops owner seen room k x w ≡ typed y v
  pub complete : (d : Declarations) (names : OwnNames) (stops : List (Option TypeStop)) (owner : Option Ty) (seen : List ℕ) (room : Option ℕ) (k : ℕ) (x : Variable) (w v : Walk) (y : TypedVariable) →
      variable d names stops owner seen room k x w ≡ typed y v → VariableDeclared d names owner seen room k x w y v

-- a subscript, which is no property
pub record SubscriptsAreDerived : Type 0 where
  pub sound : (d : Declarations) (names : OwnNames) (owner : Option Ty) (another : Bool) (s : Subscript) (w v : Walk) → SubscriptDeclared d names owner another s w v → subscript d names owner another s w ≡ typed None v
  pub complete : (d : Declarations) (names : OwnNames) (owner : Option Ty) (another : Bool) (s : Subscript) (w v : Walk) → subscript d names owner another s w ≡ typed None v → SubscriptDeclared d names owner another s w v

-- a member, and members one after another
pub record MembersAreDerived : Type 0 where
  pub sound : (d : Declarations) (names : OwnNames) (stops : List (Option TypeStop)) (t : Ty) (b : Before) (m : Member) (w v : Walk) (o : Option NamedProperty) →
      MemberDeclared d names t b m w o v → member d names stops t b m w ≡ typed o v
  pub complete : (d : Declarations) (names : OwnNames) (stops : List (Option TypeStop)) (t : Ty) (b : Before) (m : Member) (w v : Walk) (o : Option NamedProperty) →
      member d names stops t b m w ≡ typed o v → MemberDeclared d names t b m w o v
  pub all_sound : (d : Declarations) (names : OwnNames) (stops : List (Option TypeStop)) (t : Ty) (b : Before) (ms : List Member) (before ps : List NamedProperty) (w v : Walk) →
      MembersDeclared d names t b ms before w ps v → run_members d names stops t (typed before w) b ms ≡ typed ps v
  pub all_complete : (d : Declarations) (names : OwnNames) (stops : List (Option TypeStop)) (t : Ty) (b : Before) (ms : List Member) (before ps : List NamedProperty) (w v : Walk) →
      run_members d names stops t (typed before w) b ms ≡ typed ps v → MembersDeclared d names t b ms before w ps v

-- a structure or class
pub record TypesAreDerived : Type 0 where
  pub sound : (d : Declarations) (names : OwnNames) (stops : List (Option TypeStop)) (seen : List ℕ) (f : Option TypeFault) (k : ℕ) (t : Ty) (x : WrittenDeclaration) (w v : Walk) (y : TypeDeclaration) →
      TypeDeclared d names seen f k t x w y v → type_declaration d names stops seen f k t x w ≡ typed y v
  pub complete : (d : Declarations) (names : OwnNames) (stops : List (Option TypeStop)) (seen : List ℕ) (f : Option TypeFault) (k : ℕ) (t : Ty) (x : WrittenDeclaration) (w v : Walk) (y : TypeDeclaration) →
      type_declaration d names stops seen f k t x w ≡ typed y v → TypeDeclared d names seen f k t x w y v

-- an item, and items one after another, whatever is to blame where one isn't typed
pub record ItemsAreDerived : Type 0 where
  pub sound : (x : Settled) (names : OwnNames) (seen : List ℕ) (k : Numbers) (words : Option ℕ) (i : Item) (w v : Walk) (t : TypedItem) →
      ItemDeclared x names seen k words i w t v → item x names seen k words i w ≡ typed t v
  pub complete : (x : Settled) (names : OwnNames) (seen : List ℕ) (k : Numbers) (words : Option ℕ) (i : Item) (w v : Walk) (t : TypedItem) →
      item x names seen k words i w ≡ typed t v → ItemDeclared x names seen k words i w t v
  pub all_sound : (x : Settled) (names : OwnNames) (b : Blame) (seen : List ℕ) (k : Numbers) (words : Option ℕ) (is : List Item) (before p : Program) (w v : Walk) →
      ItemsDeclared x names seen k words is before w p v → run_items x names b (typed before w) seen k words is ≡ typed p v
  pub all_complete : (x : Settled) (names : OwnNames) (b : Blame) (seen : List ℕ) (k : Numbers) (words : Option ℕ) (is : List Item) (before p : Program) (w v : Walk) →
      run_items x names b (typed before w) seen k words is ≡ typed p v → ItemsDeclared x names seen k words is before w p v

-- a program
pub record ProgramsAreDerived : Type 0 where
  pub sound : (x : Settled) (names : OwnNames) (is : List Item) (p : Program) (v : Walk) → ProgramDeclared x names is p v → judged x names is ≡ typed p v
  pub complete : (x : Settled) (names : OwnNames) (is : List Item) (p : Program) (v : Walk) → judged x names is ≡ typed p v → ProgramDeclared x names is p v

-- the typed tree of a tree
pub record TreesAreDerived : Type 0 where
  pub sound : (tree : Tree) (t : Typed) → TreeDeclared tree t → Checked tree (Ok t)
  pub complete : (tree : Tree) (t : Typed) → Checked tree (Ok t) → TreeDeclared tree t
