-- What items of a program are well typed: functions, structures and classes, globals, and the statements of the outermost level
-- (The Swift Programming Language, "Declarations", top-level code).
use Rattle.std.specs.Prelude.{ℕ, List, [], ◌∷◌, Option, None}
use Rattle.sx_tree.specs.declared.code.Statement.{Statement as WrittenStatement}
use Rattle.sx_tree.specs.declared.declarations.Function.{Function}
use Rattle.sx_tree.specs.declared.declarations.Item.{Item}
use Rattle.sx_tree.specs.declared.declarations.Item.TheVariants as items
use Rattle.sx_tree.specs.declared.declarations.TypeDeclaration.{TypeDeclaration as WrittenDeclaration}
use Rattle.sx_tree.specs.declared.declarations.Variable.{Variable}
use Rattle.sx_typed.specs.declared.code.Statement.{Statement}
use Rattle.sx_typed.specs.declared.program.TypeDeclaration.{TypeDeclaration}
use Rattle.sx_scope.specs.declared.walk.Walk.{Walk}
use Rattle.sx_scope.specs.Walks.{node}
use Rattle.sx_tables.specs.declared.names.Numbers.{Numbers}
use Rattle.sx_tables.specs.Names.{behind_item, item_name, type_numbered, with_name}
use Rattle.sx_functions.specs.declared.accessing.OwnNames.{OwnNames}
use Rattle.sx_functions.specs.Places.{left}
use Rattle.sx_members.specs.declared.variables.TypedVariable.{TypedVariable}
use Rattle.sx_members.specs.Variables.{outer_place}
use Rattle.sx_check_decl.specs.declared.items.Program.{Program}
use Rattle.sx_check_decl.specs.declared.items.Settled.{Settled}
use Rattle.sx_check_decl.specs.declared.items.TypedItem.{TypedItem}
use Rattle.sx_check_decl.specs.declared.items.TypedItem.TheVariants as typed_items
use Rattle.sx_check_decl.specs.Items.{fault_of, global_declared, room_for, type_declared, with_item, words_behind_typed}
use Rattle.sx_well_typed.specs.Claims.{Claim}
use Rattle.sx_well_typed.specs.Rules.{Typed}
use Rattle.sx_well_declared.specs.Functions.{FunctionDeclared}
use Rattle.sx_well_declared.specs.Members.{TypeDeclared}
use Rattle.sx_well_declared.specs.Variables.{VariableDeclared}

-- an item, beside what has these names, with these numbers and words of globals before it
pub data ItemDeclared (x : Settled) (names : OwnNames) (seen : List ℕ) (k : Numbers) (words : Option ℕ) : Item → Walk → TypedItem → Walk → Type 0 where
  -- A function is no member of anything.
  a_function : (f : Function) (w v : Walk) →
      FunctionDeclared x.declarations None seen f w v →
      ItemDeclared x names seen k words (items.Function f) w typed_items.Nothing v
  -- A structure or class is the type of its number.
  a_type : (t : WrittenDeclaration) (y : TypeDeclaration) (w v : Walk) →
      TypeDeclared x.declarations names seen (fault_of x t.kind k) k.given (type_numbered t.kind k) t w y v →
      ItemDeclared x names seen k words (items.Type t) w (type_declared t.kind y) v
  -- For a stored global there is room behind those before it; a computed one takes none.
  a_global : (g : Variable) (y : TypedVariable) (w v : Walk) →
      VariableDeclared x.declarations names None seen (room_for g words) k.given g w y v →
      ItemDeclared x names seen k words (items.Global g) w (global_declared g y) v
  -- A statement of the outermost level stands in no body. Behind it what it has declared is out of scope.
  a_statement : (s : WrittenStatement) (t : Statement) (w v : Walk) →
      Typed x.declarations (Claim.statement s outer_place w t v) →
      ItemDeclared x names seen k words (items.Statement s) w (typed_items.Statement (node w.next) t) (left w v)

-- items one after another, beside what has these names, with these numbers and words of globals before them: behind the program
-- before, the program is this
pub data ItemsDeclared (x : Settled) (names : OwnNames) : List ℕ → Numbers → Option ℕ → List Item → Program → Walk → Program → Walk → Type 0 where
  -- No more items.
  items_end : (seen : List ℕ) (k : Numbers) (words : Option ℕ) (p : Program) (w : Walk) →
      ItemsDeclared x names seen k words [] p w p w
  -- An item, and those behind it, where its name is taken and its words are.
  items_more : (seen : List ℕ) (k : Numbers) (words : Option ℕ) (i : Item) (is : List Item) (t : TypedItem) (before p : Program) (w w₁ v : Walk) →
      ItemDeclared x names seen k words i w t w₁ →
      ItemsDeclared x names (with_name (item_name i) seen) (behind_item i k) (words_behind_typed x.declarations.types t words) is (with_item t before) w₁ p v →
      ItemsDeclared x names seen k words (i ∷ is) before w p v
