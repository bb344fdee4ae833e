-- The names of the outermost level, and the structures and classes by their numbers.
use Rattle.std.specs.Prelude.{ℕ, suc, Bool, true, false, not, ◌&&◌, ◌||◌, nat_eq, List, [], ◌∷◌, ◌++◌, slice_get, Option, Some, None, is_none, cond}
use Rattle.std.specs.List.{list_any}
use Rattle.sx_span.specs.declared.places.Node.{Node}
use Rattle.sx_tree.specs.declared.declarations.Item.{Item}
use Rattle.sx_tree.specs.declared.declarations.Item.TheVariants as items
use Rattle.sx_tree.specs.declared.declarations.Member.{Member}
use Rattle.sx_tree.specs.declared.declarations.Member.TheVariants as members
use Rattle.sx_tree.specs.declared.declarations.TypeDeclaration.{TypeDeclaration}
use Rattle.sx_tree.specs.declared.declarations.TypeKind.{TypeKind}
use Rattle.sx_tree.specs.declared.declarations.TypeKind.TheVariants as type_kind
use Rattle.sx_tree.specs.declared.declarations.Variable.{Variable}
use Rattle.sx_types.specs.declared.types.Ty.{Ty}
use Rattle.sx_types.specs.declared.types.Ty.TheVariants as ty
use Rattle.sx_types.specs.declared.types.Types.{Types}
use Rattle.sx_scope.specs.declared.declarations.Declarations.{Declarations}
use Rattle.sx_scope.specs.declared.declarations.DeclaredType.{DeclaredType}
use Rattle.sx_scope.specs.declared.declarations.Symbol.{Symbol}
use Rattle.sx_scope.specs.declared.declarations.Symbol.TheVariants as symbol
use Rattle.sx_scope.specs.declared.declarations.TypeName.{TypeName}
use Rattle.sx_scope.specs.declared.declarations.TypeName.TheVariants as type_name
use Rattle.sx_scope.specs.Tables.{entry, with_entry}
use Rattle.sx_heads.specs.Variables.{is_computed}
use Rattle.sx_outline.specs.declared.outline.ItemNodes.{ItemNodes}
use Rattle.sx_tables.specs.declared.names.SpecialNames.{SpecialNames}
use Rattle.sx_tables.specs.declared.names.Numbers.{Numbers}

-- ---- names with a meaning of their own
abbrev pub with_option : {A : Type 0} → Option ℕ → A → List (ℕ × A) → List (ℕ × A)
with_option None a es = es
with_option (Some x) a es = with_entry x a es

abbrev pub reserved_symbols : SpecialNames → List (ℕ × Symbol)
reserved_symbols s = with_option s.print symbol.Print (with_option s.void symbol.BasicType (with_option s.bool symbol.BasicType (with_option s.int symbol.BasicType [])))

abbrev pub basic_types : SpecialNames → List (ℕ × TypeName)
basic_types s =
    with_option s.void (type_name.Type ty.Void) (with_option s.bool (type_name.Type ty.Bool) (with_option s.int (type_name.Type ty.Int) []))

-- ---- numbers: how many of each sort there are before an item
abbrev pub counted_if : Bool → ℕ → ℕ
counted_if true n = suc n
counted_if false n = n

abbrev pub behind_member : Member → Numbers → Numbers
behind_member (members.Property v) n = record n { given = counted_if (is_none v.ty) n.given }
behind_member (members.Method f) n = record n { functions = suc n.functions }
behind_member (members.Subscript s) n = n
behind_member (members.Initialiser i) n = n

abbrev pub behind_members : List Member → Numbers → Numbers
behind_members [] n = n
behind_members (m ∷ ms) n = behind_members ms (behind_member m n)

abbrev pub behind_type : TypeKind → Numbers → Numbers
behind_type type_kind.Structure n = record n { structures = suc n.structures }
behind_type type_kind.Class n = record n { classes = suc n.classes }

abbrev pub behind_global : Variable → Numbers → Numbers
behind_global v n = record n { globals = counted_if (not (is_computed v.accessors)) n.globals; given = counted_if (is_none v.ty) n.given }

abbrev pub behind_item : Item → Numbers → Numbers
behind_item (items.Function f) n = record n { functions = suc n.functions }
behind_item (items.Type t) n = behind_type t.kind (behind_members t.members n)
behind_item (items.Global v) n = behind_global v n
behind_item (items.Statement s) n = n

abbrev pub behind_items : List Item → Numbers → Numbers
behind_items [] n = n
behind_items (i ∷ is) n = behind_items is (behind_item i n)

abbrev pub no_numbers : Numbers
no_numbers = record { structures = 0; classes = 0; functions = 0; globals = 0; given = 0 }

abbrev pub type_numbered : TypeKind → Numbers → Ty
type_numbered type_kind.Structure n = ty.Struct n.structures
type_numbered type_kind.Class n = ty.Class n.classes

-- ---- the names of items; of two items with one name the first counts
abbrev pub item_name : Item → Option ℕ
item_name (items.Function f) = Some f.name.number
item_name (items.Type t) = Some t.name.number
item_name (items.Global v) = Some v.name.number
item_name (items.Statement s) = None

abbrev pub with_name : Option ℕ → List ℕ → List ℕ
with_name None xs = xs
with_name (Some x) xs = cond (list_any (nat_eq x) xs) xs (xs ++ x ∷ [])

-- a name that isn't one of these reserved ones, nor one of those before
abbrev pub is_new : List (ℕ × Symbol) → List ℕ → ℕ → Bool
is_new reserved before x = is_none (entry reserved x) && not (list_any (nat_eq x) before)

abbrev pub named_type : Bool → Ty → TypeName
named_type new t = cond new (type_name.Type t) type_name.Failed

-- what names mean where types are written, behind these entries
abbrev pub with_type_name : List (ℕ × Symbol) → List ℕ → Numbers → Item → List (ℕ × TypeName) → List (ℕ × TypeName)
with_type_name reserved before n (items.Function f) es = es
with_type_name reserved before n (items.Type t) es =
    with_entry t.name.number (named_type (is_new reserved before t.name.number) (type_numbered t.kind n)) es
with_type_name reserved before n (items.Global v) es = es
with_type_name reserved before n (items.Statement s) es = es

abbrev pub type_names : List (ℕ × Symbol) → List (ℕ × TypeName) → List ℕ → Numbers → List Item → List (ℕ × TypeName)
type_names reserved es before n [] = es
type_names reserved es before n (i ∷ is) =
    type_names reserved (with_type_name reserved before n i es) (with_name (item_name i) before) (behind_item i n) is

-- ---- structures and classes without their members. One has failed by its name, or by a fault that is told by its number.
abbrev pub bare_type : Node → Bool → DeclaredType
bare_type n failed = record { node = n; failed = failed; lacks_property = false; members = []; subscript = None; stored = [] }

abbrev pub is_kind : TypeKind → TypeKind → Bool
is_kind type_kind.Structure type_kind.Structure = true
is_kind type_kind.Class type_kind.Class = true
is_kind a b = false

abbrev pub told_by : Option Bool → Bool
told_by None = false
told_by (Some b) = b

abbrev pub is_told : List Bool → ℕ → Bool
is_told faults k = told_by (slice_get faults k)

abbrev pub number_in : TypeKind → Numbers → ℕ
number_in type_kind.Structure n = n.structures
number_in type_kind.Class n = n.classes

abbrev pub type_failed : List (ℕ × Symbol) → List Bool → List ℕ → Numbers → TypeDeclaration → Bool
type_failed reserved faults before n t = not (is_new reserved before t.name.number) || is_told faults (number_in t.kind n)

abbrev pub some_if : {A : Type 0} → Bool → A → Option A
some_if true a = Some a
some_if false a = None

-- the one that an item declares, if it is of this kind
abbrev pub item_type : List (ℕ × Symbol) → TypeKind → List Bool → List ℕ → Numbers → Item → ItemNodes → Option DeclaredType
item_type reserved k faults before n (items.Function f) m = None
item_type reserved k faults before n (items.Type t) m = some_if (is_kind k t.kind) (bare_type m.node (type_failed reserved faults before n t))
item_type reserved k faults before n (items.Global v) m = None
item_type reserved k faults before n (items.Statement s) m = None

abbrev pub listed : {A : Type 0} → Option A → List A
listed None = []
listed (Some a) = a ∷ []

-- those of one kind, in the order of the text
abbrev pub bare_types : List (ℕ × Symbol) → TypeKind → List Bool → List ℕ → Numbers → List Item → List ItemNodes → List DeclaredType
bare_types reserved k faults before n [] ms = []
bare_types reserved k faults before n (i ∷ is) [] = []
bare_types reserved k faults before n (i ∷ is) (m ∷ ms) =
    listed (item_type reserved k faults before n i m) ++ bare_types reserved k faults (with_name (item_name i) before) (behind_item i n) is ms

-- What is declared, as far as written types tell it: these types, and which structures and classes have a fault besides their names.
abbrev pub bare_declarations : SpecialNames → List Bool → List Bool → Types → ℕ → List Item → List ItemNodes → Declarations
bare_declarations s structures classes types nodes is ns = record {
  nodes = nodes;
  types = types;
  type_names = type_names (reserved_symbols s) (basic_types s) [] no_numbers is;
  symbols = reserved_symbols s;
  structures = bare_types (reserved_symbols s) type_kind.Structure structures [] no_numbers is ns;
  classes = bare_types (reserved_symbols s) type_kind.Class classes [] no_numbers is ns;
  functions = [];
  given = [];
}
