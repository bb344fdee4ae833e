-- What is declared outside of bodies, by what written types mean.
use Rattle.std.specs.Prelude.{ℕ, Bool, not, ◌&&◌, ◌||◌, List, [], ◌∷◌, ◌++◌, length, replicate, Option, Some, None, is_none, is_some, cond}
use Rattle.sx_tree.specs.declared.declarations.Item.{Item}
use Rattle.sx_tree.specs.declared.declarations.Item.TheVariants as items
use Rattle.sx_tree.specs.declared.declarations.Member.{Member}
use Rattle.sx_tree.specs.declared.declarations.Member.TheVariants as members
use Rattle.sx_tree.specs.declared.declarations.Subscript.{Subscript as WrittenSubscript}
use Rattle.sx_tree.specs.declared.declarations.TypeDeclaration.{TypeDeclaration}
use Rattle.sx_tree.specs.declared.declarations.TypeKind.{TypeKind}
use Rattle.sx_tree.specs.declared.declarations.TypeKind.TheVariants as type_kind
use Rattle.sx_tree.specs.declared.declarations.Variable.{Variable as WrittenVariable}
use Rattle.sx_types.specs.declared.types.Ty.{Ty}
use Rattle.sx_scope.specs.declared.declarations.Declarations.{Declarations}
use Rattle.sx_scope.specs.declared.declarations.DeclaredType.{DeclaredType}
use Rattle.sx_scope.specs.declared.declarations.Known.TheVariants as known
use Rattle.sx_scope.specs.declared.declarations.Member.TheVariants as declared_members
use Rattle.sx_scope.specs.declared.declarations.Signature.{Signature}
use Rattle.sx_scope.specs.declared.declarations.StoredProperty.{StoredProperty}
use Rattle.sx_scope.specs.declared.declarations.Symbol.{Symbol}
use Rattle.sx_scope.specs.declared.declarations.Symbol.TheVariants as symbol
use Rattle.sx_scope.specs.declared.declarations.Variable.{Variable}
use Rattle.sx_scope.specs.Names.{declared_type}
use Rattle.sx_scope.specs.Tables.{entry, with_entry}
use Rattle.sx_bodies.specs.Statements.{is_reserved}
use Rattle.sx_heads.specs.Signatures.{signature, subscript}
use Rattle.sx_heads.specs.Variables.{accessors_of, is_computed, variable}
use Rattle.sx_outline.specs.declared.outline.ItemNodes.{ItemNodes}
use Rattle.sx_outline.specs.declared.outline.MemberNodes.{MemberNodes}
use Rattle.sx_tables.specs.declared.names.Numbers.{Numbers}
use Rattle.sx_tables.specs.Names.{bare_type, behind_item, behind_items, behind_member, is_kind, no_numbers, type_numbered}

-- ---- names
-- behind these entries; of two with one name the first counts
abbrev pub with_entries : {A : Type 0} → List (ℕ × A) → List (ℕ × A) → List (ℕ × A)
with_entries [] es = es
with_entries ((x, a) ∷ xs) es = with_entries xs (with_entry x a es)

-- ---- stored properties
abbrev pub stored_property : ℕ → WrittenVariable → Variable → StoredProperty
stored_property x v u = record { name = x; ty = u.ty; has_default = is_some v.value }

abbrev pub with_stored : Bool → StoredProperty → List StoredProperty → List StoredProperty
with_stored computed p ps = cond computed ps (ps ++ p ∷ [])

abbrev pub with_new_property : ℕ → WrittenVariable → Variable → DeclaredType → DeclaredType
with_new_property x v u s = record s {
  members = with_entry x (declared_members.Property u) s.members;
  stored = with_stored (is_computed v.accessors) (stored_property x v u) s.stored;
}

module _ (d : Declarations) where
  -- ---- functions and methods in the order of the text
  abbrev pub member_functions : Ty → Member → MemberNodes → List Signature
  member_functions t (members.Property v) n = []
  member_functions t (members.Method f) n = signature d (Some t) n.node f ∷ []
  member_functions t (members.Subscript w) n = []
  member_functions t (members.Initialiser i) n = []

  abbrev pub methods : Ty → List Member → List MemberNodes → List Signature
  methods t [] ns = []
  methods t (m ∷ ms) [] = []
  methods t (m ∷ ms) (n ∷ ns) = member_functions t m n ++ methods t ms ns

  abbrev pub item_functions : Numbers → Item → ItemNodes → List Signature
  item_functions k (items.Function f) n = signature d None n.node f ∷ []
  item_functions k (items.Type t) n = methods (type_numbered t.kind k) t.members n.members
  item_functions k (items.Global v) n = []
  item_functions k (items.Statement s) n = []

  abbrev pub functions : Numbers → List Item → List ItemNodes → List Signature
  functions k [] ns = []
  functions k (i ∷ is) [] = []
  functions k (i ∷ is) (n ∷ ns) = item_functions k i n ++ functions (behind_item i k) is ns

  -- ---- what items declare by their names at the outermost level, in the order of the text
  abbrev pub item_symbols : Numbers → Item → ItemNodes → List (ℕ × Symbol)
  item_symbols k (items.Function f) n = (f.name.number, symbol.Function k.functions) ∷ []
  item_symbols k (items.Type t) n = (t.name.number, symbol.Type (type_numbered t.kind k)) ∷ []
  item_symbols k (items.Global v) n = (v.name.number, symbol.Variable (variable d None n.node n.accessors k.globals k.given v)) ∷ []
  item_symbols k (items.Statement s) n = []

  abbrev pub symbols : Numbers → List Item → List ItemNodes → List (ℕ × Symbol)
  symbols k [] ns = []
  symbols k (i ∷ is) [] = []
  symbols k (i ∷ is) (n ∷ ns) = item_symbols k i n ++ symbols (behind_item i k) is ns

  -- ---- the members of a structure or class
  abbrev pub is_new_member : DeclaredType → ℕ → Bool
  is_new_member s x = not (is_reserved d x) && is_none (entry s.members x)

  abbrev pub with_property : Ty → ℕ → MemberNodes → WrittenVariable → DeclaredType → DeclaredType
  with_property t given n v s =
      cond (is_new_member s v.name.number)
      (with_new_property v.name.number v (variable d (Some t) n.node n.accessors (length s.stored) given v) s)
      (record s { lacks_property = s.lacks_property || not (is_computed v.accessors) })

  abbrev pub with_method : ℕ → ℕ → DeclaredType → DeclaredType
  with_method k x s = cond (is_new_member s x) (record s { members = with_entry x (declared_members.Method k) s.members }) s

  abbrev pub with_subscript : MemberNodes → WrittenSubscript → DeclaredType → DeclaredType
  with_subscript n w s =
      cond (is_none s.subscript) (record s { subscript = Some (subscript d n.node (accessors_of w.accessors n.accessors) w) }) s

  abbrev pub with_member : Ty → Numbers → Member → MemberNodes → DeclaredType → DeclaredType
  with_member t k (members.Property v) n s = with_property t k.given n v s
  with_member t k (members.Method f) n s = with_method k.functions f.name.number s
  with_member t k (members.Subscript w) n s = with_subscript n w s
  with_member t k (members.Initialiser i) n s = s

  abbrev pub with_members : Ty → Numbers → List Member → List MemberNodes → DeclaredType → DeclaredType
  with_members t k [] ns s = s
  with_members t k (m ∷ ms) [] s = s
  with_members t k (m ∷ ms) (n ∷ ns) s = with_members t (behind_member m k) ms ns (with_member t k m n s)

  -- with its members, where it stands without
  abbrev pub completed_by : Ty → Numbers → TypeDeclaration → ItemNodes → Option DeclaredType → List DeclaredType
  completed_by t k x n None = []
  completed_by t k x n (Some s) = with_members t k x.members n.members (bare_type s.node s.failed) ∷ []

  abbrev pub completed : Numbers → TypeDeclaration → ItemNodes → List DeclaredType
  completed k x n = completed_by (type_numbered x.kind k) k x n (declared_type d (type_numbered x.kind k))

  -- the one that an item declares, if it is of this kind
  abbrev pub full_type : TypeKind → Numbers → Item → ItemNodes → List DeclaredType
  full_type kind k (items.Function f) n = []
  full_type kind k (items.Type x) n = cond (is_kind kind x.kind) (completed k x n) []
  full_type kind k (items.Global v) n = []
  full_type kind k (items.Statement s) n = []

  -- those of one kind, in the order of the text
  abbrev pub full_types : TypeKind → Numbers → List Item → List ItemNodes → List DeclaredType
  full_types kind k [] ns = []
  full_types kind k (i ∷ is) [] = []
  full_types kind k (i ∷ is) (n ∷ ns) = full_type kind k i n ++ full_types kind (behind_item i k) is ns

  -- What is declared; of the types that initial values give nothing is known yet.
  abbrev pub declarations_of : List Item → List ItemNodes → Declarations
  declarations_of is ns = record d {
    symbols = with_entries (symbols no_numbers is ns) d.symbols;
    structures = full_types type_kind.Structure no_numbers is ns;
    classes = full_types type_kind.Class no_numbers is ns;
    functions = functions no_numbers is ns;
    given = replicate (behind_items is no_numbers).given known.Untold;
  }
