-- What is checked of a tree: every name and every type, by the first node that fails, and then the widths of captures and the
-- globals that are reached too late.
use Rattle.std.specs.Prelude.{◌≡◌, ℕ, Bool, List, [], map, Option, is_some}
use Rattle.sx_tree.specs.declared.declarations.Item.{Item}
use Rattle.sx_tree.specs.declared.declarations.TypeKind.TheVariants as type_kind
use Rattle.sx_types.specs.declared.types.Class.{Class}
use Rattle.sx_types.specs.declared.types.Structure.{Structure}
use Rattle.sx_types.specs.declared.types.Ty.{Ty}
use Rattle.sx_types.specs.declared.types.FunctionType.{FunctionType}
use Rattle.sx_types.specs.declared.types.Types.{Types}
use Rattle.sx_layout.specs.Holding.{TellHolders}
use Rattle.sx_layout.specs.Measured.{AreMeasured}
use Rattle.sx_scope.specs.declared.declarations.Declarations.{Declarations}
use Rattle.sx_scope.specs.Tables.{entry}
use Rattle.sx_outline.specs.declared.outline.ItemNodes.{ItemNodes}
use Rattle.sx_outline.specs.declared.outline.Outline.{Outline}
use Rattle.sx_outline.specs.Outline.{outlined}
use Rattle.sx_tables.specs.declared.names.SpecialNames.{SpecialNames}
use Rattle.sx_tables.specs.Named.{named_types}
use Rattle.sx_tables.specs.Names.{bare_declarations}
use Rattle.sx_tables.specs.Tables.{declarations_of}
use Rattle.sx_settle.specs.Settled.{Settling, giving_items, settled, settling, unsettled}
use Rattle.sx_check_decl.specs.declared.items.Settled.{Settled}
use Rattle.sx_check_decl.specs.Fields.{bare_class, bare_structure, class_fault, classes_of, names_of, structure_faults, structures_of}

-- what a name means where a type is written, if it means one
abbrev pub type_meant : SpecialNames → List Item → ℕ → Option Ty
type_meant s is x = entry (named_types s is) x

abbrev pub outline : SpecialNames → List Item → Outline
outline s is = outlined (type_meant s is) is

-- what is declared, with these types, and with these faults of structures and classes
abbrev pub declared : SpecialNames → List Bool → List Bool → Types → ℕ → List Item → List ItemNodes → Declarations
declared s structures classes types nodes is ns = declarations_of (bare_declarations s structures classes types nodes is ns) is ns

-- and the types that initial values give
abbrev pub settled_with : SpecialNames → List Bool → List Bool → Types → ℕ → List Item → List ItemNodes → Settling
settled_with s structures classes types nodes is ns = settled (giving_items is ns) (unsettled (declared s structures classes types nodes is ns))

abbrev pub settled_declared : SpecialNames → List Item → List Bool → List Bool → Types → Settling
settled_declared s is structures classes types = settled_with s structures classes types (outline s is).nodes is (outline s is).items

-- types with these structures, of which the words don't count, these classes and these function types
abbrev pub AreTypes : List Structure → List Class → List FunctionType → Types → Type 0
AreTypes structures classes functions types = AreMeasured structures types.structures × (types.classes ≡ classes) × (types.functions ≡ functions)

-- the types of a program before anything is known of stored properties
abbrev pub AreFirst : List Item → List FunctionType → Types → Type 0
AreFirst is functions types =
    AreTypes (map bare_structure (names_of type_kind.Structure is)) (map bare_class (names_of type_kind.Class is)) functions types

-- the types of a program with their stored properties, as far as these declarations tell them
abbrev pub AreSecond : List Item → Declarations → List FunctionType → Types → Type 0
AreSecond is d functions types =
    AreTypes (structures_of d (names_of type_kind.Structure is) d.structures) (classes_of d (names_of type_kind.Class is) d.classes) functions types

-- settled with these types, so that those fail that hold themselves or are too wide
abbrev pub IsSettledWith : SpecialNames → Types → ℕ → List Item → List ItemNodes → Settled → Type 0
IsSettledWith s types nodes is ns x =
    (holders : List Bool)
    × TellHolders types.structures holders
    × (x.structures ≡ structure_faults types.structures holders types.structures)
    × (x.classes ≡ map (class_fault types.structures) types.classes)
    × (settling x.declarations x.stops ≡ settled_with s (map is_some x.structures) (map is_some x.classes) types nodes is ns)

-- The declarations are settled twice: first to see which structures hold themselves and how wide they are, and then with those failing.
abbrev pub IsSettled : SpecialNames → List Item → Settled → Type 0
IsSettled s is x =
    (first : Types) × (second : Types)
    × AreFirst is (outline s is).functions first
    × AreSecond is (settled_declared s is [] [] first).declarations (outline s is).functions second
    × IsSettledWith s second (outline s is).nodes is (outline s is).items x
