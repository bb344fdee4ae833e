-- Structures and classes by their stored properties, and what they fail by.
use Rattle.std.specs.Prelude.{ℕ, Bool, false, not, nat_le, List, [], ◌∷◌, ◌++◌, map, Option, Some, None, cond}
use Rattle.sx_tree.specs.declared.declarations.Item.{Item}
use Rattle.sx_tree.specs.declared.declarations.Item.TheVariants as items
use Rattle.sx_tree.specs.declared.declarations.TypeKind.{TypeKind}
use Rattle.sx_types.specs.declared.types.Class.{Class}
use Rattle.sx_types.specs.declared.types.Field.{Field}
use Rattle.sx_types.specs.declared.types.Structure.{Structure}
use Rattle.sx_types.specs.declared.types.Ty.{Ty}
use Rattle.sx_types.specs.Words.{most_words}
use Rattle.sx_layout.specs.Measured.{words_together}
use Rattle.sx_scope.specs.declared.declarations.Declarations.{Declarations}
use Rattle.sx_scope.specs.declared.declarations.DeclaredType.{DeclaredType}
use Rattle.sx_scope.specs.declared.declarations.Known.{Known}
use Rattle.sx_scope.specs.declared.declarations.Known.TheVariants as known
use Rattle.sx_scope.specs.declared.declarations.StoredProperty.{StoredProperty}
use Rattle.sx_scope.specs.Names.{known_in}
use Rattle.sx_tables.specs.Names.{is_kind, listed, some_if}
use Rattle.sx_members.specs.declared.types.TypeFault.{TypeFault}
use Rattle.sx_members.specs.declared.types.TypeFault.TheVariants as faults

-- the names of the structures, or of the classes, in the order of the text
abbrev pub name_of : TypeKind → Item → Option ℕ
name_of k (items.Function f) = None
name_of k (items.Type t) = some_if (is_kind k t.kind) t.name.number
name_of k (items.Global v) = None
name_of k (items.Statement s) = None

abbrev pub names_of : TypeKind → List Item → List ℕ
names_of k [] = []
names_of k (i ∷ is) = listed (name_of k i) ++ names_of k is

-- ---- before anything is known of the stored properties
abbrev pub bare_structure : ℕ → Structure
bare_structure x = record { name = x; stored = []; words = None }

abbrev pub bare_class : ℕ → Class
bare_class x = record { name = x; stored = [] }

-- ---- by what is known of them
abbrev pub type_known : Known → Option Ty
type_known (known.Type t) = Some t
type_known known.Failed = None
type_known known.Untold = None
type_known known.Circular = None

abbrev pub field_of : Declarations → StoredProperty → Field
field_of d p = record { name = p.name; ty = type_known (known_in d p.ty) }

abbrev pub fields_of : Declarations → DeclaredType → List Field
fields_of d t = map (field_of d) t.stored

abbrev pub structures_of : Declarations → List ℕ → List DeclaredType → List Structure
structures_of d [] ts = []
structures_of d (x ∷ xs) [] = []
structures_of d (x ∷ xs) (t ∷ ts) = record { name = x; stored = fields_of d t; words = None } ∷ structures_of d xs ts

abbrev pub classes_of : Declarations → List ℕ → List DeclaredType → List Class
classes_of d [] ts = []
classes_of d (x ∷ xs) [] = []
classes_of d (x ∷ xs) (t ∷ ts) = record { name = x; stored = fields_of d t } ∷ classes_of d xs ts

-- ---- what they fail by: a structure that holds itself, and stored properties with too many words
abbrev pub is_wide : Option ℕ → Bool
is_wide None = false
is_wide (Some n) = not (nat_le n most_words)

abbrev pub width_fault : List Structure → List Field → Option TypeFault
width_fault structures stored = cond (is_wide (words_together structures stored)) (Some faults.Wide) None

abbrev pub structure_fault : List Structure → Bool → Structure → Option TypeFault
structure_fault structures holds s = cond holds (Some faults.Recursive) (width_fault structures s.stored)

abbrev pub structure_faults : List Structure → List Bool → List Structure → List (Option TypeFault)
structure_faults structures hs [] = []
structure_faults structures [] (s ∷ ss) = []
structure_faults structures (h ∷ hs) (s ∷ ss) = structure_fault structures h s ∷ structure_faults structures hs ss

abbrev pub class_fault : List Structure → Class → Option TypeFault
class_fault structures c = width_fault structures c.stored
