-- The types that names mean where types are written.
use Rattle.std.specs.Prelude.{ℕ, List, [], ◌∷◌, cond}
use Rattle.sx_tree.specs.declared.declarations.Item.{Item}
use Rattle.sx_tree.specs.declared.declarations.Item.TheVariants as items
use Rattle.sx_types.specs.declared.types.Ty.{Ty}
use Rattle.sx_types.specs.declared.types.Ty.TheVariants as ty
use Rattle.sx_scope.specs.declared.declarations.Symbol.{Symbol}
use Rattle.sx_scope.specs.Tables.{with_entry}
use Rattle.sx_tables.specs.declared.names.SpecialNames.{SpecialNames}
use Rattle.sx_tables.specs.declared.names.Numbers.{Numbers}
use Rattle.sx_tables.specs.Names.{behind_item, is_new, item_name, no_numbers, reserved_symbols, type_numbered, with_name, with_option}

abbrev pub basic_named : SpecialNames → List (ℕ × Ty)
basic_named s = with_option s.void ty.Void (with_option s.bool ty.Bool (with_option s.int ty.Int []))

-- with the type that an item declares, if its name is new
abbrev pub with_named : List (ℕ × Symbol) → List ℕ → Numbers → Item → List (ℕ × Ty) → List (ℕ × Ty)
with_named reserved before n (items.Function f) es = es
with_named reserved before n (items.Type t) es = cond (is_new reserved before t.name.number) (with_entry t.name.number (type_numbered t.kind n) es) es
with_named reserved before n (items.Global v) es = es
with_named reserved before n (items.Statement s) es = es

-- behind these entries, and behind items with these names
abbrev pub named_from : List (ℕ × Symbol) → List (ℕ × Ty) → List ℕ → Numbers → List Item → List (ℕ × Ty)
named_from reserved es before n [] = es
named_from reserved es before n (i ∷ is) =
    named_from reserved (with_named reserved before n i es) (with_name (item_name i) before) (behind_item i n) is

-- A name has no type of which each declaration has failed.
abbrev pub named_types : SpecialNames → List Item → List (ℕ × Ty)
named_types s is = named_from (reserved_symbols s) (basic_named s) [] no_numbers is
