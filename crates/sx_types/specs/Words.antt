-- How many words a value takes: an integer, a truth value, an array and a reference to an object
-- one, a function value two, `Void` none, and a structure the sum of its stored properties, but at
-- least one.
use Rattle.std.specs.Prelude.{◌≡◌, ◌≢◌, ℕ, zero, suc, ◌+◌, ◌≤◌, max, nat_le, List, [], ◌∷◌, map, length, slice_get, Option, Some, None, option_map, option_and_then, MatchOption, if◌then◌else◌}
use Rattle.sx_types.specs.declared.types.Field.{Field}
use Rattle.sx_types.specs.declared.types.Structure.{Structure}
use Rattle.sx_types.specs.declared.types.Ty.{Ty}
use Rattle.sx_types.specs.declared.types.Ty.TheVariants.{Int, Bool, Void, Array, Struct, Class, Func}

-- by the words of the structures
abbrev pub words_by : (ℕ → Option ℕ) → Ty → Option ℕ
words_by of_structure Int = Some 1
words_by of_structure Bool = Some 1
words_by of_structure Void = Some 0
words_by of_structure Array = Some 1
words_by of_structure (Struct k) = of_structure k
words_by of_structure (Class k) = Some 1
words_by of_structure (Func k) = Some 2

-- the sum, where each has one
abbrev pub total : List (Option ℕ) → Option ℕ
total [] = Some 0
total (n ∷ ns) = option_and_then (λ first. option_map (λ rest. first + rest) (total ns)) n

-- of a value or object with these stored properties
abbrev pub stored_words : (Ty → Option ℕ) → List Field → Option ℕ
stored_words words fields = option_map (max 1) (total (map (λ f. option_and_then words f.ty) fields))

-- of structure k, where structures nest less than `depth` deep in it and no type of a property is missing
unfoldable pub structure_within : List Structure → ℕ → ℕ → Option ℕ
structure_within structures zero k = None
structure_within structures (suc depth) k =
    option_and_then (λ (s : Structure). stored_words (words_by (structure_within structures depth)) s.stored) (slice_get structures k)

abbrev pub words_within : List Structure → ℕ → Ty → Option ℕ
words_within structures depth = words_by (structure_within structures depth)

-- a structure that nests deeper than there are structures holds itself
abbrev pub words_of : List Structure → Ty → Option ℕ
words_of structures ty = words_within structures (length structures) ty

-- the most words that a type may have
abbrev pub most_words : ℕ
most_words = 1024

-- a type that has words, and not too many
abbrev pub IsNarrow : List Structure → Ty → Type 0
IsNarrow structures ty = MatchOption (words_of structures ty) ⊥ (λ n. n ≤ most_words)

abbrev pub if_narrow : ℕ → Option ℕ
if_narrow n = if nat_le n most_words then Some n else None

-- with each structure stand its words, where there are not too many
abbrev pub AreCounted : List Structure → Type 0
AreCounted structures =
    (k : ℕ) → option_and_then (λ (s : Structure). s.words) (slice_get structures k) ≡ option_and_then if_narrow (words_of structures (Struct k))

-- the rule for structures, whatever they hold
abbrev pub StructuresAddUp : Type 0
StructuresAddUp =
    (structures : List Structure) (k : ℕ) → words_of structures (Struct k) ≡ option_and_then (λ (s : Structure). stored_words (words_of structures) s.stored) (slice_get structures k)

-- only a value of type `Void` takes none
abbrev pub ValuesTakeWords : Type 0
ValuesTakeWords = (structures : List Structure) (ty : Ty) (n : ℕ) → ty ≢ Void → words_of structures ty ≡ Some n → 1 ≤ n
