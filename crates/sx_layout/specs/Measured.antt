-- Structures that stand with their words, and the words of stored properties together.
use Rattle.std.specs.Prelude.{◌≡◌, ℕ, List, [], ◌∷◌, map, length, slice_get, Option, None, option_and_then}
use Rattle.sx_types.specs.declared.types.Field.{Field}
use Rattle.sx_types.specs.declared.types.Structure.{Structure}
use Rattle.sx_types.specs.declared.types.Ty.TheVariants.{Struct}
use Rattle.sx_types.specs.Words.{words_by, total, words_of, if_narrow, AreCounted}

-- a structure but for its words
abbrev pub without_words : Structure → Structure
without_words s = record s { words = None }

-- the same structures, with their words
abbrev pub AreMeasured : List Structure → List Structure → Type 0
AreMeasured before after = (map without_words after ≡ map without_words before) × AreCounted after

-- the words that stand with structure k
abbrev pub words_told : List Structure → ℕ → Option ℕ
words_told structures k = option_and_then (λ (s : Structure). s.words) (slice_get structures k)

-- the words of stored properties together, where each has words that are told
abbrev pub words_together : List Structure → List Field → Option ℕ
words_together structures stored = total (map (λ f. option_and_then (words_by (words_told structures)) f.ty) stored)

-- for each structure its words, where there are not too many
abbrev pub AreWidths : List Structure → List (Option ℕ) → Type 0
AreWidths structures widths =
    (length widths ≡ length structures) × ((k : ℕ) → option_and_then (λ (w : Option ℕ). w) (slice_get widths k) ≡ option_and_then if_narrow (words_of structures (Struct k)))

-- these structures with these words
abbrev pub with_words : List Structure → List (Option ℕ) → List Structure
with_words [] ws = []
with_words (s ∷ ss) [] = []
with_words (s ∷ ss) (w ∷ ws) = record s { words = w } ∷ with_words ss ws
