-- The names of a text, each once, in the order in which they are first seen.
use Rattle.std.specs.Prelude.{ℕ, Bool, List, [], ◌∷◌, ◌++◌, if◌then◌else◌}
use Rattle.std.specs.List.{list_any, position_or_len}
use Rattle.std.specs.Str.{bytes_eq}

-- whether the name is among the names
abbrev pub is_name : List (List ℕ) → List ℕ → Bool
is_name names w = list_any (bytes_eq w) names

-- the names and one more, which goes last, unless it is among them
abbrev pub with_name : List (List ℕ) → List ℕ → List (List ℕ)
with_name names w = if is_name names w then names else names ++ w ∷ []

-- where the name stands among the names
abbrev pub index_of : List (List ℕ) → List ℕ → ℕ
index_of names w = position_or_len (bytes_eq w) names
