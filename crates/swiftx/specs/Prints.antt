-- Texts of prints: a line is print("..."), where the literal's bytes stand for themselves.
-- The Swift Programming Language, 'Lexical Structure', 'String Literals'.
use Rattle.std.specs.Prelude.{◌≡◌, ◌⊎◌, ◌≢◌, ℕ, ◌<◌, ◌≤◌, List, [], ◌∷◌, ◌++◌, length}
use Rattle.std.specs.List.{All}

-- a byte from the space to the tilde that is neither a quote nor a backslash
abbrev pub IsPlain : ℕ → Type 0
IsPlain c = (32 ≤ c) × (c < 127) × (c ≢ 34) × (c ≢ 92)

abbrev pub IsLiteral : List ℕ → Type 0
IsLiteral literal = All IsPlain literal

-- print("
abbrev pub opening : List ℕ
opening = 112 ∷ 114 ∷ 105 ∷ 110 ∷ 116 ∷ 40 ∷ 34 ∷ []

-- ")
abbrev pub closing : List ℕ
closing = 34 ∷ 41 ∷ []

abbrev pub line_feed : ℕ
line_feed = 10

abbrev pub print_line : List ℕ → List ℕ
print_line literal = opening ++ (literal ++ (closing ++ line_feed ∷ []))

-- the lines that print these literals, each with its line feed
abbrev pub print_lines : List (List ℕ) → List ℕ
print_lines [] = []
print_lines (literal ∷ literals) = print_line literal ++ print_lines literals

-- the last line feed may be missing
abbrev pub HasLines : List ℕ → List (List ℕ) → Type 0
HasLines text literals = (text ≡ print_lines literals) ⊎ (text ++ line_feed ∷ [] ≡ print_lines literals)

-- a text that prints these literals, one after another
pub record PrintsText (text : List ℕ) (literals : List (List ℕ)) : Type 0 where
  pub size : length text ≤ 262144
  pub count : length literals ≤ 16384
  pub plain : All IsLiteral literals
  pub lines : HasLines text literals

-- what stands behind a line, of what stands behind its closing bracket
abbrev pub EndsLine : List ℕ → List ℕ → Type 0
EndsLine tail rest = (tail ≡ line_feed ∷ rest) ⊎ ((tail ≡ []) × (rest ≡ []))

-- the first line of a text prints this literal, and this is what stands behind the line
pub record StartsWith (text literal rest : List ℕ) : Type 0 where
  pub plain : IsLiteral literal
  pub tail : List ℕ
  pub is : text ≡ opening ++ (literal ++ (closing ++ tail))
  pub behind : EndsLine tail rest

-- no literals make the text
abbrev pub PrintsNothing : List ℕ → Type 0
PrintsNothing text = (literals : List (List ℕ)) → PrintsText text literals → ⊥
