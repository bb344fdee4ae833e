-- Command lines: which lists of words are commands.
use Rattle.std.specs.Prelude.{◌≡◌, ◌⊎◌, ◌≢◌, ℕ, ◌≤◌, List, [], ◌∷◌, codes}
use Rattle.std.specs.Fmt.{decimal}

-- a command with its file, and its limit of machine steps where it runs something
pub data Command : Type 0 where
  -- refuse a text, or accept it
  Check : (file : List ℕ) → Command
  -- compile a text and run it
  Run : (file : List ℕ) (steps : ℕ) → Command
  -- load an executable and run it
  Exec : (file : List ℕ) (steps : ℕ) → Command

-- the file that a command reads
abbrev pub file_name : Command → List ℕ
file_name (Check file) = file
file_name (Run file steps) = file
file_name (Exec file steps) = file

unfoldable pub default_steps : ℕ
default_steps = 200000000

unfoldable pub greatest_steps : ℕ
greatest_steps = 9223372036854775807

-- the word is not empty and does not begin with a dash
abbrev pub IsFileName : List ℕ → Type 0
IsFileName [] = ⊥
IsFileName (c ∷ cs) = c ≢ 45

-- the word is this number in decimal digits, without a leading zero
abbrev pub IsStepLimit : List ℕ → ℕ → Type 0
IsStepLimit word steps = (word ≡ decimal steps) × (steps ≤ greatest_steps)

-- a name and a file, and nothing else or a limit of steps
abbrev pub IsLine : List ℕ → List (List ℕ) → List ℕ → ℕ → Type 0
IsLine name words file steps =
    IsFileName file
    × ((words ≡ name ∷ file ∷ []) × (steps ≡ default_steps)
    ⊎ (number : List ℕ) × (words ≡ name ∷ file ∷ codes "--steps" ∷ number ∷ []) × IsStepLimit number steps)

abbrev pub IsCommand : List (List ℕ) → Command → Type 0
IsCommand words (Check file) = IsFileName file × (words ≡ codes "check" ∷ file ∷ [])
IsCommand words (Run file steps) = IsLine (codes "run") words file steps
IsCommand words (Exec file steps) = IsLine (codes "exec") words file steps
