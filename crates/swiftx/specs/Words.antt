-- The words that a program is given, and the command that they are, as plain data.
use Rattle.std.specs.Prelude.{◌≡◌, ℕ, ◌<◌, true, List, map, length, slice_index, String, string_bytes, codes}
use Rattle.std.specs.Str.{all_ascii_digits}
use Rattle.std.specs.declared.alloc.Global.{Global}
use Rattle.swiftx.specs.Commands.{Command, Check, Run, Exec, IsFileName, default_steps}
use Rattle.swiftx.specs.declared.command.Command.{Command as Parsed}
use Rattle.swiftx.specs.declared.command.Command.TheVariants as parsed

abbrev pub texts : List (String Global) → List (List ℕ)
texts words = map string_bytes words

abbrev pub meaning : Parsed → Command
meaning (parsed.Check file) = Check file.now
meaning (parsed.Run file steps) = Run file.now steps
meaning (parsed.Exec file steps) = Exec file.now steps

-- what the name of a command that runs something, a file and a limit of steps make together
abbrev pub IsNamed : List ℕ → List ℕ → ℕ → Command → Type 0
IsNamed name file steps (Check f) = ⊥
IsNamed name file steps (Run f n) = (name ≡ codes "run") × IsFileName file × (f ≡ file) × (n ≡ steps)
IsNamed name file steps (Exec f n) = (name ≡ codes "exec") × IsFileName file × (f ≡ file) × (n ≡ steps)

-- what a command's name and file make, where no limit is told
abbrev pub IsNamedAlone : List ℕ → List ℕ → Command → Type 0
IsNamedAlone name file (Check f) = (name ≡ codes "check") × IsFileName file × (f ≡ file)
IsNamedAlone name file (Run f n) = IsNamed name file default_steps (Run f n)
IsNamedAlone name file (Exec f n) = IsNamed name file default_steps (Exec f n)

-- decimal digits without a leading zero
pub record IsPlainNumeral (word : List ℕ) : Type 0 where
  pub digits : all_ascii_digits word ≡ true
  pub some : 0 < length word
  pub leading : slice_index word 0 ≡ 48 → length word ≡ 1
