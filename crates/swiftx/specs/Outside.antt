-- The outside of a call at one moment: what the store and the two sinks tell, and their counts of faults.
use Rattle.std.specs.Prelude.{◌≡◌, ℕ, List, ◌++◌, Option, option_map}
use Rattle.sx_io.specs.Outside.{Files, Call}
use Rattle.sx_rv_machine.specs.Put.{Told}

pub record Outside : Type 0 where
  pub files : Option Files
  pub asked : Option (List Call)
  pub store_faults : ℕ
  pub out : Told
  pub err : Told

-- the store was asked for these, one after another
abbrev pub Asked : Outside → Outside → List Call → Type 0
Asked old new calls = new.asked ≡ option_map (λ (before : List Call). before ++ calls) old.asked
