-- How a run ends, in every layer from the source to the instructions.
use Rattle.std.specs.Prelude.{ℕ}

pub data Ending : Type 0 where
  -- the run has ended with this exit status
  Status : (status : ℕ) → Ending
  -- the machine could not carry out an instruction
  Broken : Ending
  -- a step needed a root, an address or a value that no step has made
  Missing : Ending
