-- A text has one answer.
use Rattle.std.specs.Prelude.{◌≡◌, ℕ, List, Result, Ok, Err}
use Rattle.sx_typed.specs.declared.program.Typed.{Typed}
use Rattle.sx_driver.specs.declared.fault.CompileStop.{CompileStop}
use Rattle.sx_driver.specs.declared.fault.CompileStop.TheVariants as stops
use Rattle.sx_driver.specs.Faults.{Types}
use Rattle.sx_one_answer.specs.Same.{SameTyped}

-- the same typed tree, or the same fault at the same place, or want of memory in one of them
abbrev pub Agree : Result Typed CompileStop → Result Typed CompileStop → Type 0
Agree (Ok t) (Ok u) = SameTyped t u
Agree (Ok t) (Err (stops.Refused g)) = ⊥
Agree (Ok t) (Err stops.NoMemory) = Unit {0}
Agree (Err (stops.Refused f)) (Ok u) = ⊥
Agree (Err (stops.Refused f)) (Err (stops.Refused g)) = f ≡ g
Agree (Err (stops.Refused f)) (Err stops.NoMemory) = Unit {0}
Agree (Err stops.NoMemory) s = Unit {0}

-- Whatever is answered of a text, but for want of memory, is the same answer: no text has a typed tree and a fault, or two faults.
abbrev pub AnswersAgree : Type 0
AnswersAgree = (text : List ℕ) (r s : Result Typed CompileStop) → Types text r → Types text s → Agree r s
