-- Observers of a property or global.
use Rattle.std.specs.Prelude.{◌≡◌, List, [], None, MatchOption, ⊤}
use Rattle.sx_span.specs.declared.places.Node.{Node}
use Rattle.sx_typed.specs.declared.code.Observers.{Observers}
use Rattle.sx_typed.specs.declared.program.Function.{Function}
use Rattle.sx_typed.specs.Functions.{function_at}

-- the function with this node has no parameters
abbrev pub TakesNothing : List Function → Node → Type 0
TakesNothing functions node = MatchOption (function_at functions node) ⊥ (λ (f : Function). f.parameters ≡ [])

-- neither is there a `willSet`, which runs before the new value is stored, nor does `didSet` see the old one
abbrev pub IsInPlace : List Function → Observers → Type 0
IsInPlace functions o = (o.will_set ≡ None) × MatchOption o.did_set ⊤ (TakesNothing functions)
