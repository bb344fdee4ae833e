-- What code sees of what stands around it (The Swift Programming Language, "Declarations", on scope).
use Rattle.std.specs.Prelude.{ℕ, [], Option, Some, None}
use Rattle.sx_types.specs.declared.types.Ty.{Ty}
use Rattle.sx_scope.specs.declared.walk.Asked.{Asked}
use Rattle.sx_scope.specs.declared.walk.Asked.TheVariants as asked
use Rattle.sx_scope.specs.declared.walk.Gives.{Gives}
use Rattle.sx_scope.specs.declared.walk.Gives.TheVariants as gives
use Rattle.sx_scope.specs.declared.walk.Place.{Place}
use Rattle.sx_scope.specs.declared.walk.Walk.{Walk}
use Rattle.sx_functions.specs.Places.{body_place}
use Rattle.sx_check_code.specs.declared.scope.Scope.{Scope}

-- a body gives its result type, and a statement of the outermost level stands in no body
abbrev pub gives_by : Option Ty → Gives
gives_by None = gives.Nothing
gives_by (Some t) = gives.Type t

abbrev pub asked_by : Option Ty → Asked
asked_by None = asked.Nothing
asked_by (Some t) = asked.Type t

abbrev pub place_in : Scope → Place
place_in s = record (body_place s.owner s.mutating s.observed (gives_by s.result)) { in_loop = s.in_loop; giving = s.giving }

-- a walk that stands before this node, with the names of the scope
abbrev pub walk_in : Scope → ℕ → Walk
walk_in s n = record { next = n; locals = s.names; mentions = []; literals = [] }
