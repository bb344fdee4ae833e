-- What is told of what a call answers.
use Rattle.std.specs.Prelude.{Option, Some, None, Result, Ok, Err}
use Rattle.sx_scope.specs.declared.stop.TypeStop.{TypeStop}
use Rattle.sx_scope.specs.declared.stop.TypeStop.TheVariants.{NoMemory}
use Rattle.sx_scope.specs.declared.walk.Found.{Found}
use Rattle.sx_scope.specs.declared.walk.Found.TheVariants as founds

abbrev pub told_found : {A : Type 0} → Found A → Result (Option A) TypeStop
told_found (founds.Typed a) = Ok (Some a)
told_found founds.Untold = Err NoMemory
told_found founds.Depends = Ok None

abbrev pub told : {A : Type 0} → Result (Found A) TypeStop → Result (Option A) TypeStop
told (Ok o) = told_found o
told (Err e) = Err e
