use Rattle.sx_types.specs.contracts.types.FunctionTypePartialEq.TheImpl as function
use Rattle.sx_types.proofs.Gained.{once}
use Rattle.sx_types.proofs.Same.{same_function}
use Rattle.sx_types.proofs.functions.FunctionTypes.as_slice.Goals as goal

pub returns-clause-once : goal.returns-clause-once
returns-clause-once c = rw (← c.self.view_is) (once (function.ghosts).eq same_function c.self.inside.seen.keys c.as_slice.ensures.unique)
