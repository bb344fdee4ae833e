use Rattle.sx_types.specs.contracts.types.FunctionTypePartialEq.TheImpl as function
use Rattle.sx_types.proofs.Gained.{gained, stands}
use Rattle.sx_types.proofs.Same.{same_function}
use Rattle.sx_types.proofs.functions.FunctionTypes.number_of.Goals as goal

pub returns-clause-types : goal.returns-clause-types
returns-clause-types c =
    rw (← c.self.view_is) (gained (function.ghosts).eq same_function c.self.inside.seen.keys c.insert_full.new.self.keys c.args.function c.in_ok-number.ensures.keys)

pub returns-clause-number : goal.returns-clause-number
returns-clause-number c =
    let stored = c.in_ok-number.ensures.stored in
    stands (function.ghosts).eq same_function c.insert_full.new.self.keys c.args.function stored.0 c.in_ok-number.number stored.1 stored.2
