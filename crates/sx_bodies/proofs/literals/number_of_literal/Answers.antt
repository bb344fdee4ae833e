use Rattle.std.proofs.Common.{[], drop}
use Rattle.sx_bodies.specs.Literals.{literal_type}
use Rattle.sx_bodies.proofs.Fitting.{misfit}
use Rattle.sx_bodies.proofs.literals.number_of_literal.Goals as goal

pub returns : goal.returns
returns c =
    misfit c.args.declarations.now c.args.asked c.args.node c.args.lacking (drop c.args.mentions_before c.args.walk.now.mentions) (literal_type (c.args.parameters.now, (c.args.result_type, []))) c.in_ok-function.function c.function_number-number.result c.in-Err.kind c.args.walk.now c.in_ok-function.ensures c.function_number-number.ensures c.in-Err.ensures
