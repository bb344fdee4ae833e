use Rattle.std.proofs.Common.{◌≡◌, false, ◌&&◌, arith}
use Rattle.sx_bodies.specs.Literals.{are_narrow, parameter_words, mention_words}
use Rattle.sx_bodies.proofs.Failing.{too_wide}
use Rattle.sx_bodies.proofs.literals.narrow_number.Goals as goal

pub returns-else-are_parameters_narrow : goal.returns-else-are_parameters_narrow
returns-else-are_parameters_narrow c =
    let wide : (are_narrow (parameter_words c.args.declarations.now.types) c.args.function.now.parameters && are_narrow (mention_words c.args.declarations.now.types) c.args.mentions.now) ≡ false = grind arith in
    too_wide _ _ _ _ wide
