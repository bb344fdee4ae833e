use Rattle.sx_check_decl.proofs.Telling.{late_told}
use Rattle.sx_check_decl.proofs.checking.completed.Goals as goal

pub returns : goal.returns
returns c = λ narrow. late_told c.args.tree.now c.args.types c.args.program c.args.walk c.in_ok-typed.typed c.in_ok-typed.starts c.unless_late.result narrow c.in_ok-typed.ensures.typed c.in_ok-typed.ensures.starts c.unless_late.ensures
