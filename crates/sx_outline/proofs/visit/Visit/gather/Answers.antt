use Rattle.std.proofs.Common.{refl}
use Rattle.sx_outline.proofs.visit.Visit.gather.Goals as goal
use Rattle.sx_outline.proofs.Numbers.{gathers}

pub returns : goal.returns
returns c =
    let g = gathers c.args.self.now.functions c.number_of.new.self c.args.function c.in_ok-number.number c.as_slice.ensures.once c.in_ok-number.ensures.types c.in_ok-number.ensures.number in
    rw (g.0, g.1) refl
