use Rattle.std.proofs.Common.{refl}
use Rattle.sx_parse_decl.proofs.Bridge.{some_level}
use Rattle.sx_parse_decl.proofs.cursor.misfit.Goals as goal

pub returns-then-levels-eq0 : goal.returns-then-levels-eq0
returns-then-levels-eq0 c = rw (c.if-levels-eq0.true, c.opens_bracket-deep.ensures) refl

pub returns : goal.returns
returns c = rw (some_level c.args.levels c.if-levels-eq0.false) refl
