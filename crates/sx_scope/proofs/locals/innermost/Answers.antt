use Rattle.std.proofs.Common.{arith}
use Rattle.sx_scope.proofs.Innermost.{is_innermost, goes_out}
use Rattle.sx_scope.proofs.locals.innermost.Goals as goal

pub returns-then-local-name : goal.returns-then-local-name
returns-then-local-name c = is_innermost c.args.locals.now _ c.inside_out.index c.args.name c.inside_out-test.true c.inside_out.invariant.0 c.if-local-name.true c.inside_out.invariant.1

pub inside_out-preserved : goal.inside_out-preserved
inside_out-preserved c =
    (omega (arith, c.inside_out.invariant.0), goes_out c.args.locals.now _ c.inside_out.index c.args.name c.inside_out-test.true c.inside_out.invariant.0 c.if-local-name.false c.inside_out.invariant.1)
