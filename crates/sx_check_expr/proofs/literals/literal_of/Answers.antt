use Rattle.std.proofs.Common.{Bool, subst}
use Rattle.sx_scope.specs.Verdict.{Answers}
use Rattle.sx_bodies.specs.Literals.{literal_made}
use Rattle.sx_check_expr.proofs.literals.literal_of.Goals as goal

pub returns : goal.returns
returns c =
    subst (λ (b : Bool). Answers c.literal_made.result c.literal_made.new.walk (literal_made c.args.declarations.now c.args.asked c.args.used c.args.node c.args.site c.args.mentions c.args.literals b c.args.parts c.args.walk.now))
    (c.lacks_return-lacking.ensures c.args.declarations.now) c.literal_made.ensures
