use Rattle.std.proofs.Common.{sym, subst}
use Rattle.sx_scope.specs.Verdict.{Answers, both}
use Rattle.sx_functions.specs.Functions.{function_parts}
use Rattle.sx_functions.proofs.functions.named_parts.Goals as goal

pub returns : goal.returns
returns c =
    let parts = function_parts c.args.declarations.now c.args.owner c.args.node c.args.function.now in
    let now = c.function_parts-parts.new.walk in
    subst (λ v. Answers c.joined.result now (both v parts)) (sym c.in_ok-name.ensures) (c.joined.ensures (λ _. parts) c.args.walk.now now c.function_parts-parts.ensures)
