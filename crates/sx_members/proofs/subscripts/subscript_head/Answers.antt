use Rattle.std.proofs.Common.{Some, sym, subst}
use Rattle.sx_heads.specs.declared.parameters.ParameterList.TheVariants as lists
use Rattle.sx_heads.specs.Heads.{checked_head}
use Rattle.sx_scope.specs.declared.walk.Walk.{Walk}
use Rattle.sx_scope.specs.Verdict.{Answers, both, ◌▷◌}
use Rattle.sx_members.specs.Members.{result_fits}
use Rattle.sx_members.proofs.subscripts.subscript_head.Goals as goal

pub returns : goal.returns
returns c =
    let head = λ (w : Walk). checked_head c.args.declarations.now lists.OfSubscript c.args.subscript.now.parameters (Some c.args.subscript.now.result) w ▷ result_fits c.args.node in
    let now = c.fitting_head-head.new.walk in
    subst (λ v. Answers c.joined.result now (both v head)) (sym c.in_ok-only.ensures) (c.joined.ensures (λ _. head) c.args.walk.now now c.fitting_head-head.ensures)
