use Rattle.std.proofs.Common.{◌-◌, take, length, Some, arith, sym, ap, ◌∙◌}
use Rattle.sx_tree.specs.declared.code.ExprForm.TheVariants as forms
use Rattle.sx_nodes.specs.Pieces.{a_front}
use Rattle.sx_nodes.proofs.Fronts.{chain_at, chains_length}
use Rattle.sx_nodes.proofs.own.own_of_chain.Goals as goal

pub returns-in-Some : goal.returns-in-Some
returns-in-Some c = omega (arith, c.in-Some.ensures, chains_length c.args.span c.args.first.now c.args.links.now)

pub returns-in_ok-links-in-None : goal.returns-in_ok-links-in-None
returns-in_ok-links-in-None c =
    chain_at c.args.span c.args.first.now c.args.links.now c.args.at (omega (arith, c.in-None.ensures))
    ∙ ap (λ e. Some (a_front c.args.span (forms.Chain e (take (length c.args.links.now - c.args.at) c.args.links.now)))) (sym c.in_ok-first-in-None.ensures)
    ∙ ap (λ ls. Some (a_front c.args.span (forms.Chain c.in_ok-first-in-None.first ls))) (sym c.in_ok-links-in-None.ensures)
    ∙ ap Some (sym c.an_expression.ensures)
