use Rattle.std.proofs.Common.{rules, ◌≡◌, [], IfOk, subst}
use Rattle.std.proofs.lemmas.Result.{IfOk-weaker}
use Rattle.sx_check_decl.specs.Checked.{IsSettled, IsSettledWith, settled_with}
use Rattle.sx_settle.specs.Settled.{settling}
use Rattle.sx_check_decl.proofs.Steps.{settles}
use Rattle.sx_check_decl.proofs.settling.settled.Goals as goal

pub returns : goal.returns
returns c =
    let s = c.args.special in
    let is = c.args.items.now in
    let o = c.in_ok-outline.outline in
    let first_nodes : c.as_slice.result.now ≡ o.items = search rules in
    let second_nodes : c.as_slice-2.result.now ≡ o.items = search rules in
    IfOk-weaker c.settled_with.result (λ x. IsSettledWith s c.in_ok-types-2.types o.nodes is o.items x) (λ x. IsSettled s is x)
    (λ x w. settles s is c.in_ok-types.types c.in_ok-types-2.types c.in_ok-first.first c.in_ok-first.field-0-1 x c.in_ok-names.names.entries o c.in_ok-names.ensures c.in_ok-outline.ensures c.in_ok-types.ensures
    (subst (λ ns. settling c.in_ok-first.first c.in_ok-first.field-0-1 ≡ settled_with s [] [] c.in_ok-types.types o.nodes is ns) first_nodes c.in_ok-first.ensures) c.in_ok-types-2.ensures w)
    (subst (λ ns. IfOk c.settled_with.result (λ x. IsSettledWith s c.in_ok-types-2.types o.nodes is ns x)) second_nodes c.settled_with.ensures)
