use Rattle.std.proofs.Common.{List, map, ap, subst, ◌∙◌}
use Rattle.sx_scope.specs.declared.declarations.Known.{Known}
use Rattle.sx_check_decl.specs.Checked.{IsSettled}
use Rattle.sx_check_decl.specs.Looks.{without_circle}
use Rattle.sx_check_decl.specs.Special.{special_names}
use Rattle.sx_check_decl.proofs.looks.declarations_of.Goals as goal

pub returns : goal.returns
returns c =
    let x = c.in_ok-settled.settled in (
      x,
      subst (λ z. IsSettled z c.args.tree.now.items x) (c.in_ok-special.ensures ∙ ap special_names c.as_slice.ensures.value)
          (subst (λ is. IsSettled c.in_ok-special.special is x) c.as_slice-2.ensures c.in_ok-settled.ensures),
      ap (λ (ks : List Known). record x.declarations { given = ks }) (c.in_ok-settled-2.ensures ∙ ap (map without_circle) c.as_slice-3.ensures),
    )
