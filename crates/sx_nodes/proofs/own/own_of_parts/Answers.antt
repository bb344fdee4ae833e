use Rattle.std.proofs.Common.{◌-◌, arith, subst}
use Rattle.sx_nodes.specs.declared.own.Own.TheVariants.{Is, Past}
use Rattle.sx_nodes.specs.Own.{Stands}
use Rattle.sx_nodes.proofs.Fronts.{postfixes, fronts_up_to, postfix_first, postfix_past, none_left}
use Rattle.sx_nodes.proofs.own.own_of_parts.Goals as goal

pub returns-in-Is : goal.returns-in-Is
returns-in-Is c =
    c.fronts.invariant.told (Is c.in-Is.code)
    (postfix_first c.args.span c.args.first.now c.args.parts.now c.fronts.count (c.fronts.count - 1) c.fronts.left c.in-Is.code (omega (arith, c.fronts-test.true))
    (subst (λ o. Stands (postfixes c.args.span c.args.first.now (fronts_up_to c.args.parts.now (c.fronts.count - 1))) c.fronts.left o) c.in-Is.is c.in_ok-code.ensures))

pub fronts-preserved : goal.fronts-preserved
fronts-preserved c =
    record {
      within = omega (arith, c.fronts.invariant.within);
      told = λ o h. c.fronts.invariant.told o
          (postfix_past c.args.span c.args.first.now c.args.parts.now c.fronts.count (c.fronts.count - 1) c.fronts.left c.in-Past.behind o (omega (arith, c.fronts-test.true))
          (subst (λ o. Stands (postfixes c.args.span c.args.first.now (fronts_up_to c.args.parts.now (c.fronts.count - 1))) c.fronts.left o) c.in-Past.is c.in_ok-code.ensures) h);
    }

pub returns : goal.returns
returns c = c.fronts.invariant.told (Past c.fronts.left) (none_left c.args.span c.args.first.now c.args.parts.now c.fronts.count c.fronts.left (omega (arith, c.fronts-test.false)))
