use Rattle.std.proofs.Common.{refl, arith}
use Rattle.sx_rv_asm.proofs.Passes.{far_next, far_end}
use Rattle.sx_rv_asm.proofs.Sizes.{code_short}
use Rattle.sx_rv_asm.proofs.assembly.is_short.Goals as goal

pub returns-then-room-taken-clause-exact : goal.returns-then-room-taken-clause-exact
returns-then-room-taken-clause-exact c =
    let n = far_next c.loop-item.item-index c.args.items.now c.item-item.result c.loop-item-test.true c.item-item.is in
    ((λ t. absurd (cc)), (λ h. absurd (omega (arith, h, n, c.loop-item.invariant.sizes, c.size-taken.ensures, c.if-room-taken.true))))

pub loop-item-preserved : goal.loop-item-preserved
loop-item-preserved c =
    let n = far_next c.loop-item.item-index c.args.items.now c.item-item.result c.loop-item-test.true c.item-item.is in
    record {
      some = omega (arith, c.if-room-taken.false);
      sizes = omega (arith, n, c.loop-item.invariant.sizes, c.size-taken.ensures, c.if-room-taken.false);
    }

pub returns-clause-exact : goal.returns-clause-exact
returns-clause-exact c =
    let e = far_end c.loop-item.item-index c.args.items.now c.loop-item-test.false in
    ((λ t. omega (arith, e, c.loop-item.invariant.sizes, c.loop-item.invariant.some)), (λ h. refl))

pub returns-clause-short : goal.returns-clause-short
returns-clause-short c =
    let e = far_end c.loop-item.item-index c.args.items.now c.loop-item-test.false in
    λ t. omega (arith, e, c.loop-item.invariant.sizes, c.loop-item.invariant.some, code_short c.args.items.now)
