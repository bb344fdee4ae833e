use Rattle.std.proofs.Common.{◌≡◌, Err, rules, subst, sym}
use Rattle.sx_elf.specs.Tests.{IsAnswer, first_failing, overlap_tests}
use Rattle.sx_elf.proofs.Failing.{overlaps_passed, overlaps_failed}
use Rattle.sx_elf.proofs.checks.check_overlaps.Goals as goal

pub returns-in_err-check_apart : goal.returns-in_err-check_apart
returns-in_err-check_apart c =
    let same : c.from_residual.result ≡ Err c.in_err-check_apart.field-0.0 = search rules in
    subst (λ r. IsAnswer (first_failing (overlap_tests c.args.segments.now)) r) (sym same) (overlaps_failed c.args.segments.now c.loop-number.number _ _ c.loop-number-test.true c.loop-number.invariant c.in_err-check_apart.ensures)

pub loop-number-preserved : goal.loop-number-preserved
loop-number-preserved c = overlaps_passed c.args.segments.now c.loop-number.number _ c.loop-number-test.true c.loop-number.invariant c.in_ok-check_apart.ensures
