use Rattle.std.proofs.Common.{◌∙◌, sym, subst}
use Rattle.std.proofs.lemmas.Bool.{false≢true}
use Rattle.swiftx.specs.Words.{IsPlainNumeral}
use Rattle.swiftx.proofs.Numerals.{decimal_plain, reads_plain, limit_small, steps_most, reads_limit, no_limit_error}
use Rattle.swiftx.proofs.command.step_limit.Goals as goal

pub returns-then-not-is_numeral-clause-none : goal.returns-then-not-is_numeral-clause-none
returns-then-not-is_numeral-clause-none c = λ steps h.
    let plain : IsPlainNumeral c.args.word.now = subst IsPlainNumeral (sym h.0) (decimal_plain steps (limit_small steps h.1)) in
    false≢true (sym c.if-not-is_numeral.true ∙ c.is_numeral.ensures.1 plain)

pub returns-then-steps-le-GREATEST_STEPS-clause-some : goal.returns-then-steps-le-GREATEST_STEPS-clause-some
returns-then-steps-le-GREATEST_STEPS-clause-some c = (
  reads_plain c.args.word.now c.parse.result c.in-Ok.steps (c.is_numeral.ensures.0 c.if-not-is_numeral.false) c.parse.ensures.value.0 c.in-Ok.is,
  steps_most c.in-Ok.steps c.if-steps-le-GREATEST_STEPS.true,
)

pub returns-else-steps-le-GREATEST_STEPS-clause-none : goal.returns-else-steps-le-GREATEST_STEPS-clause-none
returns-else-steps-le-GREATEST_STEPS-clause-none c = λ steps h.
    reads_limit c.args.word.now c.parse.result c.in-Ok.steps steps c.parse.ensures.value.0 c.in-Ok.is h c.if-steps-le-GREATEST_STEPS.false

pub returns-in-Err-clause-none : goal.returns-in-Err-clause-none
returns-in-Err-clause-none c = λ steps h. no_limit_error c.args.word.now c.parse.result steps c.parse.ensures.value.0 c.in-Err.field-0 c.in-Err.is h
