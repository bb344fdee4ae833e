use Rattle.std.proofs.Common.{get_or, None, sym, arith}
use Rattle.std.proofs.lemmas.Option.{slice_get-get_or}
use Rattle.sx_types.specs.declared.types.Field.{Field}
use Rattle.sx_layout.specs.Measured.{words_together}
use Rattle.sx_layout.proofs.Measures.{none_added, one_added, none_told, all_added}
use Rattle.sx_layout.proofs.measuring.width.Goals as goal

pub loop-field-init : goal.loop-field-init
loop-field-init c = (none_added (words_together c.args.structures.now c.args.stored.now), omega arith)

pub loop-field-preserved : goal.loop-field-preserved
loop-field-preserved c =
    let field : Field = get_or c.args.stored.now c.loop-field.field-index (record { name = 0; ty = None }) in
    let few = c.in-Some.ensures.few in
    let so_far = c.loop-field.invariant.1 in (
      one_added c.args.structures.now c.args.stored.now c.loop-field.field-index c.loop-field.words c.loop-field.invariant.0 field c.in-Some.more
          (slice_get-get_or c.args.stored.now c.loop-field.field-index (record { name = 0; ty = None }) c.loop-field-test.true)
          (sym c.in-Some.ensures.words),
      omega arith,
    )

pub returns : goal.returns
returns c = sym (all_added c.args.structures.now c.args.stored.now c.loop-field.field-index c.loop-field.words c.loop-field.invariant.0 c.loop-field-test.false)

pub returns-in-None : goal.returns-in-None
returns-in-None c =
    let field : Field = get_or c.args.stored.now c.loop-field.field-index (record { name = 0; ty = None }) in
    sym (none_told c.args.structures.now c.args.stored.now c.loop-field.field-index c.loop-field.words c.loop-field.invariant.0 field
    (slice_get-get_or c.args.stored.now c.loop-field.field-index (record { name = 0; ty = None }) c.loop-field-test.true)
    (sym c.in-None.ensures.words))
