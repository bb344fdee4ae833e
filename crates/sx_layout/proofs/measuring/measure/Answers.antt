use Rattle.std.proofs.Common.{sym, ap, subst, ◌∙◌}
use Rattle.sx_layout.specs.Measured.{AreMeasured, AreWidths, with_words}
use Rattle.sx_layout.proofs.Lists.{on_ok_then}
use Rattle.sx_layout.proofs.Measures.{written}
use Rattle.sx_layout.proofs.measuring.measure.Goals as goal

pub returns : goal.returns
returns c =
    on_ok_then c.write_words.result c.write_words.ensures (λ is.
    subst (λ after. AreMeasured c.args.structures.now after) (sym (is ∙ ap (with_words c.args.structures.now) c.deref.ensures.value))
    (written c.args.structures.now c.in_ok-widths.widths.items
    (subst (λ structures. AreWidths structures c.in_ok-widths.widths.items) c.as_slice.ensures c.in_ok-widths.ensures)))
