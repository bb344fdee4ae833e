use Rattle.std.proofs.Common.{◌++◌, ◌+◌, drop, reverse, get_or, None, refl, ap, sym, ◌∙◌}
use Rattle.std.proofs.lemmas.Option.{slice_get-get_or}
use Rattle.sx_layout.specs.Measured.{with_words}
use Rattle.sx_layout.proofs.Lists.{append_nil}
use Rattle.sx_layout.proofs.Measures.{one_taken, one_written, none_written, all_written}
use Rattle.sx_layout.proofs.measuring.write_words.Goals as goal
use Rattle.sx_layout.proofs.measuring.write_words.Goals.{in-Some-pop+in_ok-push-2, in_default-pop}

pub loop-structure-init : goal.loop-structure-init
loop-structure-init c = rw c.new-reversed.ensures (append_nil c.args.structures.now)

pub loop-structure-preserved : goal.loop-structure-preserved
loop-structure-preserved c =
    rw c.in_ok-push.ensures.ok (one_taken c.loop-structure.structures c.pop.new.self c.loop-structure.reversed c.args.structures.now c.in-Some.structure c.loop-structure.invariant c.in-Some.ensures)

pub loop-words-init : goal.loop-words-init
loop-words-init c =
    ap (λ ss. ss ++ with_words (reverse c.loop-structure.reversed) c.args.widths.now) c.in_default.ensures.1
    ∙ ap (λ rs. with_words rs c.args.widths.now) (ap (λ ss. ss ++ reverse c.loop-structure.reversed) (sym c.in_default.ensures.0) ∙ c.loop-structure.invariant)

pub loop-words-preserved : goal.loop-words-preserved
loop-words-preserved c =
    elim c.match-pop-2.branch [
      | in-Some-pop+in_ok-push-2 w ↦
          ap (λ ss. ss ++ with_words (reverse c.pop-in-loop-words.new.self) (drop (c.loop-words.words-index + 1) c.args.widths.now)) (w.structures-is ∙ w.in_ok-push-2.ensures.ok)
          ∙ one_written c.loop-words.structures c.loop-words.reversed c.pop-in-loop-words.new.self (with_words c.args.structures.now c.args.widths.now) c.args.widths.now c.loop-words.words-index c.loop-words.invariant
          w.in-Some-pop.structure _ (get_or c.args.widths.now c.loop-words.words-index None) w.in-Some-pop.ensures (slice_get-get_or c.args.widths.now c.loop-words.words-index None c.loop-words-test.true) refl
      | in_default-pop w ↦
          ap (λ ss. ss ++ with_words (reverse c.pop-in-loop-words.new.self) (drop (c.loop-words.words-index + 1) c.args.widths.now)) w.structures-is
          ∙ none_written c.loop-words.structures c.loop-words.reversed c.pop-in-loop-words.new.self (with_words c.args.structures.now c.args.widths.now) c.args.widths.now c.loop-words.words-index c.loop-words.invariant
          w.in_default-pop.ensures.0 w.in_default-pop.ensures.1
    ]

pub returns : goal.returns
returns c = all_written c.loop-words.structures c.loop-words.reversed c.loop-words.reversed _ c.args.widths.now c.loop-words.words-index c.loop-words.invariant c.loop-words-test.false
