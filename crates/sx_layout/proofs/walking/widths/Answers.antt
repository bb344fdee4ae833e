use Rattle.std.proofs.Common.{rules, refl, map, sym, ap, subst, ◌∙◌, arith}
use Rattle.sx_layout.proofs.Lists.{ok_then}
use Rattle.sx_layout.specs.Measured.{AreWidths}
use Rattle.sx_layout.specs.Walking.{words_if_measured}
use Rattle.sx_layout.proofs.Walks.{begun, all_measured}
use Rattle.sx_layout.proofs.walking.widths.Goals as goal

pub loop-root-init : goal.loop-root-init
loop-root-init c = rw (c.in_ok-progress.ensures.items_if_clones_equal (λ y is. search rules)) (begun c.args.structures.now _ refl, λ k less. absurd (omega arith))

pub returns : goal.returns
returns c =
    ok_then c.measured.result c.measured.ensures (λ found same.
    subst (λ widths. AreWidths c.args.structures.now widths) (sym (same ∙ ap (map words_if_measured) c.deref.ensures.value))
    (all_measured c.args.structures.now c.loop-root.progress.items c.loop-root.invariant.0
    (λ k less. c.loop-root.invariant.1 k (let many = c.loop-root.invariant.0.many in let len = c.in_ok-progress.ensures.len in omega arith))))
