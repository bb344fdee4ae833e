use Rattle.std.proofs.Common.{arith, slice_index_or, ◌+◌, ◌-◌, ◌∙◌, sym, ap, subst}
use Rattle.sx_span.specs.Lines.{AreLines, count_to, line_col_of}
use Rattle.sx_span.proofs.Points.{found, in_order}
use Rattle.sx_span.proofs.lines.line_of.Goals as goal

pub count_up_to-line-requires : goal.count_up_to-line-requires
count_up_to-line-requires c = in_order c.as_slice-starts.result.now (subst AreLines (sym c.as_slice-starts.ensures.value) c.requires.lines)

pub overflow_cast-result : goal.overflow_cast-result
overflow_cast-result c =
    let f = found c.args.at c.args.lines.now.items c.as_slice-starts.result.now c.count_up_to-line.result c.requires.lines c.as_slice-starts.ensures.value c.count_up_to-line.ensures.bound c.count_up_to-line.ensures.point in
    omega (arith, f.few, c.requires.counts)

pub overflow_sub-result : goal.overflow_sub-result
overflow_sub-result c =
    (found c.args.at c.args.lines.now.items c.as_slice-starts.result.now c.count_up_to-line.result c.requires.lines c.as_slice-starts.ensures.value c.count_up_to-line.ensures.bound c.count_up_to-line.ensures.point).some

pub overflow_sub-result-2 : goal.overflow_sub-result-2
overflow_sub-result-2 c =
    (found c.args.at c.args.lines.now.items c.as_slice-starts.result.now c.count_up_to-line.result c.requires.lines c.as_slice-starts.ensures.value c.count_up_to-line.ensures.bound c.count_up_to-line.ensures.point).within

pub returns : goal.returns
returns c =
    let f = found c.args.at c.args.lines.now.items c.as_slice-starts.result.now c.count_up_to-line.result c.requires.lines c.as_slice-starts.ensures.value c.count_up_to-line.ensures.bound c.count_up_to-line.ensures.point in
    ap (λ n. record { line = n; column = c.args.at - slice_index_or c.as_slice-starts.result.now (c.count_up_to-line.result - 1) 0 + 1 }) f.counts
    ∙ (ap (λ n. record { line = count_to c.args.at c.as_slice-starts.result.now; column = c.args.at - n + 1 }) f.last
    ∙ ap (λ ls. line_col_of ls c.args.at) c.as_slice-starts.ensures.value)
