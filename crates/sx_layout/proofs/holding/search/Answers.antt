use Rattle.std.proofs.Common.{rules, ◌<◌, length, get_or, Some, None, true, false, ap, subst, ◌∙◌, arith}
use Rattle.std.proofs.lemmas.Option.{slice_get-get_or, get_or_from_slice_get}
use Rattle.sx_types.specs.declared.types.Structure.{Structure}
use Rattle.sx_layout.specs.Searching.{IsSearch}
use Rattle.sx_layout.proofs.Lists.{in_range, none_in}
use Rattle.sx_layout.proofs.Searches.{number_within, after_part, number_done, found}
use Rattle.sx_layout.proofs.holding.search.Goals as goal

pub bounds-structures-number : goal.bounds-structures-number
bounds-structures-number c =
    let state = subst (λ opened. IsSearch c.args.structures.now c.args.widths.now c.args.root c.loop-number.marks opened) c.in-Some.ensures.items c.loop-number.invariant in
    number_within c.args.structures.now c.args.widths.now c.args.root c.in-Some.number c.loop-number.marks c.pop.new.self.items state c.requires.root

pub offset_bounds-structures-number : goal.offset_bounds-structures-number
offset_bounds-structures-number c =
    let state = subst (λ opened. IsSearch c.args.structures.now c.args.widths.now c.args.root c.loop-number.marks opened) c.in-Some.ensures.items c.loop-number.invariant in
    let less : c.in-Some.number < length c.args.structures.now = number_within c.args.structures.now c.args.widths.now c.args.root c.in-Some.number c.loop-number.marks c.pop.new.self.items state c.requires.root in
    search rules

pub loop-number-preserved : goal.loop-number-preserved
loop-number-preserved c =
    let less = number_within c.args.structures.now c.args.widths.now c.args.root c.in-Some.number c.loop-field.marks c.loop-field.opened.items c.loop-field.invariant.0 c.requires.root in
    let here = in_range c.args.structures.now c.in-Some.number less in
    number_done c.args.structures.now c.args.widths.now c.args.root c.in-Some.number c.loop-field.marks c.loop-field.opened.items c.loop-field.invariant.0 c.as_slice-stored.result.now here.0 here.1
    (c.as_slice-stored.ensures ∙ ap (λ (s : Structure). s.stored) (get_or_from_slice_get c.args.structures.now c.in-Some.number here.0 c.index-structures-number.result here.1))
    (λ n g h at. c.loop-field.invariant.1 n g (let done = c.loop-field-test.false in omega arith) at)

pub loop-field-preserved : goal.loop-field-preserved
loop-field-preserved c =
    let less = number_within c.args.structures.now c.args.widths.now c.args.root c.in-Some.number c.loop-field.marks c.loop-field.opened.items c.loop-field.invariant.0 c.requires.root in
    let here = in_range c.args.structures.now c.in-Some.number less in
    after_part c.args.structures.now c.args.widths.now c.args.root c.in-Some.number c.loop-field.marks c.loop-field.opened.items c.loop-field.invariant.0 here.0 c.as_slice-stored.result.now c.loop-field.field-index
    (get_or c.as_slice-stored.result.now c.loop-field.field-index (record { name = 0; ty = None })) here.1
    (c.as_slice-stored.ensures ∙ ap (λ (s : Structure). s.stored) (get_or_from_slice_get c.args.structures.now c.in-Some.number here.0 c.index-structures-number.result here.1))
    (slice_get-get_or c.as_slice-stored.result.now c.loop-field.field-index (record { name = 0; ty = None }) c.loop-field-test.true)
    c.loop-field.invariant.1 _ c.loop-field.invariant.2 c.mark.new.marks c.mark.new.opened.items c.in_ok-mark.ensures

pub returns : goal.returns
returns c =
    let state = subst (λ opened. IsSearch c.args.structures.now c.args.widths.now c.args.root c.loop-number.marks opened) (none_in c.loop-number.opened.items (let none = c.in_default.ensures.cases.0 in let ok = c.loop-number.opened.ok in omega arith)) c.loop-number.invariant in
    let at = slice_get-get_or c.loop-number.marks c.args.root false (let many = state.many in let less = c.requires.root in omega arith) in (
      λ marked. state.held c.args.root (at ∙ ap Some marked),
      λ holds. let e = found c.args.structures.now c.args.widths.now c.requires.widths c.args.root c.loop-number.marks state holds in get_or_from_slice_get c.loop-number.marks c.args.root true false e,
    )
