use Rattle.std.proofs.Common.{◌+◌, ◌<◌, length, get_or, Some, None, option_and_then, refl, ap, sym, ◌∙◌, arith, rules}
use Rattle.sx_types.specs.declared.types.Field.{Field}
use Rattle.sx_types.specs.Words.{words_of}
use Rattle.sx_layout.specs.declared.walking.Sum.{Sum}
use Rattle.sx_layout.proofs.Sums.{narrow_some, sum_within, reads, all_read, next_sum, goes_on, too_wide, stops, ends}
use Rattle.sx_layout.proofs.Parts.{part_right}
use Rattle.sx_layout.proofs.walking.add_up.Goals as goal

pub offset_bounds-structures-sum : goal.offset_bounds-structures-sum
offset_bounds-structures-sum c = let h : c.args.sum.structure < length c.args.structures.now = sum_within _ c.args.sum c.requires.sum in search rules

pub bounds-structures-sum : goal.bounds-structures-sum
bounds-structures-sum c = sum_within _ c.args.sum c.requires.sum

pub loop-next-init : goal.loop-next-init
loop-next-init c = c.requires.sum

-- the words of the property
pub overflow_add-words : goal.overflow_add-words
overflow_add-words c =
    let known = c.in-Words-Some.ensures in
    let field : Field = get_or c.as_slice-stored.result.now c.loop-next.next (record { name = 0; ty = None }) in
    let few = c.loop-next.invariant.few in
    let most = (narrow_some (option_and_then (words_of c.args.structures.now) field.ty) c.in-Words-Some.more
    (part_right c.args.structures.now c.args.progress.now c.requires.many c.requires.right field.ty c.in-Words-Some.field-0 known.0 known.1 ∙ c.in-Words-Some.field-0-is)).1 in
    omega arith

pub loop-next-preserved : goal.loop-next-preserved
loop-next-preserved c =
    let known = c.in-Words-Some.ensures in
    let sum : Sum = record { structure = c.args.sum.structure; next = c.loop-next.next; words = c.loop-next.words } in
    let field : Field = get_or c.as_slice-stored.result.now c.loop-next.next (record { name = 0; ty = None }) in
    next_sum c.args.structures.now sum c.loop-next.invariant field c.in-Words-Some.more
    (reads c.args.structures.now sum c.loop-next.invariant c.index-structures-sum.result c.as_slice-stored.result.now c.as_slice-stored.ensures (record { name = 0; ty = None }) c.loop-next-test.true)
    (part_right c.args.structures.now c.args.progress.now c.requires.many c.requires.right field.ty c.in-Words-Some.field-0 known.0 known.1 ∙ c.in-Words-Some.field-0-is)
    c.if-words-gt-MOST_WORDS.false

pub returns : goal.returns
returns c =
    let sum : Sum = record { structure = c.args.sum.structure; next = c.loop-next.next; words = c.loop-next.words } in
    ap Some c.max.ensures ∙ sym (ends c.args.structures.now sum c.loop-next.invariant
    (all_read c.args.structures.now sum c.loop-next.invariant c.index-structures-sum.result c.as_slice-stored.result.now c.as_slice-stored.ensures c.loop-next-test.false))

pub returns-in-Words-None : goal.returns-in-Words-None
returns-in-Words-None c =
    let known = c.in-Words-None.ensures in
    let sum : Sum = record { structure = c.args.sum.structure; next = c.loop-next.next; words = c.loop-next.words } in
    let field : Field = get_or c.as_slice-stored.result.now c.loop-next.next (record { name = 0; ty = None }) in
    sym (stops c.args.structures.now sum c.loop-next.invariant field
    (reads c.args.structures.now sum c.loop-next.invariant c.index-structures-sum.result c.as_slice-stored.result.now c.as_slice-stored.ensures (record { name = 0; ty = None }) c.loop-next-test.true)
    (part_right c.args.structures.now c.args.progress.now c.requires.many c.requires.right field.ty c.in-Words-None.field-0 known.0 known.1 ∙ c.in-Words-None.field-0-is))

pub returns-then-words-gt-MOST_WORDS : goal.returns-then-words-gt-MOST_WORDS
returns-then-words-gt-MOST_WORDS c =
    let known = c.in-Words-Some.ensures in
    let is = c.loop-next.invariant in
    let sum : Sum = record { structure = c.args.sum.structure; next = c.loop-next.next; words = c.loop-next.words } in
    let field : Field = get_or c.as_slice-stored.result.now c.loop-next.next (record { name = 0; ty = None }) in
    sym (too_wide c.args.structures.now sum.structure is.holder (sum.words + c.in-Words-Some.more) _ is.found
    (goes_on c.args.structures.now sum is field
    (reads c.args.structures.now sum is c.index-structures-sum.result c.as_slice-stored.result.now c.as_slice-stored.ensures (record { name = 0; ty = None }) c.loop-next-test.true)
    c.in-Words-Some.more
    (part_right c.args.structures.now c.args.progress.now c.requires.many c.requires.right field.ty c.in-Words-Some.field-0 known.0 known.1 ∙ c.in-Words-Some.field-0-is))
    c.if-words-gt-MOST_WORDS.true)

pub returns-in-Structure : goal.returns-in-Structure
returns-in-Structure c =
    let is = c.loop-next.invariant in
    let sum : Sum = record { structure = c.args.sum.structure; next = c.loop-next.next; words = c.loop-next.words } in
    let field : Field = get_or c.as_slice-stored.result.now c.loop-next.next (record { name = 0; ty = None }) in (
      refl,
      is,
      (
        is.holder,
        field,
        sum.next,
        is.found,
        reads c.args.structures.now sum is c.index-structures-sum.result c.as_slice-stored.result.now c.as_slice-stored.ensures (record { name = 0; ty = None }) c.loop-next-test.true,
        c.in-Structure.ensures.0,
      ),
      c.in-Structure.ensures.1,
    )
