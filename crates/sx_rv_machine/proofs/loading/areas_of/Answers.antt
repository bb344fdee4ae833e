use Rattle.std.proofs.Common.{◌≡◌, ℕ, ◌<◌, ◌≤◌, All, List, length, get_or, subst, ap, sym, ◌∙◌, arith}
use Rattle.std.proofs.lemmas.List.{get_or-map, length-map}
use Rattle.std.proofs.lemmas.List.Elements.{All-get_or}
use Rattle.sx_elf.specs.Loading.{part_in, parts_in, IsPlaced}
use Rattle.sx_elf.specs.declared.loadable.Segment.{Segment}
use Rattle.sx_rv_machine.proofs.loading.areas_of.Goals as goal

-- a segment's bytes fit its size
fits : (segments : List Segment) (i : ℕ) (s : Segment) → i < length segments → s ≡ get_or segments i s → All IsPlaced (parts_in segments) → length s.bytes.items ≤ s.size
fits segments i s lt at placed =
    let in_parts : i < length (parts_in segments) = omega (arith, lt, length-map segments part_in) in
    let p = All-get_or IsPlaced (parts_in segments) i (part_in s) in_parts placed in
    let same = get_or-map part_in segments i s (part_in s) lt ∙ ap part_in (sym at) in
    (subst IsPlaced same p).fits

pub area_from-requires : goal.area_from-requires
area_from-requires c =
    let l = c.loop-segment in
    fits c.args.segments.now l.segment-index c.segment-item.result c.loop-segment-test.true c.segment-item.is l.invariant.placed
