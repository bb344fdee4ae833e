use Rattle.std.proofs.Common.{◌≡◌, ◌∙◌, false, length, ap}
use Rattle.std.proofs.lemmas.List.{length-replicate}
use Rattle.sx_rv_asm.specs.Labels.{place_in}
use Rattle.sx_rv_asm.specs.Layout.{all_far, nears_of, nears_from}
use Rattle.sx_rv_asm.proofs.Assembled.{nears_are, if_ok}
use Rattle.sx_rv_asm.proofs.assembly.choose_forms.Goals as goal

pub place_labels-requires-clause-same_length : goal.place_labels-requires-clause-same_length
place_labels-requires-clause-same_length c =
    ap length (c.deref.ensures.value ∙ c.in_ok-all_far.ensures.items_if_clones_equal (λ y h. h)) ∙ length-replicate (length c.args.items.now) false

pub place_labels-requires-clause-short : goal.place_labels-requires-clause-short
place_labels-requires-clause-short c =
    let b : c.deref.result.now ≡ all_far c.args.items.now = c.deref.ensures.value ∙ c.in_ok-all_far.ensures.items_if_clones_equal (λ y h. h) in
    rw b c.requires

pub returns : goal.returns
returns c =
    let b : c.deref.result.now ≡ all_far c.args.items.now = c.deref.ensures.value ∙ c.in_ok-all_far.ensures.items_if_clones_equal (λ y h. h) in
    if_ok (λ v. v.items ≡ nears_from (place_in c.in_ok-far.far) 0 c.args.items.now) (λ v. v.items ≡ nears_of c.args.items.now) c.near_forms.result
    (λ v e. nears_are c.in_ok-far.far c.args.items.now c.deref.result.now v.items b c.in_ok-far.ensures e) c.near_forms.ensures
