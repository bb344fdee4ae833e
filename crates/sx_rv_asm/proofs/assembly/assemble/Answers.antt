use Rattle.std.proofs.Common.{◌∙◌, length, sym, ap, arith}
use Rattle.sx_rv_asm.specs.Layout.{nears_of}
use Rattle.sx_rv_asm.proofs.Sizes.{far_short, nears_short, length_nears_of}
use Rattle.sx_rv_asm.proofs.Assembled.{code_is}
use Rattle.sx_rv_asm.proofs.assembly.assemble.Goals as goal

pub choose_forms-requires : goal.choose_forms-requires
choose_forms-requires c = rw c.deref.ensures.value (far_short c.args.items.now.items c.requires)

pub place_labels-requires-clause-same_length : goal.place_labels-requires-clause-same_length
place_labels-requires-clause-same_length c =
    ap length (c.deref-3.ensures.value ∙ c.in_ok-nears.ensures) ∙ ap (λ z. length (nears_of z)) c.deref.ensures.value ∙ length_nears_of c.args.items.now.items ∙ sym (ap length c.deref-2.ensures.value)

pub place_labels-requires-clause-short : goal.place_labels-requires-clause-short
place_labels-requires-clause-short c =
    let short = nears_short c.args.items.now.items c.requires in
    rw (c.deref-2.ensures.value, c.deref-3.ensures.value, c.in_ok-nears.ensures, c.deref.ensures.value) (omega (arith, short))

pub put_items-requires-clause-same_length : goal.put_items-requires-clause-same_length
put_items-requires-clause-same_length c =
    ap length (c.deref-5.ensures.value ∙ c.in_ok-nears.ensures) ∙ ap (λ z. length (nears_of z)) c.deref.ensures.value ∙ length_nears_of c.args.items.now.items ∙ sym (ap length c.deref-4.ensures.value)

pub put_items-requires-clause-short : goal.put_items-requires-clause-short
put_items-requires-clause-short c = rw (c.deref-4.ensures.value, c.deref-5.ensures.value, c.in_ok-nears.ensures, c.deref.ensures.value) (nears_short c.args.items.now.items c.requires)

pub returns : goal.returns
returns c =
    let n = c.in_ok-nears.ensures ∙ ap nears_of c.deref.ensures.value in
    code_is c.in_ok-labels.labels c.args.items.now.items c.deref-2.result.now c.deref-4.result.now c.deref-3.result.now c.deref-5.result.now c.in_ok-put_items.field-0.items
    c.deref-2.ensures.value c.deref-4.ensures.value (c.deref-3.ensures.value ∙ n) (c.deref-5.ensures.value ∙ n) c.in_ok-labels.ensures c.in_ok-put_items.ensures
