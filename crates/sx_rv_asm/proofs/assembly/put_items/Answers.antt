use Rattle.std.proofs.Common.{◌+◌, ◌∙◌, ◌++◌, ℕ, Bool, false, List, refl, sym, ap, drop, get_or, append_assoc, append-nil, arith}
use Rattle.sx_rv_asm.specs.Items.{form_size}
use Rattle.sx_rv_asm.specs.Forms.{form_of}
use Rattle.sx_rv_asm.specs.Labels.{place_in}
use Rattle.sx_rv_asm.specs.Layout.{code_from}
use Rattle.sx_rv_asm.proofs.Passes.{size_next, code_next, code_end}
use Rattle.sx_rv_asm.proofs.assembly.put_items.Goals as goal

pub put_item-requires : goal.put_item-requires
put_item-requires c = omega (arith, c.requires.short, c.loop-k.invariant.sizes)

pub overflow_cast-address : goal.overflow_cast-address
overflow_cast-address c =
    let n = size_next c.loop-k.k c.args.items.now c.args.nears.now c.index-items-k.result (get_or c.args.nears.now c.loop-k.k false) c.requires.same_length c.loop-k-test.true c.index-items-k.is refl in
    omega (arith, n, c.requires.short, c.loop-k.invariant.sizes)

pub overflow_add-address : goal.overflow_add-address
overflow_add-address c =
    let n = size_next c.loop-k.k c.args.items.now c.args.nears.now c.index-items-k.result (get_or c.args.nears.now c.loop-k.k false) c.requires.same_length c.loop-k-test.true c.index-items-k.is refl in
    omega (arith, n, c.requires.short, c.loop-k.invariant.sizes, c.size.ensures)

pub loop-k-preserved : goal.loop-k-preserved
loop-k-preserved c =
    let k = c.loop-k.k in
    let items = c.args.items.now in
    let nears = c.args.nears.now in
    let item = c.index-items-k.result in
    let near : Bool = get_or nears k false in
    let place : ℕ → ℕ = place_in c.args.labels.now in
    let at = c.loop-k.address in
    let n = size_next k items nears item near c.requires.same_length c.loop-k-test.true c.index-items-k.is refl in
    let m = code_next k items nears item near c.requires.same_length c.loop-k-test.true c.index-items-k.is refl place at in
    let rest : List ℕ = code_from place (at + form_size near item) (drop (k + 1) items) (drop (k + 1) nears) in
    record {
      sizes = omega (arith, n, c.loop-k.invariant.sizes, c.size.ensures);
      bytes =
          ap (λ a. c.put_item.new.code.items ++ code_from place (at + a) (drop (k + 1) items) (drop (k + 1) nears)) c.size.ensures
          ∙ ap (λ x. x ++ rest) c.in_ok-put_item.ensures
          ∙ append_assoc c.loop-k.code.items (form_of place at near item) rest
          ∙ ap (λ x. c.loop-k.code.items ++ x) (sym m)
          ∙ c.loop-k.invariant.bytes;
    }

pub returns : goal.returns
returns c =
    sym (append-nil c.loop-k.code.items)
    ∙ ap (λ x. c.loop-k.code.items ++ x) (sym (code_end (place_in c.args.labels.now) c.loop-k.address c.loop-k.k c.args.items.now (drop c.loop-k.k c.args.nears.now) c.loop-k-test.false))
    ∙ c.loop-k.invariant.bytes
