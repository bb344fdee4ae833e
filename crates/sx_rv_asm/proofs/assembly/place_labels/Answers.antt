use Rattle.std.proofs.Common.{◌+◌, ◌∙◌, Bool, false, refl, sym, ap, drop, get_or, arith}
use Rattle.sx_rv_asm.specs.Items.{form_size}
use Rattle.sx_rv_asm.specs.Labels.{place_in}
use Rattle.sx_rv_asm.specs.Layout.{place_from}
use Rattle.sx_rv_asm.proofs.Passes.{size_next, place_next, place_end}
use Rattle.sx_rv_asm.proofs.assembly.place_labels.Goals as goal

pub loop-k-init : goal.loop-k-init
loop-k-init c = record {
  sizes = omega arith;
  places = λ q. ap (λ x. place_from q 0 x c.args.items.now c.args.nears.now) (c.new-labels.ensures.none q);
}

pub overflow_cast-address : goal.overflow_cast-address
overflow_cast-address c =
    let n = size_next c.loop-k.k c.args.items.now c.args.nears.now c.index-items-k.result (get_or c.args.nears.now c.loop-k.k false) c.requires.same_length c.loop-k-test.true c.index-items-k.is refl in
    omega (arith, n, c.requires.short, c.loop-k.invariant.sizes)

pub overflow_add-address : goal.overflow_add-address
overflow_add-address c =
    let n = size_next c.loop-k.k c.args.items.now c.args.nears.now c.index-items-k.result (get_or c.args.nears.now c.loop-k.k false) c.requires.same_length c.loop-k-test.true c.index-items-k.is refl in
    omega (arith, n, c.requires.short, c.loop-k.invariant.sizes, c.size.ensures)

pub loop-k-preserved : goal.loop-k-preserved
loop-k-preserved c =
    let near : Bool = get_or c.args.nears.now c.loop-k.k false in
    let n = size_next c.loop-k.k c.args.items.now c.args.nears.now c.index-items-k.result near c.requires.same_length c.loop-k-test.true c.index-items-k.is refl in
    record {
      sizes = omega (arith, n, c.loop-k.invariant.sizes, c.size.ensures);
      places = λ q.
          ap (λ a. place_from q (c.loop-k.address + a) (place_in c.note.new.self q) (drop (c.loop-k.k + 1) c.args.items.now) (drop (c.loop-k.k + 1) c.args.nears.now)) c.size.ensures
          ∙ ap (λ x. place_from q (c.loop-k.address + form_size near c.index-items-k.result) x (drop (c.loop-k.k + 1) c.args.items.now) (drop (c.loop-k.k + 1) c.args.nears.now)) (c.in_ok-note.ensures.places q)
          ∙ sym (place_next c.loop-k.k c.args.items.now c.args.nears.now c.index-items-k.result near c.requires.same_length c.loop-k-test.true c.index-items-k.is refl q c.loop-k.address (place_in c.loop-k.labels q))
          ∙ c.loop-k.invariant.places q;
    }

pub returns : goal.returns
returns c = record {
  places = λ q. sym (place_end q c.loop-k.address (place_in c.loop-k.labels q) c.loop-k.k c.args.items.now (drop c.loop-k.k c.args.nears.now) c.loop-k-test.false) ∙ c.loop-k.invariant.places q;
}
