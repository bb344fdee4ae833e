use Rattle.std.proofs.Common.{◌+◌, ◌∙◌, ◌++◌, ◌∷◌, [], Bool, false, List, sym, ap, drop, append_assoc, append-nil, arith}
use Rattle.sx_rv_asm.specs.Items.{form_size}
use Rattle.sx_rv_asm.specs.Labels.{place_in}
use Rattle.sx_rv_asm.specs.Layout.{nears_from}
use Rattle.sx_rv_asm.proofs.Passes.{far_next, nears_next_from, nears_end}
use Rattle.sx_rv_asm.proofs.assembly.near_forms.Goals as goal

pub overflow_cast-address : goal.overflow_cast-address
overflow_cast-address c =
    let n = far_next c.loop-item.item-index c.args.items.now c.item-item.result c.loop-item-test.true c.item-item.is in
    omega (arith, n, c.requires, c.loop-item.invariant.sizes)

pub overflow_add-address : goal.overflow_add-address
overflow_add-address c =
    let n = far_next c.loop-item.item-index c.args.items.now c.item-item.result c.loop-item-test.true c.item-item.is in
    omega (arith, n, c.requires, c.loop-item.invariant.sizes, c.size.ensures)

pub loop-item-preserved : goal.loop-item-preserved
loop-item-preserved c =
    let k = c.loop-item.item-index in
    let items = c.args.items.now in
    let at = c.loop-item.address in
    let n = far_next k items c.item-item.result c.loop-item-test.true c.item-item.is in
    let m = nears_next_from k items c.item-item.result c.loop-item-test.true c.item-item.is (place_in c.args.far.now) at in
    let rest : List Bool = nears_from (place_in c.args.far.now) (at + form_size false c.item-item.result) (drop (k + 1) items) in
    record {
      sizes = omega (arith, n, c.loop-item.invariant.sizes, c.size.ensures);
      forms =
          ap (λ a. c.push.new.self.items ++ nears_from (place_in c.args.far.now) (at + a) (drop (k + 1) items)) c.size.ensures
          ∙ ap (λ x. x ++ rest) c.in_ok-push.ensures.items
          ∙ append_assoc c.loop-item.nears.items (c.is_near.result ∷ []) rest
          ∙ ap (λ b. c.loop-item.nears.items ++ (b ∷ rest)) c.is_near.ensures
          ∙ ap (λ x. c.loop-item.nears.items ++ x) (sym m)
          ∙ c.loop-item.invariant.forms;
    }

pub returns : goal.returns
returns c =
    sym (append-nil c.loop-item.nears.items)
    ∙ ap (λ x. c.loop-item.nears.items ++ x) (sym (nears_end (place_in c.args.far.now) c.loop-item.address c.loop-item.item-index c.args.items.now c.loop-item-test.false))
    ∙ c.loop-item.invariant.forms
