use Rattle.std.proofs.Common.{◌≡◌, ◌<◌, List, Some, length, set, ap, sym, ◌∙◌, arith}
use Rattle.sx_rv_machine.specs.Memory.{Area, with_bytes}
use Rattle.sx_rv_machine.proofs.Areas.{put_at}
use Rattle.sx_rv_machine.proofs.memory.put_bytes.Goals as goal

pub returns-then-covers-clause-put : goal.returns-then-covers-clause-put
returns-then-covers-clause-put c =
    let l = c.loop-index in
    let same : l.areas ≡ c.args.areas.now = l.invariant.same in
    let lt : l.index < length l.areas = omega (arith, c.loop-index-test.true, ap (λ (x : List Area). length x) same) in
    ap (λ (x : List Area). with_bytes x c.args.address c.args.new.now) (sym same)
    ∙ put_at l.areas l.index c.args.address c.args.new.now _ _ lt (sym c.covers.ensures ∙ c.if-covers.true) l.invariant.passed
    ∙ ap (λ (x : Area). Some (set l.areas l.index x)) (sym c.put.ensures)
