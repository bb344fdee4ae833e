use Rattle.std.proofs.Common.{◌≡◌, ◌+◌, map, arith}
use Rattle.sx_calls.specs.Parts.{own_nodes}
use Rattle.sx_check_expr.specs.Judge.{judged_part}
use Rattle.sx_check_expr.proofs.Steps.{counts, no_parts}
use Rattle.sx_check_expr.proofs.postfix.own_nodes.Goals as goal

pub parts-preserved : goal.parts-preserved
parts-preserved c = λ d.
    let grown : c.in-Some-checked_add.count ≡ c.parts.count + c.own_nodes_of.result = grind arith in
    counts d c.parts.count c.in-Some-checked_add.count c.own_nodes_of.result c.parts.parts.now c.in-Some.rest.now c.in-Some.part.now _ c.in-Some.ensures.cases.0 grown (c.own_nodes_of.ensures d) (c.parts.invariant d)

pub returns-clause-made : goal.returns-clause-made
returns-clause-made c = λ d.
    let none : own_nodes (map (judged_part d) c.parts.parts.now) ≡ 0 = no_parts d c.parts.parts.now c.in_default.ensures.cases in
    let so_far = c.parts.invariant d in
    omega (arith, none, so_far)
