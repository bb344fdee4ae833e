use Rattle.std.proofs.Common.{rules}
use Rattle.std.proofs.lemmas.List.Sorted.{answers_always}
use Rattle.sx_typed.specs.declared.program.Function.{Function}
use Rattle.sx_typed.specs.Functions.{RiseByNode}
use Rattle.sx_typed.proofs.Found.{searched}
use Rattle.sx_typed.proofs.program.Typed.place_of.Goals as goal

-- the closure gives a function's node, and the nodes rise
pub returns : goal.returns
returns c =
    let functions = c.as_slice.result.now in
    let rise : RiseByNode functions = rw c.as_slice.ensures c.args.self.now.in_order in
    let facts = c.binary_search_by_key.ensures in
    let by_node = facts.position (λ (f : Function). f.node.0) (answers_always _ _ _ (λ f a r g called. search rules)) in
    rw (← c.as_slice.ensures) (searched (λ (f : Function). f.node.0) functions rise c.args.node.0 _ facts.bound by_node)
