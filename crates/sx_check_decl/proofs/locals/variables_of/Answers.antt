use Rattle.std.proofs.Common.{◌≡◌, rules, List, ℕ, sym, subst}
use Rattle.std.specs.List.Sorted.{IsStrictlyIncreasing}
use Rattle.sx_check_decl.specs.Locals.{HaveTheSame, variables_of}
use Rattle.sx_check_decl.proofs.EachOnce.{each_once, nodes_in_order}
use Rattle.sx_check_decl.proofs.locals.variables_of.Goals as goal

pub returns : goal.returns
returns c =
    let all : c.put_functions.new.variables.items ≡ variables_of c.args.top.now c.args.functions.now = search rules in
    let once = each_once _ _ _ c.sort_unstable.ensures.permutation c.sort_unstable.ensures.sorted c.dedup.ensures.filtered in
    let same = subst (λ (xs : List ℕ). HaveTheSame xs c.dedup.new.self.items × IsStrictlyIncreasing c.dedup.new.self.items) all once in
    nodes_in_order (variables_of c.args.top.now c.args.functions.now) c.as_slice.result.now c.nodes_of.result
    (subst (λ (zs : List ℕ). HaveTheSame (variables_of c.args.top.now c.args.functions.now) zs × IsStrictlyIncreasing zs) (sym c.as_slice.ensures.value) same) c.nodes_of.ensures
