use Rattle.std.proofs.Common.{◌≡◌, ◌+◌, map, length}
use Rattle.sx_scope.specs.declared.declarations.Declarations.{Declarations}
use Rattle.sx_calls.specs.Parts.{own_nodes}
use Rattle.sx_check_expr.specs.Judge.{judged_part}
use Rattle.sx_check_expr.proofs.postfix.own_nodes.Given as goal

abbrev pub invariant-parts : goal.invariant-parts
invariant-parts l = (d : Declarations) → l.count + own_nodes (map (judged_part d) l.parts) ≡ own_nodes (map (judged_part d) l.fn.parts)

abbrev pub decreases-parts : goal.decreases-parts
decreases-parts l = length l.parts
