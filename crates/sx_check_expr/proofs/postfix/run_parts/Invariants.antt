use Rattle.std.proofs.Common.{◌≡◌, ◌+◌, ◌<◌, ◌^◌, map, length}
use Rattle.sx_scope.specs.Verdict.{found}
use Rattle.sx_calls.specs.Parts.{own_nodes}
use Rattle.sx_check_expr.specs.Judge.{judged_part, run_parts}
use Rattle.sx_check_expr.proofs.postfix.run_parts.Given as goal

abbrev pub invariant-parts : goal.invariant-parts
invariant-parts g l =
    (run_parts l.declarations l.place l.asked l.start l.site l.this (found l.value l.walk) (map (judged_part l.declarations) l.parts) ≡ run_parts l.declarations l.place l.asked l.start l.site l.fn.this (found l.fn.value l.fn.walk) (map (judged_part l.declarations) l.fn.parts))
    × (l.left ≡ own_nodes (map (judged_part l.declarations) l.parts))
    × (l.start + l.left < 2 ^ 32)

abbrev pub decreases-parts : goal.decreases-parts
decreases-parts g l = length l.parts
