use Rattle.std.proofs.Common.{◌≡◌, ◌≤◌, map, length}
use Rattle.sx_scope.specs.Verdict.{found}
use Rattle.sx_calls.specs.Operators.{run_links}
use Rattle.sx_check_expr.specs.Judge.{judged_link}
use Rattle.sx_check_expr.proofs.links.run_links.Given as goal

abbrev pub invariant-links : goal.invariant-links
invariant-links g l =
    (run_links l.place l.start l.site (found l.left l.walk) (map (judged_link l.declarations) l.links) ≡ run_links l.place l.start l.site (found l.fn.left l.fn.walk) (map (judged_link l.declarations) l.fn.links))
    × (length l.links ≤ length l.fn.links)

abbrev pub decreases-links : goal.decreases-links
decreases-links g l = length l.links
