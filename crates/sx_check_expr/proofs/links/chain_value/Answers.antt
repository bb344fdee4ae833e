use Rattle.std.proofs.Common.{◌≡◌, ◌∙◌, Err, length, map, refl, sym, ap, subst}
use Rattle.std.proofs.lemmas.Result.{err_from_is_err_and}
use Rattle.sx_typed.specs.declared.code.Expr.{Expr}
use Rattle.sx_scope.specs.declared.walk.Use.TheVariants as uses
use Rattle.sx_scope.specs.Verdict.{Verdict, Answers, found, ◌▷◌}
use Rattle.sx_scope.specs.Walks.{advanced, node}
use Rattle.sx_calls.specs.Operators.{given, run_links}
use Rattle.sx_check_expr.specs.Judge.{judged_expr, judged_link}
use Rattle.sx_check_expr.proofs.Stops.{run_stops, then_stops}
use Rattle.sx_check_expr.proofs.Runs.{chain_is, links_stay}
use Rattle.sx_check_expr.proofs.links.chain_value.Goals as goal

pub returns-in_err-left : goal.returns-in_err-left
returns-in_err-left g c =
    let p = err_from_is_err_and c.from_residual-in_err-left.result c.from_residual-in_err-left.ensures.1 in
    let d = c.args.declarations.now in
    let place = c.args.place in
    let w = c.args.walk.now in
    let w1 = c.take_nodes.new.self in
    let now = c.judge_expr.new.walk in
    let start = c.in_ok-start.start in
    let ls = map (judged_link d) c.args.links.now in
    let asks = c.asked_first-wanted.result in
    let first = (judged_expr d c.args.first.now).value place asks uses.Kept w1 in
    let walk : w1 ≡ advanced (length c.args.links.now) w = c.in_ok-start.ensures.walk in
    let e = c.in_err-left.field-0.0 in
    rw (p.1, p.2) (subst (λ (v : Verdict Expr). Answers {A = Expr} (Err e) now v) (chain_is d place c.args.asked asks start c.args.site c.args.first.now c.args.links.now w w1 walk c.in_ok-start.ensures.node (c.asked_first-wanted.ensures d))
    (then_stops e now now (given (node start) c.args.asked) (run_links place start c.args.site first ls)
    (run_stops e now now (λ (v : Verdict Expr). run_links place start c.args.site v ls) first _ (λ fs u. links_stay place start c.args.site ls e fs u) refl c.in_err-left.ensures)))

pub returns-in_err-whole : goal.returns-in_err-whole
returns-in_err-whole g c =
    let p = err_from_is_err_and c.from_residual-in_err-whole.result c.from_residual-in_err-whole.ensures.1 in
    let d = c.args.declarations.now in
    let place = c.args.place in
    let w = c.args.walk.now in
    let w1 = c.take_nodes.new.self in
    let now = c.run_links.new.walk in
    let start = c.in_ok-start.start in
    let ls = map (judged_link d) c.args.links.now in
    let asks = c.asked_first-wanted.result in
    let walk : w1 ≡ advanced (length c.args.links.now) w = c.in_ok-start.ensures.walk in
    let e = c.in_err-whole.field-0.0 in
    rw (p.1, p.2) (subst (λ (v : Verdict Expr). Answers {A = Expr} (Err e) now v)
    (ap (λ (v : Verdict Expr). run_links place start c.args.site v ls ▷ given (node start) c.args.asked) (sym c.in_ok-left.ensures)
    ∙ chain_is d place c.args.asked asks start c.args.site c.args.first.now c.args.links.now w w1 walk c.in_ok-start.ensures.node (c.asked_first-wanted.ensures d))
    (then_stops e now now (given (node start) c.args.asked) (run_links place start c.args.site (found c.in_ok-left.left c.judge_expr.new.walk) ls) c.in_err-whole.ensures))

pub returns : goal.returns
returns g c =
    let d = c.args.declarations.now in
    let place = c.args.place in
    let w = c.args.walk.now in
    let w1 = c.take_nodes.new.self in
    let now = c.run_links.new.walk in
    let start = c.in_ok-start.start in
    let ls = map (judged_link d) c.args.links.now in
    let asks = c.asked_first-wanted.result in
    let walk : w1 ≡ advanced (length c.args.links.now) w = c.in_ok-start.ensures.walk in
    subst (λ (v : Verdict Expr). Answers {A = Expr} c.give_found.result now v)
    (ap (λ (v : Verdict Expr). v ▷ given (node start) c.args.asked) (sym c.in_ok-whole.ensures)
    ∙ ap (λ (v : Verdict Expr). run_links place start c.args.site v ls ▷ given (node start) c.args.asked) (sym c.in_ok-left.ensures)
    ∙ chain_is d place c.args.asked asks start c.args.site c.args.first.now c.args.links.now w w1 walk c.in_ok-start.ensures.node (c.asked_first-wanted.ensures d))
    c.give_found.ensures
