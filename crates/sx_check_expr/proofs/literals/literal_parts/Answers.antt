use Rattle.std.proofs.Common.{ℕ, sym, subst}
use Rattle.sx_scope.specs.declared.walk.Walk.{Walk}
use Rattle.sx_scope.specs.Verdict.{Answers, both, both_by}
use Rattle.sx_bodies.specs.Literals.{gives_by, inside_literal, judged_signature, parameters, result}
use Rattle.sx_bodies.specs.Statements.{body}
use Rattle.sx_check_expr.specs.Judge.{judged_statements}
use Rattle.sx_check_expr.proofs.literals.literal_parts.Goals as goal

pub returns : goal.returns
returns g c =
    let d = c.args.declarations.now in
    let inner = λ (k : ℕ) (w : Walk). both_by (result d c.args.asked (judged_signature d c.args.signature.now) w) (λ t. body (inside_literal c.args.place c.args.used k (gives_by t)) (judged_statements d c.args.statements.now)) in
    let now = c.result_and_body-inner.new.walk in
    let before = c.parameters.new.walk in
    subst (λ (k : ℕ). Answers c.joined.result now (both (parameters d c.args.asked (judged_signature d c.args.signature.now) c.args.walk.now) (inner k))) c.len-outside.ensures
    (subst (λ v. Answers c.joined.result now (both v (inner c.len-outside.result))) (sym c.in_ok-parameters.ensures)
    (c.joined.ensures (λ _. inner c.len-outside.result) before now c.result_and_body-inner.ensures))
