use Rattle.std.proofs.Common.{List, map, sym, subst}
use Rattle.sx_typed.specs.declared.code.Expr.{Expr}
use Rattle.sx_scope.specs.Verdict.{Verdict, Answers, found}
use Rattle.sx_calls.specs.Parts.{JudgedPart}
use Rattle.sx_check_expr.specs.Judge.{judged_part}
use Rattle.sx_check_expr.specs.Steps.{member_step}
use Rattle.sx_check_expr.proofs.Steps.{plain}
use Rattle.sx_check_expr.proofs.postfix.run_plain_member.Goals as goal

pub returns-in-Some : goal.returns-in-Some
returns-in-Some g c =
    let d = c.args.declarations.now in
    subst (λ (ps : List JudgedPart). Answers {A = Expr} c.run_method.result c.run_method.new.walk (member_step d c.args.place c.args.asked c.args.number c.args.site c.args.this (found c.args.value c.args.walk.now) c.args.name ps)) (sym (c.in-Some.ensures.some d)) c.run_method.ensures

pub returns-in-None : goal.returns-in-None
returns-in-None g c =
    let d = c.args.declarations.now in
    subst (λ (v : Verdict Expr). Answers {A = Expr} c.member_found.result c.member_found.new.walk v)
    (sym (plain d c.args.place c.args.asked c.args.number c.args.site c.args.this (found c.args.value c.args.walk.now) c.args.name (map (judged_part d) c.args.rest.now) (c.in-None.ensures.none d))) c.member_found.ensures
