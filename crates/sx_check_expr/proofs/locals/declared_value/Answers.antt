use Rattle.std.proofs.Common.{◌≡◌, true, false, is_some, sym, subst, ◌∙◌}
use Rattle.sx_typed.specs.declared.code.Expr.{Expr}
use Rattle.sx_scope.specs.Verdict.{Verdict, Answers}
use Rattle.sx_scope.specs.WrittenTypes.{judged_option}
use Rattle.sx_bodies.specs.Statements.{is_fresh}
use Rattle.sx_check_expr.specs.Judge.{judged_expr}
use Rattle.sx_check_expr.proofs.FreshLocals.{where_fresh, where_taken}
use Rattle.sx_check_expr.proofs.locals.declared_value.Goals as goal

pub returns-then-is_fresh : goal.returns-then-is_fresh
returns-then-is_fresh g c =
    let d = c.args.declarations.now in
    let l = c.args.local.now in
    let fresh : is_fresh d c.args.place.outside_block l.name.number c.args.walk.now ≡ true = sym c.is_fresh.ensures ∙ c.if-is_fresh.true in
    subst (λ (v : Verdict Expr). Answers c.fresh_local.result c.fresh_local.new.walk v)
    (where_fresh d c.args.place l.name.number l.constant (is_some l.ty) (judged_option d l.ty) (judged_expr d l.value) c.args.node c.args.walk.now fresh) c.fresh_local.ensures

pub returns-else-is_fresh : goal.returns-else-is_fresh
returns-else-is_fresh g c =
    let d = c.args.declarations.now in
    let l = c.args.local.now in
    let taken : is_fresh d c.args.place.outside_block l.name.number c.args.walk.now ≡ false = sym c.is_fresh.ensures ∙ c.if-is_fresh.false in
    where_taken d c.args.place l.name.number l.constant (is_some l.ty) (judged_option d l.ty) (judged_expr d l.value) c.args.node c.args.walk.now taken
