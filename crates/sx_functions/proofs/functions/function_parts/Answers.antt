use Rattle.std.proofs.Common.{◌≡◌, Option, List, None, sym, ap, subst, ◌∙◌}
use Rattle.sx_heads.specs.declared.parameters.HeadParameter.{HeadParameter}
use Rattle.sx_scope.specs.declared.walk.Place.{Place}
use Rattle.sx_scope.specs.Verdict.{Answers, both_by, typed_part}
use Rattle.sx_types.specs.declared.types.Ty.{Ty}
use Rattle.sx_functions.specs.Functions.{given_by}
use Rattle.sx_functions.specs.Places.{body_place, body_value}
use Rattle.sx_functions.proofs.functions.function_parts.Goals as goal

pub returns : goal.returns
returns c =
    let d = c.args.declarations.now in
    let f = c.args.function.now in
    let now = c.body_value-body.new.walk in
    let body = λ (h : Option (List HeadParameter × Ty)). body_value d (body_place c.args.owner f.mutating None (given_by h)) f.body in
    let place : c.body_place-place.result ≡ body_place c.args.owner f.mutating None (given_by (typed_part c.in_ok-head.head)) =
    c.body_place-place.ensures ∙ ap (body_place c.args.owner f.mutating None) c.given_by-gives.ensures in
    let held = subst (λ (p : Place). Answers c.body_value-body.result now (body_value d p f.body c.narrow_head.new.walk)) place c.body_value-body.ensures in
    subst (λ v. Answers c.joined.result now (both_by v body)) (sym c.in_ok-head.ensures) (c.joined.ensures body c.narrow_head.new.walk now held)
