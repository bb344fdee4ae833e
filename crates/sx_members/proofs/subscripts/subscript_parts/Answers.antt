use Rattle.std.proofs.Common.{◌≡◌, ℕ, List, Option, length, ap, sym, subst, ◌∙◌}
use Rattle.sx_tree.specs.declared.declarations.Accessor.{Accessor}
use Rattle.sx_scope.specs.declared.walk.Walk.{Walk}
use Rattle.sx_scope.specs.Verdict.{Answers, both_by, typed, typed_part}
use Rattle.sx_functions.specs.declared.accessing.Accessed.{Accessed}
use Rattle.sx_functions.specs.Accessors.{run_accessors}
use Rattle.sx_members.specs.Members.{HeadParts, known_of_head, parameters_of}
use Rattle.sx_members.specs.Variables.{accessed}
use Rattle.sx_members.proofs.subscripts.subscript_parts.Goals as goal

pub returns : goal.returns
returns c =
    let run = λ (a : Accessed) (xs : List Accessor) (w : Walk). run_accessors c.args.declarations.now c.args.names a (typed tt w) xs in
    let stood = λ (from : ℕ) (o : Option HeadParts). accessed c.args.owner c.args.node (known_of_head o) (parameters_of o) from in
    let behind = λ (o : Option HeadParts) (w : Walk). run (stood (length c.args.walk.now.locals) o) c.args.subscript.now.accessors w in
    let now = c.accessors-accessors.new.walk in
    let before = c.subscript_head.new.walk in
    let result = c.accessors-accessors.result in
    let stands : c.in_ok-accessed.accessed ≡ stood (length c.args.walk.now.locals) (typed_part c.in_ok-head.head) =
    c.in_ok-accessed.ensures ∙ ap (λ (n : ℕ). stood n (typed_part c.in_ok-head.head)) c.len-from.ensures in
    let listed = subst (λ (xs : List Accessor). Answers result now (run c.in_ok-accessed.accessed xs before)) c.as_slice-list.ensures c.accessors-accessors.ensures in
    subst (λ v. Answers c.joined.result now (both_by v behind)) (sym c.in_ok-head.ensures)
    (c.joined.ensures behind before now (subst (λ (a : Accessed). Answers result now (run a c.args.subscript.now.accessors before)) stands listed))
