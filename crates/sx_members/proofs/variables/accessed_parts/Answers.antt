use Rattle.std.proofs.Common.{List, Option, [], length, sym, subst}
use Rattle.sx_tree.specs.declared.declarations.Accessor.{Accessor}
use Rattle.sx_scope.specs.declared.walk.Walk.{Walk}
use Rattle.sx_scope.specs.Verdict.{Answers, both_by, typed}
use Rattle.sx_functions.specs.declared.accessing.Accessed.{Accessed}
use Rattle.sx_functions.specs.Accessors.{run_accessors}
use Rattle.sx_members.specs.Variables.{VariableParts, accessed, known_of_parts}
use Rattle.sx_members.proofs.variables.accessed_parts.Goals as goal

pub returns : goal.returns
returns c =
    let run = λ (a : Accessed) (xs : List Accessor) (w : Walk). run_accessors c.args.declarations.now c.args.names a (typed tt w) xs in
    let behind = λ (o : Option (Unit {0} × VariableParts)) (w : Walk). run (accessed c.args.owner c.args.node (known_of_parts o) [] (length w.locals)) c.args.written.now.accessors w in
    let now = c.accessors-accessors.new.walk in
    let before = c.checked_parts.new.walk in
    let result = c.accessors-accessors.result in
    let listed = subst (λ (xs : List Accessor). Answers result now (run c.accessed_by-accessed.result xs before)) c.as_slice-list.ensures c.accessors-accessors.ensures in
    subst (λ v. Answers c.joined.result now (both_by v behind)) (sym c.in_ok-parts.ensures)
    (c.joined.ensures behind before now (subst (λ (a : Accessed). Answers result now (run a c.args.written.now.accessors before)) c.accessed_by-accessed.ensures listed))
