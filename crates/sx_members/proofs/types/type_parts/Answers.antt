use Rattle.std.proofs.Common.{List, [], sym, subst}
use Rattle.sx_tree.specs.declared.declarations.Member.{Member}
use Rattle.sx_scope.specs.declared.walk.Walk.{Walk}
use Rattle.sx_scope.specs.Verdict.{Answers, both, typed}
use Rattle.sx_members.specs.Members.{nothing_before, run_members}
use Rattle.sx_members.proofs.types.type_parts.Goals as goal

pub returns : goal.returns
returns c =
    let run = λ (ms : List Member) (w : Walk). run_members c.args.declarations.now c.args.names c.args.stops.now c.args.ty (typed [] w) (nothing_before c.args.given) ms in
    let now = c.stored_properties-properties.new.walk in
    subst (λ v. Answers c.joined.result now (both v (run c.args.written.now.members))) (sym c.in_ok-name.ensures)
    (c.joined.ensures (λ _. run c.args.written.now.members) c.args.walk.now now
    (subst (λ (ms : List Member). Answers c.stored_properties-properties.result now (run ms c.args.walk.now)) c.as_slice-list.ensures c.stored_properties-properties.ensures))
