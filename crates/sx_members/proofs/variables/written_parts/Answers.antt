use Rattle.std.proofs.Common.{Option, sym, subst}
use Rattle.sx_types.specs.declared.types.Ty.{Ty}
use Rattle.sx_scope.specs.declared.walk.Asked.{Asked}
use Rattle.sx_scope.specs.Verdict.{Answers, both_by}
use Rattle.sx_members.specs.Variables.{asked_of, initial_value}
use Rattle.sx_members.proofs.variables.written_parts.Goals as goal

pub returns : goal.returns
returns c =
    let value = λ (q : Asked). initial_value c.args.declarations.now q c.args.written.now.value in
    let now = c.initial_value-value.new.walk in
    let before = c.fitting_type.new.walk in
    subst (λ v. Answers c.joined.result now (both_by v (λ (o : Option Ty). value (asked_of o)))) (sym c.in_ok-ty.ensures)
    (c.joined.ensures (λ (o : Option Ty). value (asked_of o)) before now (subst (λ (q : Asked). Answers c.initial_value-value.result now (value q before)) c.asked_of-asked.ensures c.initial_value-value.ensures))
