use Rattle.std.proofs.Common.{Err, sym, ap, subst, ◌∙◌}
use Rattle.std.proofs.lemmas.Result.{err_from_is_err_and}
use Rattle.sx_check_decl.specs.Checked.{IsSettled}
use Rattle.sx_check_decl.specs.Looks.{judged}
use Rattle.sx_check_decl.specs.Program.{Tells}
use Rattle.sx_check_decl.specs.Special.{own_names, special_names}
use Rattle.sx_check_decl.specs.declared.items.Program.{Program}
use Rattle.sx_scope.specs.Verdict.{Answers, Verdict}
use Rattle.sx_check_decl.proofs.Paired.{typed-paired}
use Rattle.sx_check_decl.proofs.Telling.{failing_told, tree_told}
use Rattle.sx_check_decl.proofs.checking.check.Goals as goal

pub returns-in_err-program : goal.returns-in_err-program
returns-in_err-program c =
    let p = err_from_is_err_and c.from_residual-in_err-program.result c.from_residual-in_err-program.ensures.1 in
    let run = ap (judged c.in_ok-settled.settled c.in_ok-own.own) c.as_slice-4.ensures in
    rw (p.1, p.2) (tree_told c.args.tree.now c.in_ok-special.special c.in_ok-own.own c.in_ok-settled.settled (Err c.in_err-program.field-0.0)
    (c.in_ok-special.ensures ∙ ap special_names c.as_slice.ensures.value) (c.in_ok-own.ensures ∙ ap own_names c.as_slice-2.ensures.value)
    (subst (λ is. IsSettled c.in_ok-special.special is c.in_ok-settled.settled) c.as_slice-3.ensures c.in_ok-settled.ensures)
    (failing_told c.args.tree.now c.in_ok-settled.settled.declarations.types c.in_err-program.field-0.0 c.judge_program.new.walk (judged c.in_ok-settled.settled c.in_ok-own.own c.args.tree.now.items)
    (subst (λ (v : Verdict Program). Answers {A = Program} (Err c.in_err-program.field-0.0) c.judge_program.new.walk v) run c.in_err-program.ensures.judged)))

pub finished-requires : goal.finished-requires
finished-requires c = typed-paired c.in_ok-settled.settled c.in_ok-own.own c.as_slice-4.result.now c.in_ok-program.program c.judge_program.new.walk c.in_ok-program.ensures.judged

pub returns : goal.returns
returns c =
    let run = ap (judged c.in_ok-settled.settled c.in_ok-own.own) c.as_slice-4.ensures in
    tree_told c.args.tree.now c.in_ok-special.special c.in_ok-own.own c.in_ok-settled.settled c.finished.result
    (c.in_ok-special.ensures ∙ ap special_names c.as_slice.ensures.value) (c.in_ok-own.ensures ∙ ap own_names c.as_slice-2.ensures.value)
    (subst (λ is. IsSettled c.in_ok-special.special is c.in_ok-settled.settled) c.as_slice-3.ensures c.in_ok-settled.ensures)
    (subst (λ types. Tells c.args.tree.now types c.finished.result (judged c.in_ok-settled.settled c.in_ok-own.own c.args.tree.now.items)) c.in_ok-program.ensures.types
    (subst (λ (v : Verdict Program). Tells c.args.tree.now c.judge_program.new.settled.declarations.types c.finished.result v) (sym c.in_ok-program.ensures.judged ∙ run) c.finished.ensures))
