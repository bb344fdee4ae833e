-- A program that two looks leave open is decided by the third.
use Rattle.sx_scope.specs.Verdict.{Verdict, typed, untold, depends, fails}
use Rattle.sx_check_decl.specs.declared.items.Blame.TheVariants as blames
use Rattle.sx_check_decl.specs.declared.items.Program.{Program}
use Rattle.sx_check_decl.specs.Items.{program}
use Rattle.sx_check_decl.specs.Looks.{IsDecided, judged_again, plain, unless_told}
use Rattle.sx_check_decl.proofs.Decided.{program-decided}
use Rattle.sx_one_answer.specs.Decided.{ProgramsAreDecided}

decided_at_last : (v again : Verdict Program) → IsDecided again → IsDecided (unless_told v again)
decided_at_last (typed p w) again h = tt
decided_at_last (untold w) again h = h
decided_at_last (depends w) again h = h
decided_at_last (fails f fs w) again h = tt

pub programs-decided : ProgramsAreDecided
programs-decided x names is =
    decided_at_last (program (plain x) names blames.Others is) (judged_again x names is)
    (decided_at_last (program x names blames.Others is) (program x names blames.Itself is) (program-decided x names is))
