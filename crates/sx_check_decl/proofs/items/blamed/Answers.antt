use Rattle.std.proofs.Common.{[], ap₂}
use Rattle.sx_check_decl.specs.Items as judged
use Rattle.sx_check_decl.specs.declared.items.Blame.{Blame}
use Rattle.sx_check_decl.specs.declared.items.TypedItem.{TypedItem}
use Rattle.sx_scope.specs.Verdict.{found}
use Rattle.sx_scope.specs.declared.walk.Found.{Found}
use Rattle.sx_check_decl.proofs.items.blamed.Goals as goal

pub returns-in-Itself : goal.returns-in-Itself
returns-in-Itself c = λ w. ([], w, ap₂ (λ (b : Blame) (o : Found TypedItem). judged.blamed b c.args.start.0 (found o w)) c.in-Itself.is c.in-Untold.is)

pub returns-in-Itself-blame : goal.returns-in-Itself-blame
returns-in-Itself-blame c = λ w. ([], w, ap₂ (λ (b : Blame) (o : Found TypedItem). judged.blamed b c.args.start.0 (found o w)) c.in-Itself-blame.is c.in-Depends.is)
