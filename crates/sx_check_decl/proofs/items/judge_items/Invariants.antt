use Rattle.std.proofs.Common.{◌≡◌, [], Some, length}
use Rattle.sx_check_decl.specs.Items.{no_program, run_items}
use Rattle.sx_scope.specs.Verdict.{found, typed}
use Rattle.sx_tables.specs.Names.{no_numbers}
use Rattle.sx_check_decl.proofs.items.judge_items.Given as goal

abbrev pub invariant-items : goal.invariant-items
invariant-items l =
    run_items l.settled l.own l.blame (found l.program l.walk) l.before.seen.keys l.before.numbers l.before.words l.items
    ≡ run_items l.settled l.own l.blame (typed no_program l.fn.walk) [] no_numbers (Some 0) l.fn.items

abbrev pub decreases-items : goal.decreases-items
decreases-items l = length l.items
