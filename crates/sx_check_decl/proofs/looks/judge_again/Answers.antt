use Rattle.std.proofs.Common.{[], Some, sym, ap, ◌∙◌}
use Rattle.sx_check_decl.specs.Items.{no_program, run_items}
use Rattle.sx_check_decl.specs.declared.items.Blame.TheVariants as blames
use Rattle.sx_scope.specs.Verdict.{typed}
use Rattle.sx_scope.specs.declared.walk.Walk.{Walk}
use Rattle.sx_tables.specs.Names.{no_numbers}
use Rattle.sx_check_decl.proofs.Decided.{found_typed}
use Rattle.sx_check_decl.proofs.looks.judge_again.Goals as goal

pub unreachable-requires : goal.unreachable-requires
unreachable-requires c =
    let start = ap (λ (w : Walk). run_items c.args.settled.now c.args.own blames.Itself (typed no_program w) [] no_numbers (Some 0) c.args.items.now) c.at_start.ensures in
    found_typed c.args.settled.now c.args.own c.args.items.now c.in_ok-program-2.field-0 c.judge_items-2.new.walk (sym start ∙ c.in_ok-program-2.ensures) c.in_default-2.not-Typed
