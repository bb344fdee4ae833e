use Rattle.std.proofs.Common.{map, refl, sym, ap, ◌∙◌}
use Rattle.sx_check_decl.specs.Looks.{without_circle}
use Rattle.sx_check_decl.proofs.LookingAgain.{first_look, second_look}
use Rattle.sx_check_decl.proofs.looks.judge_program.Goals as goal

pub returns : goal.returns
returns c =
    let x = c.args.settled.now in
    let known = c.replace-given.ensures.after ∙ c.in_ok-known.ensures ∙ ap (map without_circle) c.as_slice.ensures in
    let none = c.replace-stops.ensures.after ∙ c.new.ensures in
    let first = first_look x c.args.own c.args.items.now c.replace-given.new.dest c.replace-stops.new.dest c.args.walk.now known none c.requires in
    record {
      judged = second_look x c.args.own c.args.items.now c.replace-given.result c.replace-stops.result c.in_ok-program.field-0 c.judge_items.new.walk c.judge_again.new.walk c.judge_again.result
          c.replace-given.ensures.value c.replace-stops.ensures.value c.in_default.not-Typed (sym first ∙ c.in_ok-program.ensures) c.judge_again.ensures;
      types = refl;
    }
