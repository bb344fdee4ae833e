use Rattle.std.proofs.Common.{◌∙◌, sym}
use Rattle.sx_rv_machine.specs.declared.machine.Event.TheVariants.{Went, Wrote, Exited, Faulted}
use Rattle.sx_rv_machine.proofs.Puts.{reached_next, grew_none, ran_over, stopped}
use Rattle.sx_rv_machine.proofs.runs.run.Goals as goal
use Rattle.sx_rv_machine.proofs.runs.run.Goals.{in-Went, in-Wrote+in-Ok}

pub returns-in-Err : goal.returns-in-Err
returns-in-Err g c =
    stopped c.args.steps c.loop-count.count c.args.machine.now c.loop-count.machine c.step.new.machine (Wrote c.in-Wrote.fd c.in-Wrote.address c.in-Wrote.length) c.in-Wrote.fd _ _ _ _ _ _ c.loop-count-test.true c.loop-count.invariant c.step.ensures.state (sym c.step.ensures.event ∙ c.in-Wrote.is) c.in-Err.ensures

pub returns-in-Exited : goal.returns-in-Exited
returns-in-Exited g c =
    ran_over c.args.steps c.loop-count.count c.args.machine.now c.loop-count.machine c.step.new.machine (Exited c.in-Exited.field-0) _ _ _ _ _ c.loop-count-test.true c.loop-count.invariant c.step.ensures.state (sym c.step.ensures.event ∙ c.in-Exited.is) tt c.answer.ensures

pub returns-in-Faulted : goal.returns-in-Faulted
returns-in-Faulted g c =
    ran_over c.args.steps c.loop-count.count c.args.machine.now c.loop-count.machine c.step.new.machine (Faulted c.in-Faulted.field-0 c.in-Faulted.field-1) _ _ _ _ _ c.loop-count-test.true c.loop-count.invariant c.step.ensures.state (sym c.step.ensures.event ∙ c.in-Faulted.is) tt c.answer-in-Faulted.ensures

pub loop-count-preserved : goal.loop-count-preserved
loop-count-preserved g c =
    elim c.match-step.branch [
      | in-Went w ↦
          rw (w.out-is, w.err-is) (reached_next c.args.machine.now c.loop-count.machine c.step.new.machine c.loop-count.count Went _ _ _ _ _ _ c.loop-count.invariant c.step.ensures.state (sym c.step.ensures.event ∙ w.in-Went.is) (grew_none _) (grew_none _))
      | in-Wrote+in-Ok w ↦
          rw (w.out-is, w.err-is) (reached_next c.args.machine.now c.loop-count.machine c.step.new.machine c.loop-count.count (Wrote w.in-Wrote.fd w.in-Wrote.address w.in-Wrote.length) _ _ _ _ _ _ c.loop-count.invariant c.step.ensures.state (sym c.step.ensures.event ∙ w.in-Wrote.is) w.in-Ok.ensures.0 w.in-Ok.ensures.1)
    ]
