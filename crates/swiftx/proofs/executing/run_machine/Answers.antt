use Rattle.std.proofs.Common.{refl, Some, ◌∙◌}
use Rattle.swiftx.proofs.Executions.{machine_exited, machine_goes_on, machine_faulted, machine_cut}
use Rattle.swiftx.proofs.executing.run_machine.Goals as goal

pub returns-in-Exited : goal.returns-in-Exited
returns-in-Exited g c = λ file starts. machine_exited file c.args.steps (record { bytes = g.O.Sink.written c.args.out.now; faults = g.O.Sink.faults c.args.out.now }) (record { bytes = g.O.Sink.written c.run-end.new.out; faults = g.O.Sink.faults c.run-end.new.out }) (record { bytes = g.E.Sink.written c.args.err.now; faults = g.E.Sink.faults c.args.err.now }) (record { built = c.args.bench.now.built; machine = Some c.run-end.new.machine }) (record { bytes = g.E.Sink.written c.run-end.new.err; faults = g.E.Sink.faults c.run-end.new.err }) c.args.machine c.run-end.new.machine c.in-Exited.status c.in-Exited.ensures (c.requires, refl) starts

pub returns-in-Budget : goal.returns-in-Budget
returns-in-Budget g c = λ file starts. machine_goes_on file c.args.steps (record { bytes = g.O.Sink.written c.args.out.now; faults = g.O.Sink.faults c.args.out.now }) (record { bytes = g.O.Sink.written c.run-end.new.out; faults = g.O.Sink.faults c.run-end.new.out }) (record { bytes = g.E.Sink.written c.args.err.now; faults = g.E.Sink.faults c.args.err.now }) (record { built = c.args.bench.now.built; machine = Some c.run-end.new.machine }) (record { bytes = g.E.Sink.written c.run-end.new.err; faults = g.E.Sink.faults c.run-end.new.err }) c.args.machine c.run-end.new.machine c.in-Budget.ensures (c.requires, refl) starts

pub returns-in-SinkFault : goal.returns-in-SinkFault
returns-in-SinkFault g c = λ file starts. machine_cut file c.args.steps (record { bytes = g.O.Sink.written c.args.out.now; faults = g.O.Sink.faults c.args.out.now }) (record { bytes = g.O.Sink.written c.run-end.new.out; faults = g.O.Sink.faults c.run-end.new.out }) (record { bytes = g.E.Sink.written c.args.err.now; faults = g.E.Sink.faults c.args.err.now }) (record { built = c.args.bench.now.built; machine = Some c.run-end.new.machine }) (record { bytes = g.E.Sink.written c.run-end.new.err; faults = g.E.Sink.faults c.run-end.new.err }) c.args.machine c.run-end.new.machine c.in-SinkFault.field-0 c.in-SinkFault.ensures (c.requires, refl) starts

pub returns-in-Faulted : goal.returns-in-Faulted
returns-in-Faulted g c = λ file starts. machine_faulted file c.args.steps (record { bytes = g.O.Sink.written c.args.out.now; faults = g.O.Sink.faults c.args.out.now }) (record { bytes = g.O.Sink.written c.run-end.new.out; faults = g.O.Sink.faults c.run-end.new.out }) (record { bytes = g.E.Sink.written c.args.err.now; faults = g.E.Sink.faults c.args.err.now }) (record { built = c.args.bench.now.built; machine = Some c.run-end.new.machine }) (record { bytes = g.E.Sink.written c.run-end.new.err; faults = g.E.Sink.faults c.run-end.new.err }) (record { bytes = g.E.Sink.written c.say.new.err; faults = g.E.Sink.faults c.say.new.err }) c.args.machine c.run-end.new.machine c.in-Faulted.kind c.in-Faulted.pc c.deref.result.now c.say.result c.in-Faulted.ensures (c.deref.ensures.0 ∙ c.fault_line.ensures) c.say.ensures (c.requires, refl) starts
