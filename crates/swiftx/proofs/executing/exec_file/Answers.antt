use Rattle.swiftx.proofs.Executions.{ran_settled, stop_settled}
use Rattle.swiftx.proofs.executing.exec_file.Goals as goal

pub returns-in-Ok : goal.returns-in-Ok
returns-in-Ok g c = ran_settled c.args.file.items c.args.steps (record { bytes = g.O.Sink.written c.args.out.now; faults = g.O.Sink.faults c.args.out.now }) (record { bytes = g.O.Sink.written c.run_machine.new.out; faults = g.O.Sink.faults c.run_machine.new.out }) (record { bytes = g.E.Sink.written c.args.err.now; faults = g.E.Sink.faults c.args.err.now }) (record { bytes = g.E.Sink.written c.run_machine.new.err; faults = g.E.Sink.faults c.run_machine.new.err }) c.run_machine.new.bench c.in-Ok.machine c.run_machine.result c.in-Ok.ensures.answer c.in-Ok.ensures.starts c.run_machine.ensures

pub returns-in-Err : goal.returns-in-Err
returns-in-Err g c = stop_settled c.args.file.items c.args.steps (record { bytes = g.O.Sink.written c.args.out.now; faults = g.O.Sink.faults c.args.out.now }) (record { bytes = g.E.Sink.written c.args.err.now; faults = g.E.Sink.faults c.args.err.now }) (record { bytes = g.E.Sink.written c.refuse.new.err; faults = g.E.Sink.faults c.refuse.new.err }) c.args.bench.now c.in-Err.stop c.refuse.result c.requires.built c.requires.machine c.in-Err.ensures.answer c.refuse.ensures
