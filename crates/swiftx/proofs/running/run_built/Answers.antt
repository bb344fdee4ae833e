use Rattle.std.proofs.Common.{refl, Some}
use Rattle.swiftx.proofs.Settle.{file_exited, file_budget, file_faulted, file_cut}
use Rattle.swiftx.proofs.running.run_built.Goals as goal

pub unreachable-requires : goal.unreachable-requires
unreachable-requires g c = file_faulted c.args.file.items c.args.steps (record { bytes = g.O.Sink.written c.args.out.now; faults = g.O.Sink.faults c.args.out.now }) (record { bytes = g.O.Sink.written c.run-end.new.out; faults = g.O.Sink.faults c.run-end.new.out }) (record { bytes = g.E.Sink.written c.args.err.now; faults = g.E.Sink.faults c.args.err.now }) (record { bytes = g.E.Sink.written c.run-end.new.err; faults = g.E.Sink.faults c.run-end.new.err }) (record { built = Some (record { bytes = c.args.file }); machine = Some c.run-end.new.machine }) c.args.machine c.run-end.new.machine c.in-Faulted.field-0 c.in-Faulted.field-1 c.requires.starts c.in-Faulted.ensures c.requires.sound

pub returns-in-Exited : goal.returns-in-Exited
returns-in-Exited g c = file_exited c.args.file.items c.args.steps (record { bytes = g.O.Sink.written c.args.out.now; faults = g.O.Sink.faults c.args.out.now }) (record { bytes = g.O.Sink.written c.run-end.new.out; faults = g.O.Sink.faults c.run-end.new.out }) (record { bytes = g.E.Sink.written c.args.err.now; faults = g.E.Sink.faults c.args.err.now }) (record { bytes = g.E.Sink.written c.run-end.new.err; faults = g.E.Sink.faults c.run-end.new.err }) (record { built = Some (record { bytes = c.args.file }); machine = Some c.run-end.new.machine }) c.args.machine c.run-end.new.machine c.in-Exited.status c.requires.starts c.in-Exited.ensures refl refl

pub returns-in-Budget : goal.returns-in-Budget
returns-in-Budget g c = file_budget c.args.file.items c.args.steps (record { bytes = g.O.Sink.written c.args.out.now; faults = g.O.Sink.faults c.args.out.now }) (record { bytes = g.O.Sink.written c.run-end.new.out; faults = g.O.Sink.faults c.run-end.new.out }) (record { bytes = g.E.Sink.written c.args.err.now; faults = g.E.Sink.faults c.args.err.now }) (record { bytes = g.E.Sink.written c.run-end.new.err; faults = g.E.Sink.faults c.run-end.new.err }) (record { built = Some (record { bytes = c.args.file }); machine = Some c.run-end.new.machine }) c.args.machine c.run-end.new.machine c.requires.starts c.in-Budget.ensures refl refl

pub returns-in-SinkFault : goal.returns-in-SinkFault
returns-in-SinkFault g c = file_cut c.args.file.items c.args.steps (record { bytes = g.O.Sink.written c.args.out.now; faults = g.O.Sink.faults c.args.out.now }) (record { bytes = g.O.Sink.written c.run-end.new.out; faults = g.O.Sink.faults c.run-end.new.out }) (record { bytes = g.E.Sink.written c.args.err.now; faults = g.E.Sink.faults c.args.err.now }) (record { bytes = g.E.Sink.written c.run-end.new.err; faults = g.E.Sink.faults c.run-end.new.err }) (record { built = Some (record { bytes = c.args.file }); machine = Some c.run-end.new.machine }) c.args.machine c.run-end.new.machine c.in-SinkFault.field-0 c.requires.starts c.in-SinkFault.ensures c.requires.sound refl refl
