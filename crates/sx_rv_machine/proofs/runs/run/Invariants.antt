use Rattle.sx_rv_machine.proofs.Puts.{Reached}
use Rattle.sx_rv_machine.proofs.runs.run.Given as goal

abbrev pub invariant-loop-count : goal.invariant-loop-count
invariant-loop-count g l =
    Reached
    l.fn.machine
    l.count
    l.machine
    (record { bytes = g.O.Sink.written l.fn.out; faults = g.O.Sink.faults l.fn.out })
    (record { bytes = g.O.Sink.written l.out; faults = g.O.Sink.faults l.out })
    (record { bytes = g.E.Sink.written l.fn.err; faults = g.E.Sink.faults l.fn.err })
    (record { bytes = g.E.Sink.written l.err; faults = g.E.Sink.faults l.err })
