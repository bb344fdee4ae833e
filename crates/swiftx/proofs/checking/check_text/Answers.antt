use Rattle.std.proofs.Common.{inr, subst}
use Rattle.swiftx.specs.Parts.{Judged}
use Rattle.swiftx.proofs.Answering.{check_refused, check_accepted, no_bytes}
use Rattle.swiftx.proofs.checking.check_text.Goals as goal

pub returns-in-None : goal.returns-in-None
returns-in-None g c =
    inr (check_accepted c.args.text.now (record { bytes = g.O.Sink.written c.args.out.now; faults = g.O.Sink.faults c.args.out.now }) (record { bytes = g.E.Sink.written c.args.err.now; faults = g.E.Sink.faults c.args.err.now }) c.args.bench.now (no_bytes c.args.bench.now c.requires.built) c.requires.machine (subst (λ f. Judged c.args.text.now f) c.in-None.is c.in-Ok.ensures))

pub returns-in-Some : goal.returns-in-Some
returns-in-Some g c =
    check_refused c.args.text.now c.in-Some.fault (record { bytes = g.O.Sink.written c.args.out.now; faults = g.O.Sink.faults c.args.out.now }) (record { bytes = g.E.Sink.written c.args.err.now; faults = g.E.Sink.faults c.args.err.now }) (record { bytes = g.E.Sink.written c.refuse_text.new.err; faults = g.E.Sink.faults c.refuse_text.new.err }) c.args.bench.now c.refuse_text.result (no_bytes c.args.bench.now c.requires.built) c.requires.machine (subst (λ f. Judged c.args.text.now f) c.in-Some.is c.in-Ok.ensures).0 c.refuse_text.ensures
