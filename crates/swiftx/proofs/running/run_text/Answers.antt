use Rattle.std.proofs.Common.{subst}
use Rattle.swiftx.specs.Due.{refused}
use Rattle.swiftx.specs.Parts.{Judged}
use Rattle.swiftx.proofs.Answering.{run_refused, no_bytes}
use Rattle.swiftx.proofs.running.run_text.Goals as goal

pub returns-in-Some : goal.returns-in-Some
returns-in-Some g c =
    run_refused c.args.text.now c.in-Some.fault (record { bytes = g.O.Sink.written c.args.out.now; faults = g.O.Sink.faults c.args.out.now }) (record { bytes = g.E.Sink.written c.args.err.now; faults = g.E.Sink.faults c.args.err.now }) (record { bytes = g.E.Sink.written c.refuse_text.new.err; faults = g.E.Sink.faults c.refuse_text.new.err }) c.args.bench.now c.refuse_text.result (no_bytes c.args.bench.now c.requires.built) c.requires.machine c.args.steps (refused c.in-Some.fault (subst (λ f. Judged c.args.text.now f) c.in-Some.is c.in-Ok.ensures).0) c.refuse_text.ensures
