use Rattle.std.proofs.Common.{◌<◌, ◌^◌, sym, subst, length}
use Rattle.sx_driver.specs.declared.fault.Fault.TheVariants.{Unbuilt}
use Rattle.swiftx.specs.Due.{unbuilt}
use Rattle.swiftx.specs.Found.{HasFound, bytes_of_all}
use Rattle.swiftx.specs.PrintCode.{AreShort, code_of}
use Rattle.swiftx.proofs.Answering.{run_refused, prints_settled, no_bytes}
use Rattle.swiftx.proofs.Whole.{prints_short, prints_fit}
use Rattle.swiftx.proofs.running.run_sound.Goals as goal

pub run_prints-requires-clause-short : goal.run_prints-requires-clause-short
run_prints-requires-clause-short g c =
    subst (λ l. AreShort (bytes_of_all l)) (sym c.deref.ensures.value) (prints_short c.args.text.now (bytes_of_all c.in-Some.literals.items) (subst (λ f. HasFound c.args.text.now f) c.in-Some.is c.in-Ok.ensures))

pub run_prints-requires-clause-fits : goal.run_prints-requires-clause-fits
run_prints-requires-clause-fits g c =
    subst (λ l. length (code_of (bytes_of_all l)) < 2 ^ 27) (sym c.deref.ensures.value) (prints_fit c.args.text.now (bytes_of_all c.in-Some.literals.items) (subst (λ f. HasFound c.args.text.now f) c.in-Some.is c.in-Ok.ensures))

pub returns-in-None : goal.returns-in-None
returns-in-None g c =
    run_refused c.args.text.now Unbuilt (record { bytes = g.O.Sink.written c.args.out.now; faults = g.O.Sink.faults c.args.out.now }) (record { bytes = g.E.Sink.written c.args.err.now; faults = g.E.Sink.faults c.args.err.now }) (record { bytes = g.E.Sink.written c.refuse_text.new.err; faults = g.E.Sink.faults c.refuse_text.new.err }) c.args.bench.now c.refuse_text.result (no_bytes c.args.bench.now c.requires.built) c.requires.machine c.args.steps (unbuilt c.requires.sound.0 c.requires.sound.1 (subst (λ f. HasFound c.args.text.now f) c.in-None.is c.in-Ok.ensures)) c.refuse_text.ensures

pub returns-in-Some : goal.returns-in-Some
returns-in-Some g c =
    prints_settled c.args.text.now (bytes_of_all c.in-Some.literals.items) c.args.steps (record { bytes = g.O.Sink.written c.args.out.now; faults = g.O.Sink.faults c.args.out.now }) (record { bytes = g.O.Sink.written c.run_prints.new.out; faults = g.O.Sink.faults c.run_prints.new.out }) (record { bytes = g.E.Sink.written c.args.err.now; faults = g.E.Sink.faults c.args.err.now }) (record { bytes = g.E.Sink.written c.run_prints.new.err; faults = g.E.Sink.faults c.run_prints.new.err }) c.run_prints.new.bench c.run_prints.result
    c.requires.sound
    (subst (λ f. HasFound c.args.text.now f) c.in-Some.is c.in-Ok.ensures)
    (rw c.deref.ensures.value at c.run_prints.ensures)
