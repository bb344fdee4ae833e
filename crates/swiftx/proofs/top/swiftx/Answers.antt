use Rattle.std.proofs.Common.{refl, None}
use Rattle.swiftx.specs.Words.{meaning, texts}
use Rattle.swiftx.specs.Lines.{usage_line, store_line}
use Rattle.swiftx.proofs.Answering.{usage_answers, unread_answers, read_answers}
use Rattle.swiftx.proofs.top.swiftx.Goals as goal

pub returns-in_default-clause-answered : goal.returns-in_default-clause-answered
unfolding usage_line
returns-in_default-clause-answered g c =
    usage_answers _ (g.S.Store.files c.args.store.now) (g.S.Store.asked c.args.store.now) (g.S.Store.faults c.args.store.now) (record { bytes = g.O.Sink.written c.args.out.now; faults = g.O.Sink.faults c.args.out.now }) (record { bytes = g.E.Sink.written c.args.err.now; faults = g.E.Sink.faults c.args.err.now }) (record { bytes = g.E.Sink.written c.say.new.err; faults = g.E.Sink.faults c.say.new.err }) _ c.say.result _ refl refl refl (rw c.deref.ensures.value at c.in_default.ensures.none) c.say.ensures

pub returns-in-Ok-clause-answered : goal.returns-in-Ok-clause-answered
returns-in-Ok-clause-answered g c =
    read_answers (texts c.args.words.now.items) (record { files = g.S.Store.files c.args.store.now; asked = g.S.Store.asked c.args.store.now; store_faults = g.S.Store.faults c.args.store.now; out = (record { bytes = g.O.Sink.written c.args.out.now; faults = g.O.Sink.faults c.args.out.now }); err = (record { bytes = g.E.Sink.written c.args.err.now; faults = g.E.Sink.faults c.args.err.now }) }) (record { files = g.S.Store.files c.read.new.self; asked = g.S.Store.asked c.read.new.self; store_faults = g.S.Store.faults c.read.new.self; out = (record { bytes = g.O.Sink.written c.perform.new.out; faults = g.O.Sink.faults c.perform.new.out }); err = (record { bytes = g.E.Sink.written c.perform.new.err; faults = g.E.Sink.faults c.perform.new.err }) }) c.perform.new.bench c.perform.result (meaning c.in-Some.command) c.file.result.now c.in-Ok.bytes.items c.most_of.result c.file.ensures c.most_of.ensures
    (rw c.deref.ensures.value at c.in-Some.ensures.some)
    c.in-Ok.ensures.bytes
    c.in-Ok.ensures.asked c.in-Ok.ensures.cause c.perform.ensures

pub returns-in-Err-Failed-clause-answered : goal.returns-in-Err-Failed-clause-answered
unfolding store_line
returns-in-Err-Failed-clause-answered g c =
    unread_answers (texts c.args.words.now.items) (g.S.Store.files c.args.store.now) (g.S.Store.files c.read.new.self) (g.S.Store.asked c.args.store.now) (g.S.Store.asked c.read.new.self) (g.S.Store.faults c.args.store.now) (g.S.Store.faults c.read.new.self) (record { bytes = g.O.Sink.written c.args.out.now; faults = g.O.Sink.faults c.args.out.now }) (record { bytes = g.E.Sink.written c.args.err.now; faults = g.E.Sink.faults c.args.err.now }) (record { bytes = g.E.Sink.written c.say-in-Err-Failed.new.err; faults = g.E.Sink.faults c.say-in-Err-Failed.new.err }) _ c.say-in-Err-Failed.result (record { built = None; machine = None }) (meaning c.in-Some.command) c.file.result.now c.file.ensures refl refl refl
    (rw c.deref.ensures.value at c.in-Some.ensures.some)
    (rw c.in-Err-Failed.field-0-is at c.in-Err-Failed.ensures.asked)
    (rw c.in-Err-Failed.field-0-is at c.in-Err-Failed.ensures.cause)
    c.say-in-Err-Failed.ensures
