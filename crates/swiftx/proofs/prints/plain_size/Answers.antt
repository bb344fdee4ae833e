use Rattle.std.proofs.lemmas.List.Elements.{All-more}
use Rattle.swiftx.specs.Prints.{IsPlain}
use Rattle.swiftx.proofs.prints.plain_size.Goals as goal

pub loop-i-preserved : goal.loop-i-preserved
loop-i-preserved c = All-more IsPlain c.args.bytes.now c.loop-i.i 0 c.loop-i-test.true c.loop-i.invariant (c.is_plain.ensures.0 c.if-not-is_plain.false)
