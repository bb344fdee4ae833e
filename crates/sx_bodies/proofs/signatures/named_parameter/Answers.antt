use Rattle.std.proofs.Common.{◌≡◌, false, arith}
use Rattle.sx_bodies.specs.Statements.{is_fresh}
use Rattle.sx_bodies.proofs.Declared.{named_taken}
use Rattle.sx_bodies.proofs.signatures.named_parameter.Goals as goal

pub returns-then-not-is_fresh : goal.returns-then-not-is_fresh
returns-then-not-is_fresh c =
    let taken : is_fresh c.args.declarations.now c.args.from c.args.name c.take_node.new.self ≡ false = grind arith in
    named_taken c.args.declarations.now c.args.from c.args.name c.args.wanted c.args.walk.now c.take_node.new.self c.in_ok-node.node c.in_ok-node.ensures.node c.in_ok-node.ensures.walk taken
