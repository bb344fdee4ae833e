use Rattle.std.proofs.Common.{◌≡◌, true, false, arith}
use Rattle.sx_scope.specs.WrittenTypes.{is_void}
use Rattle.sx_bodies.specs.Literals.{typed_name}
use Rattle.sx_bodies.specs.Statements.{is_fresh}
use Rattle.sx_bodies.proofs.Declared.{typed_taken, typed_void}
use Rattle.sx_bodies.proofs.signatures.typed_parameter.Goals as goal

pub returns-then-not-is_fresh : goal.returns-then-not-is_fresh
returns-then-not-is_fresh c =
    let taken : is_fresh c.args.declarations.now c.args.from c.args.written.now.name.number c.take_node.new.self ≡ false = grind arith in
    typed_taken c.args.declarations.now c.args.from (typed_name c.args.declarations.now c.args.written.now) c.args.walk.now c.take_node.new.self c.in_ok-node.node c.in_ok-node.ensures.node c.in_ok-node.ensures.walk taken

pub returns-then-is_void : goal.returns-then-is_void
returns-then-is_void c =
    let free : is_fresh c.args.declarations.now c.args.from c.args.written.now.name.number c.take_node.new.self ≡ true = grind arith in
    let void : is_void c.in-Typed.ty ≡ true = grind arith in
    typed_void c.args.declarations.now c.args.from (typed_name c.args.declarations.now c.args.written.now) c.in-Typed.ty c.args.walk.now c.take_node.new.self c.type_written.new.walk c.in_ok-node.node c.in_ok-node.ensures.node c.in_ok-node.ensures.walk free (rw c.in-Typed.is at c.in_ok-ty.ensures) void
