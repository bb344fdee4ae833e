use Rattle.std.proofs.Common.{◌≡◌, ◌≤◌, ◌+◌, ◌^◌, nat_eq, false, arith}
use Rattle.sx_lexer.proofs.Values.{joined_step}
use Rattle.sx_lexer.proofs.numbers.value.Goals as goal

pub loop-byte-preserved-then-byte-ne95 : goal.loop-byte-preserved-then-byte-ne95
loop-byte-preserved-then-byte-ne95 c =
    let n : nat_eq c.in-Some.byte 95 ≡ false = grind (arith, c.if-byte-ne95.true) in
    let small : c.joined-sum.result ≤ 2 ^ 63 + 1 = omega (arith, c.joined-sum.ensures) in
    record { value = joined_step c.args.base (2 ^ 63 + 1) c.loop-byte.sum c.joined-sum.result c.in-Some.byte _ c.in-Some.rest.now c.loop-byte.bytes.now (omega (arith, c.requires.least)) n c.joined-sum.ensures c.in-Some.ensures c.loop-byte.invariant.value; small = small }
