use Rattle.std.proofs.Common.{◌≡◌, sym, ap, arith, nat_eq, false, string_bytes}
use Rattle.sx_lexer.specs.Scans.{is_closed}
use Rattle.sx_lexer.proofs.TextEnds.{clash, quit_end}
use Rattle.sx_lexer.proofs.EscapeEnds.{read_end, read_bad, escape_on, escape_bad_on, escape_closed_on, plain_on, plain_bad_on, plain_closed_on}
use Rattle.sx_lexer.proofs.texts.spelled.Goals as goal

pub returns-then-c-eq34 : goal.returns-then-c-eq34
returns-then-c-eq34 c = (
  read_end c.args.start.rest.now c.loop-c.place.rest.now c.in-Some.next.rest.now (string_bytes c.loop-c.text) c.in-Some.c c.in-Some.ensures.step c.if-c-eq34.true c.loop-c.invariant.spells _ (ap (λ v. v.items) c.into_bytes.ensures.value),
  omega (arith, c.in-Some.ensures.shorter, c.loop-c.invariant.shorter),
)

pub returns-in_default-escape : goal.returns-in_default-escape
returns-in_default-escape c = (
  read_bad c.args.start.rest.now c.loop-c.place.rest.now c.in-Some.next.rest.now (string_bytes c.loop-c.text) c.in-Some.c c.in-Some.ensures.step c.if-c-eq92.true c.in_default-escape.ensures.value c.loop-c.invariant.bad,
  c.loop-c.invariant.shorter,
)

pub loop-c-preserved-then-c-eq92 : goal.loop-c-preserved-then-c-eq92
loop-c-preserved-then-c-eq92 c =
    let s = c.args.start.rest.now in
    let p = c.loop-c.place.rest.now in
    let q = c.in-Some.next.rest.now in
    let d = string_bytes c.loop-c.text in
    let e = c.in-Some.ensures.step in
    let v = c.in-Some-escape.value in
    let a = c.in-Some-escape.behind.rest.now in
    let m = string_bytes c.push.new.self in
    record {
      spells = escape_on s p q d c.in-Some.c e v a m c.in_ok-push.ensures.bytes c.if-c-eq92.true c.in-Some-escape.ensures.value c.loop-c.invariant.spells;
      bad = escape_bad_on s p q d c.in-Some.c e v a m c.in_ok-push.ensures.bytes c.if-c-eq92.true c.in-Some-escape.ensures.value c.loop-c.invariant.bad;
      closed = escape_closed_on s p q d c.in-Some.c e v a m c.in_ok-push.ensures.bytes c.if-c-eq92.true c.in-Some-escape.ensures.value c.loop-c.invariant.closed;
      shorter = omega (arith, c.in-Some.ensures.shorter, c.in-Some-escape.ensures.shorter, c.loop-c.invariant.shorter);
    }

pub loop-c-preserved : goal.loop-c-preserved
loop-c-preserved c =
    let s = c.args.start.rest.now in
    let p = c.loop-c.place.rest.now in
    let q = c.in-Some.next.rest.now in
    let d = string_bytes c.loop-c.text in
    let e = c.in-Some.ensures.step in
    let n : nat_eq c.in-Some.c 34 ≡ false = grind (arith, c.if-c-eq34.false) in
    let o : nat_eq c.in-Some.c 92 ≡ false = grind (arith, c.if-c-eq92.false) in
    record {
      spells = plain_on s p q d c.in-Some.c e n o c.loop-c.invariant.closed _ c.in_ok-push-2.ensures.bytes c.loop-c.invariant.spells;
      bad = plain_bad_on s p q d c.in-Some.c e n o c.loop-c.invariant.closed c.loop-c.invariant.bad;
      closed = plain_closed_on s p q d c.in-Some.c e n o c.loop-c.invariant.closed;
      shorter = omega (arith, c.in-Some.ensures.shorter, c.loop-c.invariant.shorter);
    }

pub unreachable-requires : goal.unreachable-requires
unreachable-requires c = clash _ c.loop-c.invariant.closed (sym (quit_end false c.loop-c.place.rest.now _ c.in_default.ensures.step (λ i. is_closed false c.loop-c.place.rest.now)))
