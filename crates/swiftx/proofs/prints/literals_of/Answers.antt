use Rattle.std.proofs.Common.{◌≡◌, ◌≤◌, [], ◌∷◌, length, sym, ap, ◌∙◌, subst, arith, length-append}
use Rattle.std.specs.List.{All}
use Rattle.std.proofs.lemmas.List.Elements.{All-nil, All-push}
use Rattle.swiftx.specs.Prints.{IsLiteral}
use Rattle.swiftx.specs.Found.{bytes_of_all}
use Rattle.swiftx.proofs.Lines.{HasRead, ReadsOn, read_none, reads_on, read_more, reads_more_on, no_line, too_many, read_all, some_bytes, bytes_push, bytes_length, no_bytes}
use Rattle.swiftx.proofs.prints.literals_of.Goals as goal

pub loop-rest-init : goal.loop-rest-init
loop-rest-init c =
    let none = sym c.new-literals.ensures.items in
    record {
      plain = subst (λ x. All IsLiteral (bytes_of_all x)) none (All-nil IsLiteral);
      read = subst (λ x. HasRead c.args.text.now (bytes_of_all x) c.args.text.now) none (read_none c.args.text.now);
      only = subst (λ x. ReadsOn c.args.text.now (bytes_of_all x) c.args.text.now) none (reads_on c.args.text.now);
      count = subst (λ x. length x ≤ 16384) none (omega arith);
    }

pub returns-then-len-eq-MOST_LINES : goal.returns-then-len-eq-MOST_LINES
returns-then-len-eq-MOST_LINES c =
    let i = c.loop-rest.invariant in
    let full : length (bytes_of_all c.loop-rest.literals.items) ≡ 16384 = omega (arith, bytes_length c.loop-rest.literals.items, c.loop-rest.literals.ok.0, c.len.ensures, c.if-len-eq-MOST_LINES.true) in
    too_many c.args.text.now (bytes_of_all c.loop-rest.literals.items) c.loop-rest.rest.now (some_bytes _ c.loop-rest-test.ensures) i.only full

pub returns-in_default : goal.returns-in_default
returns-in_default c =
    let i = c.loop-rest.invariant in
    no_line c.args.text.now (bytes_of_all c.loop-rest.literals.items) c.loop-rest.rest.now (some_bytes _ c.loop-rest-test.ensures) i.only c.in_default.ensures.none

pub loop-rest-preserved : goal.loop-rest-preserved
loop-rest-preserved c =
    let i = c.loop-rest.invariant in
    let some = some_bytes _ c.loop-rest-test.ensures in
    let pushed = sym (ap bytes_of_all c.in_ok-push.ensures.items ∙ bytes_push c.loop-rest.literals.items c.in-Some.literal) in
    let first = c.in-Some.ensures.some in
    record {
      plain = subst (λ x. All IsLiteral x) pushed (All-push IsLiteral (bytes_of_all c.loop-rest.literals.items) c.in-Some.literal.now i.plain first.plain);
      read = subst (λ x. HasRead c.args.text.now x c.in-Some.behind.now) pushed (read_more c.args.text.now (bytes_of_all c.loop-rest.literals.items) c.loop-rest.rest.now c.in-Some.literal.now c.in-Some.behind.now some i.read first);
      only = subst (λ x. ReadsOn c.args.text.now x c.in-Some.behind.now) pushed (reads_more_on c.args.text.now (bytes_of_all c.loop-rest.literals.items) c.loop-rest.rest.now c.in-Some.literal.now c.in-Some.behind.now some i.only first);
      count = omega (arith, i.count, c.if-len-eq-MOST_LINES.false, c.len.ensures, c.loop-rest.literals.ok.0, ap length c.in_ok-push.ensures.items, length-append c.loop-rest.literals.items (c.in-Some.literal ∷ []));
    }

pub returns : goal.returns
returns c =
    let i = c.loop-rest.invariant in
    let empty = no_bytes c.loop-rest.rest.now c.loop-rest-test.ensures in
    record {
      size = c.if-text-gt-MOST_BYTES.false;
      count = omega (arith, i.count, bytes_length c.loop-rest.literals.items);
      plain = i.plain;
      lines = read_all c.args.text.now (bytes_of_all c.loop-rest.literals.items) (subst (λ x. HasRead c.args.text.now (bytes_of_all c.loop-rest.literals.items) x) empty i.read);
    }
