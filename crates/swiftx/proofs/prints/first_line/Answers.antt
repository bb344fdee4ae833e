use Rattle.std.proofs.Common.{◌≡◌, ◌++◌, ◌∙◌, sym, ap, subst, drop}
use Rattle.std.proofs.lemmas.List.{take-append-drop}
use Rattle.swiftx.specs.Prints.{IsLiteral}
use Rattle.swiftx.proofs.Lines.{EndsLiteral, ends_at, must_close, must_end}
use Rattle.swiftx.proofs.prints.first_line.Goals as goal

pub returns-in_err-tail-clause-none : goal.returns-in_err-tail-clause-none
returns-in_err-tail-clause-none c =
    let quoted = c.in_ok-quoted.quoted.now in
    let front = c.split_at.result.0.now in
    let closed = c.split_at.result.1.now in
    let cut : quoted ≡ front ++ closed = sym (take-append-drop c.plain_size.result quoted) ∙ ap (λ x. x ++ drop c.plain_size.result quoted) (sym c.split_at.ensures.front) ∙ ap (λ x. front ++ x) (sym c.split_at.ensures.back) in
    let plain : IsLiteral front = subst IsLiteral (sym c.split_at.ensures.front) c.plain_size.ensures.plain in
    let end : EndsLiteral closed = subst EndsLiteral (sym c.split_at.ensures.back) (ends_at quoted c.plain_size.result c.plain_size.ensures.end) in
    rw c.from_residual-in_err-tail.ensures (λ literal rest s. c.in_err-tail.ensures.none s.tail (must_close c.args.text.now quoted front closed literal rest c.in_ok-quoted.ensures.some cut plain end s))

pub returns-in_err-rest-clause-none : goal.returns-in_err-rest-clause-none
returns-in_err-rest-clause-none c =
    let quoted = c.in_ok-quoted.quoted.now in
    let front = c.split_at.result.0.now in
    let closed = c.split_at.result.1.now in
    let cut : quoted ≡ front ++ closed = sym (take-append-drop c.plain_size.result quoted) ∙ ap (λ x. x ++ drop c.plain_size.result quoted) (sym c.split_at.ensures.front) ∙ ap (λ x. front ++ x) (sym c.split_at.ensures.back) in
    let plain : IsLiteral front = subst IsLiteral (sym c.split_at.ensures.front) c.plain_size.ensures.plain in
    let end : EndsLiteral closed = subst EndsLiteral (sym c.split_at.ensures.back) (ends_at quoted c.plain_size.result c.plain_size.ensures.end) in
    rw c.from_residual-in_err-rest.ensures (λ literal rest s. must_end c.args.text.now quoted front closed c.in_ok-tail.tail.now literal rest c.in_ok-quoted.ensures.some cut plain end c.in_ok-tail.ensures.some s c.in_err-rest.ensures.none)
