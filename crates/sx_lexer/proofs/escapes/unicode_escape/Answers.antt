use Rattle.std.proofs.Common.{◌≡◌, sym, subst, Some, None, MatchOption}
use Rattle.sx_lexer.proofs.EscapeEnds.{unicode_same}
use Rattle.sx_lexer.proofs.escapes.unicode_escape.Goals as goal

pub returns-clause-value : goal.returns-clause-value
returns-clause-value c =
    subst (λ t. MatchOption c.bracketed.result (t ≡ None) (λ x. t ≡ Some (x.0, x.1.rest.now)))
    (sym (unicode_same c.args.start.rest.now c.in-Some.digits.rest.now c.past.result.rest.now c.in-Some.c c.in-Some.ensures.step c.if-c-ne123.false c.past.ensures.run))
    c.bracketed.ensures.value
