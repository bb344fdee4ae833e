use Rattle.std.proofs.Common.{◌≡◌, ap, true, false}
use Rattle.sx_grammar.specs.Classes.{any, class_of}
use Rattle.sx_grammar.specs.Grammar.{has}
use Rattle.sx_grammar.proofs.Equations.{token_end, token_fits, token_wrong}
use Rattle.sx_parse_decl.specs.Reading.{blame}
use Rattle.sx_parse_decl.proofs.Bridge.{stops_here}
use Rattle.sx_parse_decl.proofs.cursor.one_of.Goals as goal

pub returns-in-None : goal.returns-in-None
returns-in-None c = ap blame (token_end c.args.levels (any c.args.sorts.now) c.args.lexemes.now c.in-None.ensures)

pub returns-then-is_among : goal.returns-then-is_among
returns-then-is_among c =
    let h : has (any c.args.sorts.now) (class_of c.in-Some.lexeme) ≡ true = cc in
    token_fits c.args.levels (any c.args.sorts.now) c.in-Some.lexeme c.args.lexemes.now c.in-Some.rest.now c.in-Some.ensures h

pub returns-else-is_among : goal.returns-else-is_among
returns-else-is_among c =
    let h : has (any c.args.sorts.now) (class_of c.in-Some.lexeme) ≡ false = cc in
    stops_here c.misfit.result c.args.levels c.args.lexemes.now _ c.misfit.ensures (token_wrong c.args.levels (any c.args.sorts.now) c.in-Some.lexeme c.args.lexemes.now c.in-Some.rest.now c.in-Some.ensures h)
