use Rattle.std.proofs.Common.{◌≡◌, [], ◌∷◌, drop, true, false, sym, ◌∙◌}
use Rattle.sx_grammar.specs.declared.lexemes.Sort.TheVariants as sorts
use Rattle.sx_grammar.specs.Classes.{here}
use Rattle.sx_grammar.specs.Grammar.{starts}
use Rattle.sx_grammar.specs.Rules.{plain_ends}
use Rattle.sx_parse_items.proofs.Classes.{starts_first, starts_second}
use Rattle.sx_parse_items.proofs.ends.starts_plain_end.Goals as goal

pub returns-then-starts_here : goal.returns-then-starts_here
returns-then-starts_here c =
    let e : starts (here (sorts.CloseBrace ∷ [])) c.args.lexemes.now ≡ true = sym c.starts_here.ensures ∙ c.if-starts_here.true in
    starts_first (here (sorts.CloseBrace ∷ [])) (drop 1 plain_ends) c.args.lexemes.now e

pub returns : goal.returns
returns c =
    let e : starts (here (sorts.CloseBrace ∷ [])) c.args.lexemes.now ≡ false = sym c.starts_here.ensures ∙ c.if-starts_here.false in
    starts_second (here (sorts.CloseBrace ∷ [])) (drop 1 plain_ends) c.args.lexemes.now c.starts_below.result e c.starts_below.ensures
