use Rattle.std.proofs.Common.{◌≡◌, true, false, sym, ◌∙◌}
use Rattle.std.proofs.lemmas.Result.{err_from_is_err_and}
use Rattle.sx_grammar.specs.Classes.{here}
use Rattle.sx_grammar.specs.Grammar.{starts}
use Rattle.sx_grammar.specs.Rules.{expr, starters}
use Rattle.sx_grammar.specs.declared.lexemes.Mode.TheVariants as modes
use Rattle.sx_parse_decl.proofs.Parts.{stops_at}
use Rattle.sx_parse_code.proofs.Firsts.{first_returned, begin_none, begin_some}
use Rattle.sx_parse_code.proofs.statements.returned.Goals as goal

pub returns-then-not-starts_operand_here : goal.returns-then-not-starts_operand_here
returns-then-not-starts_operand_here g c =
    let s : starts (here starters) c.args.lexemes.now ≡ false = sym c.starts_operand_here.ensures ∙ c.if-not-starts_operand_here.true in
    begin_none c.args.levels (here starters) (expr modes.Free) first_returned c.args.lexemes.now s

pub returns-in_err-value : goal.returns-in_err-value
returns-in_err-value g c =
    let p = err_from_is_err_and c.from_residual.result c.from_residual.ensures.1 in
    let s : starts (here starters) c.args.lexemes.now ≡ true = sym c.starts_operand_here.ensures ∙ c.if-not-starts_operand_here.false in
    rw (p.1, p.2) (stops_at c.in_err-value.field-0.0 _ _ (begin_some c.args.levels (here starters) (expr modes.Free) first_returned c.args.lexemes.now s) c.in_err-value.ensures)

pub returns : goal.returns
returns g c =
    let s : starts (here starters) c.args.lexemes.now ≡ true = sym c.starts_operand_here.ensures ∙ c.if-not-starts_operand_here.false in
    begin_some c.args.levels (here starters) (expr modes.Free) first_returned c.args.lexemes.now s ∙ c.in_ok-value.ensures
