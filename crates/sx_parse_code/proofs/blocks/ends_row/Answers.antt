use Rattle.std.proofs.Common.{sym, ◌∙◌}
use Rattle.sx_parse_code.proofs.Firsts.{row_below}
use Rattle.sx_parse_code.proofs.blocks.ends_row.Goals as goal

pub returns : goal.returns
returns c = c.starts_below.ensures ∙ sym (row_below c.args.lexemes.now (sym c.is_empty.ensures ∙ c.if-is_empty.false) (sym c.starts_here.ensures ∙ c.if-starts_here.false))
