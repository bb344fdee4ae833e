use Rattle.std.proofs.Common.{◌≡◌, ℕ, List, true, false, sym, ap, ◌∙◌}
use Rattle.sx_grammar.specs.Grammar.{starts, first}
use Rattle.sx_grammar.specs.Rules.{global, item, row_item}
use Rattle.sx_grammar.proofs.Equations.{either_left, either_right}
use Rattle.sx_parse_items.proofs.Adds.{adds_at}
use Rattle.sx_parse_items.proofs.Firsts.{first_global}
use Rattle.sx_parse_items.proofs.items.push_next.Goals as goal

pub returns-then-starts_with : goal.returns-then-starts_with
returns-then-starts_with c =
    let s : starts (first global) c.args.lexemes.now ≡ true = sym (c.starts_with.ensures ∙ ap (λ (cs : List ℕ). starts cs c.args.lexemes.now) first_global) ∙ c.if-starts_with.true in
    adds_at _ _ c.push_global.result _ _ (either_left c.args.levels global (row_item item) c.args.lexemes.now s) c.push_global.ensures

pub returns-else-starts_with : goal.returns-else-starts_with
returns-else-starts_with c =
    let s : starts (first global) c.args.lexemes.now ≡ false = sym (c.starts_with.ensures ∙ ap (λ (cs : List ℕ). starts cs c.args.lexemes.now) first_global) ∙ c.if-starts_with.false in
    adds_at _ _ c.push_item.result _ _ (either_right c.args.levels global (row_item item) c.args.lexemes.now s) c.push_item.ensures
