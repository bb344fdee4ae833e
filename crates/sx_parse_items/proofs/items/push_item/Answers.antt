use Rattle.std.proofs.lemmas.Result.{err_from_is_err_and}
use Rattle.sx_grammar.specs.Value.{an_item}
use Rattle.sx_grammar.specs.Grammar.{both}
use Rattle.sx_grammar.specs.Rules.{item, separator, first_of}
use Rattle.sx_parse_code.specs.Views.{leaf_or_nothing}
use Rattle.sx_parse_decl.proofs.Parts.{both_done, giving_done, first_stops, second_stops, giving_stops}
use Rattle.sx_parse_items.proofs.items.push_item.Goals as goal

pub returns-in_err-item : goal.returns-in_err-item
returns-in_err-item c =
    let p = err_from_is_err_and c.from_residual.result c.from_residual.ensures.1 in
    rw (p.1, p.2) (giving_stops c.args.levels c.in_err-item.field-0.0 first_of (both item separator) c.args.lexemes.now
    (first_stops c.args.levels c.in_err-item.field-0.0 item separator c.args.lexemes.now c.in_err-item.ensures))

pub returns-in_err-rest : goal.returns-in_err-rest
returns-in_err-rest c =
    let p = err_from_is_err_and c.from_residual-in_err-rest.result c.from_residual-in_err-rest.ensures.1 in
    rw (p.1, p.2) (giving_stops c.args.levels c.in_err-rest.field-0.0 first_of (both item separator) c.args.lexemes.now
    (second_stops c.args.levels c.in_err-rest.field-0.0 item separator c.args.lexemes.now c.in_ok-item.after.now (an_item c.in_ok-item.item) c.in_ok-item.ensures c.in_err-rest.ensures))

pub returns : goal.returns
returns c = (
  c.in_ok-item.item,
  c.in_ok-push.ensures.ok,
  giving_done c.args.levels first_of (both item separator) c.args.lexemes.now c.in_ok-rest.rest.now _
      (both_done c.args.levels item separator c.args.lexemes.now c.in_ok-item.after.now c.in_ok-rest.rest.now (an_item c.in_ok-item.item) (leaf_or_nothing c.in_ok-rest.field-0-0) c.in_ok-item.ensures c.in_ok-rest.ensures),
)
