use Rattle.std.proofs.Common.{◌≡◌, arith, Some}
use Rattle.sx_grammar.specs.Value.{a_head}
use Rattle.sx_grammar.specs.Grammar.{run}
use Rattle.sx_grammar.specs.Rules.{body, head}
use Rattle.sx_grammar.proofs.Suffixes.{suffix_length}
use Rattle.sx_parse_decl.specs.Reading.{blame}
use Rattle.sx_parse_decl.proofs.Declared.{done_suffix, fits, is_head, is_syntax, is_too_deep}
use Rattle.sx_parse_decl.proofs.declaration.head_of.Goals as goal

pub overflow_sub-result : goal.overflow_sub-result
overflow_sub-result c = let x = suffix_length (done_suffix c.args.levels head c.args.lexemes.now (a_head c.in-Ok.head) c.in-Ok.rest.now c.in-Ok.ensures) in let y = c.requires in omega (arith, x, y)

pub returns-in-Ok : goal.returns-in-Ok
returns-in-Ok c = is_head c.args.levels c.args.lexemes.now c.args.at c.args.total c.in-Ok.head c.in-Ok.rest.now c.requires c.in-Ok.ensures

pub place_of-place-requires : goal.place_of-place-requires
place_of-place-requires c = fits c.args.levels head c.args.lexemes.now c.in-Err-Fault.left c.in-Err-Fault.deep (rw c.in-Err-Fault.field-0-is at c.in-Err-Fault.ensures)

pub returns-then-deep : goal.returns-then-deep
returns-then-deep c =
    let h : blame (run body c.args.levels head c.args.lexemes.now) ≡ Some (c.in-Err-Fault.left, c.in-Err-Fault.deep) = rw c.in-Err-Fault.field-0-is at c.in-Err-Fault.ensures in
    rw c.place_of-place.ensures (is_too_deep c.args.levels c.args.lexemes.now c.args.end c.in-Err-Fault.left (rw c.if-deep.true at h))

pub returns-else-deep : goal.returns-else-deep
returns-else-deep c =
    let h : blame (run body c.args.levels head c.args.lexemes.now) ≡ Some (c.in-Err-Fault.left, c.in-Err-Fault.deep) = rw c.in-Err-Fault.field-0-is at c.in-Err-Fault.ensures in
    rw c.place_of-place.ensures (is_syntax c.args.levels c.args.lexemes.now c.args.end c.in-Err-Fault.left (rw c.if-deep.false at h))
