use Rattle.std.proofs.Common.{◌≡◌, length, Some, refl, arith}
use Rattle.sx_grammar.specs.Value.{items}
use Rattle.sx_grammar.specs.Grammar.{run}
use Rattle.sx_grammar.specs.Rules.{body}
use Rattle.sx_parse_decl.specs.Reading.{blame}
use Rattle.sx_parser.specs.Text.{text}
use Rattle.sx_parser.proofs.Reached.{at_end, done_front}
use Rattle.sx_parser.proofs.fronts.are_front.Goals as goal

pub returns-in-Ok : goal.returns-in-Ok
returns-in-Ok c = ((λ x. done_front (length c.args.lexemes.now) c.args.lexemes.now (items c.in-Ok._items) c.in-Ok.ensures), (λ x. refl))

pub returns-in-Err-Fault : goal.returns-in-Err-Fault
returns-in-Err-Fault c =
    let h : blame (run body (length c.args.lexemes.now) text c.args.lexemes.now) ≡ Some (c.in-Err-Fault.left, c.in-Err-Fault.field-0-1) = rw c.in-Err-Fault.field-0-is at c.in-Err-Fault.ensures in
    at_end (length c.args.lexemes.now) c.args.lexemes.now c.in-Err-Fault.left c.in-Err-Fault.field-0-1 (omega arith) h
