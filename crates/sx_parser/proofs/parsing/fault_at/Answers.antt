use Rattle.std.proofs.Common.{◌≡◌, ℕ, ◌-◌, length, drop, take, sym, ap, ◌∙◌, subst, arith}
use Rattle.sx_grammar.specs.Answer.{deepest}
use Rattle.sx_parser.specs.Answer.{names_of, start_of}
use Rattle.sx_parser.specs.Fronts.{IsFront}
use Rattle.sx_parser.proofs.Longest.{read_front}
use Rattle.sx_parser.proofs.Verdicts.{StopsAt, left_within, too_deep, syntax}
use Rattle.sx_parser.proofs.parsing.fault_at.Goals as goal

pub overflow_sub-read : goal.overflow_sub-read
overflow_sub-read c =
    let h = left_within c.args.tokens.now c.args.left c.args.deep c.requires.stops in
    let a = c.len.ensures in let b = c.args.tokens.now.list.ok.0 in omega (arith, a, b, h)

pub returns-then-deep : goal.returns-then-deep
returns-then-deep c =
    let h : StopsAt c.args.tokens.now c.args.left c.args.deep = c.requires.stops in
    let e : c.len.result ≡ length c.args.tokens.now.list.items = c.len.ensures ∙ c.args.tokens.now.list.ok.0 in
    too_deep c.args.tokens.now c.args.left c.place_of.result (rw c.if-deep.true at h)
    (c.place_of.ensures ∙ ap (λ (n : ℕ). start_of c.args.tokens.now.end (drop (n - c.args.left) c.args.tokens.now.list.items)) e)

pub longest_front-requires-clause-front : goal.longest_front-requires-clause-front
longest_front-requires-clause-front c =
    let e : c.len.result ≡ length c.args.tokens.now.list.items = c.len.ensures ∙ c.args.tokens.now.list.ok.0 in
    let names = names_of c.args.tokens.now in
    subst (λ (n : ℕ). IsFront names (take (n - c.args.left) c.args.tokens.now.list.items)) (sym e) (read_front names c.args.tokens.now.list.items deepest c.args.left c.args.deep c.requires.stops)

pub returns-in-Ok : goal.returns-in-Ok
returns-in-Ok c =
    let h : StopsAt c.args.tokens.now c.args.left c.args.deep = c.requires.stops in
    syntax c.args.tokens.now c.args.left c.in-Ok.count c.place_of-in-Ok.result (rw c.if-deep.false at h) c.in-Ok.ensures c.place_of-in-Ok.ensures
