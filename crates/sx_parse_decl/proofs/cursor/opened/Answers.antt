use Rattle.std.proofs.Common.{◌≡◌, ℕ, suc, ◌-◌, arith, ap, ◌∙◌, true, false}
use Rattle.sx_grammar.specs.Classes.{any, class_of}
use Rattle.sx_grammar.specs.Grammar.{run, deeper, has}
use Rattle.sx_grammar.specs.Rules.{body}
use Rattle.sx_grammar.proofs.Equations.{deeper_end, deeper_wrong, deeper_deep, deeper_opens}
use Rattle.sx_parse_decl.specs.Reading.{blame}
use Rattle.sx_parse_decl.proofs.Bridge.{stops_here}
use Rattle.sx_parse_decl.proofs.cursor.opened.Goals as goal

pub returns-in-None-clause-run : goal.returns-in-None-clause-run
returns-in-None-clause-run c = λ n. ap blame (deeper_end c.args.levels (any c.args.sorts.now) n c.args.lexemes.now c.in-None.ensures)

pub returns-then-not-is_among-clause-run : goal.returns-then-not-is_among-clause-run
returns-then-not-is_among-clause-run c = λ n.
    let h : has (any c.args.sorts.now) (class_of c.in-Some.lexeme) ≡ false = cc in
    stops_here c.misfit.result c.args.levels c.args.lexemes.now _ c.misfit.ensures (deeper_wrong c.args.levels (any c.args.sorts.now) n c.in-Some.lexeme c.args.lexemes.now c.in-Some.rest.now c.in-Some.ensures h)

pub returns-then-levels-eq0-clause-run : goal.returns-then-levels-eq0-clause-run
returns-then-levels-eq0-clause-run c = λ n.
    let h : has (any c.args.sorts.now) (class_of c.in-Some.lexeme) ≡ true = cc in
    rw c.if-levels-eq0.true (ap blame (deeper_deep (any c.args.sorts.now) n c.in-Some.lexeme c.args.lexemes.now c.in-Some.rest.now c.in-Some.ensures h))

pub returns-else-levels-eq0-clause-run : goal.returns-else-levels-eq0-clause-run
returns-else-levels-eq0-clause-run c = λ n.
    let h : has (any c.args.sorts.now) (class_of c.in-Some.lexeme) ≡ true = cc in
    let e : c.args.levels ≡ suc (c.args.levels - 1) = omega arith in
    ap (λ (k : ℕ). run body k (deeper (any c.args.sorts.now) n) c.args.lexemes.now) e ∙ deeper_opens (c.args.levels - 1) (any c.args.sorts.now) n c.in-Some.lexeme c.args.lexemes.now c.in-Some.rest.now c.in-Some.ensures h
