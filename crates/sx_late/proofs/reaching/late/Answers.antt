use Rattle.std.proofs.Common.{[], length, true, false, sym, ap, subst, ◌∙◌, arith}
use Rattle.sx_late.specs.Mentions.{statement_mentions}
use Rattle.sx_late.specs.Walking.{IsFollowed, IsLeastReached}
use Rattle.sx_late.proofs.Statements.{read, first_late, next_statement, declared_few, none_late}
use Rattle.sx_late.proofs.reaching.late.Goals as goal
use Rattle.sx_late.proofs.reaching.late.Goals.{then-stores_global, else-stores_global}

pub returns-in-Some : goal.returns-in-Some
returns-in-Some c =
    let stands = read c.args.typed.now c.as_slice-top.result.now c.loop-index.index c.index-top-index.result _ c.as_slice-top.ensures c.loop-index-test.true c.index-top-index.is in
    first_late c.args.typed.now c.loop-index.index c.index-top-index.result stands c.loop-index.declared c.in-Some.global c.loop-index.invariant.1 c.loop-index.invariant.2
    (subst (λ least. IsLeastReached c.args.typed.now (statement_mentions c.args.typed.now c.index-top-index.result) c.loop-index.declared least) c.in-Some.is c.in_ok-least.ensures.least)

pub overflow_add-declared : goal.overflow_add-declared
overflow_add-declared c = let few = declared_few c.args.typed.now c.loop-index.index in let is = c.loop-index.invariant.1 in let less = c.loop-index-test.true in omega (arith, few, is)

pub loop-index-preserved : goal.loop-index-preserved
loop-index-preserved c =
    let stands = read c.args.typed.now c.as_slice-top.result.now c.loop-index.index c.index-top-index.result _ c.as_slice-top.ensures c.loop-index-test.true c.index-top-index.is in
    let least = subst (λ least. IsLeastReached c.args.typed.now (statement_mentions c.args.typed.now c.index-top-index.result) c.loop-index.declared least) c.in_default.is c.in_ok-least.ensures.least in
    let seen = subst (λ least. IsFollowed c.args.typed.now c.reached.new.seen.keys c.loop-index.declared least []) c.in_default.is c.in_ok-least.ensures.seen in
    let next = next_statement c.args.typed.now c.loop-index.index c.index-top-index.result stands c.reached.new.seen.keys c.loop-index.declared c.if-stores_global.declared seen c.loop-index.invariant.1 c.loop-index.invariant.2 least in
    elim c.if-stores_global.branch [
      | then-stores_global w ↦ next true (sym w.if-stores_global.true ∙ c.stores_global.ensures) w.declared-is
      | else-stores_global w ↦ next false (sym w.if-stores_global.false ∙ c.stores_global.ensures) (let e = w.declared-is in omega (arith, e))
    ]

pub returns : goal.returns
returns c = none_late c.args.typed.now (λ j g less. c.loop-index.invariant.2 j g (let done = c.loop-index-test.false in let e = ap (λ top. length top) c.as_slice-top.ensures in omega (arith, done, e)))
