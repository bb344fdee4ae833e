use Rattle.std.proofs.Common.{true, arith}
use Rattle.std.proofs.lemmas.Option.{slice_get_within}
use Rattle.sx_layout.proofs.Searches.{holder_within}
use Rattle.sx_layout.proofs.holding.holding_themselves.Goals as goal

pub returns : goal.returns
returns c =
    let told = c.loop-number.invariant in
    let done = c.loop-number-test.false in
    let end = c.loop-number.auto.number-end in (
      omega (arith, told.0),
      λ k. (
        λ marked. (told.1 k (let less = slice_get_within c.loop-number.told.items k true marked in let many = told.0 in omega arith)).0 marked,
        λ holds. (told.1 k (let less = holder_within c.args.structures.now k k holds in omega arith)).1 holds,
      ),
    )
