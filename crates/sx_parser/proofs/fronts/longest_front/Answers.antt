use Rattle.std.proofs.Common.{◌≡◌, ◌+◌, List, take, sym, ◌∙◌, subst, true, false, arith}
use Rattle.sx_token.specs.declared.kinds.Token.{Token}
use Rattle.sx_token.specs.Sound.{contents}
use Rattle.sx_parser.specs.Fronts.{IsFront}
use Rattle.sx_parser.proofs.Longest.{is_longest}
use Rattle.sx_parser.proofs.fronts.longest_front.Goals as goal

pub returns-then-not-branch : goal.returns-then-not-branch
returns-then-not-branch c =
    let names = contents c.args.tokens.now.names.items in
    let more = λ (ts : List Token). IsFront names (take (c.turns.count + 1) ts) in
    is_longest names c.args.tokens.now.list.items c.turns.count (omega arith) c.turns.invariant.front
    (λ x. let y : false ≡ true = sym c.if-not-branch.true ∙ c.in_ok-is_front.ensures.1 (subst more (sym c.deref.ensures.value) x) in cc y)
