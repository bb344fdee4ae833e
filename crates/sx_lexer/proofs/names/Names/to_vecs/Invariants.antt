use Rattle.std.proofs.Common.{◌≡◌, map, take}
use Rattle.sx_token.specs.Sound.{contents}
use Rattle.sx_lexer.proofs.names.Names.to_vecs.Given as goal

abbrev pub invariant-loop-name : goal.invariant-loop-name
invariant-loop-name l = contents l.vecs.items ≡ map (λ k. k.now) (take l.name-index l.name-items)
