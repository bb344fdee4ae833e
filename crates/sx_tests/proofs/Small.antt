-- Small programs: no structures, one alone, and two functions in the order of their nodes.
use Rattle.std.proofs.Common.{◌≡◌, zero, suc, ◌<◌, [], ◌∷◌, option_and_then, arith, refl}
use Rattle.sx_types.specs.declared.types.Structure.{Structure}
use Rattle.sx_types.specs.declared.types.Ty.TheVariants.{Struct}
use Rattle.sx_types.specs.Words.{structure_within, words_of, if_narrow, AreCounted}
use Rattle.sx_typed.specs.declared.program.Function.{Function}
use Rattle.sx_typed.specs.Functions.{RiseByNode}

pub none_counted : AreCounted []
unfolding structure_within
none_counted k = refl

pub counted_alone : (s : Structure) → s.words ≡ option_and_then if_narrow (words_of (s ∷ []) (Struct 0)) → AreCounted (s ∷ [])
unfolding structure_within
counted_alone s e zero = e
counted_alone s e (suc k) = refl

pub two_rise : (f g : Function) → f.node.0 < g.node.0 → RiseByNode (f ∷ g ∷ [])
two_rise f g less zero inside = less
two_rise f g less (suc k) inside = absurd (omega (arith, inside))
