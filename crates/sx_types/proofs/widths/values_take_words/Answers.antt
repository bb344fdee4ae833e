use Rattle.std.proofs.Common.{◌≡◌, ◌≢◌, ◌≤◌, ℕ, List, length, Some, refl, arith}
use Rattle.sx_types.specs.declared.types.Structure.{Structure}
use Rattle.sx_types.specs.declared.types.Ty.{Ty}
use Rattle.sx_types.specs.declared.types.Ty.TheVariants.{Int, Bool, Void, Array, Struct, Class, Func}
use Rattle.sx_types.specs.Words.{words_of}
use Rattle.sx_types.proofs.Nesting.{structure_takes_a_word}
use Rattle.sx_types.proofs.widths.values_take_words.Goals as goal

takes : (structures : List Structure) (ty : Ty) (n : ℕ) → ty ≢ Void → words_of structures ty ≡ Some n → 1 ≤ n
takes structures Int n some e = let same : 1 ≡ n = cc in omega arith
takes structures Bool n some e = let same : 1 ≡ n = cc in omega arith
takes structures Void n some e = absurd (some refl)
takes structures Array n some e = let same : 1 ≡ n = cc in omega arith
takes structures (Struct k) n some e = structure_takes_a_word structures (length structures) k n e
takes structures (Class k) n some e = let same : 1 ≡ n = cc in omega arith
takes structures (Func k) n some e = let same : 2 ≡ n = cc in omega arith

pub returns : goal.returns
returns c = takes
