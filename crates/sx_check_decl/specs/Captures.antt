-- The words of what all closure literals capture together.
use Rattle.std.specs.Prelude.{ℕ, ◌+◌, nat_le, List, [], ◌∷◌, Option, Some, None, cond}
use Rattle.sx_span.specs.declared.places.Node.{Node}
use Rattle.sx_types.specs.declared.types.Types.{Types}
use Rattle.sx_typed.specs.declared.program.Function.{Function}
use Rattle.sx_bodies.specs.Literals.{mention_words, total}

abbrev pub most_captured_words : ℕ
most_captured_words = 65536

-- functions but closure literals mention nothing that stands outside of them
abbrev pub captured_words : Types → Function → ℕ
captured_words types f = total (mention_words types) f.mentions

-- the first function whose captures bring the sum past the bound
abbrev pub crowded_from : Types → ℕ → List Function → Option Node
crowded_from types n [] = None
crowded_from types n (f ∷ fs) =
    cond (nat_le (n + captured_words types f) most_captured_words) (crowded_from types (n + captured_words types f) fs) (Some f.node)

abbrev pub crowded : Types → List Function → Option Node
crowded types fs = crowded_from types 0 fs
