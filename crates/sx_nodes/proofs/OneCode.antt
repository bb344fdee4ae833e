-- A number stands for one part at most.
use Rattle.std.proofs.Common.{◌≡◌, ℕ, ◌<◌, List, [], ◌∷◌, ◌++◌, length, Option, refl, sym, subst, ◌∙◌, arith}
use Rattle.std.proofs.lemmas.Option.{same_Some, slice_get_within}
use Rattle.sx_nodes.specs.declared.code.Code.{Code}
use Rattle.sx_nodes.specs.Pieces.{Piece, own, inner}
use Rattle.sx_nodes.specs.Walks.{Numbered, here, further, beyond}

pub one_code : (ps : List Piece) (n : ℕ) (c d : Option Code) → Numbered ps n c → Numbered ps n d → c ≡ d
one_code [] n c d beyond beyond = refl
one_code (p ∷ ps) n c d (here h) (here k) = same_Some c d (sym h ∙ k)
one_code (p ∷ ps) n c d (here h) (further e s) =
    let within : n < length (own p) = slice_get_within (own p) n c h in absurd (omega (arith, within, e))
one_code (p ∷ ps) n c d (further e r) (here k) =
    let within : n < length (own p) = slice_get_within (own p) n d k in absurd (omega (arith, within, e))
one_code (p ∷ ps) n c d (further {m = m} e r) (further {m = j} f s) =
    let same : j ≡ m = omega (arith, e, f) in
    one_code (inner p ++ ps) m c d r (subst (λ i. Numbered (inner p ++ ps) i d) same s)
