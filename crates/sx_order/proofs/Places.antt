-- How many places some parts of a tree have.
use Rattle.std.proofs.Common.{◌≡◌, ℕ, suc, ◌<◌, List, [], ◌∷◌, Some, length, refl, ap, arith}
use Rattle.sx_tree.specs.Nodes.{Places, trailing, own_of_links}

-- each operator has a node of its own
pub own_of_links-length : (ls : List Places) (start : ℕ) → length (own_of_links ls start) ≡ length ls
own_of_links-length [] start = refl
own_of_links-length (l ∷ ls) start = ap suc (own_of_links-length ls start)

-- a closure literal behind a call has one more than the literal, which has one itself
pub trailing-length : (ps : Places) → 0 < length ps → length (trailing (Some ps)) ≡ suc (length ps)
trailing-length [] h = absurd (omega (arith, h))
trailing-length (p ∷ ps) h = refl
