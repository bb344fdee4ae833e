-- Failing nodes in order.
use Rattle.std.proofs.Common.{ℕ, zero, suc, ◌<◌, ◌≤◌, List, [], ◌∷◌, ◌++◌, All, le_trans, arith}
use Rattle.sx_scope.specs.declared.stop.TypeStop.{TypeStop}
use Rattle.sx_order.specs.Order.{Rising, number_of}

pub rising-wider : (lo lo' hi hi' : ℕ) (fs : List TypeStop) → lo' ≤ lo → hi ≤ hi' → Rising lo hi fs → Rising lo' hi' fs
rising-wider lo lo' hi hi' [] a b h = tt
rising-wider lo lo' hi hi' (f ∷ fs) a b h =
    (omega (arith, h.0), omega (arith, h.1), rising-wider (number_of f) (number_of f) hi hi' fs (omega arith) b h.2)

-- those of a part, and then those of the part behind it
pub rising-append : (lo mid hi : ℕ) (fs gs : List TypeStop) → lo ≤ mid → mid ≤ hi → Rising lo mid fs → Rising mid hi gs → Rising lo hi (fs ++ gs)
rising-append lo mid hi [] gs a b h k = rising-wider mid lo hi hi gs a (omega arith) k
rising-append lo mid hi (f ∷ fs) gs a b h k =
    (h.0, omega (arith, h.1), rising-append (number_of f) mid hi fs gs (omega (arith, h.1)) b h.2 k)

-- none has a lesser number
pub rising-least : (lo hi : ℕ) (fs : List TypeStop) → Rising lo hi fs → All (λ f. lo ≤ number_of f) fs
rising-least lo hi [] h k d l = absurd (omega (arith, l))
rising-least lo hi (f ∷ fs) h zero d l = h.0
rising-least lo hi (f ∷ fs) h (suc k) d l = le_trans h.0 (rising-least (number_of f) hi fs h.2 k d (omega (arith, l)))

-- none lies behind the end
pub rising-below : (lo hi : ℕ) (fs : List TypeStop) → Rising lo hi fs → All (λ f. number_of f < hi) fs
rising-below lo hi [] h k d l = absurd (omega (arith, l))
rising-below lo hi (f ∷ fs) h zero d l = h.1
rising-below lo hi (f ∷ fs) h (suc k) d l = rising-below (number_of f) hi fs h.2 k d (omega (arith, l))
