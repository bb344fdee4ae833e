-- How the functions grow that a walk finds.
use Rattle.std.proofs.Common.{◌≡◌, ℕ, zero, suc, ◌+◌, ◌<◌, ◌≤◌, List, [], ◌∷◌, ◌++◌, All, map, length, get_or, take, drop, sym, ap, ◌∙◌, subst, append_assoc, append-nil, arith}
use Rattle.sx_typed.specs.declared.program.Function.{Function}
use Rattle.sx_typed.specs.Functions.{RiseByNode}
use Rattle.sx_scope.specs.declared.walk.Walk.{Walk}
use Rattle.sx_scope.specs.Walks.{advanced}
use Rattle.sx_order.specs.Order.{FunctionsRise, Start, starting, since, Stands, Reaches}

-- ---- functions in order
pub functions-wider : (lo lo' hi hi' : ℕ) (fs : List Function) → lo' ≤ lo → hi ≤ hi' → FunctionsRise lo hi fs → FunctionsRise lo' hi' fs
functions-wider lo lo' hi hi' [] a b h = tt
functions-wider lo lo' hi hi' (f ∷ fs) a b h =
    (omega (arith, h.0), omega (arith, h.1), functions-wider (suc f.node.0) (suc f.node.0) hi hi' fs (omega arith) b h.2)

-- those of a part, and then those of the part behind it
pub functions-append : (lo mid hi : ℕ) (fs gs : List Function) → lo ≤ mid → mid ≤ hi → FunctionsRise lo mid fs → FunctionsRise mid hi gs → FunctionsRise lo hi (fs ++ gs)
functions-append lo mid hi [] gs a b h k = functions-wider mid lo hi hi gs a (omega arith) k
functions-append lo mid hi (f ∷ fs) gs a b h k =
    (h.0, omega (arith, h.1), functions-append (suc f.node.0) mid hi fs gs (omega (arith, h.1)) b h.2 k)

-- none lies behind the end
pub functions-below : (lo hi : ℕ) (fs : List Function) → FunctionsRise lo hi fs → All (λ f. f.node.0 < hi) fs
functions-below lo hi [] h k d l = absurd (omega (arith, l))
functions-below lo hi (f ∷ fs) h zero d l = h.1
functions-below lo hi (f ∷ fs) h (suc k) d l = functions-below (suc f.node.0) hi fs h.2 k d (omega (arith, l))

-- each stands at a greater node than the one ahead of it
pub functions-increase : (lo hi : ℕ) (fs : List Function) → FunctionsRise lo hi fs → RiseByNode fs
functions-increase lo hi [] h k l = omega arith
functions-increase lo hi (f ∷ []) h k l = omega arith
functions-increase lo hi (f ∷ g ∷ fs) h zero l = let less : f.node.0 < g.node.0 = omega (arith, h.2.0) in less
functions-increase lo hi (f ∷ g ∷ fs) h (suc k) l =
    let e : suc k + 1 ≡ suc (k + 1) = omega arith in
    let others : List ℕ = map (λ (f : Function). f.node.0) (g ∷ fs) in
    let below : k + 1 < length others = omega arith in
    subst (λ (j : ℕ). get_or others k 0 < get_or (f.node.0 ∷ others) j 0) (sym e) (functions-increase (suc f.node.0) hi (g ∷ fs) h.2 k below)

-- ---- a list that is cut behind its first part
pub take-first : (fs gs : List Function) (n : ℕ) → n ≡ length fs → take n (fs ++ gs) ≡ fs
take-first [] gs n e = ap (λ (k : ℕ). take k gs) e
take-first (f ∷ fs) gs zero e = absurd (omega (arith, e))
take-first (f ∷ fs) gs (suc n) e = ap (λ (hs : List Function). f ∷ hs) (take-first fs gs n (omega (arith, e)))

pub drop-first : (fs gs : List Function) (n : ℕ) → n ≡ length fs → drop n (fs ++ gs) ≡ gs
drop-first [] gs n e = ap (λ (k : ℕ). drop k gs) e
drop-first (f ∷ fs) gs zero e = absurd (omega (arith, e))
drop-first (f ∷ fs) gs (suc n) e = drop-first fs gs n (omega (arith, e))

-- ---- where a walk stands
-- where it begins
pub stands-first : (w : Walk) (hi : ℕ) → w.next ≡ hi → Stands (since w) hi w
stands-first w hi e = record { next = e; begun = omega (arith, e); grows = record { found = []; grown = sym (append-nil w.literals); rise = tt } }

abbrev pub reaches-first : {hi : ℕ} (w : Walk) → w.next ≡ hi → Reaches hi w
reaches-first {hi = hi} w e = record { start = since w; stands = stands-first w hi e }

-- behind so many nodes
pub stands-passed : {hi : ℕ} (n : ℕ) (w : Walk) → n + w.next ≡ hi → Stands (since w) hi (advanced n w)
stands-passed n w e = record { next = e; begun = omega (arith, e); grows = record { found = []; grown = sym (append-nil w.literals); rise = tt } }

-- it began before
pub stands-before : {hi : ℕ} (fs : List Function) (n m : ℕ) (w : Walk) → m ≤ n → Stands (starting fs n) hi w → Stands (starting fs m) hi w
stands-before {hi = hi} fs n m w l h = record {
  next = h.next;
  begun = omega (arith, l, h.begun);
  grows = record { found = h.grows.found; grown = h.grows.grown; rise = functions-wider n m hi hi h.grows.found l (omega arith) h.grows.rise };
}

-- it goes on from where another stood
pub stands-on : {old : Start} {mid hi : ℕ} (w u : Walk) → mid ≤ hi → Stands old mid w → Stands (since w) hi u → Stands old hi u
stands-on {old = old} {mid = mid} {hi = hi} w u l h k =
    let first : List Function = h.grows.found in
    let behind : List Function = k.grows.found in
    let others : FunctionsRise mid hi behind = subst (λ (n : ℕ). FunctionsRise n hi behind) h.next k.grows.rise in
    record {
      next = k.next;
      begun = omega (arith, l, h.begun);
      grows = record {
        found = first ++ behind;
        grown = k.grows.grown ∙ ap (λ (fs : List Function). fs ++ behind) h.grows.grown ∙ append_assoc old.functions first behind;
        rise = functions-append old.from mid hi first behind h.begun l h.grows.rise others;
      };
    }

-- with the same functions and the same next node
pub stands-same : {old : Start} {hi : ℕ} (w u : Walk) → u.next ≡ w.next → u.literals ≡ w.literals → Stands old hi w → Stands old hi u
stands-same w u e f h = record {
  next = e ∙ h.next;
  begun = h.begun;
  grows = record { found = h.grows.found; grown = f ∙ h.grows.grown; rise = h.grows.rise };
}

-- a function at node n comes before those found behind the node
pub stands-added : {fs : List Function} {hi : ℕ} (n before : ℕ) (f : Function) (w : Walk) → f.node.0 ≡ n → before ≡ length fs → Stands (starting fs (suc n)) hi w →
    Stands (starting fs n) hi (record w { literals = take before w.literals ++ f ∷ drop before w.literals })
stands-added {fs = fs} {hi = hi} n before f w at e h =
    let others : List Function = h.grows.found in
    let first : take before w.literals ≡ fs = ap (λ (gs : List Function). take before gs) h.grows.grown ∙ take-first fs others before e in
    let behind : drop before w.literals ≡ others = ap (λ (gs : List Function). drop before gs) h.grows.grown ∙ drop-first fs others before e in
    let rest : FunctionsRise (suc f.node.0) hi others = subst (λ (m : ℕ). FunctionsRise (suc m) hi others) (sym at) h.grows.rise in
    record {
      next = h.next;
      begun = omega (arith, h.begun);
      grows = record {
        found = f ∷ others;
        grown = ap (λ (gs : List Function). gs ++ f ∷ drop before w.literals) first ∙ ap (λ (gs : List Function). fs ++ f ∷ gs) behind;
        rise = (omega (arith, at), omega (arith, at, h.begun), rest);
      };
    }
