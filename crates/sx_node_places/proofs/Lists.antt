-- Places one behind the other, and what stands from a number on.
use Rattle.std.proofs.Common.{◌≡◌, ℕ, zero, suc, ◌+◌, ◌<◌, List, [], ◌∷◌, ◌++◌, map, length, take, replicate, slice_get, Some, None, refl, sym, ap, ◌∙◌, arith, length-append, append_assoc, append-nil}
use Rattle.std.proofs.lemmas.List.{replicate-append-replicate}
use Rattle.std.proofs.lemmas.Option.{none-some, same_Some}
use Rattle.sx_tree.specs.Nodes.{Places, all}
use Rattle.sx_node_places.specs.Places.{StandFrom}

pub all-append : {X : Type 0} (g : X → Places) (xs ys : List X) → all (map g (xs ++ ys)) ≡ all (map g xs) ++ all (map g ys)
all-append g [] ys = refl
all-append g (x ∷ xs) ys = ap (λ rest. g x ++ rest) (all-append g xs ys) ∙ sym (append_assoc (g x) (all (map g xs)) (all (map g ys)))

-- the whole stands from 0 on
pub whole : (some list : Places) → list ≡ some → StandFrom 0 some list
whole some list e = ([], [], e ∙ sym (append-nil some), refl)

-- what stands in the first of two lists or in the second stands in both together
pub stands_first : (n : ℕ) (some one two : Places) → StandFrom n some one → StandFrom n some (one ++ two)
stands_first n some one two (before, behind, e, l) =
    (before, behind ++ two, ap (λ r. r ++ two) e ∙ append_assoc before (some ++ behind) two ∙ ap (λ r. before ++ r) (append_assoc some behind two), l)

pub stands_past : (n m : ℕ) (some one two : Places) → n ≡ length one + m → StandFrom m some two → StandFrom n some (one ++ two)
stands_past n m some one two i (before, behind, e, l) =
    (one ++ before, behind, ap (λ r. one ++ r) e ∙ sym (append_assoc one before (some ++ behind)), omega (arith, i, l, length-append one before))

-- of so many nodes at one place the last ones, and a front of what stands behind them
pub front_stands : (s n j : ℕ) (e i more : Places) → StandFrom n (replicate j s ++ (e ++ i)) (replicate (n + j) s ++ (e ++ (i ++ more)))
front_stands s n j e i more =
    let tail : Places = e ++ (i ++ more) in
    let inside : (replicate j s ++ (e ++ i)) ++ more ≡ replicate j s ++ tail = append_assoc (replicate j s) (e ++ i) more ∙ ap (λ r. replicate j s ++ r) (append_assoc e i more) in (
      replicate n s,
      more,
      ap (λ r. r ++ tail) (sym (replicate-append-replicate n j s)) ∙ append_assoc (replicate n s) (replicate j s) tail ∙ ap (λ r. replicate n s ++ r) (sym inside),
      length-of n,
    ) where
      length-of : (k : ℕ) → length (replicate k s) ≡ k
      length-of zero = refl
      length-of (suc k) = ap suc (length-of k)

pub none_within : {X P : Type 0} (xs : List X) (i : ℕ) → i < length xs → slice_get xs i ≡ None → P
none_within [] i l e = absurd (omega (arith, l))
none_within (x ∷ xs) zero l e = absurd (none-some x (sym e))
none_within (x ∷ xs) (suc i) l e = none_within xs i (omega (arith, l)) e

pub take_next : {X : Type 0} (xs : List X) (i : ℕ) (x : X) → slice_get xs i ≡ Some x → take (suc i) xs ≡ take i xs ++ x ∷ []
take_next [] i x e = absurd (none-some x e)
take_next (y ∷ xs) zero x e = ap (λ z. z ∷ []) (same_Some y x e)
take_next (y ∷ xs) (suc i) x e = ap (λ r. y ∷ r) (take_next xs i x e)
