-- Nodes in the order of their numbers stand in one order.
use Rattle.std.proofs.Common.{◌≡◌, ℕ, zero, suc, ◌+◌, ◌<◌, List, [], ◌∷◌, map, length, get_or, Contains, refl, sym, ap, ap₂, subst, ◌∙◌, arith, inl, inr, ⊎_elim, ◌⊎◌}
use Rattle.std.specs.List.Sorted.{IsStrictlyIncreasing}
use Rattle.std.proofs.lemmas.List.{get_or-map, length-map}
use Rattle.std.proofs.lemmas.List.Kept.{AllPairs-from_increasing}
use Rattle.sx_span.specs.declared.places.Node.{Node}
use Rattle.sx_check_decl.specs.Locals.{HaveTheSame, number}

abbrev Rising : List Node → Type 0
Rising ns = IsStrictlyIncreasing (map number ns)

first_or_behind : (n m : Node) (ns : List Node) → Contains (n ∷ ns) m → (n ≡ m) ⊎ Contains ns m
first_or_behind n m ns (zero, l, e) = inl e
first_or_behind n m ns (suc k, l, e) = inr (k, omega (arith, l), e)

further : (n m : Node) (ns : List Node) → Contains ns m → Contains (n ∷ ns) m
further n m ns (k, l, e) = (suc k, omega (arith, l), e)

below : (n m : Node) (ns : List Node) → Rising (n ∷ ns) → Contains ns m → n.0 < m.0
below n m ns r (k, l, e) =
    let count : length (map number (n ∷ ns)) ≡ suc (length ns) = length-map (n ∷ ns) number in
    let less : n.0 < get_or (map number ns) k 0 = AllPairs-from_increasing (map number (n ∷ ns)) r 0 (suc k) 0 (omega arith) (omega (arith, l, count)) in
    let here : get_or (map number ns) k 0 ≡ m.0 = get_or-map number ns k m 0 l ∙ ap number e in
    omega (arith, less, here)

rest_rises : (n : Node) (ns : List Node) → Rising (n ∷ ns) → Rising ns
rest_rises n ns r k l = let e : suc k + 1 ≡ suc (k + 1) = omega arith in subst (λ j. get_or (map number ns) k 0 < get_or (map number (n ∷ ns)) j 0) e (r (suc k) (omega (arith, l)))

-- the first is the least of those that the other has too
same_first : (n m : Node) (ns ms : List Node) → Rising (n ∷ ns) → Rising (m ∷ ms) → Contains (m ∷ ms) n → Contains (n ∷ ns) m → n ≡ m
same_first n m ns ms r s h k =
    ⊎_elim (λ e. sym e)
    (λ behind. ⊎_elim (λ e. e) (λ after. let one : m.0 < n.0 = below m n ms s behind in let two : n.0 < m.0 = below n m ns r after in absurd (omega (arith, one, two))) (first_or_behind n m ns k))
    (first_or_behind m n ms h)

still_behind : (n m x : Node) (ns ms : List Node) → n ≡ m → Rising (n ∷ ns) → Contains ns x → Contains (m ∷ ms) x → Contains ms x
still_behind n m x ns ms e r h k =
    ⊎_elim (λ same. let less : n.0 < x.0 = below n x ns r h in let equal : n.0 ≡ x.0 = ap number (e ∙ same) in absurd (omega (arith, less, equal))) (λ behind. behind) (first_or_behind m x ms k)

same_rising : (ns ms : List Node) → Rising ns → Rising ms → ((x : Node) → Contains ns x → Contains ms x) → ((x : Node) → Contains ms x → Contains ns x) → ns ≡ ms
same_rising [] [] r s h k = refl
same_rising [] (m ∷ ms) r s h k = let (i, l, e) = k m (0, omega arith, refl) in absurd (omega (arith, l))
same_rising (n ∷ ns) [] r s h k = let (i, l, e) = h n (0, omega arith, refl) in absurd (omega (arith, l))
same_rising (n ∷ ns) (m ∷ ms) r s h k =
    let first : n ≡ m = same_first n m ns ms r s (h n (0, omega arith, refl)) (k m (0, omega arith, refl)) in
    ap₂ (λ x xs. x ∷ xs) first
    (same_rising ns ms (rest_rises n ns r) (rest_rises m ms s)
    (λ x i. still_behind n m x ns ms first r i (h x (further n x ns i)))
    (λ x i. still_behind m n x ms ns (sym first) s i (k x (further m x ms i))))

-- ---- by their numbers
number_there : (ns : List Node) (x : Node) → Contains ns x → Contains (map number ns) x.0
number_there ns x (k, l, e) = let count : length (map number ns) ≡ length ns = length-map ns number in (k, omega (arith, l, count), get_or-map number ns k x x.0 l ∙ ap number e)

node_there : (ns : List Node) (x : Node) → Contains (map number ns) x.0 → Contains ns x
node_there ns x (k, l, e) =
    let count : length (map number ns) ≡ length ns = length-map ns number in
    let less : k < length ns = omega (arith, l, count) in
    let same : number (get_or ns k x) ≡ x.0 = sym (get_or-map number ns k x x.0 less) ∙ e in
    (k, less, ap (λ (n : ℕ). record { 0 = n }) same)

pub one_order : (xs : List ℕ) (ns ms : List Node) → HaveTheSame xs (map number ns) → HaveTheSame xs (map number ms) → Rising ns → Rising ms → ns ≡ ms
one_order xs ns ms p q r s =
    same_rising ns ms r s
    (λ x i. node_there ms x ((q x.0).0 ((p x.0).1 (number_there ns x i))))
    (λ x i. node_there ns x ((p x.0).0 ((q x.0).1 (number_there ms x i))))
