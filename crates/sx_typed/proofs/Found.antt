-- What a binary search finds in a list whose keys rise.
use Rattle.std.proofs.Common.{◌≡◌, ◌≢◌, ℕ, zero, suc, ◌<◌, ◌≤◌, ◌==◌, List, [], ◌∷◌, map, length, get_or, slice_get, None, Result, Ok, Err, MatchResult, find, refl, sym, ap, arith}
use Rattle.std.specs.List.Sorted.{IsSearchInRange, IsBinarySearchResult, IsNonDecreasingBy, IsStrictlyIncreasing}
use Rattle.std.specs.Ordering.{nat_cmp, ordering_index}
use Rattle.std.proofs.lemmas.Bool.Decides.{nat_tests}
use Rattle.std.proofs.lemmas.Cmp.{ranked}
use Rattle.std.proofs.lemmas.List.{get_or-map, length-map}
use Rattle.std.proofs.lemmas.Map.Keys.{sorted_from_strictly_increasing, below_from_sorted}

module _ {X : Type 0} (key : X → ℕ) where
  -- no element before place i has the key
  abbrev NoneBefore : List X → ℕ → ℕ → Type 0
  NoneBefore xs k i = (j : ℕ) (d : X) → j < i → j < length xs → key (get_or xs j d) ≢ k

  tail : (x : X) (xs : List X) (k i : ℕ) → NoneBefore (x ∷ xs) k (suc i) → NoneBefore xs k i
  tail x xs k i none j d lt inside = none (suc j) d (omega arith) (omega arith)

  absent : (xs : List X) (k : ℕ) → NoneBefore xs k (length xs) → find (λ x. key x == k) xs ≡ None
  absent [] k none = refl
  absent (x ∷ xs) k none = grind (arith, nat_tests, none 0 x (omega arith) (omega arith), absent xs k (tail x xs k (length xs) none))

  present : (xs : List X) (k i : ℕ) (d : X) → i < length xs → key (get_or xs i d) ≡ k → NoneBefore xs k i → find (λ x. key x == k) xs ≡ slice_get xs i
  present [] k i d inside has none = absurd (omega (arith, inside))
  present (x ∷ xs) k zero d inside has none = grind (arith, nat_tests, has)
  present (x ∷ xs) k (suc i) d inside has none = grind (arith, nat_tests, none 0 x (omega arith) (omega arith), present xs k i d (omega (arith, inside)) has (tail x xs k i none))

  module _ (xs : List X) (rise : IsStrictlyIncreasing (map key xs)) (k : ℕ) where
    rises : (i j : ℕ) (d : X) → i < j → j < length xs → key (get_or xs i d) < key (get_or xs j d)
    rises i j d lt inside =
        let below = below_from_sorted (map key xs) i j 0 (sorted_from_strictly_increasing (map key xs) rise) lt (rw (length-map xs key) inside) in
        let first : get_or (map key xs) i 0 ≡ key (get_or xs i d) = get_or-map key xs i d 0 (omega arith) in
        let second : get_or (map key xs) j 0 ≡ key (get_or xs j d) = get_or-map key xs j d 0 inside in
        grind (arith, below, first, second)

    comparisons_rise : IsNonDecreasingBy (λ x. ordering_index (nat_cmp (key x) k)) xs
    comparisons_rise i j d le inside =
        let keys_rise : key (get_or xs i d) ≤ key (get_or xs j d) = grind (arith, rises i j d, λ (same : i ≡ j). ap (λ n. key (get_or xs n d)) same) in
        grind (arith, nat_tests)

    pub searched : (r : Result ℕ ℕ) → IsSearchInRange r (length xs) → IsBinarySearchResult (λ x. nat_cmp (key x) k) xs r
        → MatchResult r (λ i. slice_get xs i ≡ find (λ x. key x == k) xs) (λ i. None ≡ find (λ x. key x == k) xs)
    searched (Ok at) inside equal = sym (at_key xs refl)
      where
        has : (d : X) → key (get_or xs at d) ≡ k
        has d = ranked _ k _ (sym (equal d))

        at_key : (ys : List X) → ys ≡ xs → find (λ x. key x == k) xs ≡ slice_get xs at
        at_key [] e = absurd (let none : 0 ≡ length xs = ap length e in omega (arith, inside))
        at_key (y ∷ ys) e = present xs k at y inside (has y) (λ j d lt in_list same. omega (arith, rises j at d lt inside, has d))
    searched (Err at) inside parted = sym (absent xs k (λ j d lt in_list same. apart j d in_list same))
      where
        apart : (j : ℕ) (d : X) → j < length xs → key (get_or xs j d) ≢ k
        apart j d in_list same =
            let smaller = λ (lt : j < at). ranked _ k _ (sym ((parted comparisons_rise).0 j d (omega arith) lt)) in
            let greater = λ (le : at ≤ j). ranked _ k _ (sym ((parted comparisons_rise).1 j d le in_list)) in
            grind (arith, smaller, greater)
