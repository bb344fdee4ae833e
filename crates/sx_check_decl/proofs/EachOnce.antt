-- Numbers that are sorted, and of which repetitions are left out, rise, and are those that they were.
use Rattle.std.proofs.Common.{◌≡◌, ℕ, zero, suc, ◌+◌, ◌<◌, ◌==◌, List, [], ◌∷◌, length, map, get_or, Result, Ok, Err, IfOk, sym, subst, arith}
use Rattle.std.specs.Cmp.{nat_cmp_total, ranked, unsigned_ties}
use Rattle.std.specs.List.{dedup}
use Rattle.std.specs.List.Retain.{DiffersFromLast, IsFiltered}
use Rattle.std.specs.List.Sorted.{IsPermutation, IsSorted, IsStrictlyIncreasing, IsStrictlySortedBy}
use Rattle.std.specs.Ordering.{nat_cmp}
use Rattle.std.specs.declared.cmp.Ordering.TheVariants.{Less}
use Rattle.std.proofs.lemmas.List.Filters.{dedup_is}
use Rattle.std.proofs.lemmas.List.Kept.{Contains-dedup_nat, Contains-from_dedup, IsStrictlySortedBy-dedup}
use Rattle.std.proofs.lemmas.List.Sorted.{Contains-permutation, IsPermutation-sym}
use Rattle.sx_span.specs.declared.places.Node.{Node}
use Rattle.sx_check_decl.specs.Locals.{AreInOrder, HaveTheSame, number}

increases : (ns : List ℕ) → IsStrictlySortedBy nat_cmp ns → IsStrictlyIncreasing ns
unfolding IsStrictlySortedBy
increases [] h k l = omega arith
increases (n ∷ []) h k l = omega arith
increases (n ∷ m ∷ ns) h zero l = ranked n m Less (sym h.0.0)
increases (n ∷ m ∷ ns) h (suc k) l =
    let e : suc k + 1 ≡ suc (k + 1) = omega arith in
    let below : k + 1 < length (m ∷ ns) = omega arith in
    subst (λ (j : ℕ). get_or (m ∷ ns) k 0 < get_or (n ∷ m ∷ ns) j 0) (sym e) (increases (m ∷ ns) h.1 k below)

pub each_once : (xs ys zs : List ℕ) → IsPermutation xs ys → IsSorted nat_cmp ys → IsFiltered (DiffersFromLast (λ a b. a == b)) [] ys zs → HaveTheSame xs zs × IsStrictlyIncreasing zs
each_once xs ys zs p s f =
    let same : ℕ → ℕ → _ = λ a b. a == b in
    subst (λ (l : List ℕ). HaveTheSame xs l × IsStrictlyIncreasing l) (sym (dedup_is same ys zs f)) (
      λ n. (λ h. Contains-dedup_nat ys n (Contains-permutation xs ys n p h), λ h. Contains-permutation ys xs n (IsPermutation-sym xs ys p) (Contains-from_dedup same ys n h)),
      increases (dedup same ys) (IsStrictlySortedBy-dedup nat_cmp_total unsigned_ties ys s),
    )

-- the nodes with these numbers
pub nodes_in_order : {E : Type 0} (xs zs : List ℕ) (r : Result (List Node) E) → HaveTheSame xs zs × IsStrictlyIncreasing zs → IfOk r (λ nodes. map number nodes ≡ zs) → IfOk r (λ nodes. AreInOrder xs nodes)
nodes_in_order xs zs (Ok nodes) h e = subst (λ (l : List ℕ). HaveTheSame xs l × IsStrictlyIncreasing l) (sym e) h
nodes_in_order xs zs (Err x) h e = tt
