-- What a turn of the walk keeps.
use Rattle.std.proofs.Common.{◌≡◌, ◌≢◌, ◌⊎◌, inl, inr, ℕ, zero, suc, ◌+◌, ◌<◌, List, [], ◌∷◌, ◌++◌, map, length, replicate, set, get_or, slice_get, Option, Some, None, option_map, option_and_then, arith, refl, sym, ap, subst, ◌∙◌}
use Rattle.sx_layout.proofs.Lists.{length_map}
use Rattle.std.proofs.lemmas.List.Sums.{sum_by-set}
use Rattle.std.proofs.lemmas.Option.{slice_get-map, slice_get_within, slice_get-get_or, get_or_from_slice_get}
use Rattle.sx_types.specs.declared.types.Structure.{Structure}
use Rattle.sx_types.specs.declared.types.Ty.TheVariants.{Struct}
use Rattle.sx_types.specs.Words.{words_of}
use Rattle.sx_layout.specs.Holding.{HoldsDirectly, Holds, directly}
use Rattle.sx_layout.specs.declared.walking.Progress.{Progress}
use Rattle.sx_layout.specs.declared.walking.Progress.TheVariants.{Unseen, Open, Measured}
use Rattle.sx_layout.specs.declared.walking.Sum.{Sum}
use Rattle.sx_layout.specs.Walking.{StandsAt, IsUnmeasured, AreRight, IsNested, IsWalk, IsSum, chain_of, together, turns_for, left_to_do, StaySeen, words_if_measured}
use Rattle.sx_layout.proofs.Circles.{joined, no_words}
use Rattle.sx_layout.proofs.Lists.{at_front, at_last, front_or_last, set_or_other, map_last, length_last, length_set, length_replicate, in_range}
use Rattle.sx_layout.proofs.Sums.{narrow, sum_within, none_past}
use Rattle.sx_layout.proofs.Parts.{is_past}
use Rattle.sx_layout.specs.Measured.{AreWidths}

module _ (structures : List Structure) (progress : List Progress) where
  -- ---- the last of the chain is measured
  measured_nested : (front : List ℕ) (k : ℕ) (words : Option ℕ) → IsNested structures progress (front ++ k ∷ []) → IsNested structures (set progress k (Measured words)) front
  measured_nested front k words is = record {
    nested = λ i j a b less ata atb. is.nested i j a b less (at_front front (k ∷ []) i a ata) (at_front front (k ∷ []) j b atb);
    listed = λ j stands. by j (set_or_other progress k (Measured words) j Open stands);
  }
    where
      found : (j i : ℕ) → j ≢ k → (slice_get front i ≡ Some j) ⊎ ((i ≡ length front) × (j ≡ k)) → (i : ℕ) × (slice_get front i ≡ Some j)
      found j i other (inl at) = (i, at)
      found j i other (inr last) = absurd (other last.1)

      by : (j : ℕ) → ((j ≡ k) × (Open ≡ Measured words)) ⊎ ((j ≢ k) × (slice_get progress j ≡ Some Open)) → (i : ℕ) × (slice_get front i ≡ Some j)
      by j (inl same) = absurd (let e = same.1 in cc)
      by j (inr other) = let at = is.listed j other.1 in found j at.0 other.0 (front_or_last front k at.0 j at.1)

  right_more : (k : ℕ) (words : Option ℕ) → AreRight structures progress → words ≡ narrow (words_of structures (Struct k)) → AreRight structures (set progress k (Measured words))
  right_more k words right e j ws at = by (set_or_other progress k (Measured words) j (Measured ws) at)
    where
      by : ((j ≡ k) × (Measured ws ≡ Measured words)) ⊎ ((j ≢ k) × (slice_get progress j ≡ Some (Measured ws))) → ws ≡ narrow (words_of structures (Struct j))
      by (inl same) = let w : ws ≡ words = let h = same.1 in cc in w ∙ e ∙ ap (λ i. narrow (words_of structures (Struct i))) (sym same.0)
      by (inr other) = right j ws other.1

  pub measured_walk : (front : List Sum) (sum : Sum) (words : Option ℕ) → IsWalk structures progress (front ++ sum ∷ []) → words ≡ narrow (words_of structures (Struct sum.structure))
      → IsWalk structures (set progress sum.structure (Measured words)) front
  measured_walk front sum words is e = record {
    many = length_set progress sum.structure (Measured words) ∙ is.many;
    right = right_more sum.structure words is.right e;
    sums = λ i f at. is.sums i f (at_front front (sum ∷ []) i f at);
    chain = measured_nested (chain_of front) sum.structure words (subst (λ chain. IsNested structures progress chain) (map_last (λ (s : Sum). s.structure) front sum) is.chain);
  }

  -- ---- a structure that the last of the chain holds comes behind it
  opened_nested : (front : List ℕ) (k j : ℕ) → IsNested structures progress (front ++ k ∷ []) → HoldsDirectly structures k j → IsNested structures (set progress j Open) ((front ++ k ∷ []) ++ j ∷ [])
  opened_nested front k j is holds = record {
    nested = λ m n a b less ata atb. by m n a b less (front_or_last (front ++ k ∷ []) j m a ata) (front_or_last (front ++ k ∷ []) j n b atb);
    listed = λ i stands. seen i (set_or_other progress j Open i Open stands);
  }
    where
      here : (m a : ℕ) → slice_get (front ++ k ∷ []) m ≡ Some a → (slice_get front m ≡ Some a) ⊎ ((m ≡ length front) × (a ≡ k)) → Holds structures a j
      here m a at (inl before) =
          let less = slice_get_within front m a before in
          joined structures a k j (is.nested m (length front) a k less at (at_last front k)) (directly k j holds)
      here m a at (inr last) = rw last.1 (directly k j holds)

      by : (m n a b : ℕ) → m < n → (slice_get (front ++ k ∷ []) m ≡ Some a) ⊎ ((m ≡ length (front ++ k ∷ [])) × (a ≡ j)) → (slice_get (front ++ k ∷ []) n ≡ Some b) ⊎ ((n ≡ length (front ++ k ∷ [])) × (b ≡ j)) → Holds structures a b
      by m n a b less (inl ata) (inl atb) = is.nested m n a b less ata atb
      by m n a b less (inl ata) (inr last) = rw last.1 (here m a ata (front_or_last front k m a ata))
      by m n a b less (inr last) (inl atb) = let w = slice_get_within (front ++ k ∷ []) n b atb in let e = last.0 in absurd (omega arith)
      by m n a b less (inr last) (inr end) = let e = last.0 in let f = end.0 in absurd (omega arith)

      seen : (i : ℕ) → ((i ≡ j) × (Open ≡ Open)) ⊎ ((i ≢ j) × (slice_get progress i ≡ Some Open)) → (n : ℕ) × (slice_get ((front ++ k ∷ []) ++ j ∷ []) n ≡ Some i)
      seen i (inl same) = (length (front ++ k ∷ []), at_last (front ++ k ∷ []) j ∙ ap Some (sym same.0))
      seen i (inr other) = let at = is.listed i other.1 in (at.0, at_front (front ++ k ∷ []) (j ∷ []) at.0 i at.1)

  right_open : (k : ℕ) → AreRight structures progress → AreRight structures (set progress k Open)
  right_open k right j ws at = by (set_or_other progress k Open j (Measured ws) at)
    where
      by : ((j ≡ k) × (Measured ws ≡ Open)) ⊎ ((j ≢ k) × (slice_get progress j ≡ Some (Measured ws))) → ws ≡ narrow (words_of structures (Struct j))
      by (inl same) = absurd (let e = same.1 in cc)
      by (inr other) = right j ws other.1

  zero_adds : (o : Option ℕ) → o ≡ option_map (λ rest. 0 + rest) o
  zero_adds None = refl
  zero_adds (Some n) = ap Some (omega arith)

  pub first_sum : (k : ℕ) → k < length structures → IsSum structures (record { structure = k; next = 0; words = 0 })
  first_sum k less =
      let s = in_range structures k less in
      record {
        holder = s.0;
        found = s.1;
        within = omega arith;
        few = omega arith;
        adds = zero_adds (together structures s.0.stored);
      }

  seam : (front : List Sum) (sum : Sum) → chain_of (front ++ sum ∷ []) ≡ chain_of front ++ sum.structure ∷ []
  seam front sum = map_last (λ (s : Sum). s.structure) front sum

  pub opened_walk : (front : List Sum) (sum after : Sum) (j : ℕ) → IsWalk structures progress (front ++ sum ∷ []) → after.structure ≡ sum.structure → IsSum structures after → j < length structures
      → HoldsDirectly structures sum.structure j → IsWalk structures (set progress j Open) ((front ++ after ∷ []) ++ (record { structure = j; next = 0; words = 0 }) ∷ [])
  opened_walk front sum after j is same after_is less holds = record {
    many = length_set progress j Open ∙ is.many;
    right = right_open j is.right;
    sums = λ i f at. last i f (front_or_last (front ++ after ∷ []) first i f at);
    chain = subst (λ chain. IsNested structures (set progress j Open) chain) (sym chains) (opened_nested (chain_of front) sum.structure j (subst (λ chain. IsNested structures progress chain) (seam front sum) is.chain) holds);
  }
    where
      first : Sum
      first = record { structure = j; next = 0; words = 0 }

      before_last : (i : ℕ) (f : Sum) → (slice_get front i ≡ Some f) ⊎ ((i ≡ length front) × (f ≡ after)) → IsSum structures f
      before_last i f (inl at) = is.sums i f (at_front front (sum ∷ []) i f at)
      before_last i f (inr end) = subst (λ s. IsSum structures s) (sym end.1) after_is

      last : (i : ℕ) (f : Sum) → (slice_get (front ++ after ∷ []) i ≡ Some f) ⊎ ((i ≡ length (front ++ after ∷ [])) × (f ≡ first)) → IsSum structures f
      last i f (inl at) = before_last i f (front_or_last front after i f at)
      last i f (inr end) = subst (λ s. IsSum structures s) (sym end.1) (first_sum j less)

      chains : chain_of ((front ++ after ∷ []) ++ first ∷ []) ≡ (chain_of front ++ sum.structure ∷ []) ++ j ∷ []
      chains = seam (front ++ after ∷ []) first ∙ ap (λ chain. chain ++ j ∷ []) (seam front after ∙ ap (λ k. chain_of front ++ k ∷ []) same)

  -- ---- it holds one that is open
  pub circle_found : (front : List Sum) (sum : Sum) (j : ℕ) → IsWalk structures progress (front ++ sum ∷ []) → StandsAt progress j Open → HoldsDirectly structures sum.structure j
      → None ≡ narrow (words_of structures (Struct sum.structure))
  circle_found front sum j is stands holds = sym (ap narrow (no_words structures k (by at.0 (at.1) (front_or_last (chain_of front) k at.0 j at.1))))
    where
      k : ℕ
      k = sum.structure

      nest : IsNested structures progress (chain_of front ++ k ∷ [])
      nest = subst (λ chain. IsNested structures progress chain) (seam front sum) is.chain

      at : (i : ℕ) × (slice_get (chain_of front ++ k ∷ []) i ≡ Some j)
      at = nest.listed j stands

      by : (i : ℕ) → slice_get (chain_of front ++ k ∷ []) i ≡ Some j → (slice_get (chain_of front) i ≡ Some j) ⊎ ((i ≡ length (chain_of front)) × (j ≡ k)) → Holds structures k k
      by i e (inl before) =
          let less = slice_get_within (chain_of front) i j before in
          joined structures k j k (directly k j holds) (nest.nested i (length (chain_of front)) j k less e (at_last (chain_of front) k))
      by i e (inr last) = directly k k (subst (λ i. HoldsDirectly structures k i) last.1 holds)

-- ---- each turn leaves less to do
no_turns : (words : Option ℕ) → turns_for (Measured words) ≡ 0
no_turns words = refl

pub measured_less : (progress : List Progress) (front : List Sum) (sum : Sum) (words : Option ℕ) → sum.structure < length progress
    → left_to_do (set progress sum.structure (Measured words)) front < left_to_do progress (front ++ sum ∷ [])
measured_less progress front sum words less =
    let e = sum_by-set turns_for progress sum.structure (Measured words) Unseen less in
    let l = length_last front sum in
    omega arith

pub opened_less : (progress : List Progress) (front : List Sum) (sum after first : Sum) (j : ℕ) → StandsAt progress j Unseen
    → left_to_do (set progress j Open) ((front ++ after ∷ []) ++ first ∷ []) < left_to_do progress (front ++ sum ∷ [])
opened_less progress front sum after first j at =
    let e = sum_by-set turns_for progress j Open Unseen (slice_get_within progress j Unseen at) in
    let two : turns_for (get_or progress j Unseen) ≡ 2 = ap turns_for (get_or_from_slice_get progress j Unseen Unseen at) in
    let l = length_last front sum in
    let m = length_last front after in
    let n = length_last (front ++ after ∷ []) first in
    omega arith

-- ---- what was seen stays so
pub stay_measured : (progress : List Progress) (k : ℕ) (words : Option ℕ) → StaySeen progress (set progress k (Measured words))
stay_measured progress k words j at = by (set_or_other progress k (Measured words) j Unseen at)
  where
    by : ((j ≡ k) × (Unseen ≡ Measured words)) ⊎ ((j ≢ k) × (slice_get progress j ≡ Some Unseen)) → slice_get progress j ≡ Some Unseen
    by (inl same) = absurd (let e = same.1 in cc)
    by (inr other) = other.1

pub stay_open : (progress : List Progress) (k : ℕ) → StaySeen progress (set progress k Open)
stay_open progress k j at = by (set_or_other progress k Open j Unseen at)
  where
    by : ((j ≡ k) × (Unseen ≡ Open)) ⊎ ((j ≢ k) × (slice_get progress j ≡ Some Unseen)) → slice_get progress j ≡ Some Unseen
    by (inl same) = absurd (let e = same.1 in cc)
    by (inr other) = other.1

-- ---- in range
pub last_within : (structures : List Structure) (progress : List Progress) (front : List Sum) (sum : Sum) → IsWalk structures progress (front ++ sum ∷ []) → sum.structure < length progress
last_within structures progress front sum is =
    let less = sum_within structures sum (is.sums (length front) sum (at_last front sum)) in
    let many = is.many in
    omega arith

pub part_within : (progress : List Progress) (j : ℕ) → IsUnmeasured progress j → j < length progress
part_within progress j (inl at) = slice_get_within progress j Unseen at
part_within progress j (inr at) = slice_get_within progress j Open at

-- ---- as the code reads them
pub unseen_at : (progress : List Progress) (j : ℕ) (d : Progress) → IsUnmeasured progress j → get_or progress j d ≡ Unseen → StandsAt progress j Unseen
unseen_at progress j d is e = slice_get-get_or progress j d (part_within progress j is) ∙ ap Some e

pub open_at : (progress : List Progress) (j : ℕ) (d : Progress) → IsUnmeasured progress j → (get_or progress j d ≡ Unseen → ⊥) → StandsAt progress j Open
open_at progress j d (inl at) other = absurd (other (get_or_from_slice_get progress j Unseen d at))
open_at progress j d (inr at) other = at

-- ---- a walk begins
none_at : (i k : ℕ) → slice_get [] i ≡ Some k → ⊥
none_at i k e = cc

pub started_walk : (structures : List Structure) (progress : List Progress) (root : ℕ) → IsWalk structures progress [] → StandsAt progress root Unseen
    → IsWalk structures (set progress root Open) ((record { structure = root; next = 0; words = 0 }) ∷ [])
started_walk structures progress root is unseen =
    let less = slice_get_within progress root Unseen unseen in
    let many = is.many in
    record {
      many = length_set progress root Open ∙ is.many;
      right = right_open structures progress root is.right;
      sums = λ i f at. alone i f (front_or_last [] first i f at);
      chain = record {
        nested = λ i j a b order ata atb. absurd (apart i j a b order ata atb);
        listed = λ k stands. seen k (set_or_other progress root Open k Open stands);
      };
    }
  where
    first : Sum
    first = record { structure = root; next = 0; words = 0 }

    root_less : root < length structures
    root_less = let less = slice_get_within progress root Unseen unseen in let many = is.many in omega arith

    alone : (i : ℕ) (f : Sum) → (slice_get [] i ≡ Some f) ⊎ ((i ≡ 0) × (f ≡ first)) → IsSum structures f
    alone i f (inl at) = cc
    alone i f (inr end) = subst (λ s. IsSum structures s) (sym end.1) (first_sum structures progress root root_less)

    apart : (i j a b : ℕ) → i < j → slice_get (root ∷ []) i ≡ Some a → slice_get (root ∷ []) j ≡ Some b → ⊥
    apart i j a b order ata atb = let l = slice_get_within (root ∷ []) j b atb in omega arith

    seen : (k : ℕ) → ((k ≡ root) × (Open ≡ Open)) ⊎ ((k ≢ root) × (slice_get progress k ≡ Some Open)) → (i : ℕ) × (slice_get (root ∷ []) i ≡ Some k)
    seen k (inl same) = (0, ap Some (sym same.0))
    seen k (inr other) = let at = is.chain.listed k other.1 in absurd (none_at at.0 k at.1)

pub root_seen : (progress : List Progress) (root : ℕ) → StandsAt (set progress root Open) root Unseen → ⊥
root_seen progress root at = by (set_or_other progress root Open root Unseen at)
  where
    by : ((root ≡ root) × (Unseen ≡ Open)) ⊎ ((root ≢ root) × (slice_get progress root ≡ Some Unseen)) → ⊥
    by (inl same) = let e = same.1 in cc
    by (inr other) = other.0 refl

-- ---- all walks are done
pub nothing_open : (structures : List Structure) (progress : List Progress) → AreRight structures progress → length progress ≡ length structures → ((k : ℕ) → ¬ StandsAt progress k Open) → IsWalk structures progress []
nothing_open structures progress right many none = record {
  many = many;
  right = right;
  sums = λ i sum at. absurd (cc);
  chain = record {
    nested = λ i j a b less ata atb. absurd (none_at i a ata);
    listed = λ k stands. absurd (none k stands);
  };
}

pub begun : (structures : List Structure) (n : ℕ) → n ≡ length structures → IsWalk structures (replicate n Unseen) []
begun structures n many = nothing_open structures (replicate n Unseen) (λ k words at. absurd (let e = each n k (Measured words) at in cc)) (length_replicate n Unseen ∙ many) (λ k at. let e = each n k Open at in cc)
  where
    each : (n k : ℕ) (p : Progress) → slice_get (replicate n Unseen) k ≡ Some p → p ≡ Unseen
    each zero k p e = cc
    each (suc n) zero p e = cc
    each (suc n) (suc k) p e = each n k p e

pub all_measured : (structures : List Structure) (progress : List Progress) → IsWalk structures progress [] → ((k : ℕ) → k < length progress → ¬ StandsAt progress k Unseen) → AreWidths structures (map words_if_measured progress)
all_measured structures progress is seen = (length_map words_if_measured progress ∙ is.many, λ k. ap (option_and_then (λ (w : Option ℕ). w)) (slice_get-map words_if_measured progress k) ∙ by k (slice_get progress k) refl)
  where
    by : (k : ℕ) (o : Option Progress) → slice_get progress k ≡ o → option_and_then (λ (w : Option ℕ). w) (option_map words_if_measured o) ≡ narrow (words_of structures (Struct k))
    by k None at = let h = is_past progress k at in let many = is.many in sym (ap narrow (none_past structures k (omega arith)))
    by k (Some Unseen) at = absurd (seen k (slice_get_within progress k Unseen at) at)
    by k (Some Open) at = let listed = is.chain.listed k at in absurd (none_at listed.0 k listed.1)
    by k (Some (Measured words)) at = is.right k words at
