-- A bound on how deep structures nest: a larger one tells no other words, and their number is enough.
use Rattle.std.proofs.Common.{◌≡◌, ◌⊎◌, inl, inr, ℕ, zero, suc, ◌+◌, ◌<◌, ◌≤◌, max, List, [], ◌∷◌, map, length, slice_get, Option, Some, None, option_map, option_and_then, arith, refl, sym, ap, ◌∙◌}
use Rattle.std.proofs.lemmas.Bool.{cases_order}
use Rattle.std.proofs.lemmas.Option.{slice_get_past}
use Rattle.sx_types.specs.declared.types.Field.{Field}
use Rattle.sx_types.specs.declared.types.Structure.{Structure}
use Rattle.sx_types.specs.declared.types.Ty.{Ty}
use Rattle.sx_types.specs.declared.types.Ty.TheVariants.{Int, Bool, Void, Array, Struct, Class, Func}
use Rattle.sx_types.specs.Words.{words_by, total, stored_words, structure_within}

-- ---- what a part tells, the whole tells
abbrev pub Told : Option ℕ → Option ℕ → Type 0
Told m m' = (n : ℕ) → m ≡ Some n → m' ≡ Some n

abbrev add : Option ℕ → Option ℕ → Option ℕ
add m r = option_and_then (λ first. option_map (λ rest. first + rest) r) m

add_told : (m m' r r' : Option ℕ) → Told m m' → Told r r' → Told (add m r) (add m' r')
add_told None m' r r' tm tr n e = cc
add_told (Some a) m' None r' tm tr n e = cc
add_told (Some a) m' (Some b) r' tm tr n e = rw (tm a refl, tr b refl) e

map_told : (h : ℕ → ℕ) (m m' : Option ℕ) → Told m m' → Told (option_map h m) (option_map h m')
map_told h None m' t n e = cc
map_told h (Some a) m' t n e = rw (t a refl) e

module _ (f g : ℕ → Option ℕ) (told : (k : ℕ) → Told (f k) (g k)) where
  type_told : (ty : Ty) → Told (words_by f ty) (words_by g ty)
  type_told Int n e = e
  type_told Bool n e = e
  type_told Void n e = e
  type_told Array n e = e
  type_told (Struct k) n e = told k n e
  type_told (Class k) n e = e
  type_told (Func k) n e = e

  field_told : (ty : Option Ty) → Told (option_and_then (words_by f) ty) (option_and_then (words_by g) ty)
  field_told None n e = e
  field_told (Some ty) n e = type_told ty n e

  fields_told : (ps : List Field) → Told (total (map (λ p. option_and_then (words_by f) p.ty) ps)) (total (map (λ p. option_and_then (words_by g) p.ty) ps))
  fields_told [] n e = e
  fields_told (p ∷ ps) n e = add_told _ _ _ _ (field_told p.ty) (fields_told ps) n e

  stored_told : (o : Option Structure) → Told (option_and_then (λ (s : Structure). stored_words (words_by f) s.stored) o) (option_and_then (λ (s : Structure). stored_words (words_by g) s.stored) o)
  stored_told None n e = e
  stored_told (Some s) n e = map_told (max 1) _ _ (fields_told s.stored) n e

module _ (structures : List Structure) where
  abbrev within : ℕ → ℕ → Option ℕ
  within = structure_within structures

  pub deeper : (depth k : ℕ) → Told (within depth k) (within (suc depth) k)
  unfolding structure_within
  deeper zero k n e = cc
  deeper (suc depth) k n e = stored_told (within depth) (within (suc depth)) (deeper depth) (slice_get structures k) n e

  none_past : (depth k : ℕ) → length structures ≤ k → within depth k ≡ None
  unfolding structure_within
  none_past zero k h = refl
  none_past (suc depth) k h = ap (λ (o : Option Structure). option_and_then (λ (s : Structure). stored_words (words_by (within depth)) s.stored) o) (slice_get_past structures k h)

-- ---- how many structures have words within a bound
abbrev one : Option ℕ → ℕ
one None = 0
one (Some n) = 1

abbrev count : (ℕ → Option ℕ) → ℕ → ℕ
count f zero = 0
count f (suc n) = count f n + one (f n)

one_most : (o : Option ℕ) → one o ≤ 1
one_most None = omega arith
one_most (Some n) = omega arith

count_most : (f : ℕ → Option ℕ) (n : ℕ) → count f n ≤ n
count_most f zero = omega arith
count_most f (suc n) = let a = count_most f n in let b = one_most (f n) in omega arith

abbrev SameBelow : (ℕ → Option ℕ) → (ℕ → Option ℕ) → ℕ → Type 0
SameBelow f g n = (k : ℕ) → k < n → f k ≡ g k

module _ (f g : ℕ → Option ℕ) (told : (k : ℕ) → Told (f k) (g k)) where
  one_told : (a b : Option ℕ) → Told a b → (a ≡ b) ⊎ (one a < one b)
  one_told None None t = inl refl
  one_told None (Some n) t = inr (omega arith)
  one_told (Some n) b t = inl (sym (t n refl))

  same_next : (n : ℕ) → SameBelow f g n → f n ≡ g n → SameBelow f g (suc n)
  same_next n below here k h = by (cases_order k n)
    where
      by : (k ≡ n) ⊎ ((k < n) ⊎ (n < k)) → f k ≡ g k
      by (inl e) = rw e here
      by (inr (inl less)) = below k less
      by (inr (inr more)) = absurd (omega arith)

  compared : (n : ℕ) → (SameBelow f g n × (count f n ≡ count g n)) ⊎ (count f n < count g n)
  compared zero = inl (λ k h. absurd (omega arith), refl)
  compared (suc n) = by (compared n) (one_told (f n) (g n) (told n))
    where
      by : (SameBelow f g n × (count f n ≡ count g n)) ⊎ (count f n < count g n) → (f n ≡ g n) ⊎ (one (f n) < one (g n)) → (SameBelow f g (suc n) × (count f (suc n) ≡ count g (suc n))) ⊎ (count f (suc n) < count g (suc n))
      by (inl same) (inl here) = inl (same_next n same.0 here, let e = ap one here in omega arith)
      by (inl same) (inr more) = inr (let e = same.1 in omega arith)
      by (inr more) (inl here) = inr (let e = ap one here in omega arith)
      by (inr more) (inr here) = inr (omega arith)

-- ---- their number is a bound that tells all
module _ (structures : List Structure) where
  abbrev pub Settled : ℕ → Type 0
  Settled depth = (k : ℕ) → structure_within structures (suc depth) k ≡ structure_within structures depth k

  stays : (depth : ℕ) → Settled depth → Settled (suc depth)
  unfolding structure_within
  stays depth settled k = λ i. option_and_then (λ (s : Structure). stored_words (words_by (λ j. settled j i)) s.stored) (slice_get structures k)

  settled_from : (depth : ℕ) → SameBelow (within structures depth) (within structures (suc depth)) (length structures) → Settled depth
  settled_from depth same k = by (cases_order k (length structures))
    where
      past : length structures ≤ k → within structures (suc depth) k ≡ within structures depth k
      past h = none_past structures (suc depth) k h ∙ sym (none_past structures depth k h)

      by : (k ≡ length structures) ⊎ ((k < length structures) ⊎ (length structures < k)) → within structures (suc depth) k ≡ within structures depth k
      by (inl e) = past (omega arith)
      by (inr (inl less)) = sym (same k less)
      by (inr (inr more)) = past (omega arith)

  abbrev known : ℕ → ℕ
  known depth = count (within structures depth) (length structures)

  grows : (depth : ℕ) → Settled depth ⊎ (known depth < known (suc depth))
  grows depth = by (compared (within structures depth) (within structures (suc depth)) (deeper structures depth) (length structures))
    where
      by : (SameBelow (within structures depth) (within structures (suc depth)) (length structures) × (known depth ≡ known (suc depth))) ⊎ (known depth < known (suc depth))
          → Settled depth ⊎ (known depth < known (suc depth))
      by (inl same) = inl (settled_from depth same.0)
      by (inr more) = inr more

  settled_or_more : (depth : ℕ) → Settled depth ⊎ (depth < known (suc depth))
  settled_or_more zero = by (grows zero)
    where
      by : Settled zero ⊎ (known zero < known 1) → Settled zero ⊎ (zero < known 1)
      by (inl settled) = inl settled
      by (inr more) = inr (omega arith)
  settled_or_more (suc depth) = by (settled_or_more depth) (grows (suc depth))
    where
      by : Settled depth ⊎ (depth < known (suc depth)) → Settled (suc depth) ⊎ (known (suc depth) < known (suc (suc depth))) → Settled (suc depth) ⊎ (suc depth < known (suc (suc depth)))
      by (inl settled) next = inl (stays depth settled)
      by (inr more) (inl settled) = inl settled
      by (inr more) (inr next) = inr (omega arith)

  pub number_is_enough : Settled (length structures)
  number_is_enough = by (settled_or_more (length structures))
    where
      by : Settled (length structures) ⊎ (length structures < known (suc (length structures))) → Settled (length structures)
      by (inl settled) = settled
      by (inr more) = let most = count_most (within structures (suc (length structures))) (length structures) in absurd (omega arith)

-- ---- each structure takes a word
at_least_one : (m : Option ℕ) (n : ℕ) → option_map (max 1) m ≡ Some n → 1 ≤ n
at_least_one None n e = cc
at_least_one (Some m) n e = let same : max 1 m ≡ n = cc in omega arith

pub structure_takes_a_word : (structures : List Structure) (depth k n : ℕ) → structure_within structures depth k ≡ Some n → 1 ≤ n
unfolding structure_within
structure_takes_a_word structures zero k n e = cc
structure_takes_a_word structures (suc depth) k n e = by (slice_get structures k) e
  where
    by : (o : Option Structure) → option_and_then (λ (s : Structure). stored_words (words_by (structure_within structures depth)) s.stored) o ≡ Some n → 1 ≤ n
    by None none = cc
    by (Some s) some = at_least_one _ n some
