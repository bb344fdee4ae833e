-- The statements of the outermost level, one by one.
use Rattle.std.proofs.Common.{◌≡◌, ◌⊎◌, inl, inr, ℕ, zero, suc, ◌+◌, ◌<◌, ◌≤◌, List, Bool, true≢false, cond, [], ◌∷◌, take, length, get_or, slice_get, Some, None, arith, sym, ap, subst, ◌∙◌, suc-le-suc}
use Rattle.std.proofs.lemmas.Bool.{cases_order}
use Rattle.std.proofs.lemmas.List.Filters.{length-filter_more}
use Rattle.std.proofs.lemmas.List.Sums.{length-filter, count_by-le-length}
use Rattle.std.proofs.lemmas.Option.{slice_get-get_or, slice_get_within, get_or_from_slice_get}
use Rattle.sx_typed.specs.declared.code.Statement.{Statement}
use Rattle.sx_typed.specs.declared.program.Typed.{Typed}
use Rattle.sx_late.specs.Mentions.{statement_mentions}
use Rattle.sx_late.specs.Reaching.{Reaches, IsLate, IsFirstLate, NoneLate, stores_global, declared_before}
use Rattle.sx_late.specs.Walking.{IsFollowed, IsLeastReached}
use Rattle.sx_late.proofs.Walks.{followed_later}

-- ---- nothing is seen
pub none_followed : (typed : Typed) (declared : ℕ) → IsFollowed typed [] declared None []
none_followed typed declared n is = absurd (true≢false (sym is))

-- ---- as the code reads it
pub read : (typed : Typed) (top : List Statement) (i : ℕ) (s d : Statement) → top ≡ typed.top → i < length top → s ≡ get_or top i d → slice_get typed.top i ≡ Some s
read typed top i s d all less is = ap (λ ss. slice_get ss i) (sym all) ∙ slice_get-get_or top i d less ∙ ap Some (sym is)

module _ (typed : Typed) (i : ℕ) (here : Statement) (stands : slice_get typed.top i ≡ Some here) where
  same : (g : ℕ) (late : IsLate typed i g) → late.statement ≡ here
  same g late = let e = late.stands in let f = stands in cc

  reaches_here : (g : ℕ) → IsLate typed i g → Reaches typed (statement_mentions typed here) g
  reaches_here g late = subst (λ s. Reaches typed (statement_mentions typed s) g) (same g late) late.reaches

  -- ---- the first that is late
  pub first_late : (declared l : ℕ) → declared ≡ declared_before typed i → ((j g : ℕ) → j < i → ¬ IsLate typed j g)
      → IsLeastReached typed (statement_mentions typed here) declared (Some l) → IsFirstLate typed (record { statement = i; global = l })
  first_late declared l is earlier least = record {
    late = record {
      statement = here;
      stands = stands;
      reaches = least.0;
      is_global = least.2;
      declared = subst (λ n. n ≤ l) is least.1;
    };
    statement_first = λ j g late. by j g late (cases_order j i);
    global_first = λ g late. least.3 g (reaches_here g late) (subst (λ n. n ≤ g) (sym is) late.declared);
  }
    where
      by : (j g : ℕ) → IsLate typed j g → (j ≡ i) ⊎ ((j < i) ⊎ (i < j)) → i ≤ j
      by j g late (inl e) = omega arith
      by j g late (inr (inl lower)) = absurd (earlier j g lower late)
      by j g late (inr (inr higher)) = omega arith

  -- ---- it isn't late
  pub not_late : (declared : ℕ) → declared ≡ declared_before typed i → ((j g : ℕ) → j < i → ¬ IsLate typed j g)
      → IsLeastReached typed (statement_mentions typed here) declared None → (j g : ℕ) → j < i + 1 → ¬ IsLate typed j g
  not_late declared is earlier least j g lower late = by (cases_order j i)
    where
      past : (g : ℕ) → IsLate typed i g → (g < declared) ⊎ (length typed.globals ≤ g) → ⊥
      past g late (inl less) = let at = late.declared in absurd (omega (arith, is, at))
      past g late (inr none) = let one = late.is_global in absurd (omega (arith, one))

      over : (g : ℕ) → IsLate typed i g → ⊥
      over g late = past g late (least g (reaches_here g late))

      by : (j ≡ i) ⊎ ((j < i) ⊎ (i < j)) → ⊥
      by (inl e) = over g (subst (λ n. IsLate typed n g) e late)
      by (inr (inl lower)) = earlier j g lower late
      by (inr (inr higher)) = absurd (omega arith)

  pub declared_more : (b : Bool) → b ≡ stores_global here → declared_before typed (i + 1) ≡ declared_before typed i + cond b 1 0
  declared_more b e =
      length-filter_more stores_global typed.top i here (slice_get_within typed.top i here stands)
      ∙ ap (λ s. declared_before typed i + cond (stores_global s) 1 0) (get_or_from_slice_get typed.top i here here stands)
      ∙ ap (λ c. declared_before typed i + cond c 1 0) (sym e)

  -- ---- on to the next
  pub next_statement : (seen : List ℕ) (declared later : ℕ) → IsFollowed typed seen declared None [] → declared ≡ declared_before typed i → ((j g : ℕ) → j < i → ¬ IsLate typed j g)
      → IsLeastReached typed (statement_mentions typed here) declared None → (b : Bool) → b ≡ stores_global here → later ≡ declared + cond b 1 0
      → IsFollowed typed seen later None [] × (later ≡ declared_before typed (i + 1)) × ((j g : ℕ) → j < i + 1 → ¬ IsLate typed j g)
  next_statement seen declared later are is earlier least b e more = (
    followed_later typed seen declared later (omega (arith, more)) are,
    more ∙ ap (λ n. n + cond b 1 0) is ∙ sym (declared_more b e),
    not_late declared is earlier least,
  )

take_few : {X : Type 0} (n : ℕ) (xs : List X) → length (take n xs) ≤ n
take_few zero [] = omega arith
take_few zero (x ∷ xs) = omega arith
take_few (suc n) [] = omega arith
take_few (suc n) (x ∷ xs) = suc-le-suc (take_few n xs)

pub declared_few : (typed : Typed) (i : ℕ) → declared_before typed i ≤ i
declared_few typed i = omega (arith, length-filter stores_global (take i typed.top), count_by-le-length stores_global (take i typed.top), take_few i typed.top)

-- ---- all have been walked from
pub none_late : (typed : Typed) → ((j g : ℕ) → j < length typed.top → ¬ IsLate typed j g) → NoneLate typed
none_late typed none j g late = none j g (slice_get_within typed.top j late.statement late.stands) late
