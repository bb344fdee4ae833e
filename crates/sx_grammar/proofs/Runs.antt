-- A run finds what the grammar derives, unless a part may go on, or a level is missing.
use Rattle.std.proofs.Common.{◌≡◌, ℕ, zero, suc, ◌≤◌, ◌<◌, List, ◌∷◌, ◌++◌, length, Bool, true, false, cond, not, ◌&&◌, refl, sym, ap, ◌∙◌, subst, ◌⊎◌, inl, inr, arith}
use Rattle.sx_grammar.specs.declared.lexemes.Lexeme.{Lexeme}
use Rattle.sx_grammar.specs.Value.{Value, nothing, leaf, pair}
use Rattle.sx_grammar.specs.Classes.{class_of}
use Rattle.sx_grammar.specs.Grammar.{Grammar, empty, token, both, either, many, deeper, select, begin, giving, has, starts, Whole, whole_empty, whole_token, whole_both, whole_left, whole_right, whole_none, whole_more, whole_deeper, whole_select, whole_begin, whole_giving, Out, done, fault, misfit, opening_at, is_none, bracket_classes, ◌>>=◌, nullable, passed as let_pass, stands, first, turns, Deeper, run_with, opening, run, apart, more, fine, IsFine}
use Rattle.sx_grammar.proofs.Bools.{and_first, and_second, not_true, in_left, in_right, clash, in_within}
use Rattle.sx_grammar.proofs.Beginnings.{rest_of, IsDeep, deep_then, first_cond, more_cond, fine_cond, run_cond, decide, Begins, stays, goes, begins_length, whole_begins, pass_cond}
use Rattle.sx_grammar.proofs.Steps.{Shrinks, then_shrinks, ShrinksDeeper, cond_shrinks, turns_shrinks, run_shrinks, opening_shrinks, Fresh, fresh_cond, fresh_map, fresh_turns, FreshRuns, fresh_runs, free_then, fault_map, rest_then, chosen, passed, turns_at, turns_end}
use Rattle.sx_grammar.proofs.Progress.{Went, went, stuck, goes_on, opening_goes, GoesDeeper, went_turns}

-- How a run compares with what the grammar derives.
pub data Ran (z : Bool) (tail : ℕ → List ℕ) (g : Grammar) (v : Value) (o : Out) (rest : List Lexeme) : Type 0 where
  exact : o ≡ done v rest → Ran z tail g v o rest
  longer : starts (more tail g) rest ≡ true → length (rest_of o) < length rest → (o ≡ fault rest (misfit true) → z ≡ true) → Ran z tail g v o rest
  -- before the end of what is derived
  deep : (x : IsDeep o) → length rest ≤ length x.at → Ran z tail g v o rest

pub ran_at : {z : Bool} (tail : ℕ → List ℕ) (g : Grammar) (v : Value) (o p : Out) (rest : List Lexeme) → p ≡ o → Ran z tail g v o rest → Ran z tail g v p rest
ran_at {z} tail g v o p rest e r = subst (λ (x : Out). Ran z tail g v x rest) (sym e) r

-- more may be written with the parts of both
ran_more : {z : Bool} (tail : ℕ → List ℕ) (g h : Grammar) (v : Value) (o : Out) (rest : List Lexeme) → (starts (more tail g) rest ≡ true → starts (more tail h) rest ≡ true) → Ran z tail g v o rest → Ran z tail h v o rest
ran_more tail g h v o rest k (exact e) = exact e
ran_more tail g h v o rest k (longer s l fr) = longer (k s) l fr
ran_more tail g h v o rest k (deep x le) = deep x le

-- what it stands for, changed
pub ran_map : {z : Bool} (tail : ℕ → List ℕ) (g h : Grammar) (f : Value → Value) (v : Value) (o : Out) (rest : List Lexeme) → (starts (more tail g) rest ≡ true → starts (more tail h) rest ≡ true) → Ran z tail g v o rest → Ran z tail h (f v) (o >>= λ w r. done (f w) r) rest
ran_map tail g h f v o rest k (exact e) = exact (ap (λ (x : Out). x >>= λ w r. done (f w) r) e)
ran_map tail g h f v o rest k (longer s l fr) = let e = ap (λ (r : List Lexeme). length r) (rest_then o f) in longer (k s) (omega (arith, e)) (λ q. fr (fault_map o f rest (misfit true) q))
ran_map tail g h f v o rest k (deep x le) = deep (deep_then o _ x) le

module _ (tail : ℕ → List ℕ) (d : Deeper) (sh : ShrinksDeeper d) (fr : FreshRuns d) (gd : GoesDeeper d) where
  -- the second part of both, where the first is exact
  second : (a b : Grammar) (v w : Value) (ts mid rest : List Lexeme) → run_with d a ts ≡ done v mid → Ran d.none tail b w (run_with d b mid) rest → Ran d.none tail (both a b) (pair v w) (run_with d (both a b) ts) rest
  unfolding run_with
  second a b v w ts mid rest e r =
      ran_at tail (both a b) _ _ _ rest (ap (λ (x : Out). x >>= λ v mid. run_with d b mid >>= λ w rest. done (pair v w) rest) e)
      (ran_map tail b (both a b) (pair v) w (run_with d b mid) rest (in_left (more tail b) _ rest) r)

  pub both_others : (b : Grammar) (v : Value) (r : List Lexeme) → Fresh d.none (length r) (run_with d b r >>= λ w rest. done (pair v w) rest)
  both_others b v r = fresh_map d.none (length r) (run_with d b r) (pair v) (fr b r)

  pub others_shrink : (b : Grammar) (v : Value) → Shrinks (λ mid. run_with d b mid >>= λ w rest. done (pair v w) rest)
  others_shrink b v r = let x = run_shrinks d sh b r in let y = then_shrinks (run_with d b r) (λ w s. done (pair v w) s) (λ w s. omega arith) in omega (arith, x, y)

  pub both_free : (a b : Grammar) (ts mid rest : List Lexeme) → (run_with d a ts ≡ fault mid (misfit true) → d.none ≡ true) → length (rest_of (run_with d a ts)) < length mid → mid ≡ rest → run_with d (both a b) ts ≡ fault rest (misfit true) → d.none ≡ true
  unfolding run_with
  both_free a b ts mid rest free l e q = free_then d.none (run_with d a ts) _ mid free (omega (arith, l)) (both_others b) (others_shrink b) (subst (λ (r : List Lexeme). run_with d (both a b) ts ≡ fault r (misfit true)) (sym e) q)

  pub both_shrinks : (a b : Grammar) (ts : List Lexeme) → length (rest_of (run_with d (both a b) ts)) ≤ length (rest_of (run_with d a ts))
  unfolding run_with
  both_shrinks a b ts =
      then_shrinks (run_with d a ts) _ (λ v r. let x = run_shrinks d sh b r in let y = then_shrinks (run_with d b r) (λ w s. done (pair v w) s) (λ w s. omega arith) in omega (arith, x, y))

  -- a first part that may go on, where nothing follows it
  longer_both : (a b : Grammar) (v w : Value) (ts mid rest : List Lexeme) → apart (more tail a) (first b) ≡ true → starts (more tail a) mid ≡ true → length (rest_of (run_with d a ts)) < length mid → (run_with d a ts ≡ fault mid (misfit true) → d.none ≡ true) → Begins b mid rest → Ran d.none tail (both a b) (pair v w) (run_with d (both a b) ts) rest
  longer_both a b v w ts mid rest ap' s l free (goes h len) = absurd (clash (more tail a) (first b) mid ap' s h)
  longer_both a b v w ts mid rest ap' s l free (stays n pa e) =
      let x = both_shrinks a b ts in
      let len : length mid ≡ length rest = ap (λ (r : List Lexeme). length r) e in
      let s' : starts (more tail a) rest ≡ true = subst (λ (r : List Lexeme). starts (more tail a) r ≡ true) e s in
      let k : starts (let_pass b (more tail a)) rest ≡ true = subst (λ (r : List Lexeme). starts (let_pass b (more tail a)) r ≡ true) e (pa (more tail a) s) in
      longer (in_right (more tail b) _ rest k) (omega (arith, x, l, len)) (both_free a b ts mid rest free l e)

  ran_both : (a b : Grammar) (v w : Value) (ts mid rest : List Lexeme) → apart (more tail a) (first b) ≡ true → Begins b mid rest → Ran d.none tail a v (run_with d a ts) mid → Ran d.none tail b w (run_with d b mid) rest → Ran d.none tail (both a b) (pair v w) (run_with d (both a b) ts) rest
  unfolding run_with
  ran_both a b v w ts mid rest p begins (exact e) r = second a b v w ts mid rest e r
  ran_both a b v w ts mid rest p begins (longer s l free) r = longer_both a b v w ts mid rest p s l free begins
  ran_both a b v w ts mid rest p begins (deep x le) r = let b' = begins_length b mid rest begins in deep (deep_then _ _ x) (omega (arith, b', le))

  pub select_shrinks : (a b c : Grammar) (p : Value → Bool) (ts : List Lexeme) → length (rest_of (run_with d (select a p b c) ts)) ≤ length (rest_of (run_with d a ts))
  unfolding run_with
  select_shrinks a b c p ts =
      then_shrinks (run_with d a ts) _ (λ v r. let x = cond_shrinks (p v) (run_with d b r) (run_with d c r) (length r) (run_shrinks d sh b r) (run_shrinks d sh c r) in let y = then_shrinks (cond (p v) (run_with d b r) (run_with d c r)) (λ w s. done (pair v w) s) (λ w s. omega arith) in omega (arith, x, y))

  pub select_exact : (a b c : Grammar) (p : Value → Bool) (v : Value) (ts mid : List Lexeme) → run_with d a ts ≡ done v mid → run_with d (select a p b c) ts ≡ (run_with d (cond (p v) b c) mid >>= λ w rest. done (pair v w) rest)
  unfolding run_with
  select_exact a b c p v ts mid e = ap (λ (x : Out). x >>= λ v mid. cond (p v) (run_with d b mid) (run_with d c mid) >>= λ w rest. done (pair v w) rest) e ∙ ap (λ (x : Out). x >>= λ w rest. done (pair v w) rest) (run_cond d (p v) b c mid)

  pub select_free : (a b c : Grammar) (p : Value → Bool) (ts mid rest : List Lexeme) → (run_with d a ts ≡ fault mid (misfit true) → d.none ≡ true) → length (rest_of (run_with d a ts)) < length mid → mid ≡ rest → run_with d (select a p b c) ts ≡ fault rest (misfit true) → d.none ≡ true
  unfolding run_with
  select_free a b c p ts mid rest free l e q =
      free_then d.none (run_with d a ts) _ mid free (omega (arith, l))
      (λ v r. fresh_map d.none (length r) (cond (p v) (run_with d b r) (run_with d c r)) (pair v) (fresh_cond d.none (length r) (p v) (run_with d b r) (run_with d c r) (λ q. fr b r) (fr c r)))
      (λ v r. let x = cond_shrinks (p v) (run_with d b r) (run_with d c r) (length r) (run_shrinks d sh b r) (run_shrinks d sh c r) in let y = then_shrinks (cond (p v) (run_with d b r) (run_with d c r)) (λ w s. done (pair v w) s) (λ w s. omega arith) in omega (arith, x, y))
      (subst (λ (r : List Lexeme). run_with d (select a p b c) ts ≡ fault r (misfit true)) (sym e) q)

  ran_select : (a b c : Grammar) (p : Value → Bool) (v w : Value) (ts mid rest : List Lexeme) → apart (more tail a) (first b ++ first c) ≡ true → Begins (cond (p v) b c) mid rest → Ran d.none tail a v (run_with d a ts) mid → Ran d.none tail (cond (p v) b c) w (run_with d (cond (p v) b c) mid) rest → Ran d.none tail (select a p b c) (pair v w) (run_with d (select a p b c) ts) rest
  unfolding run_with
  ran_select a b c p v w ts mid rest ok begins (exact e) r =
      ran_at tail (select a p b c) _ _ _ rest (select_exact a b c p v ts mid e)
      (ran_map tail (cond (p v) b c) (select a p b c) (pair v) w (run_with d (cond (p v) b c) mid) rest (λ s. in_left (more tail b ++ more tail c) _ rest (more_cond tail (p v) b c rest s)) r)
  ran_select a b c p v w ts mid rest ok (goes h len) (longer s l free) r = absurd (clash (more tail a) (first b ++ first c) mid ok s (first_cond (p v) b c mid h))
  ran_select a b c p v w ts mid rest ok (stays n pa e) (longer s l free) r =
      let x = select_shrinks a b c p ts in
      let len : length mid ≡ length rest = ap (λ (r : List Lexeme). length r) e in
      let s' : starts (more tail a) rest ≡ true = subst (λ (r : List Lexeme). starts (more tail a) r ≡ true) e s in
      let k : starts (let_pass b (more tail a) ++ let_pass c (more tail a)) rest ≡ true = subst (λ (r : List Lexeme). starts (let_pass b (more tail a) ++ let_pass c (more tail a)) r ≡ true) e (pass_cond (p v) b c (more tail a) mid (pa (more tail a) s)) in
      longer (in_right (more tail b ++ more tail c) _ rest k) (omega (arith, x, l, len)) (select_free a b c p ts mid rest free l e)
  ran_select a b c p v w ts mid rest ok begins (deep x le) r = let b' = begins_length (cond (p v) b c) mid rest begins in deep (deep_then _ _ x) (omega (arith, b', le))

  ran_left : (a b : Grammar) (v : Value) (ts rest : List Lexeme) → not (nullable a) ≡ true → Begins a ts rest → Ran d.none tail a v (run_with d a ts) rest → Ran d.none tail (either a b) v (run_with d (either a b) ts) rest
  unfolding run_with
  ran_left a b v ts rest n (stays m pa e) r = absurd (not_true (nullable a) n m)
  ran_left a b v ts rest n (goes h len) r = ran_at tail (either a b) v _ _ rest (chosen _ _ _ h) (ran_more tail a (either a b) v _ rest (in_left (more tail a) _ rest) r)

  ran_right_no : (a b : Grammar) (v : Value) (ts rest : List Lexeme) → starts (first a) ts ≡ false → Ran d.none tail b v (run_with d b ts) rest → Ran d.none tail (either a b) v (run_with d (either a b) ts) rest
  unfolding run_with
  ran_right_no a b v ts rest h r = ran_at tail (either a b) v _ _ rest (passed _ _ _ h) (ran_more tail b (either a b) v _ rest (λ s. in_right (more tail a) _ rest (in_left (more tail b) _ rest s)) r)

  right_went : (a b : Grammar) (v : Value) (ts rest : List Lexeme) → starts (first a) ts ≡ true → ts ≡ rest → starts (more tail (either a b)) rest ≡ true → Went (run_with d a ts) ts → Ran d.none tail (either a b) v (run_with d (either a b) ts) rest
  unfolding run_with
  right_went a b v ts rest h e s (went l) =
      let len : length ts ≡ length rest = ap (λ (r : List Lexeme). length r) e in
      ran_at tail (either a b) v _ _ rest (chosen _ _ _ h) (longer s (omega (arith, l, len)) (λ q. (fr a ts rest q).1 (sym len)))
  right_went a b v ts rest h e s (stuck q) = let len : length ts ≡ length rest = ap (λ (r : List Lexeme). length r) e in ran_at tail (either a b) v _ _ rest (chosen _ _ _ h) (deep (record { at = ts; is = q }) (omega (arith, len)))

  ran_right : (a b : Grammar) (v : Value) (ts rest : List Lexeme) → fine tail a ≡ true → apart (first a) (first b) ≡ true → (starts (first a) ts ≡ true) ⊎ (starts (first a) ts ≡ false) → Begins b ts rest → Ran d.none tail b v (run_with d b ts) rest → Ran d.none tail (either a b) v (run_with d (either a b) ts) rest
  ran_right a b v ts rest f p (inr h) begins r = ran_right_no a b v ts rest h r
  ran_right a b v ts rest f p (inl h) (goes k len) r = absurd (clash (first a) (first b) ts p h k)
  ran_right a b v ts rest f p (inl h) (stays n pa e) r =
      right_went a b v ts rest h e (in_right (more tail a) _ rest (in_right (more tail b) _ rest (subst (λ (r : List Lexeme). starts (let_pass b (first a)) r ≡ true) e (pa (first a) h)))) (goes_on tail d sh gd a f ts h)

  none_went : (g : Grammar) (n : ℕ) (ts : List Lexeme) → starts (first g) ts ≡ true → Went (turns (starts (first g)) (run_with d g) n ts) ts → Ran d.none tail (many g) nothing (turns (starts (first g)) (run_with d g) n ts) ts
  none_went g n ts h (went l) = longer (in_left (first g) _ ts h) l (λ q. (fresh_turns d.none (starts (first g)) (run_with d g) (run_shrinks d sh g) (fr g) n ts ts q).1 refl)
  none_went g n ts h (stuck e) = deep (record { at = ts; is = e }) (omega arith)

  ran_none : (g : Grammar) (n : ℕ) (ts : List Lexeme) → fine tail g ≡ true → length ts ≤ n → (starts (first g) ts ≡ true) ⊎ (starts (first g) ts ≡ false) → Ran d.none tail (many g) nothing (turns (starts (first g)) (run_with d g) n ts) ts
  ran_none g n ts f le (inl h) = none_went g n ts h (went_turns tail d sh g n ts le h (goes_on tail d sh gd g f ts h))
  ran_none g n ts f le (inr h) = exact (turns_end tail d sh g n ts h)

  -- a turn, and what comes of the others
  turn_exact : (g : Grammar) (v vs : Value) (n : ℕ) (ts mid rest : List Lexeme) → starts (first g) ts ≡ true → run_with d g ts ≡ done v mid → Ran d.none tail (many g) vs (turns (starts (first g)) (run_with d g) n mid) rest → Ran d.none tail (many g) (pair v vs) (turns (starts (first g)) (run_with d g) (suc n) ts) rest
  turn_exact g v vs n ts mid rest h e r =
      ran_at tail (many g) _ _ _ rest (turns_at tail d sh g n ts h ∙ ap (λ (x : Out). x >>= λ v r. turns (starts (first g)) (run_with d g) n r >>= λ vs s. done (pair v vs) s) e)
      (ran_map tail (many g) (many g) (pair v) vs _ rest (λ s. s) r)

  pub turn_shrinks : (g : Grammar) (n : ℕ) (ts : List Lexeme) → starts (first g) ts ≡ true → length (rest_of (turns (starts (first g)) (run_with d g) (suc n) ts)) ≤ length (rest_of (run_with d g ts))
  turn_shrinks g n ts h =
      let last : (v : Value) → Shrinks (λ r. turns (starts (first g)) (run_with d g) n r >>= λ vs s. done (pair v vs) s) =
      λ v r. let a = turns_shrinks (starts (first g)) (run_with d g) (run_shrinks d sh g) n r in let b = then_shrinks (turns (starts (first g)) (run_with d g) n r) (λ vs s. done (pair v vs) s) (λ vs s. omega arith) in omega (arith, a, b) in
      let x = then_shrinks (run_with d g ts) (λ v r. turns (starts (first g)) (run_with d g) n r >>= λ vs s. done (pair v vs) s) last in
      let e : length (rest_of (turns (starts (first g)) (run_with d g) (suc n) ts)) ≡ length (rest_of (run_with d g ts >>= λ v r. turns (starts (first g)) (run_with d g) n r >>= λ vs s. done (pair v vs) s)) = ap (λ (o : Out). length (rest_of o)) (turns_at tail d sh g n ts h) in
      omega (arith, x, e)

  pub turn_free : (g : Grammar) (n : ℕ) (ts mid rest : List Lexeme) → starts (first g) ts ≡ true → (run_with d g ts ≡ fault mid (misfit true) → d.none ≡ true) → length (rest_of (run_with d g ts)) < length mid → mid ≡ rest → turns (starts (first g)) (run_with d g) (suc n) ts ≡ fault rest (misfit true) → d.none ≡ true
  turn_free g n ts mid rest h free l e q =
      free_then d.none (run_with d g ts) (λ v r. turns (starts (first g)) (run_with d g) n r >>= λ vs s. done (pair v vs) s) mid free (omega (arith, l))
      (λ v r. fresh_map d.none (length r) (turns (starts (first g)) (run_with d g) n r) (pair v) (fresh_turns d.none (starts (first g)) (run_with d g) (run_shrinks d sh g) (fr g) n r))
      (λ v r. let a = turns_shrinks (starts (first g)) (run_with d g) (run_shrinks d sh g) n r in let b = then_shrinks (turns (starts (first g)) (run_with d g) n r) (λ vs s. done (pair v vs) s) (λ vs s. omega arith) in omega (arith, a, b))
      (sym (turns_at tail d sh g n ts h) ∙ subst (λ (r : List Lexeme). turns (starts (first g)) (run_with d g) (suc n) ts ≡ fault r (misfit true)) (sym e) q)

  turn_longer : (g : Grammar) (v vs : Value) (n : ℕ) (ts mid rest : List Lexeme) → apart (more tail g) (first g) ≡ true → starts (first g) ts ≡ true → starts (more tail g) mid ≡ true → length (rest_of (run_with d g ts)) < length mid → (run_with d g ts ≡ fault mid (misfit true) → d.none ≡ true) → Begins (many g) mid rest → Ran d.none tail (many g) (pair v vs) (turns (starts (first g)) (run_with d g) (suc n) ts) rest
  turn_longer g v vs n ts mid rest p h s l free (goes k len) = absurd (clash (more tail g) (first g) mid p s k)
  turn_longer g v vs n ts mid rest p h s l free (stays m pa e) =
      let x = turn_shrinks g n ts h in
      let len : length mid ≡ length rest = ap (λ (r : List Lexeme). length r) e in
      longer (in_right (first g) _ rest (subst (λ (r : List Lexeme). starts (more tail g) r ≡ true) e s)) (omega (arith, x, l, len)) (turn_free g n ts mid rest h free l e)

  ran_turn : (g : Grammar) (v vs : Value) (n : ℕ) (ts mid rest : List Lexeme) → apart (more tail g) (first g) ≡ true → starts (first g) ts ≡ true → Begins (many g) mid rest → Ran d.none tail g v (run_with d g ts) mid → Ran d.none tail (many g) vs (turns (starts (first g)) (run_with d g) n mid) rest → Ran d.none tail (many g) (pair v vs) (turns (starts (first g)) (run_with d g) (suc n) ts) rest
  ran_turn g v vs n ts mid rest p h k (exact e) r = turn_exact g v vs n ts mid rest h e r
  ran_turn g v vs n ts mid rest p h k (longer s l free) r = turn_longer g v vs n ts mid rest p h s l free k
  ran_turn g v vs n ts mid rest p h k (deep x le) r =
      let b' = begins_length (many g) mid rest k in
      deep (record { at = x.at; is = turns_at tail d sh g n ts h ∙ ap (λ (y : Out). y >>= λ v r. turns (starts (first g)) (run_with d g) n r >>= λ vs s. done (pair v vs) s) x.is }) (omega (arith, b', le))

  ran_turns : (g : Grammar) (v vs : Value) (n : ℕ) (ts mid rest : List Lexeme) → apart (more tail g) (first g) ≡ true → not (nullable g) ≡ true → length ts ≤ n → Begins g ts mid → Begins (many g) mid rest → Ran d.none tail g v (run_with d g ts) mid → ((m : ℕ) → length mid ≤ m → Ran d.none tail (many g) vs (turns (starts (first g)) (run_with d g) m mid) rest) → Ran d.none tail (many g) (pair v vs) (turns (starts (first g)) (run_with d g) n ts) rest
  ran_turns g v vs n ts mid rest p nn l (stays m pa e) k r f = absurd (not_true (nullable g) nn m)
  ran_turns g v vs zero ts mid rest p nn l (goes h len) k r f = absurd (omega arith)
  ran_turns g v vs (suc n) ts mid rest p nn l (goes h len) k r f = ran_turn g v vs n ts mid rest p h k r (f n (omega arith))

-- the run of many with some number of turns, and any other run
unfoldable pub ran_out : Deeper → ℕ → Grammar → List Lexeme → Out
ran_out d n empty ts = run_with d empty ts
ran_out d n (token cs) ts = run_with d (token cs) ts
ran_out d n (both a b) ts = run_with d (both a b) ts
ran_out d n (either a b) ts = run_with d (either a b) ts
ran_out d n (many g) ts = turns (starts (first g)) (run_with d g) n ts
ran_out d n (deeper cs k) ts = run_with d (deeper cs k) ts
ran_out d n (select a p b c) ts = run_with d (select a p b c) ts
ran_out d n (begin cs g) ts = run_with d (begin cs g) ts
ran_out d n (giving f g) ts = run_with d (giving f g) ts

pub out_is : (d : Deeper) (g : Grammar) (ts : List Lexeme) → run_with d g ts ≡ ran_out d (length ts) g ts
unfolding ran_out run_with
out_is d empty ts = refl
out_is d (token cs) ts = refl
out_is d (both a b) ts = refl
out_is d (either a b) ts = refl
out_is d (many g) ts = refl
out_is d (deeper cs k) ts = refl
out_is d (select a p b c) ts = refl
out_is d (begin cs g) ts = refl
out_is d (giving f g) ts = refl

module _ (body : ℕ → Grammar) (tail : ℕ → List ℕ) (is : IsFine body tail) where
  -- by what a rule says no bracket goes on
  quiet_free : (n : ℕ) (l : ℕ) (ts rest : List Lexeme) → starts (tail n) rest ≡ true → run_with (opening body l) (body n) ts ≡ fault rest (misfit true) → ⊥
  quiet_free n l ts rest s q = clash (tail n) bracket_classes rest (is.quiet n) s (fresh_runs body l (body n) ts rest q).0

  ran_inside : (cs : List ℕ) (n : ℕ) (v : Value) (t : Lexeme) (ts rest : List Lexeme) (l : ℕ) → Ran (is_none l) tail (body n) v (run_with (opening body l) (body n) ts) rest → Ran false tail (deeper cs n) (pair (leaf t) v) (run_with (opening body l) (body n) ts >>= λ w r. done (pair (leaf t) w) r) rest
  ran_inside cs n v t ts rest l (exact e) = exact (ap (λ (x : Out). x >>= λ w r. done (pair (leaf t) w) r) e)
  ran_inside cs n v t ts rest l (longer s k free) =
      let e = ap (λ (r : List Lexeme). length r) (rest_then (run_with (opening body l) (body n) ts) (pair (leaf t))) in
      let s' : starts (tail n) rest ≡ true = in_within (more tail (body n)) (tail n) rest (is.tails n) s in
      longer s' (omega (arith, e, k)) (λ q. absurd (quiet_free n l ts rest s' (fault_map (run_with (opening body l) (body n) ts) (pair (leaf t)) rest (misfit true) q)))
  ran_inside cs n v t ts rest l (deep x le) = deep (deep_then _ _ x) le

  ran_deeper : (cs : List ℕ) (n : ℕ) (v : Value) (t : Lexeme) (ts rest : List Lexeme) (l : ℕ) → length rest ≤ length ts → has cs (class_of t) ≡ true → ((m : ℕ) → Ran (is_none m) tail (body n) v (run_with (opening body m) (body n) ts) rest) → Ran (is_none l) tail (deeper cs n) (pair (leaf t) v) (run_with (opening body l) (deeper cs n) (t ∷ ts)) rest
  unfolding run_with opening_at
  ran_deeper cs n v t ts rest zero le h r = deep (record { at = t ∷ ts; is = chosen _ _ _ h }) (omega (arith, le))
  ran_deeper cs n v t ts rest (suc l) le h r =
      ran_at tail (deeper cs n) _ _ _ rest (chosen _ _ _ h) (ran_inside cs n v t ts rest l (r l))

  ran_begin : (cs : List ℕ) (g : Grammar) (v : Value) (ts rest : List Lexeme) (d : Deeper) → stands cs ts ≡ true → Ran d.none tail g v (run_with d g ts) rest → Ran d.none tail (begin cs g) v (run_with d (begin cs g) ts) rest
  unfolding run_with
  ran_begin cs g v ts rest d s r = ran_at tail (begin cs g) v _ _ rest (chosen _ _ _ s) (ran_more tail g (begin cs g) v _ rest (λ s. s) r)

  ran_giving : (f : Value → Value) (g : Grammar) (v : Value) (ts rest : List Lexeme) (d : Deeper) → Ran d.none tail g v (run_with d g ts) rest → Ran d.none tail (giving f g) (f v) (run_with d (giving f g) ts) rest
  unfolding run_with
  ran_giving f g v ts rest d r = ran_map tail g (giving f g) f v _ rest (λ s. s) r

  -- What is derived is what a run finds.
  ran : {g : Grammar} {v : Value} {ts rest : List Lexeme} → Whole body g v ts rest → (l n : ℕ) → fine tail g ≡ true → length ts ≤ n → Ran (is_none l) tail g v (ran_out (opening body l) n g ts) rest
  unfolding ran_out run_with
  ran whole_empty l n f le = exact refl
  ran (whole_token h) l n f le = exact (chosen _ _ _ h)
  ran (whole_both {a = a} {b = b} {v = v} {w = w} {ts = ts} {mid = mid} {rest = rest} p q) l n f le =
      let fb = and_second (fine tail a) _ f in
      let ra = subst (λ (o : Out). Ran (is_none l) tail a v o mid) (sym (out_is (opening body l) a ts)) (ran p l (length ts) (and_first (fine tail a) _ f) (omega arith)) in
      let rb = subst (λ (o : Out). Ran (is_none l) tail b w o rest) (sym (out_is (opening body l) b mid)) (ran q l (length mid) (and_first (fine tail b) _ fb) (omega arith)) in
      ran_both tail (opening body l) (opening_shrinks body l) (fresh_runs body l) (opening_goes body l) a b v w ts mid rest (and_second (fine tail b) _ fb) (whole_begins body q) ra rb
  ran (whole_left {a = a} {b = b} {v = v} {ts = ts} {rest = rest} p) l n f le =
      let fb = and_second (fine tail a) _ f in
      let fc = and_second (fine tail b) _ fb in
      let ra = subst (λ (o : Out). Ran (is_none l) tail a v o rest) (sym (out_is (opening body l) a ts)) (ran p l (length ts) (and_first (fine tail a) _ f) (omega arith)) in
      ran_left tail (opening body l) (opening_shrinks body l) (fresh_runs body l) (opening_goes body l) a b v ts rest (and_second (apart (first a) (first b)) _ fc) (whole_begins body p) ra
  ran (whole_right {a = a} {b = b} {v = v} {ts = ts} {rest = rest} p) l n f le =
      let fb = and_second (fine tail a) _ f in
      let fc = and_second (fine tail b) _ fb in
      let rb = subst (λ (o : Out). Ran (is_none l) tail b v o rest) (sym (out_is (opening body l) b ts)) (ran p l (length ts) (and_first (fine tail b) _ fb) (omega arith)) in
      ran_right tail (opening body l) (opening_shrinks body l) (fresh_runs body l) (opening_goes body l) a b v ts rest (and_first (fine tail a) _ f) (and_first (apart (first a) (first b)) _ fc) (decide (starts (first a) ts)) (whole_begins body p) rb
  ran (whole_none {g = g} {ts = ts}) l n f le = ran_none tail (opening body l) (opening_shrinks body l) (fresh_runs body l) (opening_goes body l) g n ts (and_first (fine tail g) _ f) le (decide (starts (first g) ts))
  ran (whole_more {g = g} {v = v} {vs = vs} {ts = ts} {mid = mid} {rest = rest} p q) l n f le =
      let fb = and_second (fine tail g) _ f in
      let rg = subst (λ (o : Out). Ran (is_none l) tail g v o mid) (sym (out_is (opening body l) g ts)) (ran p l (length ts) (and_first (fine tail g) _ f) (omega arith)) in
      ran_turns tail (opening body l) (opening_shrinks body l) (fresh_runs body l) (opening_goes body l) g v vs n ts mid rest (and_first (apart (more tail g) (first g)) _ fb) (and_second (apart (more tail g) (first g)) _ fb) le (whole_begins body p) (whole_begins body q) rg (λ m k. ran q l m f k)
  ran (whole_deeper {cs = cs} {n = k} {v = v} {t = t} {ts = ts} {rest = rest} h p) l n f le =
      ran_deeper cs k v t ts rest l (begins_length (body k) ts rest (whole_begins body p)) h (λ m. subst (λ (o : Out). Ran (is_none m) tail (body k) v o rest) (sym (out_is (opening body m) (body k) ts)) (ran p m (length ts) (is.rules k) (omega arith)))
  ran (whole_select {a = a} {b = b} {c = c} {p = q} {v = v} {w = w} {ts = ts} {mid = mid} {rest = rest} x y) l n f le =
      let fb = and_second (fine tail a) _ f in
      let g = cond (q v) b c in
      let ra = subst (λ (o : Out). Ran (is_none l) tail a v o mid) (sym (out_is (opening body l) a ts)) (ran x l (length ts) (and_first (fine tail a) _ f) (omega arith)) in
      let rb = subst (λ (o : Out). Ran (is_none l) tail g w o rest) (sym (out_is (opening body l) g mid)) (ran y l (length mid) (fine_cond tail (q v) b c (and_first (fine tail b && fine tail c) _ fb)) (omega arith)) in
      ran_select tail (opening body l) (opening_shrinks body l) (fresh_runs body l) (opening_goes body l) a b c q v w ts mid rest (and_first (apart (more tail a) (first b ++ first c)) _ (and_second (fine tail b && fine tail c) _ fb)) (whole_begins body y) ra rb
  ran (whole_begin {cs = cs} {g = g} {v = v} {ts = ts} {rest = rest} s p) l n f le =
      ran_begin cs g v ts rest (opening body l) s (subst (λ (o : Out). Ran (is_none l) tail g v o rest) (sym (out_is (opening body l) g ts)) (ran p l (length ts) f (omega arith)))
  ran (whole_giving {f = change} {g = g} {v = v} {ts = ts} {rest = rest} p) l n f le =
      ran_giving change g v ts rest (opening body l) (subst (λ (o : Out). Ran (is_none l) tail g v o rest) (sym (out_is (opening body l) g ts)) (ran p l (length ts) f (omega arith)))

  -- What is derived is what a run finds, unless it may go on or a level is missing.
  pub run_finds : {g : Grammar} {v : Value} {ts rest : List Lexeme} → Whole body g v ts rest → (l : ℕ) → fine tail g ≡ true → Ran (is_none l) tail g v (run body l g ts) rest
  unfolding run
  run_finds {g} {v} {ts} {rest} p l f = subst (λ (o : Out). Ran (is_none l) tail g v o rest) (sym (out_is (opening body l) g ts)) (ran p l (length ts) f (omega arith))
