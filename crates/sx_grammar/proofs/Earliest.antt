-- A run finds the first missing level.
use Rattle.std.proofs.Common.{◌≡◌, ℕ, zero, suc, ◌≤◌, List, [], ◌∷◌, ◌++◌, length, Bool, true, false, cond, not, ◌&&◌, ap, ◌∙◌, ◌⊎◌, inl, inr, arith}
use Rattle.sx_grammar.specs.declared.lexemes.Lexeme.{Lexeme}
use Rattle.sx_grammar.specs.Value.{Value, pair}
use Rattle.sx_grammar.specs.Classes.{class_of}
use Rattle.sx_grammar.specs.Grammar.{Grammar, both, either, deeper, select, begin, giving, has, starts, Whole, Opens, opens_here, opens_inside, opens_first, opens_second, opens_left, opens_right, opens_one, opens_more, opens_select_first, opens_select, opens_begin, opens_giving, Out, done, fault, missing, opening_at, is_none, ◌>>=◌, nullable, stands, first, turns, Deeper, run_with, opening, run, apart, more, fine, IsFine}
use Rattle.sx_grammar.proofs.Bools.{and_first, and_second, not_true, clash}
use Rattle.sx_grammar.proofs.Beginnings.{first_cond, fine_cond, decide, Begins, stays, goes, begins_length, whole_begins}
use Rattle.sx_grammar.proofs.Steps.{chosen, passed, opening_shrinks, turns_at, ShrinksDeeper, FreshRuns, fresh_runs}
use Rattle.sx_grammar.proofs.Progress.{GoesDeeper, opening_goes}
use Rattle.sx_grammar.proofs.Runs.{Ran, exact, longer, deep, select_exact, ran_out, out_is, run_finds}
use Rattle.sx_grammar.proofs.Levels.{opens_starts}

pub record IsMissing (o : Out) (rest : List Lexeme) : Type 0 where
  pub at : List Lexeme
  pub is : o ≡ fault at missing
  pub before : length rest ≤ length at

missing_at : (o p : Out) (rest : List Lexeme) → p ≡ o → IsMissing o rest → IsMissing p rest
missing_at o p rest e m = record { at = m.at; is = e ∙ m.is; before = m.before }

missing_then : (o : Out) (f : Value → List Lexeme → Out) (rest : List Lexeme) → IsMissing o rest → IsMissing (o >>= f) rest
missing_then o f rest m = record { at = m.at; is = ap (λ (x : Out). x >>= f) m.is; before = m.before }

module _ (body : ℕ → Grammar) (tail : ℕ → List ℕ) (l : ℕ) where
  abbrev d : Deeper
  d = opening body l

  abbrev sh : ShrinksDeeper d
  sh = opening_shrinks body l

  abbrev fr : FreshRuns d
  fr = fresh_runs body l

  abbrev gd : GoesDeeper d
  gd = opening_goes body l

  missing_first : (a b : Grammar) (ts rest : List Lexeme) → IsMissing (run_with d a ts) rest → IsMissing (run_with d (both a b) ts) rest
  unfolding run_with
  missing_first a b ts rest m = missing_then (run_with d a ts) _ rest m

  missing_second : (a b : Grammar) (v : Value) (ts mid rest : List Lexeme) → apart (more tail a) (first b) ≡ true → starts (first b) mid ≡ true → length rest ≤ length mid → Ran (is_none l) tail a v (run_with d a ts) mid → IsMissing (run_with d b mid) rest → IsMissing (run_with d (both a b) ts) rest
  unfolding run_with
  missing_second a b v ts mid rest p s le (exact e) m = missing_at _ _ rest (ap (λ (x : Out). x >>= λ v mid. run_with d b mid >>= λ w rest. done (pair v w) rest) e) (missing_then (run_with d b mid) _ rest m)
  missing_second a b v ts mid rest p s le (longer h k free) m = absurd (clash (more tail a) (first b) mid p h s)
  missing_second a b v ts mid rest p s le (deep x k) m = missing_then _ _ rest (record { at = x.at; is = x.is; before = omega (arith, le, k) })

  missing_select_first : (a b c : Grammar) (p : Value → Bool) (ts rest : List Lexeme) → IsMissing (run_with d a ts) rest → IsMissing (run_with d (select a p b c) ts) rest
  unfolding run_with
  missing_select_first a b c p ts rest m = missing_then (run_with d a ts) _ rest m

  missing_select : (a b c : Grammar) (p : Value → Bool) (v : Value) (ts mid rest : List Lexeme) → apart (more tail a) (first b ++ first c) ≡ true → starts (first (cond (p v) b c)) mid ≡ true → length rest ≤ length mid → Ran (is_none l) tail a v (run_with d a ts) mid → IsMissing (run_with d (cond (p v) b c) mid) rest → IsMissing (run_with d (select a p b c) ts) rest
  unfolding run_with
  missing_select a b c p v ts mid rest ok s le (exact e) m = missing_at _ _ rest (select_exact tail d sh fr gd a b c p v ts mid e) (missing_then (run_with d (cond (p v) b c) mid) _ rest m)
  missing_select a b c p v ts mid rest ok s le (longer h k free) m = absurd (clash (more tail a) (first b ++ first c) mid ok h (first_cond (p v) b c mid s))
  missing_select a b c p v ts mid rest ok s le (deep x k) m = missing_then _ _ rest (record { at = x.at; is = x.is; before = omega (arith, le, k) })

  missing_left : (a b : Grammar) (ts rest : List Lexeme) → starts (first a) ts ≡ true → IsMissing (run_with d a ts) rest → IsMissing (run_with d (either a b) ts) rest
  unfolding run_with
  missing_left a b ts rest h m = missing_at _ _ rest (chosen _ _ _ h) m

  missing_right : (a b : Grammar) (ts rest : List Lexeme) → apart (first a) (first b) ≡ true → starts (first b) ts ≡ true → (starts (first a) ts ≡ true) ⊎ (starts (first a) ts ≡ false) → IsMissing (run_with d b ts) rest → IsMissing (run_with d (either a b) ts) rest
  unfolding run_with
  missing_right a b ts rest p h (inl k) m = absurd (clash (first a) (first b) ts p k h)
  missing_right a b ts rest p h (inr k) m = missing_at _ _ rest (passed _ _ _ k) m

  missing_one : (g : Grammar) (n : ℕ) (ts rest : List Lexeme) → length ts ≤ n → starts (first g) ts ≡ true → IsMissing (run_with d g ts) rest → IsMissing (turns (starts (first g)) (run_with d g) n ts) rest
  missing_one g zero [] rest le h m = absurd (cc)
  missing_one g zero (t ∷ ts) rest le h m = absurd (omega arith)
  missing_one g (suc n) ts rest le h m = missing_at _ _ rest (turns_at tail d sh g n ts h) (missing_then (run_with d g ts) _ rest m)

  missing_more : (g : Grammar) (v : Value) (n : ℕ) (ts mid rest : List Lexeme) → apart (more tail g) (first g) ≡ true → not (nullable g) ≡ true → length ts ≤ n → Begins g ts mid → starts (first g) mid ≡ true → length rest ≤ length mid → Ran (is_none l) tail g v (run_with d g ts) mid → ((m : ℕ) → length mid ≤ m → IsMissing (turns (starts (first g)) (run_with d g) m mid) rest) → IsMissing (turns (starts (first g)) (run_with d g) n ts) rest
  missing_more g v n ts mid rest p nn le (stays k pa e) s le2 r f = absurd (not_true (nullable g) nn k)
  missing_more g v zero ts mid rest p nn le (goes h len) s le2 r f = absurd (omega arith)
  missing_more g v (suc n) ts mid rest p nn le (goes h len) s le2 (exact e) f =
      missing_at _ _ rest (turns_at tail d sh g n ts h ∙ ap (λ (x : Out). x >>= λ v r. turns (starts (first g)) (run_with d g) n r >>= λ vs s. done (pair v vs) s) e) (missing_then (turns (starts (first g)) (run_with d g) n mid) _ rest (f n (omega arith)))
  missing_more g v (suc n) ts mid rest p nn le (goes h len) s le2 (longer k q free) f = absurd (clash (more tail g) (first g) mid p k s)
  missing_more g v (suc n) ts mid rest p nn le (goes h len) s le2 (deep x q) f =
      missing_at _ _ rest (turns_at tail d sh g n ts h) (missing_then (run_with d g ts) _ rest (record { at = x.at; is = x.is; before = omega (arith, le2, q) }))

module _ (body : ℕ → Grammar) where
  opens_length : {l : ℕ} {g : Grammar} {ts rest : List Lexeme} → Opens body l g ts rest → length rest ≤ length ts
  opens_length (opens_here h) = omega arith
  opens_length (opens_inside h p) = let x = opens_length p in omega (arith, x)
  opens_length (opens_first p) = opens_length p
  opens_length (opens_second {ts = ts} {mid = mid} p q) = let x = opens_length q in let y = begins_length _ ts mid (whole_begins body p) in omega (arith, x, y)
  opens_length (opens_left p) = opens_length p
  opens_length (opens_right p) = opens_length p
  opens_length (opens_one p) = opens_length p
  opens_length (opens_more {ts = ts} {mid = mid} p q) = let x = opens_length q in let y = begins_length _ ts mid (whole_begins body p) in omega (arith, x, y)
  opens_length (opens_select_first p) = opens_length p
  opens_length (opens_select {ts = ts} {mid = mid} p q) = let x = opens_length q in let y = begins_length _ ts mid (whole_begins body p) in omega (arith, x, y)
  opens_length (opens_begin s p) = opens_length p
  opens_length (opens_giving p) = opens_length p

module _ (body : ℕ → Grammar) (tail : ℕ → List ℕ) (is : IsFine body tail) where
  missing_here : (cs : List ℕ) (n : ℕ) (t : Lexeme) (ts : List Lexeme) → has cs (class_of t) ≡ true → IsMissing (run_with (opening body 0) (deeper cs n) (t ∷ ts)) (t ∷ ts)
  unfolding run_with opening_at
  missing_here cs n t ts h = record { at = t ∷ ts; is = chosen _ _ _ h; before = omega arith }

  missing_inside : (cs : List ℕ) (n : ℕ) (t : Lexeme) (ts rest : List Lexeme) (l : ℕ) → has cs (class_of t) ≡ true → IsMissing (run_with (opening body l) (body n) ts) rest → IsMissing (run_with (opening body (suc l)) (deeper cs n) (t ∷ ts)) rest
  unfolding run_with opening_at
  missing_inside cs n t ts rest l h m = missing_at _ _ rest (chosen _ _ _ h) (missing_then _ _ rest m)

  missing_begin : (cs : List ℕ) (g : Grammar) (ts rest : List Lexeme) (d : Deeper) → stands cs ts ≡ true → IsMissing (run_with d g ts) rest → IsMissing (run_with d (begin cs g) ts) rest
  unfolding run_with
  missing_begin cs g ts rest d s m = missing_at _ _ rest (chosen _ _ _ s) m

  missing_giving : (f : Value → Value) (g : Grammar) (ts rest : List Lexeme) (d : Deeper) → IsMissing (run_with d g ts) rest → IsMissing (run_with d (giving f g) ts) rest
  unfolding run_with
  missing_giving f g ts rest d m = missing_then _ _ rest m

  whole_ran : {g : Grammar} {v : Value} {ts rest : List Lexeme} → Whole body g v ts rest → (l : ℕ) → fine tail g ≡ true → Ran (is_none l) tail g v (run_with (opening body l) g ts) rest
  unfolding run
  whole_ran p l f = run_finds body tail is p l f

  misses : {l : ℕ} {g : Grammar} {ts rest : List Lexeme} → Opens body l g ts rest → (n : ℕ) → fine tail g ≡ true → length ts ≤ n → IsMissing (ran_out (opening body l) n g ts) rest
  unfolding ran_out run_with
  misses (opens_here {cs = cs} {n = k} {t = t} {ts = ts} h) n f le = missing_here cs k t ts h
  misses (opens_inside {l = l} {cs = cs} {n = k} {t = t} {ts = ts} {rest = rest} h p) n f le =
      missing_inside cs k t ts rest l h (missing_at _ _ rest (out_is (opening body l) (body k) ts) (misses p (length ts) (is.rules k) (omega arith)))
  misses (opens_first {l = l} {a = a} {b = b} {ts = ts} {rest = rest} p) n f le =
      missing_first body tail l a b ts rest (missing_at _ _ rest (out_is (opening body l) a ts) (misses p (length ts) (and_first (fine tail a) _ f) (omega arith)))
  misses (opens_second {l = l} {a = a} {b = b} {v = v} {ts = ts} {mid = mid} {rest = rest} p q) n f le =
      let fb = and_second (fine tail a) _ f in
      missing_second body tail l a b v ts mid rest (and_second (fine tail b) _ fb) (opens_starts body q) (opens_length body q) (whole_ran p l (and_first (fine tail a) _ f))
      (missing_at _ _ rest (out_is (opening body l) b mid) (misses q (length mid) (and_first (fine tail b) _ fb) (omega arith)))
  misses (opens_left {l = l} {a = a} {b = b} {ts = ts} {rest = rest} p) n f le =
      missing_left body tail l a b ts rest (opens_starts body p) (missing_at _ _ rest (out_is (opening body l) a ts) (misses p (length ts) (and_first (fine tail a) _ f) (omega arith)))
  misses (opens_right {l = l} {a = a} {b = b} {ts = ts} {rest = rest} p) n f le =
      let fb = and_second (fine tail a) _ f in
      let fc = and_second (fine tail b) _ fb in
      missing_right body tail l a b ts rest (and_first (apart (first a) (first b)) _ fc) (opens_starts body p) (decide (starts (first a) ts)) (missing_at _ _ rest (out_is (opening body l) b ts) (misses p (length ts) (and_first (fine tail b) _ fb) (omega arith)))
  misses (opens_one {l = l} {g = g} {ts = ts} {rest = rest} p) n f le =
      missing_one body tail l g n ts rest le (opens_starts body p) (missing_at _ _ rest (out_is (opening body l) g ts) (misses p (length ts) (and_first (fine tail g) _ f) (omega arith)))
  misses (opens_more {l = l} {g = g} {v = v} {ts = ts} {mid = mid} {rest = rest} p q) n f le =
      let fb = and_second (fine tail g) _ f in
      missing_more body tail l g v n ts mid rest (and_first (apart (more tail g) (first g)) _ fb) (and_second (apart (more tail g) (first g)) _ fb) le (whole_begins body p) (opens_starts body q) (opens_length body q) (whole_ran p l (and_first (fine tail g) _ f)) (λ m k. misses q m f k)
  misses (opens_select_first {l = l} {a = a} {b = b} {c = c} {p = q} {ts = ts} {rest = rest} p) n f le =
      missing_select_first body tail l a b c q ts rest (missing_at _ _ rest (out_is (opening body l) a ts) (misses p (length ts) (and_first (fine tail a) _ f) (omega arith)))
  misses (opens_select {l = l} {a = a} {b = b} {c = c} {p = q} {v = v} {ts = ts} {mid = mid} {rest = rest} x y) n f le =
      let fb = and_second (fine tail a) _ f in
      let g = cond (q v) b c in
      missing_select body tail l a b c q v ts mid rest (and_first (apart (more tail a) (first b ++ first c)) _ (and_second (fine tail b && fine tail c) _ fb)) (opens_starts body y) (opens_length body y) (whole_ran x l (and_first (fine tail a) _ f))
      (missing_at _ _ rest (out_is (opening body l) g mid) (misses y (length mid) (fine_cond tail (q v) b c (and_first (fine tail b && fine tail c) _ fb)) (omega arith)))
  misses (opens_begin {l = l} {cs = cs} {g = g} {ts = ts} {rest = rest} s p) n f le =
      missing_begin cs g ts rest (opening body l) s (missing_at _ _ rest (out_is (opening body l) g ts) (misses p (length ts) f (omega arith)))
  misses (opens_giving {l = l} {f = change} {g = g} {ts = ts} {rest = rest} p) n f le =
      missing_giving change g ts rest (opening body l) (missing_at _ _ rest (out_is (opening body l) g ts) (misses p (length ts) f (omega arith)))

  pub run_misses : {l : ℕ} {g : Grammar} {ts rest : List Lexeme} → Opens body l g ts rest → fine tail g ≡ true → IsMissing (run body l g ts) rest
  unfolding run
  run_misses {l} {g} {ts} {rest} p f = missing_at _ _ rest (out_is (opening body l) g ts) (misses p (length ts) f (omega arith))
