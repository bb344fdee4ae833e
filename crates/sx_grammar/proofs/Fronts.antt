-- A run goes exactly as far as a front does.
use Rattle.std.proofs.Common.{◌≡◌, ℕ, zero, suc, ◌≤◌, ◌<◌, List, [], ◌∷◌, ◌++◌, length, Bool, true, false, cond, not, ◌&&◌, refl, sym, ap, ◌∙◌, subst, ◌⊎◌, inl, inr, arith}
use Rattle.sx_grammar.specs.declared.lexemes.Lexeme.{Lexeme}
use Rattle.sx_grammar.specs.Value.{Value, nothing, leaf, pair}
use Rattle.sx_grammar.specs.Classes.{class_of}
use Rattle.sx_grammar.specs.Grammar.{Grammar, empty, token, both, either, many, deeper, select, begin, giving, has, starts, Whole, whole_empty, whole_token, whole_both, whole_left, whole_right, whole_none, whole_more, whole_deeper, whole_select, whole_begin, whole_giving, Front, front_nothing, front_token, front_first, front_second, front_left, front_right, front_one, front_more, front_opening, front_select_first, front_select, front_begin, front_giving, Out, done, fault, Cause, misfit, missing, opening_at, is_none, bracket_classes, ◌>>=◌, nullable, stands, first, turns, Deeper, run_with, opening, run, apart, more, fine, IsFine}
use Rattle.sx_grammar.proofs.Bools.{and_first, and_second, not_true, clash}
use Rattle.sx_grammar.proofs.Beginnings.{rest_of, IsDeep, deep_then, first_cond, fine_cond, decide, Begins, stays, goes, whole_begins, Moves, still, moves, front_moves}
use Rattle.sx_grammar.proofs.Steps.{Shrinks, then_shrinks, Fresh, FreshRuns, fresh_runs, fresh_turns, free_then, fresh_map, fault_map, ShrinksDeeper, run_shrinks, opening_shrinks, cond_shrinks, fresh_cond, chosen, passed, rest_then, turns_shrinks, turns_at}
use Rattle.sx_grammar.proofs.Progress.{GoesDeeper, opening_goes}
use Rattle.sx_grammar.proofs.Runs.{both_free, select_free, turn_free, others_shrink, both_others, Ran, exact, longer, deep, both_shrinks, select_shrinks, select_exact, turn_shrinks, ran_out, out_is, run_finds}

-- What a run finds is derived, and a fault ends a front.
-- With levels left, fewer are open where it ends at a bracket.
pub record Ended (body : ℕ → Grammar) (l : ℕ) (g : Grammar) (ts rest : List Lexeme) (c : Cause) : Type 0 where
  pub count : ℕ
  pub front : Front body count g ts rest
  pub fewer : c ≡ misfit false → starts bracket_classes rest ≡ true → count < l

abbrev pub Found : (ℕ → Grammar) → ℕ → Grammar → List Lexeme → Out → Type 0
Found body l g ts (done v rest) = Whole body g v ts rest
Found body l g ts (fault rest c) = Ended body l g ts rest c

-- another grammar ends there too
ended_as : (body : ℕ → Grammar) (l : ℕ) (g h : Grammar) (ts us rest : List Lexeme) (c : Cause) → ((m : ℕ) → Front body m g ts rest → Front body m h us rest) → Ended body l g ts rest c → Ended body l h us rest c
ended_as body l g h ts us rest c k p = record { count = p.count; front = k p.count p.front; fewer = p.fewer }

abbrev pub HasLevel : ℕ → Bool → Type 0
HasLevel l z = z ≡ false → 0 < l

misfit_false : (b : Bool) → misfit b ≡ misfit false → b ≡ false
misfit_false b e = cc

none_false : (z b : Bool) → (z && b) ≡ false → b ≡ true → z ≡ false
none_false true b e h = absurd (cc)
none_false false b e h = refl

ended_here : (body : ℕ → Grammar) (l : ℕ) (z : Bool) (g : Grammar) (ts : List Lexeme) (b : Bool) → HasLevel l z → (starts bracket_classes ts ≡ true → b ≡ true) → Ended body l g ts ts (misfit (z && b))
ended_here body l z g ts b le h = record { count = 0; front = front_nothing; fewer = λ e s. le (none_false z b (misfit_false (z && b) e) (h s)) }

ended_end : (body : ℕ → Grammar) (l : ℕ) (g : Grammar) → Ended body l g [] [] (misfit false)
ended_end body l g = record { count = 0; front = front_nothing; fewer = λ e s. absurd (cc) }

ended_missing : (body : ℕ → Grammar) (l : ℕ) (g : Grammar) (ts : List Lexeme) → Ended body l g ts ts missing
ended_missing body l g ts = record { count = 0; front = front_nothing; fewer = λ e s. absurd (cc) }

found_cond : (body : ℕ → Grammar) (l : ℕ) (g : Grammar) (ts : List Lexeme) (b : Bool) (x y : Out) → (b ≡ true → Found body l g ts x) → Found body l g ts y → Found body l g ts (cond b x y)
found_cond body l g ts true x y f h = f refl
found_cond body l g ts false x y f h = h

abbrev pub FoundDeeper : (ℕ → Grammar) → ℕ → Deeper → Type 0
FoundDeeper body l d = (cs : List ℕ) (n : ℕ) (t : Lexeme) (ts : List Lexeme) → has cs (class_of t) ≡ true → Found body l (deeper cs n) (t ∷ ts) (d.opens n t ts)

module _ (body : ℕ → Grammar) (l : ℕ) where
  found_second : (a b : Grammar) (v : Value) (ts mid : List Lexeme) (o : Out) → Whole body a v ts mid → Found body l b mid o → Found body l (both a b) ts (o >>= λ w rest. done (pair v w) rest)
  found_second a b v ts mid (done w rest) p q = whole_both p q
  found_second a b v ts mid (fault rest x) p q = ended_as body l b (both a b) mid ts rest x (λ m k. front_second p k) q

  found_both : (a b : Grammar) (ts : List Lexeme) (o : Out) (f : List Lexeme → Out) → Found body l a ts o → ((mid : List Lexeme) → Found body l b mid (f mid)) → Found body l (both a b) ts (o >>= λ v mid. f mid >>= λ w rest. done (pair v w) rest)
  found_both a b ts (done v mid) f p q = found_second a b v ts mid (f mid) p (q mid)
  found_both a b ts (fault rest x) f p q = ended_as body l a (both a b) ts ts rest x (λ m k. front_first k) p

  found_left : (a b : Grammar) (ts : List Lexeme) (o : Out) → Found body l a ts o → Found body l (either a b) ts o
  found_left a b ts (done v rest) p = whole_left p
  found_left a b ts (fault rest x) p = ended_as body l a (either a b) ts ts rest x (λ m k. front_left k) p

  found_right : (a b : Grammar) (ts : List Lexeme) (o : Out) → Found body l b ts o → Found body l (either a b) ts o
  found_right a b ts (done v rest) p = whole_right p
  found_right a b ts (fault rest x) p = ended_as body l b (either a b) ts ts rest x (λ m k. front_right k) p

  found_giving : (h : Value → Value) (g : Grammar) (ts : List Lexeme) (o : Out) → Found body l g ts o → Found body l (giving h g) ts (o >>= λ v rest. done (h v) rest)
  found_giving h g ts (done v rest) p = whole_giving p
  found_giving h g ts (fault rest x) p = ended_as body l g (giving h g) ts ts rest x (λ m k. front_giving k) p

  found_select_then : (a b c : Grammar) (p : Value → Bool) (v : Value) (ts mid : List Lexeme) (o : Out) → Whole body a v ts mid → Found body l (cond (p v) b c) mid o → Found body l (select a p b c) ts (o >>= λ w rest. done (pair v w) rest)
  found_select_then a b c p v ts mid (done w rest) x y = whole_select x y
  found_select_then a b c p v ts mid (fault rest k) x y = ended_as body l (cond (p v) b c) (select a p b c) mid ts rest k (λ m z. front_select x z) y

  found_either : (q : Bool) (b c : Grammar) (ts : List Lexeme) (x y : Out) → Found body l b ts x → Found body l c ts y → Found body l (cond q b c) ts (cond q x y)
  found_either true b c ts x y h k = h
  found_either false b c ts x y h k = k

  found_select : (a b c : Grammar) (p : Value → Bool) (ts : List Lexeme) (o : Out) (f g : List Lexeme → Out) → Found body l a ts o → ((mid : List Lexeme) → Found body l b mid (f mid)) → ((mid : List Lexeme) → Found body l c mid (g mid)) → Found body l (select a p b c) ts (o >>= λ v mid. cond (p v) (f mid) (g mid) >>= λ w rest. done (pair v w) rest)
  found_select a b c p ts (done v mid) f g x y z = found_select_then a b c p v ts mid (cond (p v) (f mid) (g mid)) x (found_either (p v) b c mid (f mid) (g mid) (y mid) (z mid))
  found_select a b c p ts (fault rest k) f g x y z = ended_as body l a (select a p b c) ts ts rest k (λ m w. front_select_first w) x

  found_begin : (cs : List ℕ) (g : Grammar) (ts : List Lexeme) (o : Out) → stands cs ts ≡ true → Found body l g ts o → Found body l (begin cs g) ts o
  found_begin cs g ts (done v rest) s p = whole_begin s p
  found_begin cs g ts (fault rest x) s p = ended_as body l g (begin cs g) ts ts rest x (λ m k. front_begin s k) p

  found_others : (g : Grammar) (v : Value) (ts mid : List Lexeme) (o : Out) → Whole body g v ts mid → Found body l (many g) mid o → Found body l (many g) ts (o >>= λ vs rest. done (pair v vs) rest)
  found_others g v ts mid (done vs rest) p q = whole_more p q
  found_others g v ts mid (fault rest x) p q = ended_as body l (many g) (many g) mid ts rest x (λ m k. front_more p k) q

  found_turn : (g : Grammar) (ts : List Lexeme) (o : Out) (f : List Lexeme → Out) → Found body l g ts o → ((mid : List Lexeme) → Found body l (many g) mid (f mid)) → Found body l (many g) ts (o >>= λ v mid. f mid >>= λ vs rest. done (pair v vs) rest)
  found_turn g ts (done v mid) f p q = found_others g v ts mid (f mid) p (q mid)
  found_turn g ts (fault rest x) f p q = ended_as body l g (many g) ts ts rest x (λ m k. front_one k) p

  found_turns : (g : Grammar) (turn : List Lexeme → Out) → ((ts : List Lexeme) → Found body l g ts (turn ts)) → (n : ℕ) (ts : List Lexeme) → Found body l (many g) ts (turns (starts (first g)) turn n ts)
  unfolding turns
  found_turns g turn h zero ts = whole_none
  found_turns g turn h (suc n) ts = found_cond body l (many g) ts (starts (first g) ts) _ (done nothing ts) (λ e. found_turn g ts (turn ts) (turns (starts (first g)) turn n) (h ts) (found_turns g turn h n)) whole_none

  pub found_with : (d : Deeper) → HasLevel l d.none → FoundDeeper body l d → (g : Grammar) (ts : List Lexeme) → Found body l g ts (run_with d g ts)
  unfolding run_with
  found_with d le h empty ts = whole_empty
  found_with d le h (token cs) [] = ended_end body l (token cs)
  found_with d le h (token cs) (t ∷ ts) = found_cond body l (token cs) (t ∷ ts) (has cs (class_of t)) (done (leaf t) ts) _ (λ e. whole_token e) (ended_here body l d.none (token cs) (t ∷ ts) (has bracket_classes (class_of t)) le (λ s. s))
  found_with d le h (both a b) ts = found_both a b ts (run_with d a ts) (run_with d b) (found_with d le h a ts) (found_with d le h b)
  found_with d le h (either a b) ts = found_cond body l (either a b) ts (starts (first a) ts) (run_with d a ts) (run_with d b ts) (λ e. found_left a b ts (run_with d a ts) (found_with d le h a ts)) (found_right a b ts (run_with d b ts) (found_with d le h b ts))
  found_with d le h (many g) ts = found_turns g (run_with d g) (found_with d le h g) (length ts) ts
  found_with d le h (deeper cs n) [] = ended_end body l (deeper cs n)
  found_with d le h (deeper cs n) (t ∷ ts) = found_cond body l (deeper cs n) (t ∷ ts) (has cs (class_of t)) (d.opens n t ts) _ (λ e. h cs n t ts e) (ended_here body l d.none (deeper cs n) (t ∷ ts) (has bracket_classes (class_of t)) le (λ s. s))
  found_with d le h (select a p b c) ts = found_select a b c p ts (run_with d a ts) (run_with d b) (run_with d c) (found_with d le h a ts) (found_with d le h b) (found_with d le h c)
  found_with d le h (begin cs g) ts = found_cond body l (begin cs g) ts (stands cs ts) (run_with d g ts) _ (λ e. found_begin cs g ts (run_with d g ts) e (found_with d le h g ts)) (ended_here body l d.none (begin cs g) ts (starts bracket_classes ts) le (λ s. s))
  found_with d le h (giving f g) ts = found_giving f g ts (run_with d g ts) (found_with d le h g ts)

module _ (body : ℕ → Grammar) where
  found_inside : (l : ℕ) (cs : List ℕ) (n : ℕ) (t : Lexeme) (ts : List Lexeme) (o : Out) → has cs (class_of t) ≡ true → Found body l (body n) ts o → Found body (suc l) (deeper cs n) (t ∷ ts) (o >>= λ v rest. done (pair (leaf t) v) rest)
  found_inside l cs n t ts (done v rest) h p = whole_deeper h p
  found_inside l cs n t ts (fault rest c) h p = record { count = suc p.count; front = front_opening h p.front; fewer = λ e s. let x = p.fewer e s in omega (arith, x) }

  pub has_level : (l : ℕ) → HasLevel l (is_none l)
  has_level zero e = absurd (cc)
  has_level (suc l) e = omega arith

  pub found_opening : (l : ℕ) → FoundDeeper body l (opening body l)
  unfolding opening_at
  found_opening zero cs n t ts h = ended_missing body 0 (deeper cs n) (t ∷ ts)
  found_opening (suc l) cs n t ts h = found_inside l cs n t ts _ h (found_with body l (opening body l) (has_level l) (found_opening l) (body n) ts)

  pub found : (l : ℕ) (g : Grammar) (ts : List Lexeme) → Found body l g ts (run body l g ts)
  unfolding run
  found l g ts = found_with body l (opening body l) (has_level l) (found_opening l) g ts

-- What is derived by turns is a front at whose end no level is open.
pub turns_front : (body : ℕ → Grammar) {g : Grammar} {v : Value} {ts rest : List Lexeme} → Whole body (many g) v ts rest → Front body 0 (many g) ts rest
turns_front body whole_none = front_nothing
turns_front body (whole_more p q) = front_more p (turns_front body q)

-- A run goes as far as a front, unless a level is missing. Where it stops at a bracket there, with no level left, the front has as many levels open.
pub data Reach (l m : ℕ) (o : Out) (rest : List Lexeme) : Type 0 where
  far : length (rest_of o) ≤ length rest → (o ≡ fault rest (misfit true) → l ≤ m) → Reach l m o rest
  missed : IsDeep o → Reach l m o rest

reach_at : (l m : ℕ) (o p : Out) (rest : List Lexeme) → p ≡ o → Reach l m o rest → Reach l m p rest
reach_at l m o p rest e r = subst (λ (x : Out). Reach l m x rest) (sym e) r

none_zero : (l m : ℕ) → is_none l ≡ true → l ≤ m
none_zero zero m e = omega arith
none_zero (suc l) m e = absurd (cc)

reach_then : (l m : ℕ) (o : Out) (f : Value → List Lexeme → Out) (rest : List Lexeme) → ((v : Value) (r : List Lexeme) → Fresh (is_none l) (length r) (f v r)) → ((v : Value) → Shrinks (f v)) → Reach l m o rest → Reach l m (o >>= f) rest
reach_then l m (done v r) f rest fr sh (far h k) = let x = sh v r in far (omega (arith, x, h)) (λ q. none_zero l m (free_then (is_none l) (done v r) f rest (λ y. absurd (cc y)) h fr sh q))
reach_then l m (fault r c) f rest fr sh (far h k) = far h k
reach_then l m o f rest fr sh (missed x) = missed (deep_then o f x)

reach_map : (l m : ℕ) (o : Out) (f : Value → Value) (rest : List Lexeme) → Reach l m o rest → Reach l m (o >>= λ v r. done (f v) r) rest
reach_map l m o f rest (far h k) = let e = ap (λ (r : List Lexeme). length r) (rest_then o f) in far (omega (arith, e, h)) (λ q. k (fault_map o f rest (misfit true) q))
reach_map l m o f rest (missed x) = missed (deep_then o _ x)

stays_far : (l m : ℕ) (o : Out) (ts rest : List Lexeme) → length (rest_of o) ≤ length ts → Fresh (is_none l) (length ts) o → ts ≡ rest → Reach l m o rest
stays_far l m o ts rest le fr e = let len : length ts ≡ length rest = ap (λ (r : List Lexeme). length r) e in far (omega (arith, le, len)) (λ q. none_zero l m ((fr rest q).1 (sym len)))

still_here : (l : ℕ) (o : Out) (ts : List Lexeme) → length (rest_of o) ≤ length ts → Fresh (is_none l) (length ts) o → Reach l 0 o ts
still_here l o ts le fr = stays_far l 0 o ts ts le fr refl

module _ (body : ℕ → Grammar) (tail : ℕ → List ℕ) (l m : ℕ) where
  abbrev d : Deeper
  d = opening body l

  abbrev sh : ShrinksDeeper d
  sh = opening_shrinks body l

  abbrev fr : FreshRuns d
  fr = fresh_runs body l

  abbrev gd : GoesDeeper d
  gd = opening_goes body l

  lev : (k : ℕ) → is_none l ≡ true → l ≤ k
  lev k e = none_zero l k e

  reach_first : (a b : Grammar) (ts rest : List Lexeme) → Reach l m (run_with d a ts) rest → Reach l m (run_with d (both a b) ts) rest
  unfolding run_with
  reach_first a b ts rest r = reach_then l m (run_with d a ts) _ rest (both_others tail d sh fr gd b) (others_shrink tail d sh fr gd b) r

  reach_second : (a b : Grammar) (v : Value) (ts mid rest : List Lexeme) → apart (more tail a) (first b) ≡ true → Moves b mid rest → Ran d.none tail a v (run_with d a ts) mid → Reach l m (run_with d b mid) rest → Reach l m (run_with d (both a b) ts) rest
  unfolding run_with
  reach_second a b v ts mid rest p mv (exact e) r = reach_at l m _ _ rest (ap (λ (x : Out). x >>= λ v mid. run_with d b mid >>= λ w rest. done (pair v w) rest) e) (reach_map l m (run_with d b mid) (pair v) rest r)
  reach_second a b v ts mid rest p (still e) (longer s k free) r = let x = both_shrinks tail d sh fr gd a b ts in let y : length mid ≡ length rest = ap (λ (r : List Lexeme). length r) e in far (omega (arith, x, k, y)) (λ q. lev m (both_free tail d sh fr gd a b ts mid rest free k e q))
  reach_second a b v ts mid rest p (moves h) (longer s k free) r = absurd (clash (more tail a) (first b) mid p s h)
  reach_second a b v ts mid rest p mv (deep x le) r = missed (deep_then _ _ x)

  reach_select_first : (a b c : Grammar) (p : Value → Bool) (ts rest : List Lexeme) → Reach l m (run_with d a ts) rest → Reach l m (run_with d (select a p b c) ts) rest
  unfolding run_with
  reach_select_first a b c p ts rest r =
      reach_then l m (run_with d a ts) _ rest
      (λ v r. fresh_map (is_none l) (length r) (cond (p v) (run_with d b r) (run_with d c r)) (pair v) (fresh_cond (is_none l) (length r) (p v) (run_with d b r) (run_with d c r) (λ q. fr b r) (fr c r)))
      (λ v r. let x = cond_shrinks (p v) (run_with d b r) (run_with d c r) (length r) (run_shrinks d sh b r) (run_shrinks d sh c r) in let y = then_shrinks (cond (p v) (run_with d b r) (run_with d c r)) (λ w s. done (pair v w) s) (λ w s. omega arith) in omega (arith, x, y))
      r

  reach_select : (a b c : Grammar) (p : Value → Bool) (v : Value) (ts mid rest : List Lexeme) → apart (more tail a) (first b ++ first c) ≡ true → Moves (cond (p v) b c) mid rest → Ran d.none tail a v (run_with d a ts) mid → Reach l m (run_with d (cond (p v) b c) mid) rest → Reach l m (run_with d (select a p b c) ts) rest
  unfolding run_with
  reach_select a b c p v ts mid rest ok mv (exact e) r = reach_at l m _ _ rest (select_exact tail d sh fr gd a b c p v ts mid e) (reach_map l m (run_with d (cond (p v) b c) mid) (pair v) rest r)
  reach_select a b c p v ts mid rest ok (still e) (longer s k free) r = let x = select_shrinks tail d sh fr gd a b c p ts in let y : length mid ≡ length rest = ap (λ (r : List Lexeme). length r) e in far (omega (arith, x, k, y)) (λ q. lev m (select_free tail d sh fr gd a b c p ts mid rest free k e q))
  reach_select a b c p v ts mid rest ok (moves h) (longer s k free) r = absurd (clash (more tail a) (first b ++ first c) mid ok s (first_cond (p v) b c mid h))
  reach_select a b c p v ts mid rest ok mv (deep x le) r = missed (deep_then _ _ x)

  reach_left : (a b : Grammar) (ts rest : List Lexeme) → Moves a ts rest → Reach l m (run_with d a ts) rest → Reach l m (run_with d (either a b) ts) rest
  unfolding run_with
  reach_left a b ts rest (still e) r = stays_far l m _ ts rest (run_shrinks d sh (either a b) ts) (fr (either a b) ts) e
  reach_left a b ts rest (moves h) r = reach_at l m _ _ rest (chosen _ _ _ h) r

  reach_right : (a b : Grammar) (ts rest : List Lexeme) → apart (first a) (first b) ≡ true → (starts (first a) ts ≡ true) ⊎ (starts (first a) ts ≡ false) → Moves b ts rest → Reach l m (run_with d b ts) rest → Reach l m (run_with d (either a b) ts) rest
  unfolding run_with
  reach_right a b ts rest p w (still e) r = stays_far l m _ ts rest (run_shrinks d sh (either a b) ts) (fr (either a b) ts) e
  reach_right a b ts rest p (inl k) (moves h) r = absurd (clash (first a) (first b) ts p k h)
  reach_right a b ts rest p (inr k) (moves h) r = reach_at l m _ _ rest (passed _ _ _ k) r

  reach_one : (g : Grammar) (n : ℕ) (ts rest : List Lexeme) → length ts ≤ n → Moves g ts rest → Reach l m (run_with d g ts) rest → Reach l m (turns (starts (first g)) (run_with d g) n ts) rest
  reach_one g n ts rest le (still e) r = stays_far l m _ ts rest (turns_shrinks (starts (first g)) (run_with d g) (run_shrinks d sh g) n ts) (fresh_turns (is_none l) (starts (first g)) (run_with d g) (run_shrinks d sh g) (fr g) n ts) e
  reach_one g zero [] rest le (moves h) r = absurd (cc)
  reach_one g zero (t ∷ ts) rest le (moves h) r = absurd (omega arith)
  reach_one g (suc n) ts rest le (moves h) r =
      reach_at l m _ _ rest (turns_at tail d sh g n ts h)
      (reach_then l m (run_with d g ts) (λ v r. turns (starts (first g)) (run_with d g) n r >>= λ vs s. done (pair v vs) s) rest
      (λ v r. fresh_map (is_none l) (length r) (turns (starts (first g)) (run_with d g) n r) (pair v) (fresh_turns (is_none l) (starts (first g)) (run_with d g) (run_shrinks d sh g) (fr g) n r))
      (λ v r. let a = turns_shrinks (starts (first g)) (run_with d g) (run_shrinks d sh g) n r in let b = then_shrinks (turns (starts (first g)) (run_with d g) n r) (λ vs s. done (pair v vs) s) (λ vs s. omega arith) in omega (arith, a, b))
      r)

  reach_turn : (g : Grammar) (v : Value) (n : ℕ) (ts mid rest : List Lexeme) → apart (more tail g) (first g) ≡ true → starts (first g) ts ≡ true → Moves (many g) mid rest → Ran d.none tail g v (run_with d g ts) mid → Reach l m (turns (starts (first g)) (run_with d g) n mid) rest → Reach l m (turns (starts (first g)) (run_with d g) (suc n) ts) rest
  reach_turn g v n ts mid rest p h mv (exact e) r =
      reach_at l m _ _ rest (turns_at tail d sh g n ts h ∙ ap (λ (x : Out). x >>= λ v r. turns (starts (first g)) (run_with d g) n r >>= λ vs s. done (pair v vs) s) e) (reach_map l m _ (pair v) rest r)
  reach_turn g v n ts mid rest p h (still e) (longer s k free) r = let x = turn_shrinks tail d sh fr gd g n ts h in let y : length mid ≡ length rest = ap (λ (r : List Lexeme). length r) e in far (omega (arith, x, k, y)) (λ q. lev m (turn_free tail d sh fr gd g n ts mid rest h free k e q))
  reach_turn g v n ts mid rest p h (moves k) (longer s q free) r = absurd (clash (more tail g) (first g) mid p s k)
  reach_turn g v n ts mid rest p h mv (deep x le) r = missed (subst IsDeep (sym (turns_at tail d sh g n ts h)) (deep_then _ _ x))

  reach_more : (g : Grammar) (v : Value) (n : ℕ) (ts mid rest : List Lexeme) → apart (more tail g) (first g) ≡ true → not (nullable g) ≡ true → length ts ≤ n → Begins g ts mid → Moves (many g) mid rest → Ran d.none tail g v (run_with d g ts) mid → ((k : ℕ) → length mid ≤ k → Reach l m (turns (starts (first g)) (run_with d g) k mid) rest) → Reach l m (turns (starts (first g)) (run_with d g) n ts) rest
  reach_more g v n ts mid rest p nn le (stays k pa e) mv r f = absurd (not_true (nullable g) nn k)
  reach_more g v zero ts mid rest p nn le (goes h len) mv r f = absurd (omega arith)
  reach_more g v (suc n) ts mid rest p nn le (goes h len) mv r f = reach_turn g v n ts mid rest p h mv r (f n (omega arith))

module _ (body : ℕ → Grammar) (tail : ℕ → List ℕ) (is : IsFine body tail) where
  reach_inside : (l m : ℕ) (o : Out) (t : Lexeme) (rest : List Lexeme) → Reach l m o rest → Reach (suc l) (suc m) (o >>= λ v r. done (pair (leaf t) v) r) rest
  reach_inside l m o t rest (far h k) = let e = ap (λ (r : List Lexeme). length r) (rest_then o (pair (leaf t))) in far (omega (arith, e, h)) (λ q. let x = k (fault_map o (pair (leaf t)) rest (misfit true) q) in omega (arith, x))
  reach_inside l m o t rest (missed x) = missed (deep_then o _ x)

  reach_opening : (m : ℕ) (cs : List ℕ) (n : ℕ) (t : Lexeme) (ts rest : List Lexeme) (l : ℕ) → has cs (class_of t) ≡ true → ((k : ℕ) → Reach k m (run_with (opening body k) (body n) ts) rest) → Reach l (suc m) (run_with (opening body l) (deeper cs n) (t ∷ ts)) rest
  unfolding run_with opening_at
  reach_opening m cs n t ts rest zero h r = missed (record { at = t ∷ ts; is = chosen _ _ _ h })
  reach_opening m cs n t ts rest (suc l) h r = reach_at (suc l) (suc m) _ _ rest (chosen _ _ _ h) (reach_inside l m (run_with (opening body l) (body n) ts) t rest (r l))

  reach_begin : (l m : ℕ) (cs : List ℕ) (g : Grammar) (ts rest : List Lexeme) (d : Deeper) → stands cs ts ≡ true → Reach l m (run_with d g ts) rest → Reach l m (run_with d (begin cs g) ts) rest
  unfolding run_with
  reach_begin l m cs g ts rest d s r = reach_at l m _ _ rest (chosen _ _ _ s) r

  reach_giving : (l m : ℕ) (f : Value → Value) (g : Grammar) (ts rest : List Lexeme) (d : Deeper) → Reach l m (run_with d g ts) rest → Reach l m (run_with d (giving f g) ts) rest
  unfolding run_with
  reach_giving l m f g ts rest d r = reach_map l m _ f rest r

  reach_start : (l : ℕ) (g : Grammar) (n : ℕ) (ts : List Lexeme) → Reach l 0 (ran_out (opening body l) n g ts) ts
  unfolding ran_out
  reach_start l empty n ts = still_here l (run_with (opening body l) empty ts) ts (run_shrinks (opening body l) (opening_shrinks body l) empty ts) (fresh_runs body l empty ts)
  reach_start l (token cs) n ts = still_here l _ ts (run_shrinks (opening body l) (opening_shrinks body l) (token cs) ts) (fresh_runs body l (token cs) ts)
  reach_start l (both a b) n ts = still_here l _ ts (run_shrinks (opening body l) (opening_shrinks body l) (both a b) ts) (fresh_runs body l (both a b) ts)
  reach_start l (either a b) n ts = still_here l _ ts (run_shrinks (opening body l) (opening_shrinks body l) (either a b) ts) (fresh_runs body l (either a b) ts)
  reach_start l (many g) n ts = still_here l _ ts (turns_shrinks (starts (first g)) (run_with (opening body l) g) (run_shrinks (opening body l) (opening_shrinks body l) g) n ts) (fresh_turns (is_none l) (starts (first g)) (run_with (opening body l) g) (run_shrinks (opening body l) (opening_shrinks body l) g) (fresh_runs body l g) n ts)
  reach_start l (deeper cs k) n ts = still_here l _ ts (run_shrinks (opening body l) (opening_shrinks body l) (deeper cs k) ts) (fresh_runs body l (deeper cs k) ts)
  reach_start l (select a p b c) n ts = still_here l _ ts (run_shrinks (opening body l) (opening_shrinks body l) (select a p b c) ts) (fresh_runs body l (select a p b c) ts)
  reach_start l (begin cs g) n ts = still_here l _ ts (run_shrinks (opening body l) (opening_shrinks body l) (begin cs g) ts) (fresh_runs body l (begin cs g) ts)
  reach_start l (giving f g) n ts = still_here l _ ts (run_shrinks (opening body l) (opening_shrinks body l) (giving f g) ts) (fresh_runs body l (giving f g) ts)

  whole_ran : {g : Grammar} {v : Value} {ts rest : List Lexeme} → Whole body g v ts rest → (l : ℕ) → fine tail g ≡ true → Ran (is_none l) tail g v (run_with (opening body l) g ts) rest
  unfolding run
  whole_ran p l f = run_finds body tail is p l f

  reaches : {m : ℕ} {g : Grammar} {ts rest : List Lexeme} → Front body m g ts rest → (l n : ℕ) → fine tail g ≡ true → length ts ≤ n → Reach l m (ran_out (opening body l) n g ts) rest
  unfolding ran_out run_with
  reaches (front_nothing {g = g} {ts = ts}) l n f le = reach_start l g n ts
  reaches (front_token h) l n f le = reach_at l 0 _ _ _ (chosen _ _ _ h) (far (omega arith) (λ q. absurd (cc q)))
  reaches (front_first {m = m} {a = a} {b = b} {ts = ts} {rest = rest} p) l n f le =
      reach_first body tail l m a b ts rest (subst (λ (o : Out). Reach l m o rest) (sym (out_is (opening body l) a ts)) (reaches p l (length ts) (and_first (fine tail a) _ f) (omega arith)))
  reaches (front_second {m = m} {a = a} {b = b} {v = v} {ts = ts} {mid = mid} {rest = rest} p q) l n f le =
      let fb = and_second (fine tail a) _ f in
      reach_second body tail l m a b v ts mid rest (and_second (fine tail b) _ fb) (front_moves body q) (whole_ran p l (and_first (fine tail a) _ f))
      (subst (λ (o : Out). Reach l m o rest) (sym (out_is (opening body l) b mid)) (reaches q l (length mid) (and_first (fine tail b) _ fb) (omega arith)))
  reaches (front_left {m = m} {a = a} {b = b} {ts = ts} {rest = rest} p) l n f le =
      reach_left body tail l m a b ts rest (front_moves body p) (subst (λ (o : Out). Reach l m o rest) (sym (out_is (opening body l) a ts)) (reaches p l (length ts) (and_first (fine tail a) _ f) (omega arith)))
  reaches (front_right {m = m} {a = a} {b = b} {ts = ts} {rest = rest} p) l n f le =
      let fb = and_second (fine tail a) _ f in
      let fc = and_second (fine tail b) _ fb in
      reach_right body tail l m a b ts rest (and_first (apart (first a) (first b)) _ fc) (decide (starts (first a) ts)) (front_moves body p) (subst (λ (o : Out). Reach l m o rest) (sym (out_is (opening body l) b ts)) (reaches p l (length ts) (and_first (fine tail b) _ fb) (omega arith)))
  reaches (front_one {m = m} {g = g} {ts = ts} {rest = rest} p) l n f le =
      reach_one body tail l m g n ts rest le (front_moves body p) (subst (λ (o : Out). Reach l m o rest) (sym (out_is (opening body l) g ts)) (reaches p l (length ts) (and_first (fine tail g) _ f) (omega arith)))
  reaches (front_more {m = m} {g = g} {v = v} {ts = ts} {mid = mid} {rest = rest} p q) l n f le =
      let fb = and_second (fine tail g) _ f in
      reach_more body tail l m g v n ts mid rest (and_first (apart (more tail g) (first g)) _ fb) (and_second (apart (more tail g) (first g)) _ fb) le (whole_begins body p) (front_moves body q) (whole_ran p l (and_first (fine tail g) _ f)) (λ j k. reaches q l j f k)
  reaches (front_opening {m = m} {cs = cs} {n = k} {t = t} {ts = ts} {rest = rest} h p) l n f le =
      reach_opening m cs k t ts rest l h (λ j. subst (λ (o : Out). Reach j m o rest) (sym (out_is (opening body j) (body k) ts)) (reaches p j (length ts) (is.rules k) (omega arith)))
  reaches (front_select_first {m = m} {a = a} {b = b} {c = c} {p = q} {ts = ts} {rest = rest} p) l n f le =
      reach_select_first body tail l m a b c q ts rest (subst (λ (o : Out). Reach l m o rest) (sym (out_is (opening body l) a ts)) (reaches p l (length ts) (and_first (fine tail a) _ f) (omega arith)))
  reaches (front_select {m = m} {a = a} {b = b} {c = c} {p = q} {v = v} {ts = ts} {mid = mid} {rest = rest} x y) l n f le =
      let fb = and_second (fine tail a) _ f in
      let g = cond (q v) b c in
      reach_select body tail l m a b c q v ts mid rest (and_first (apart (more tail a) (first b ++ first c)) _ (and_second (fine tail b && fine tail c) _ fb)) (front_moves body y) (whole_ran x l (and_first (fine tail a) _ f))
      (subst (λ (o : Out). Reach l m o rest) (sym (out_is (opening body l) g mid)) (reaches y l (length mid) (fine_cond tail (q v) b c (and_first (fine tail b && fine tail c) _ fb)) (omega arith)))
  reaches (front_begin {m = m} {cs = cs} {g = g} {ts = ts} {rest = rest} s p) l n f le =
      reach_begin l m cs g ts rest (opening body l) s (subst (λ (o : Out). Reach l m o rest) (sym (out_is (opening body l) g ts)) (reaches p l (length ts) f (omega arith)))
  reaches (front_giving {m = m} {f = change} {g = g} {ts = ts} {rest = rest} p) l n f le =
      reach_giving l m change g ts rest (opening body l) (subst (λ (o : Out). Reach l m o rest) (sym (out_is (opening body l) g ts)) (reaches p l (length ts) f (omega arith)))

  pub run_reaches : {m : ℕ} {g : Grammar} {ts rest : List Lexeme} → Front body m g ts rest → (l : ℕ) → fine tail g ≡ true → Reach l m (run body l g ts) rest
  unfolding run
  run_reaches {m} {g} {ts} {rest} p l f = subst (λ (o : Out). Reach l m o rest) (sym (out_is (opening body l) g ts)) (reaches p l (length ts) f (omega arith))
