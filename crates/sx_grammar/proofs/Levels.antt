-- Where a run finds a level missing.
use Rattle.std.proofs.Common.{◌≡◌, ℕ, zero, suc, ◌≤◌, ◌<◌, List, [], ◌∷◌, ◌++◌, length, Bool, true, false, cond, refl, arith}
use Rattle.sx_grammar.specs.declared.lexemes.Lexeme.{Lexeme}
use Rattle.sx_grammar.specs.Value.{Value, nothing, leaf, pair}
use Rattle.sx_grammar.specs.Classes.{class_of}
use Rattle.sx_grammar.specs.Grammar.{Grammar, empty, token, both, either, many, deeper, select, begin, giving, has, starts, Opens, opens_here, opens_inside, opens_first, opens_second, opens_left, opens_right, opens_one, opens_more, opens_select_first, opens_select, opens_begin, opens_giving, Out, done, fault, misfit, missing, opening_at, ◌>>=◌, stands, first, turns, Deeper, run_with, opening, run}
use Rattle.sx_grammar.proofs.Bools.{in_left, in_right, in_meet}
use Rattle.sx_grammar.proofs.Beginnings.{rest_of, first_cond, Begins, stays, goes, whole_begins}
use Rattle.sx_grammar.proofs.Steps.{run_shrinks, opening_shrinks, Shrinks, ShrinksDeeper}
use Rattle.sx_grammar.proofs.Fronts.{Found, found_with, FoundDeeper, found_opening, HasLevel, has_level}

-- A missing level is one that a token opens, behind more tokens than there are levels.
abbrev pub Deep : (ℕ → Grammar) → ℕ → Grammar → List Lexeme → Out → Type 0
Deep body l g ts (done v rest) = Unit {0}
Deep body l g ts (fault rest (misfit x)) = Unit {0}
Deep body l g ts (fault rest missing) = Opens body l g ts rest × (l < length ts)

deep_cond : (body : ℕ → Grammar) (l : ℕ) (g : Grammar) (ts : List Lexeme) (b : Bool) (x y : Out) → (b ≡ true → Deep body l g ts x) → Deep body l g ts y → Deep body l g ts (cond b x y)
deep_cond body l g ts true x y f h = f refl
deep_cond body l g ts false x y f h = h

module _ (body : ℕ → Grammar) (l : ℕ) (l' : ℕ) where
  -- another grammar opens it too
  deep_as : (g h : Grammar) (ts us : List Lexeme) (o : Out) (f : Value → Value) → ((rest : List Lexeme) → Opens body l g ts rest → Opens body l h us rest) → length ts ≤ length us → Deep body l g ts o → Deep body l h us (o >>= λ v r. done (f v) r)
  deep_as g h ts us (done v r) f k le d = tt
  deep_as g h ts us (fault r (misfit q')) f k le d = tt
  deep_as g h ts us (fault r missing) f k le d = (k r d.0, omega (arith, d.1))

  deep_same : (g h : Grammar) (ts us : List Lexeme) (o : Out) → ((rest : List Lexeme) → Opens body l g ts rest → Opens body l h us rest) → length ts ≤ length us → Deep body l g ts o → Deep body l h us o
  deep_same g h ts us (done v r) k le d = tt
  deep_same g h ts us (fault r (misfit q')) k le d = tt
  deep_same g h ts us (fault r missing) k le d = (k r d.0, omega (arith, d.1))

  deep_both : (a b : Grammar) (ts : List Lexeme) (o : Out) (f : List Lexeme → Out) → length (rest_of o) ≤ length ts → Found body l' a ts o → Deep body l a ts o → ((mid : List Lexeme) → Deep body l b mid (f mid)) → Deep body l (both a b) ts (o >>= λ v mid. f mid >>= λ w rest. done (pair v w) rest)
  deep_both a b ts (done v mid) f le p d e = deep_as b (both a b) mid ts (f mid) (pair v) (λ rest x. opens_second p x) le (e mid)
  deep_both a b ts (fault r (misfit q')) f le p d e = tt
  deep_both a b ts (fault r missing) f le p d e = (opens_first d.0, d.1)

  deep_cond_either : (q : Bool) (b c : Grammar) (ts : List Lexeme) (x y : Out) → Deep body l b ts x → Deep body l c ts y → Deep body l (cond q b c) ts (cond q x y)
  deep_cond_either true b c ts x y h k = h
  deep_cond_either false b c ts x y h k = k

  deep_select : (a b c : Grammar) (p : Value → Bool) (ts : List Lexeme) (o : Out) (f g : List Lexeme → Out) → length (rest_of o) ≤ length ts → Found body l' a ts o → Deep body l a ts o → ((mid : List Lexeme) → Deep body l b mid (f mid)) → ((mid : List Lexeme) → Deep body l c mid (g mid)) → Deep body l (select a p b c) ts (o >>= λ v mid. cond (p v) (f mid) (g mid) >>= λ w rest. done (pair v w) rest)
  deep_select a b c p ts (done v mid) f g le x d y z = deep_as (cond (p v) b c) (select a p b c) mid ts (cond (p v) (f mid) (g mid)) (pair v) (λ rest o. opens_select x o) le (deep_cond_either (p v) b c mid (f mid) (g mid) (y mid) (z mid))
  deep_select a b c p ts (fault r (misfit q')) f g le x d y z = tt
  deep_select a b c p ts (fault r missing) f g le x d y z = (opens_select_first d.0, d.1)

  deep_turn : (g : Grammar) (ts : List Lexeme) (o : Out) (f : List Lexeme → Out) → length (rest_of o) ≤ length ts → Found body l' g ts o → Deep body l g ts o → ((mid : List Lexeme) → Deep body l (many g) mid (f mid)) → Deep body l (many g) ts (o >>= λ v mid. f mid >>= λ vs rest. done (pair v vs) rest)
  deep_turn g ts (done v mid) f le p d e = deep_as (many g) (many g) mid ts (f mid) (pair v) (λ rest x. opens_more p x) le (e mid)
  deep_turn g ts (fault r (misfit q')) f le p d e = tt
  deep_turn g ts (fault r missing) f le p d e = (opens_one d.0, d.1)

  deep_turns : (g : Grammar) (turn : List Lexeme → Out) → Shrinks turn → ((ts : List Lexeme) → Found body l' g ts (turn ts)) → ((ts : List Lexeme) → Deep body l g ts (turn ts)) → (n : ℕ) (ts : List Lexeme) → Deep body l (many g) ts (turns (starts (first g)) turn n ts)
  unfolding turns
  deep_turns g turn sh p h zero ts = tt
  deep_turns g turn sh p h (suc n) ts = deep_cond body l (many g) ts (starts (first g) ts) _ (done nothing ts) (λ e. deep_turn g ts (turn ts) (turns (starts (first g)) turn n) (sh ts) (p ts) (h ts) (deep_turns g turn sh p h n)) tt

  abbrev pub DeepDeeper : Deeper → Type 0
  DeepDeeper d = (cs : List ℕ) (n : ℕ) (t : Lexeme) (ts : List Lexeme) → has cs (class_of t) ≡ true → Deep body l (deeper cs n) (t ∷ ts) (d.opens n t ts)

  deep_with : (d : Deeper) → HasLevel l' d.none → ShrinksDeeper d → FoundDeeper body l' d → DeepDeeper d → (g : Grammar) (ts : List Lexeme) → Deep body l g ts (run_with d g ts)
  unfolding run_with
  deep_with d le' sh p h empty ts = tt
  deep_with d le' sh p h (token cs) [] = tt
  deep_with d le' sh p h (token cs) (t ∷ ts) = deep_cond body l (token cs) (t ∷ ts) (has cs (class_of t)) (done (leaf t) ts) _ (λ e. tt) tt
  deep_with d le' sh p h (both a b) ts = deep_both a b ts (run_with d a ts) (run_with d b) (run_shrinks d sh a ts) (found_with body l' d le' p a ts) (deep_with d le' sh p h a ts) (deep_with d le' sh p h b)
  deep_with d le' sh p h (either a b) ts = deep_cond body l (either a b) ts (starts (first a) ts) (run_with d a ts) (run_with d b ts)
      (λ e. deep_same a (either a b) ts ts (run_with d a ts) (λ rest x. opens_left x) (omega arith) (deep_with d le' sh p h a ts))
      (deep_same b (either a b) ts ts (run_with d b ts) (λ rest x. opens_right x) (omega arith) (deep_with d le' sh p h b ts))
  deep_with d le' sh p h (many g) ts = deep_turns g (run_with d g) (run_shrinks d sh g) (found_with body l' d le' p g) (deep_with d le' sh p h g) (length ts) ts
  deep_with d le' sh p h (deeper cs n) [] = tt
  deep_with d le' sh p h (deeper cs n) (t ∷ ts) = deep_cond body l (deeper cs n) (t ∷ ts) (has cs (class_of t)) (d.opens n t ts) _ (λ e. h cs n t ts e) tt
  deep_with d le' sh p h (select a q b c) ts = deep_select a b c q ts (run_with d a ts) (run_with d b) (run_with d c) (run_shrinks d sh a ts) (found_with body l' d le' p a ts) (deep_with d le' sh p h a ts) (deep_with d le' sh p h b) (deep_with d le' sh p h c)
  deep_with d le' sh p h (begin cs g) ts = deep_cond body l (begin cs g) ts (stands cs ts) (run_with d g ts) _ (λ e. deep_same g (begin cs g) ts ts (run_with d g ts) (λ rest x. opens_begin e x) (omega arith) (deep_with d le' sh p h g ts)) tt
  deep_with d le' sh p h (giving f g) ts = deep_as g (giving f g) ts ts (run_with d g ts) f (λ rest x. opens_giving x) (omega arith) (deep_with d le' sh p h g ts)

deep_inside : (body : ℕ → Grammar) (l : ℕ) (cs : List ℕ) (n : ℕ) (t : Lexeme) (ts : List Lexeme) (o : Out) → has cs (class_of t) ≡ true → Deep body l (body n) ts o → Deep body (suc l) (deeper cs n) (t ∷ ts) (o >>= λ v rest. done (pair (leaf t) v) rest)
deep_inside body l cs n t ts (done v r) h d = tt
deep_inside body l cs n t ts (fault r (misfit q')) h d = tt
deep_inside body l cs n t ts (fault r missing) h d = (opens_inside h d.0, omega (arith, d.1))

deep_opening : (body : ℕ → Grammar) (l : ℕ) → DeepDeeper body l l (opening body l)
unfolding opening_at
deep_opening body zero cs n t ts h = (opens_here h, omega arith)
deep_opening body (suc l) cs n t ts h = deep_inside body l cs n t ts _ h (deep_with body l l (opening body l) (has_level body l) (opening_shrinks body l) (found_opening body l) (deep_opening body l) (body n) ts)

pub run_deep : (body : ℕ → Grammar) (l : ℕ) (g : Grammar) (ts : List Lexeme) → Deep body l g ts (run body l g ts)
unfolding run
run_deep body l g ts = deep_with body l l (opening body l) (has_level body l) (opening_shrinks body l) (found_opening body l) (deep_opening body l) g ts

-- What opens begins.
module _ (body : ℕ → Grammar) where
  opens_both : (a b : Grammar) (ts mid : List Lexeme) → Begins a ts mid → starts (first b) mid ≡ true → starts (first (both a b)) ts ≡ true
  opens_both a b ts mid (goes h le) k = in_left (first a) _ ts h
  opens_both a b ts mid (stays n pa e) k = in_right (first a) _ ts (pa (first b) (rw e k))

  opens_many : (g : Grammar) (ts mid : List Lexeme) → Begins g ts mid → starts (first g) mid ≡ true → starts (first g) ts ≡ true
  opens_many g ts mid (goes h le) k = h
  opens_many g ts mid (stays n pa e) k = rw e k

  opens_select_starts : (a b c : Grammar) (p : Value → Bool) (v : Value) (ts mid : List Lexeme) → Begins a ts mid → starts (first (cond (p v) b c)) mid ≡ true → starts (first (select a p b c)) ts ≡ true
  opens_select_starts a b c p v ts mid (goes h le) k = in_left (first a) _ ts h
  opens_select_starts a b c p v ts mid (stays n pa e) k = in_right (first a) _ ts (pa (first b ++ first c) (rw e (first_cond (p v) b c mid k)))

  pub opens_starts : {l : ℕ} {g : Grammar} {ts rest : List Lexeme} → Opens body l g ts rest → starts (first g) ts ≡ true
  opens_starts (opens_here h) = h
  opens_starts (opens_inside h p) = h
  opens_starts (opens_first {a = a} {ts = ts} p) = in_left (first a) _ ts (opens_starts p)
  opens_starts (opens_second {a = a} {b = b} {ts = ts} {mid = mid} p q) = opens_both a b ts mid (whole_begins body p) (opens_starts q)
  opens_starts (opens_left {a = a} {b = b} {ts = ts} p) = in_left (first a) (first b) ts (opens_starts p)
  opens_starts (opens_right {a = a} {b = b} {ts = ts} p) = in_right (first a) (first b) ts (opens_starts p)
  opens_starts (opens_one p) = opens_starts p
  opens_starts (opens_more {g = g} {ts = ts} {mid = mid} p q) = opens_many g ts mid (whole_begins body p) (opens_starts q)
  opens_starts (opens_select_first {a = a} {ts = ts} p) = in_left (first a) _ ts (opens_starts p)
  opens_starts (opens_select {a = a} {b = b} {c = c} {p = q} {v = v} {ts = ts} {mid = mid} x y) = opens_select_starts a b c q v ts mid (whole_begins body x) (opens_starts y)
  opens_starts (opens_begin {cs = cs} {g = g} {ts = ts} s p) = in_meet cs (first g) ts s (opens_starts p)
  opens_starts (opens_giving p) = opens_starts p
