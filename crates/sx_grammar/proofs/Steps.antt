-- Steps of a run: it goes forward, and where it stops at a bracket.
use Rattle.std.proofs.Common.{◌≡◌, ℕ, zero, suc, ◌≤◌, List, [], ◌∷◌, length, Bool, true, false, cond, ◌&&◌, refl, ap, subst, arith}
use Rattle.sx_grammar.specs.declared.lexemes.Lexeme.{Lexeme}
use Rattle.sx_grammar.specs.Value.{Value, nothing, leaf, pair}
use Rattle.sx_grammar.specs.Classes.{class_of}
use Rattle.sx_grammar.specs.Grammar.{Grammar, empty, token, both, either, many, deeper, select, begin, giving, has, starts, Out, done, fault, Cause, misfit, opening_at, is_none, bracket_classes, ◌>>=◌, stands, first, turns, Deeper, run_with, opening}
use Rattle.sx_grammar.proofs.Bools.{and_first, and_second}
use Rattle.sx_grammar.proofs.Beginnings.{rest_of}

-- A run goes forward.
abbrev pub Shrinks : (List Lexeme → Out) → Type 0
Shrinks f = (ts : List Lexeme) → length (rest_of (f ts)) ≤ length ts

pub then_shrinks : (o : Out) (f : Value → List Lexeme → Out) → ((v : Value) → Shrinks (f v)) → length (rest_of (o >>= f)) ≤ length (rest_of o)
then_shrinks (done v rest) f h = h v rest
then_shrinks (fault rest deep) f h = omega arith

abbrev pub ShrinksDeeper : Deeper → Type 0
ShrinksDeeper d = (n : ℕ) (t : Lexeme) (ts : List Lexeme) → length (rest_of (d.opens n t ts)) ≤ length (t ∷ ts)

pub cond_shrinks : (b : Bool) (x y : Out) (n : ℕ) → length (rest_of x) ≤ n → length (rest_of y) ≤ n → length (rest_of (cond b x y)) ≤ n
cond_shrinks true x y n h k = h
cond_shrinks false x y n h k = k

module _ (go : List Lexeme → Bool) (turn : List Lexeme → Out) (sh : Shrinks turn) where
  pub turns_shrinks : (n : ℕ) → Shrinks (turns go turn n)
  unfolding turns
  turns_shrinks zero ts = omega arith
  turns_shrinks (suc n) ts =
      let last : (v : Value) → Shrinks (λ r. turns go turn n r >>= λ vs s. done (pair v vs) s) =
      λ v r. let a = turns_shrinks n r in let b = then_shrinks (turns go turn n r) (λ vs s. done (pair v vs) s) (λ vs s. omega arith) in omega (arith, a, b) in
      let a = then_shrinks (turn ts) (λ v r. turns go turn n r >>= λ vs s. done (pair v vs) s) last in
      let b = sh ts in
      cond_shrinks (go ts) _ _ (length ts) (omega (arith, a, b)) (omega arith)

pub run_shrinks : (d : Deeper) → ShrinksDeeper d → (g : Grammar) → Shrinks (run_with d g)
unfolding run_with
run_shrinks d sh empty ts = omega arith
run_shrinks d sh (token cs) [] = omega arith
run_shrinks d sh (token cs) (t ∷ ts) = cond_shrinks (has cs (class_of t)) _ _ (length (t ∷ ts)) (omega arith) (omega arith)
run_shrinks d sh (both a b) ts =
    let last : (v : Value) → Shrinks (λ mid. run_with d b mid >>= λ w rest. done (pair v w) rest) =
    λ v r. let x = run_shrinks d sh b r in let y = then_shrinks (run_with d b r) (λ w s. done (pair v w) s) (λ w s. omega arith) in omega (arith, x, y) in
    let x = then_shrinks (run_with d a ts) (λ v mid. run_with d b mid >>= λ w rest. done (pair v w) rest) last in
    let y = run_shrinks d sh a ts in omega (arith, x, y)
run_shrinks d sh (either a b) ts = cond_shrinks (starts (first a) ts) _ _ (length ts) (run_shrinks d sh a ts) (run_shrinks d sh b ts)
run_shrinks d sh (many g) ts = turns_shrinks (starts (first g)) (run_with d g) (run_shrinks d sh g) (length ts) ts
run_shrinks d sh (deeper cs n) [] = omega arith
run_shrinks d sh (deeper cs n) (t ∷ ts) = cond_shrinks (has cs (class_of t)) _ _ (length (t ∷ ts)) (sh n t ts) (omega arith)
run_shrinks d sh (select a p b c) ts =
    let last : (v : Value) → Shrinks (λ mid. cond (p v) (run_with d b mid) (run_with d c mid) >>= λ w rest. done (pair v w) rest) =
    λ v r. let x = cond_shrinks (p v) (run_with d b r) (run_with d c r) (length r) (run_shrinks d sh b r) (run_shrinks d sh c r) in let y = then_shrinks (cond (p v) (run_with d b r) (run_with d c r)) (λ w s. done (pair v w) s) (λ w s. omega arith) in omega (arith, x, y) in
    let x = then_shrinks (run_with d a ts) (λ v mid. cond (p v) (run_with d b mid) (run_with d c mid) >>= λ w rest. done (pair v w) rest) last in
    let y = run_shrinks d sh a ts in omega (arith, x, y)
run_shrinks d sh (begin cs g) ts = cond_shrinks (stands cs ts) _ _ (length ts) (run_shrinks d sh g ts) (omega arith)
run_shrinks d sh (giving f g) ts =
    let x = then_shrinks (run_with d g ts) (λ v r. done (f v) r) (λ v r. omega arith) in
    let y = run_shrinks d sh g ts in omega (arith, x, y)

pub opening_shrinks : (body : ℕ → Grammar) (l : ℕ) → ShrinksDeeper (opening body l)
unfolding opening_at
opening_shrinks body zero n t ts = omega arith
opening_shrinks body (suc l) n t ts =
    let x = then_shrinks (run_with (opening body l) (body n) ts) (λ v r. done (pair (leaf t) v) r) (λ v r. omega arith) in
    let y = run_shrinks (opening body l) (opening_shrinks body l) (body n) ts in omega (arith, x, y)

-- Where a run stops at a bracket with no level left: the bracket stands there, and where nothing was read before it, the run had none.
abbrev pub Fresh : Bool → ℕ → Out → Type 0
Fresh z n o = (at : List Lexeme) → o ≡ fault at (misfit true) → (starts bracket_classes at ≡ true) × (length at ≡ n → z ≡ true)

pub fresh_done : (z : Bool) (n : ℕ) (v : Value) (r : List Lexeme) → Fresh z n (done v r)
fresh_done z n v r at e = absurd (cc)

pub fresh_cond : (z : Bool) (n : ℕ) (b : Bool) (x y : Out) → (b ≡ true → Fresh z n x) → Fresh z n y → Fresh z n (cond b x y)
fresh_cond z n true x y f h = f refl
fresh_cond z n false x y f h = h

length_at : (o : Out) (at : List Lexeme) (c : Cause) → o ≡ fault at c → length (rest_of o) ≡ length at
length_at o at c e = ap (λ (x : Out). length (rest_of x)) e

pub fresh_then : (z : Bool) (n : ℕ) (o : Out) (f : Value → List Lexeme → Out) → Fresh z n o → length (rest_of o) ≤ n → ((v : Value) (r : List Lexeme) → Fresh z (length r) (f v r)) → ((v : Value) → Shrinks (f v)) → Fresh z n (o >>= f)
fresh_then z n (done v r) f h le k sh at e =
    let x = k v r at e in let y = length_at (f v r) at (misfit true) e in let w = sh v r in
    (x.0, λ q. x.1 (omega (arith, y, w, le, q)))
fresh_then z n (fault r c) f h le k sh at e = h at e

pub fresh_map : (z : Bool) (n : ℕ) (o : Out) (f : Value → Value) → Fresh z n o → Fresh z n (o >>= λ v r. done (f v) r)
fresh_map z n (done v r) f h = fresh_done z n (f v) r
fresh_map z n (fault r c) f h = h

misfit_same : (b c : Bool) (r at : List Lexeme) → fault r (misfit b) ≡ fault at (misfit c) → (r ≡ at) × (b ≡ c)
misfit_same b c r at e = (cc, cc)

fresh_fault : (z : Bool) (ts : List Lexeme) (b : Bool) → (b ≡ true → starts bracket_classes ts ≡ true) → Fresh z (length ts) (fault ts (misfit (z && b)))
fresh_fault z ts b h at e =
    let x = misfit_same (z && b) true ts at e in
    (subst (λ (r : List Lexeme). starts bracket_classes r ≡ true) x.0 (h (and_second z b x.1)), λ q. and_first z b x.1)

fresh_end : (z : Bool) → Fresh z 0 (fault [] (misfit false))
fresh_end z at e = absurd (cc)

abbrev pub FreshDeeper : Deeper → Type 0
FreshDeeper d = (n : ℕ) (t : Lexeme) (ts at : List Lexeme) → d.opens n t ts ≡ fault at (misfit true) → (starts bracket_classes at ≡ true) × (length at ≡ length (t ∷ ts) → ⊥)

fresh_deeper : (z : Bool) (n : ℕ) (o : Out) → ((at : List Lexeme) → o ≡ fault at (misfit true) → (starts bracket_classes at ≡ true) × (length at ≡ n → ⊥)) → Fresh z n o
fresh_deeper z n o h at e = let x = h at e in (x.0, λ q. absurd (x.1 q))

module _ (z : Bool) (go : List Lexeme → Bool) (turn : List Lexeme → Out) (sh : Shrinks turn) (fr : (ts : List Lexeme) → Fresh z (length ts) (turn ts)) where
  pub fresh_turns : (n : ℕ) (ts : List Lexeme) → Fresh z (length ts) (turns go turn n ts)
  unfolding turns
  fresh_turns zero ts = fresh_done z (length ts) nothing ts
  fresh_turns (suc n) ts = fresh_cond z (length ts) (go ts) _ (done nothing ts)
      (λ q. fresh_then z (length ts) (turn ts) (λ v r. turns go turn n r >>= λ vs s. done (pair v vs) s) (fr ts) (sh ts) (λ v r. fresh_map z (length r) (turns go turn n r) (pair v) (fresh_turns n r))
      (λ v r. let a = turns_shrinks go turn sh n r in let b = then_shrinks (turns go turn n r) (λ vs s. done (pair v vs) s) (λ vs s. omega arith) in omega (arith, a, b)))
      (fresh_done z (length ts) nothing ts)

pub run_fresh : (d : Deeper) → ShrinksDeeper d → FreshDeeper d → (g : Grammar) (ts : List Lexeme) → Fresh d.none (length ts) (run_with d g ts)
unfolding run_with
run_fresh d sh fr empty ts = fresh_done d.none (length ts) nothing ts
run_fresh d sh fr (token cs) [] = fresh_end d.none
run_fresh d sh fr (token cs) (t ∷ ts) = fresh_cond d.none (length (t ∷ ts)) (has cs (class_of t)) (done (leaf t) ts) _ (λ q. fresh_done d.none (length (t ∷ ts)) (leaf t) ts) (fresh_fault d.none (t ∷ ts) (has bracket_classes (class_of t)) (λ q. q))
run_fresh d sh fr (both a b) ts = fresh_then d.none (length ts) (run_with d a ts) _ (run_fresh d sh fr a ts) (run_shrinks d sh a ts) (λ v r. fresh_map d.none (length r) (run_with d b r) (pair v) (run_fresh d sh fr b r))
    (λ v r. let x = run_shrinks d sh b r in let y = then_shrinks (run_with d b r) (λ w s. done (pair v w) s) (λ w s. omega arith) in omega (arith, x, y))
run_fresh d sh fr (either a b) ts = fresh_cond d.none (length ts) (starts (first a) ts) (run_with d a ts) (run_with d b ts) (λ q. run_fresh d sh fr a ts) (run_fresh d sh fr b ts)
run_fresh d sh fr (many g) ts = fresh_turns d.none (starts (first g)) (run_with d g) (run_shrinks d sh g) (run_fresh d sh fr g) (length ts) ts
run_fresh d sh fr (deeper cs n) [] = fresh_end d.none
run_fresh d sh fr (deeper cs n) (t ∷ ts) = fresh_cond d.none (length (t ∷ ts)) (has cs (class_of t)) (d.opens n t ts) _ (λ q. fresh_deeper d.none (length (t ∷ ts)) (d.opens n t ts) (fr n t ts)) (fresh_fault d.none (t ∷ ts) (has bracket_classes (class_of t)) (λ q. q))
run_fresh d sh fr (select a p b c) ts = fresh_then d.none (length ts) (run_with d a ts) _ (run_fresh d sh fr a ts) (run_shrinks d sh a ts)
    (λ v r. fresh_map d.none (length r) (cond (p v) (run_with d b r) (run_with d c r)) (pair v) (fresh_cond d.none (length r) (p v) (run_with d b r) (run_with d c r) (λ q. run_fresh d sh fr b r) (run_fresh d sh fr c r)))
    (λ v r. let x = cond_shrinks (p v) (run_with d b r) (run_with d c r) (length r) (run_shrinks d sh b r) (run_shrinks d sh c r) in let y = then_shrinks (cond (p v) (run_with d b r) (run_with d c r)) (λ w s. done (pair v w) s) (λ w s. omega arith) in omega (arith, x, y))
run_fresh d sh fr (begin cs g) ts = fresh_cond d.none (length ts) (stands cs ts) (run_with d g ts) _ (λ q. run_fresh d sh fr g ts) (fresh_fault d.none ts (starts bracket_classes ts) (λ q. q))
run_fresh d sh fr (giving f g) ts = fresh_map d.none (length ts) (run_with d g ts) f (run_fresh d sh fr g ts)

fresh_inside : (n : ℕ) (t : Lexeme) (ts at : List Lexeme) (o : Out) (z : Bool) → Fresh z (length ts) o → length (rest_of o) ≤ length ts → (o >>= λ v rest. done (pair (leaf t) v) rest) ≡ fault at (misfit true) → (starts bracket_classes at ≡ true) × (length at ≡ length (t ∷ ts) → ⊥)
fresh_inside n t ts at (done v r) z h le e = absurd (cc)
fresh_inside n t ts at (fault r c) z h le e = let x = length_at (fault r c) at (misfit true) e in ((h at e).0, λ q. omega (arith, x, le, q))

pub opening_fresh : (body : ℕ → Grammar) (l : ℕ) → FreshDeeper (opening body l)
unfolding opening_at
opening_fresh body zero n t ts at e = absurd (cc)
opening_fresh body (suc l) n t ts at e = fresh_inside n t ts at (run_with (opening body l) (body n) ts) (is_none l) (run_fresh (opening body l) (opening_shrinks body l) (opening_fresh body l) (body n) ts) (run_shrinks (opening body l) (opening_shrinks body l) (body n) ts) e

abbrev pub FreshRuns : Deeper → Type 0
FreshRuns d = (g : Grammar) (ts : List Lexeme) → Fresh d.none (length ts) (run_with d g ts)

pub fresh_runs : (body : ℕ → Grammar) (l : ℕ) → FreshRuns (opening body l)
fresh_runs body l g ts = run_fresh (opening body l) (opening_shrinks body l) (opening_fresh body l) g ts

-- such a stop of a run that goes on with a part after the place where it goes on
pub free_then : (z : Bool) (o : Out) (f : Value → List Lexeme → Out) (mid : List Lexeme) → (o ≡ fault mid (misfit true) → z ≡ true) → length (rest_of o) ≤ length mid → ((v : Value) (r : List Lexeme) → Fresh z (length r) (f v r)) → ((v : Value) → Shrinks (f v)) → (o >>= f) ≡ fault mid (misfit true) → z ≡ true
free_then z (done v r) f mid h le k sh e = let y = length_at (f v r) mid (misfit true) e in let w = sh v r in (k v r mid e).1 (omega (arith, y, w, le))
free_then z (fault r c) f mid h le k sh e = h e

pub fault_map : (o : Out) (f : Value → Value) (rest : List Lexeme) (c : Cause) → (o >>= λ w r. done (f w) r) ≡ fault rest c → o ≡ fault rest c
fault_map (done v r) f rest c e = absurd (cc)
fault_map (fault r k) f rest c e = e

pub rest_then : (o : Out) (f : Value → Value) → rest_of (o >>= λ v r. done (f v) r) ≡ rest_of o
rest_then (done v rest) f = refl
rest_then (fault rest b) f = refl

pub chosen : (b : Bool) (x y : Out) → b ≡ true → cond b x y ≡ x
chosen true x y h = refl
chosen false x y h = absurd (cc)

pub passed : (b : Bool) (x y : Out) → b ≡ false → cond b x y ≡ y
passed true x y h = absurd (cc)
passed false x y h = refl

module _ (tail : ℕ → List ℕ) (d : Deeper) (sh : ShrinksDeeper d) where
  pub turns_at : (g : Grammar) (n : ℕ) (ts : List Lexeme) → starts (first g) ts ≡ true → turns (starts (first g)) (run_with d g) (suc n) ts ≡ (run_with d g ts >>= λ v r. turns (starts (first g)) (run_with d g) n r >>= λ vs s. done (pair v vs) s)
  unfolding turns
  turns_at g n ts h = chosen (starts (first g) ts) _ _ h

  pub turns_end : (g : Grammar) (n : ℕ) (ts : List Lexeme) → starts (first g) ts ≡ false → turns (starts (first g)) (run_with d g) n ts ≡ done nothing ts
  unfolding turns
  turns_end g zero ts h = refl
  turns_end g (suc n) ts h = passed (starts (first g) ts) _ _ h
