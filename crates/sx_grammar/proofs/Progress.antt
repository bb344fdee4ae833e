-- A run goes on where a token may come first, unless a level is missing there.
use Rattle.std.proofs.Common.{◌≡◌, ℕ, zero, suc, ◌≤◌, ◌<◌, List, [], ◌∷◌, ◌++◌, length, Bool, true, false, cond, not, ◌&&◌, ◌||◌, refl, sym, ap, ◌∙◌, subst, ◌⊎◌, inl, inr, arith, eqb-true}
use Rattle.std.specs.Prelude.{nat_eq}
use Rattle.sx_grammar.specs.declared.lexemes.Lexeme.{Lexeme}
use Rattle.sx_grammar.specs.Value.{Value, nothing, leaf, pair}
use Rattle.sx_grammar.specs.Classes.{class_of}
use Rattle.sx_grammar.specs.Grammar.{Grammar, empty, token, both, either, many, deeper, select, begin, giving, has, starts, stands, Out, done, fault, missing, ◌>>=◌, nullable, meet, passed as let_pass, first, turns, Deeper, run_with, opening, opening_at, apart, more, fine}
use Rattle.sx_grammar.proofs.Bools.{and_first, and_second, or_cases, in_left, in_right, in_meet}
use Rattle.sx_grammar.proofs.Beginnings.{rest_of, decide}
use Rattle.sx_grammar.proofs.Steps.{chosen, passed, Shrinks, then_shrinks, ShrinksDeeper, run_shrinks, cond_shrinks, opening_shrinks, turns_shrinks, turns_at, turns_end}

or_left : (a b : Bool) → a ≡ true → (a || b) ≡ true
or_left true b h = refl
or_left false b h = absurd (cc)

or_right : (a b : Bool) → b ≡ true → (a || b) ≡ true
or_right true b h = refl
or_right false b h = h

and_false : (a b : Bool) → (a && b) ≡ false → (a ≡ false) ⊎ (b ≡ false)
and_false true b h = inr h
and_false false b h = inl refl

or_false : (a b : Bool) → (a || b) ≡ false → (a ≡ false) × (b ≡ false)
or_false true b h = absurd (cc)
or_false false b h = (refl, h)

not_false : (a : Bool) → not a ≡ true → a ≡ false
not_false true h = absurd (cc)
not_false false h = refl

no_start : (ts : List Lexeme) → starts [] ts ≡ true → ⊥
no_start [] h = cc
no_start (t ∷ ts) h = cc

split_has : (xs ys : List ℕ) (c : ℕ) → has (xs ++ ys) c ≡ true → (has xs c ≡ true) ⊎ (has ys c ≡ true)
split_has [] ys c h = inr h
split_has (x ∷ xs) ys c h = elim (or_cases (nat_eq c x) (has (xs ++ ys) c) h) [
  | inl e ↦ inl (or_left (nat_eq c x) (has xs c) e)
  | inr e ↦ elim (split_has xs ys c e) [ inl k ↦ inl (or_right (nat_eq c x) (has xs c) k) | inr k ↦ inr k ]
]

split : (xs ys : List ℕ) (ts : List Lexeme) → starts (xs ++ ys) ts ≡ true → (starts xs ts ≡ true) ⊎ (starts ys ts ≡ true)
split xs ys [] h = absurd (cc)
split xs ys (t ∷ ts) h = split_has xs ys (class_of t) h

meet_at : (b : Bool) (x : ℕ) (xs ys : List ℕ) (c : ℕ) → (has (meet xs ys) c ≡ true → (has xs c ≡ true) × (has ys c ≡ true)) → has ys x ≡ b → has (cond b (x ∷ meet xs ys) (meet xs ys)) c ≡ true → (has (x ∷ xs) c ≡ true) × (has ys c ≡ true)
meet_at false x xs ys c k e h = let p = k h in (or_right (nat_eq c x) (has xs c) p.0, p.1)
meet_at true x xs ys c k e h = elim (or_cases (nat_eq c x) (has (meet xs ys) c) h) [
  | inl q ↦ (or_left (nat_eq c x) (has xs c) q, subst (λ (z : ℕ). has ys z ≡ true) (sym (eqb-true c x q)) e)
  | inr q ↦ let p = k q in (or_right (nat_eq c x) (has xs c) p.0, p.1)
]

meet_has : (xs ys : List ℕ) (c : ℕ) → has (meet xs ys) c ≡ true → (has xs c ≡ true) × (has ys c ≡ true)
meet_has [] ys c h = absurd (cc)
meet_has (x ∷ xs) ys c h = meet_at (has ys x) x xs ys c (meet_has xs ys c) refl h

from_meet : (xs ys : List ℕ) (ts : List Lexeme) → starts (meet xs ys) ts ≡ true → (stands xs ts ≡ true) × (starts ys ts ≡ true)
from_meet xs ys [] h = absurd (cc)
from_meet xs ys (t ∷ ts) h = meet_has xs ys (class_of t) h

both_false : (b : Bool) → b ≡ false → b ≡ true → ⊥
both_false true e h = cc
both_false false e h = cc

to_false : (b : Bool) → (b ≡ true → ⊥) → b ≡ false
to_false true k = absurd (k refl)
to_false false k = refl

left_false : (xs ys : List ℕ) (ts : List Lexeme) → starts (xs ++ ys) ts ≡ false → starts xs ts ≡ false
left_false xs ys ts h = to_false (starts xs ts) (λ k. both_false (starts (xs ++ ys) ts) h (in_left xs ys ts k))

right_false : (xs ys : List ℕ) (ts : List Lexeme) → starts (xs ++ ys) ts ≡ false → starts ys ts ≡ false
right_false xs ys ts h = to_false (starts ys ts) (λ k. both_false (starts (xs ++ ys) ts) h (in_right xs ys ts k))

-- what may stand behind one that is passed
pass_in : (g : Grammar) (xs : List ℕ) (ts : List Lexeme) → starts (let_pass g xs) ts ≡ true → starts xs ts ≡ true
pass_in empty xs ts h = h
pass_in (token cs) xs ts h = absurd (no_start ts h)
pass_in (both a b) xs ts h = pass_in b xs ts (pass_in a (let_pass b xs) ts h)
pass_in (either a b) xs ts h = elim (split (let_pass a xs) (let_pass b xs) ts h) [ inl k ↦ pass_in a xs ts k | inr k ↦ pass_in b xs ts k ]
pass_in (many g) xs ts h = h
pass_in (deeper cs n) xs ts h = absurd (no_start ts h)
pass_in (select a p b c) xs ts h = elim (split (let_pass b xs) (let_pass c xs) ts (pass_in a (let_pass b xs ++ let_pass c xs) ts h)) [ inl k ↦ pass_in b xs ts k | inr k ↦ pass_in c xs ts k ]
pass_in (begin cs g) xs ts h = pass_in g xs ts (from_meet cs (let_pass g xs) ts h).1
pass_in (giving f g) xs ts h = pass_in g xs ts h

pass_any : (g : Grammar) (xs ys : List ℕ) (ts : List Lexeme) → starts (let_pass g ys) ts ≡ true → starts xs ts ≡ true → starts (let_pass g xs) ts ≡ true
pass_any empty xs ys ts h k = k
pass_any (token cs) xs ys ts h k = h
pass_any (both a b) xs ys ts h k = pass_any a (let_pass b xs) (let_pass b ys) ts h (pass_any b xs ys ts (pass_in a (let_pass b ys) ts h) k)
pass_any (either a b) xs ys ts h k = elim (split (let_pass a ys) (let_pass b ys) ts h) [ inl e ↦ in_left (let_pass a xs) (let_pass b xs) ts (pass_any a xs ys ts e k) | inr e ↦ in_right (let_pass a xs) (let_pass b xs) ts (pass_any b xs ys ts e k) ]
pass_any (many g) xs ys ts h k = k
pass_any (deeper cs n) xs ys ts h k = h
pass_any (select a p b c) xs ys ts h k =
    pass_any a (let_pass b xs ++ let_pass c xs) (let_pass b ys ++ let_pass c ys) ts h
    (elim (split (let_pass b ys) (let_pass c ys) ts (pass_in a (let_pass b ys ++ let_pass c ys) ts h)) [ inl e ↦ in_left (let_pass b xs) (let_pass c xs) ts (pass_any b xs ys ts e k) | inr e ↦ in_right (let_pass b xs) (let_pass c xs) ts (pass_any c xs ys ts e k) ])
pass_any (begin cs g) xs ys ts h k = let p = from_meet cs (let_pass g ys) ts h in in_meet cs (let_pass g xs) ts p.0 (pass_any g xs ys ts p.1 k)
pass_any (giving f g) xs ys ts h k = pass_any g xs ys ts h k

-- one that cannot be passed lets nothing behind it come first
solid : (g : Grammar) (xs : List ℕ) (ts : List Lexeme) → nullable g ≡ false → starts (let_pass g xs) ts ≡ true → ⊥
solid empty xs ts n h = cc
solid (token cs) xs ts n h = no_start ts h
solid (both a b) xs ts n h = elim (and_false (nullable a) (nullable b) n) [ inl e ↦ solid a (let_pass b xs) ts e h | inr e ↦ solid b xs ts e (pass_in a (let_pass b xs) ts h) ]
solid (either a b) xs ts n h = let e = or_false (nullable a) (nullable b) n in elim (split (let_pass a xs) (let_pass b xs) ts h) [ inl k ↦ solid a xs ts e.0 k | inr k ↦ solid b xs ts e.1 k ]
solid (many g) xs ts n h = cc
solid (deeper cs k) xs ts n h = no_start ts h
solid (select a p b c) xs ts n h = elim (and_false (nullable a) (nullable b || nullable c) n) [
  | inl e ↦ solid a (let_pass b xs ++ let_pass c xs) ts e h
  | inr e ↦ let f = or_false (nullable b) (nullable c) e in elim (split (let_pass b xs) (let_pass c xs) ts (pass_in a (let_pass b xs ++ let_pass c xs) ts h)) [ inl k ↦ solid b xs ts f.0 k | inr k ↦ solid c xs ts f.1 k ]
]
solid (begin cs g) xs ts n h = solid g xs ts n (from_meet cs (let_pass g xs) ts h).1
solid (giving f g) xs ts n h = solid g xs ts n h

-- a run that passes
record Passes (o : Out) (xs : List ℕ) (ts : List Lexeme) : Type 0 where
  value : Value
  is : o ≡ done value ts
  on : starts xs ts ≡ true

pub data Went (o : Out) (ts : List Lexeme) : Type 0 where
  went : length (rest_of o) < length ts → Went o ts
  stuck : o ≡ fault ts missing → Went o ts

went_at : (o p : Out) (ts : List Lexeme) → p ≡ o → Went o ts → Went p ts
went_at o p ts e w = subst (λ (x : Out). Went x ts) (sym e) w

went_then : (o : Out) (f : Value → List Lexeme → Out) (ts : List Lexeme) → ((v : Value) → Shrinks (f v)) → Went o ts → Went (o >>= f) ts
went_then o f ts sh (went l) = let x = then_shrinks o f sh in went (omega (arith, x, l))
went_then o f ts sh (stuck e) = stuck (ap (λ (x : Out). x >>= f) e)

went_map : (o : Out) (f : Value → Value) (ts : List Lexeme) → Went o ts → Went (o >>= λ v r. done (f v) r) ts
went_map o f ts w = went_then o (λ v r. done (f v) r) ts (λ v r. omega arith) w

abbrev pub GoesDeeper : Deeper → Type 0
GoesDeeper d = (n : ℕ) (t : Lexeme) (ts : List Lexeme) → Went (d.opens n t ts) (t ∷ ts)

module _ (tail : ℕ → List ℕ) (d : Deeper) (sh : ShrinksDeeper d) where
  passes : (g : Grammar) → fine tail g ≡ true → (xs : List ℕ) (ts : List Lexeme) → starts (first g) ts ≡ false → starts (let_pass g xs) ts ≡ true → Passes (run_with d g ts) xs ts
  unfolding run_with
  passes empty f xs ts n h = record { value = nothing; is = refl; on = h }
  passes (token cs) f xs ts n h = absurd (no_start ts h)
  passes (both a b) f xs ts n h =
      let fb = and_second (fine tail a) _ f in
      let p = passes a (and_first (fine tail a) _ f) (let_pass b xs) ts (left_false (first a) (let_pass a (first b)) ts n) h in
      let m : starts (first b) ts ≡ false = to_false (starts (first b) ts) (λ k. both_false _ (right_false (first a) (let_pass a (first b)) ts n) (pass_any a (first b) (let_pass b xs) ts h k)) in
      let q = passes b (and_first (fine tail b) _ fb) xs ts m p.on in
      record { value = pair p.value q.value; is = ap (λ (x : Out). x >>= λ v mid. run_with d b mid >>= λ w rest. done (pair v w) rest) p.is ∙ ap (λ (x : Out). x >>= λ w rest. done (pair p.value w) rest) q.is; on = q.on }
  passes (either a b) f xs ts n h =
      let fb = and_second (fine tail a) _ f in
      let fc = and_second (fine tail b) _ fb in
      let na = not_false (nullable a) (and_second (apart (first a) (first b)) _ fc) in
      let k : starts (let_pass b xs) ts ≡ true = elim (split (let_pass a xs) (let_pass b xs) ts h) [ inl e ↦ absurd (solid a xs ts na e) | inr e ↦ e ] in
      let q = passes b (and_first (fine tail b) _ fb) xs ts (right_false (first a) (first b) ts n) k in
      record { value = q.value; is = passed (starts (first a) ts) _ _ (left_false (first a) (first b) ts n) ∙ q.is; on = q.on }
  passes (many g) f xs ts n h = record { value = nothing; is = turns_end tail d sh g (length ts) ts n; on = h }
  passes (deeper cs k) f xs ts n h = absurd (no_start ts h)
  passes (select a p b c) f xs ts n h =
      let fb = and_second (fine tail a) _ f in
      let na = not_false (nullable a) (and_second (apart (more tail a) (first b ++ first c)) _ (and_second (fine tail b && fine tail c) _ fb)) in
      absurd (solid a (let_pass b xs ++ let_pass c xs) ts na h)
  passes (begin cs g) f xs ts n h =
      let m = from_meet cs (let_pass g xs) ts h in
      let k : starts (first g) ts ≡ false = to_false (starts (first g) ts) (λ e. both_false _ n (in_meet cs (first g) ts m.0 e)) in
      let q = passes g f xs ts k m.1 in
      record { value = q.value; is = chosen (stands cs ts) _ _ m.0 ∙ q.is; on = q.on }
  passes (giving c g) f xs ts n h = let q = passes g f xs ts n h in record { value = c q.value; is = ap (λ (x : Out). x >>= λ v rest. done (c v) rest) q.is; on = q.on }

  after_first : (b : Grammar) (v : Value) → Shrinks (λ mid. run_with d b mid >>= λ w rest. done (pair v w) rest)
  after_first b v r = let x = run_shrinks d sh b r in let y = then_shrinks (run_with d b r) (λ w s. done (pair v w) s) (λ w s. omega arith) in omega (arith, x, y)

  after_select : (p : Value → Bool) (b c : Grammar) (v : Value) → Shrinks (λ mid. cond (p v) (run_with d b mid) (run_with d c mid) >>= λ w rest. done (pair v w) rest)
  after_select p b c v r = let x = cond_shrinks (p v) (run_with d b r) (run_with d c r) (length r) (run_shrinks d sh b r) (run_shrinks d sh c r) in let y = then_shrinks (cond (p v) (run_with d b r) (run_with d c r)) (λ w s. done (pair v w) s) (λ w s. omega arith) in omega (arith, x, y)

  after_turn : (g : Grammar) (n : ℕ) (v : Value) → Shrinks (λ r. turns (starts (first g)) (run_with d g) n r >>= λ vs s. done (pair v vs) s)
  after_turn g n v r = let a = turns_shrinks (starts (first g)) (run_with d g) (run_shrinks d sh g) n r in let b = then_shrinks (turns (starts (first g)) (run_with d g) n r) (λ vs s. done (pair v vs) s) (λ vs s. omega arith) in omega (arith, a, b)

  went_both : (a b : Grammar) (ts : List Lexeme) → fine tail a ≡ true → starts (let_pass a (first b)) ts ≡ true → Went (run_with d b ts) ts → (starts (first a) ts ≡ true) ⊎ (starts (first a) ts ≡ false) → (starts (first a) ts ≡ true → Went (run_with d a ts) ts) → Went (run_with d (both a b) ts) ts
  unfolding run_with
  went_both a b ts f h w (inl e) k = went_then (run_with d a ts) _ ts (after_first b) (k e)
  went_both a b ts f h w (inr e) k = let p = passes a f (first b) ts e h in went_at _ _ ts (ap (λ (x : Out). x >>= λ v mid. run_with d b mid >>= λ w rest. done (pair v w) rest) p.is) (went_map (run_with d b ts) (pair p.value) ts w)

  went_either : (a b : Grammar) (ts : List Lexeme) → (starts (first a) ts ≡ true) ⊎ (starts (first a) ts ≡ false) → (starts (first a) ts ≡ true → Went (run_with d a ts) ts) → Went (run_with d b ts) ts → Went (run_with d (either a b) ts) ts
  unfolding run_with
  went_either a b ts (inl e) k w = went_at _ _ ts (chosen _ _ _ e) (k e)
  went_either a b ts (inr e) k w = went_at _ _ ts (passed _ _ _ e) w

  pub went_turns : (g : Grammar) (n : ℕ) (ts : List Lexeme) → length ts ≤ n → starts (first g) ts ≡ true → Went (run_with d g ts) ts → Went (turns (starts (first g)) (run_with d g) n ts) ts
  went_turns g n [] le h w = absurd (cc)
  went_turns g zero (t ∷ ts) le h w = absurd (omega arith)
  went_turns g (suc n) (t ∷ ts) le h w = went_at _ _ (t ∷ ts) (turns_at tail d sh g n (t ∷ ts) h) (went_then (run_with d g (t ∷ ts)) _ (t ∷ ts) (after_turn g n) w)

  module _ (gd : GoesDeeper d) where
    pub goes_on : (g : Grammar) → fine tail g ≡ true → (ts : List Lexeme) → starts (first g) ts ≡ true → Went (run_with d g ts) ts
    unfolding run_with
    goes_on empty f ts h = absurd (no_start ts h)
    goes_on (token cs) f [] h = absurd (cc)
    goes_on (token cs) f (t ∷ ts) h = went_at _ _ (t ∷ ts) (chosen _ _ _ h) (went (omega arith))
    goes_on (both a b) f ts h =
        let fb = and_second (fine tail a) _ f in
        elim (split (first a) (let_pass a (first b)) ts h) [
          | inl e ↦ went_then (run_with d a ts) _ ts (after_first b) (goes_on a (and_first (fine tail a) _ f) ts e)
          | inr e ↦ went_both a b ts (and_first (fine tail a) _ f) e (goes_on b (and_first (fine tail b) _ fb) ts (pass_in a (first b) ts e)) (decide (starts (first a) ts)) (λ k. goes_on a (and_first (fine tail a) _ f) ts k)
        ]
    goes_on (either a b) f ts h =
        let fb = and_second (fine tail a) _ f in
        elim (split (first a) (first b) ts h) [
          | inl e ↦ went_at _ _ ts (chosen (starts (first a) ts) _ _ e) (goes_on a (and_first (fine tail a) _ f) ts e)
          | inr e ↦ went_either a b ts (decide (starts (first a) ts)) (λ k. goes_on a (and_first (fine tail a) _ f) ts k) (goes_on b (and_first (fine tail b) _ fb) ts e)
        ]
    goes_on (many g) f ts h = went_turns g (length ts) ts (omega arith) h (goes_on g (and_first (fine tail g) _ f) ts h)
    goes_on (deeper cs n) f [] h = absurd (cc)
    goes_on (deeper cs n) f (t ∷ ts) h = went_at _ _ (t ∷ ts) (chosen _ _ _ h) (gd n t ts)
    goes_on (select a p b c) f ts h =
        let fb = and_second (fine tail a) _ f in
        let na = not_false (nullable a) (and_second (apart (more tail a) (first b ++ first c)) _ (and_second (fine tail b && fine tail c) _ fb)) in
        elim (split (first a) (let_pass a (first b ++ first c)) ts h) [
          | inl e ↦ went_then (run_with d a ts) _ ts (after_select p b c) (goes_on a (and_first (fine tail a) _ f) ts e)
          | inr e ↦ absurd (solid a (first b ++ first c) ts na e)
        ]
    goes_on (begin cs g) f ts h = let m = from_meet cs (first g) ts h in went_at _ _ ts (chosen (stands cs ts) _ _ m.0) (goes_on g f ts m.1)
    goes_on (giving k g) f ts h = went_map (run_with d g ts) k ts (goes_on g f ts h)

inside_went : (t : Lexeme) (ts : List Lexeme) (o : Out) → length (rest_of o) ≤ length ts → Went (o >>= λ v rest. done (pair (leaf t) v) rest) (t ∷ ts)
inside_went t ts o le = let x = then_shrinks o (λ v rest. done (pair (leaf t) v) rest) (λ v r. omega arith) in went (omega (arith, x, le))

pub opening_goes : (body : ℕ → Grammar) (l : ℕ) → GoesDeeper (opening body l)
unfolding opening_at
opening_goes body zero n t ts = stuck refl
opening_goes body (suc l) n t ts = inside_went t ts (run_with (opening body l) (body n) ts) (run_shrinks (opening body l) (opening_shrinks body l) (body n) ts)
