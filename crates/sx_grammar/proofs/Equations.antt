-- Steps of a run.
use Rattle.std.proofs.Common.{◌≡◌, ℕ, zero, suc, ◌≤◌, ◌<◌, List, [], ◌∷◌, length, Bool, true, false, cond, not, ◌&&◌, refl, sym, ap, ◌∙◌, arith}
use Rattle.sx_grammar.specs.declared.lexemes.Lexeme.{Lexeme}
use Rattle.sx_grammar.specs.Value.{Value, nothing, leaf, pair}
use Rattle.sx_grammar.specs.Classes.{class_of}
use Rattle.sx_grammar.specs.Grammar.{Grammar, token, both, either, many, deeper, giving, has, starts, Whole, select, Out, done, fault, misfit, missing, ◌>>=◌, nullable, first, turns, run_with, opening, opening_at, is_none, bracket_classes, run}
use Rattle.sx_grammar.specs.Rules.{body}
use Rattle.sx_grammar.proofs.Bools.{not_true}
use Rattle.sx_grammar.proofs.Beginnings.{stays, goes, whole_begins}
use Rattle.sx_grammar.proofs.Steps.{chosen, passed, turns_end, opening_shrinks}
use Rattle.sx_grammar.proofs.Fronts.{Found, found}

module _ (l : ℕ) where
  pub token_end : (cs : List ℕ) (ts : List Lexeme) → ts ≡ [] → run body l (token cs) ts ≡ fault [] (misfit false)
  unfolding run run_with
  token_end cs ts e = ap (λ (s : List Lexeme). run_with (opening body l) (token cs) s) e

  pub token_fits : (cs : List ℕ) (t : Lexeme) (ts rest : List Lexeme) → ts ≡ t ∷ rest → has cs (class_of t) ≡ true → run body l (token cs) ts ≡ done (leaf t) rest
  unfolding run run_with
  token_fits cs t ts rest e h = ap (λ (s : List Lexeme). run_with (opening body l) (token cs) s) e ∙ chosen _ _ _ h

  pub token_wrong : (cs : List ℕ) (t : Lexeme) (ts rest : List Lexeme) → ts ≡ t ∷ rest → has cs (class_of t) ≡ false → run body l (token cs) ts ≡ fault ts (misfit (is_none l && starts bracket_classes ts))
  unfolding run run_with
  token_wrong cs t ts rest e h = ap (λ (s : List Lexeme). run_with (opening body l) (token cs) s) e ∙ passed _ _ _ h ∙ ap (λ (s : List Lexeme). fault s (misfit (is_none l && starts bracket_classes s))) (sym e)

  pub deeper_end : (cs : List ℕ) (n : ℕ) (ts : List Lexeme) → ts ≡ [] → run body l (deeper cs n) ts ≡ fault [] (misfit false)
  unfolding run run_with
  deeper_end cs n ts e = ap (λ (s : List Lexeme). run_with (opening body l) (deeper cs n) s) e

  pub deeper_wrong : (cs : List ℕ) (n : ℕ) (t : Lexeme) (ts rest : List Lexeme) → ts ≡ t ∷ rest → has cs (class_of t) ≡ false → run body l (deeper cs n) ts ≡ fault ts (misfit (is_none l && starts bracket_classes ts))
  unfolding run run_with
  deeper_wrong cs n t ts rest e h = ap (λ (s : List Lexeme). run_with (opening body l) (deeper cs n) s) e ∙ passed _ _ _ h ∙ ap (λ (s : List Lexeme). fault s (misfit (is_none l && starts bracket_classes s))) (sym e)

  pub both_is : (a b : Grammar) (ts : List Lexeme) → run body l (both a b) ts ≡ (run body l a ts >>= λ v mid. run body l b mid >>= λ w rest. done (pair v w) rest)
  unfolding run run_with
  both_is a b ts = refl

  pub giving_is : (f : Value → Value) (g : Grammar) (ts : List Lexeme) → run body l (giving f g) ts ≡ (run body l g ts >>= λ v rest. done (f v) rest)
  unfolding run run_with
  giving_is f g ts = refl

  pub either_left : (a b : Grammar) (ts : List Lexeme) → starts (first a) ts ≡ true → run body l (either a b) ts ≡ run body l a ts
  unfolding run run_with
  either_left a b ts h = chosen _ _ _ h

  pub either_right : (a b : Grammar) (ts : List Lexeme) → starts (first a) ts ≡ false → run body l (either a b) ts ≡ run body l b ts
  unfolding run run_with
  either_right a b ts h = passed _ _ _ h

  pub many_stop : (g : Grammar) (ts : List Lexeme) → starts (first g) ts ≡ false → run body l (many g) ts ≡ done nothing ts
  unfolding run run_with
  many_stop g ts h = turns_end (λ n. []) (opening body l) (opening_shrinks body l) g (length ts) ts h

  -- a turn goes on
  found_shorter : (g : Grammar) (ts : List Lexeme) (v : Value) (rest : List Lexeme) → not (nullable g) ≡ true → Whole body g v ts rest → length rest < length ts
  found_shorter g ts v rest nn p = elim (whole_begins body p) [ stays k pa e ↦ absurd (not_true (nullable g) nn k) | goes h le ↦ le ]

  same_then : (g : Grammar) (nn : not (nullable g) ≡ true) (f h : List Lexeme → Out) (ts : List Lexeme) → ((r : List Lexeme) → length r < length ts → f r ≡ h r) → (o : Out) → Found body l g ts o → (o >>= λ v r. f r >>= λ vs s. done (pair v vs) s) ≡ (o >>= λ v r. h r >>= λ vs s. done (pair v vs) s)
  same_then g nn f h ts e (done v r) p = ap (λ (x : Out). x >>= λ vs s. done (pair v vs) s) (e r (found_shorter g ts v r nn p))
  same_then g nn f h ts e (fault r b) p = refl

  cond_same : (b : Bool) (x y z : Out) → x ≡ y → cond b x z ≡ cond b y z
  cond_same b x y z e = ap (λ (o : Out). cond b o z) e

  empty_turns : (go : List Lexeme → Bool) (turn : List Lexeme → Out) (n : ℕ) (ts : List Lexeme) → go ts ≡ false → turns go turn n ts ≡ done nothing ts
  unfolding turns
  empty_turns go turn zero ts h = refl
  empty_turns go turn (suc n) ts h = passed (go ts) _ _ h

  starts_empty : (cs : List ℕ) (ts : List Lexeme) → length ts ≤ 0 → starts cs ts ≡ false
  starts_empty cs [] h = refl
  starts_empty cs (t ∷ ts) h = absurd (omega arith)

  turns_same : (g : Grammar) → not (nullable g) ≡ true → (n m : ℕ) (ts : List Lexeme) → length ts ≤ n → length ts ≤ m → turns (starts (first g)) (run body l g) n ts ≡ turns (starts (first g)) (run body l g) m ts
  unfolding turns
  turns_same g nn zero m ts p q = sym (empty_turns (starts (first g)) (run body l g) m ts (starts_empty (first g) ts p))
  turns_same g nn (suc n) zero ts p q = empty_turns (starts (first g)) (run body l g) (suc n) ts (starts_empty (first g) ts q)
  turns_same g nn (suc n) (suc m) ts p q = cond_same (starts (first g) ts) _ _ (done nothing ts) (same_then g nn _ _ ts (λ r h. turns_same g nn n m r (omega arith) (omega arith)) (run body l g ts) (found body l g ts))

  many_turns : (g : Grammar) (ts : List Lexeme) → run body l (many g) ts ≡ turns (starts (first g)) (run body l g) (length ts) ts
  unfolding run run_with
  many_turns g ts = refl

  long_turns : (g : Grammar) → not (nullable g) ≡ true → (n : ℕ) (ts : List Lexeme) → length ts ≡ suc n → starts (first g) ts ≡ true → run body l (many g) ts ≡ (run body l g ts >>= λ v r. run body l (many g) r >>= λ vs s. done (pair v vs) s)
  unfolding turns
  long_turns g nn n ts e h =
      many_turns g ts ∙ ap (λ (k : ℕ). turns (starts (first g)) (run body l g) k ts) e ∙ chosen (starts (first g) ts) _ _ h
      ∙ same_then g nn _ _ ts (λ r k. turns_same g nn n (length r) r (omega arith) (omega arith) ∙ sym (many_turns g r)) (run body l g ts) (found body l g ts)

  pub many_goes : (g : Grammar) → not (nullable g) ≡ true → (ts : List Lexeme) → starts (first g) ts ≡ true → run body l (many g) ts ≡ (run body l g ts >>= λ v r. run body l (many g) r >>= λ vs s. done (pair v vs) s)
  many_goes g nn [] h = absurd (cc)
  many_goes g nn (t ∷ ts) h = long_turns g nn (length ts) (t ∷ ts) (omega arith) h

-- a level opens
pub deeper_deep : (cs : List ℕ) (n : ℕ) (t : Lexeme) (ts rest : List Lexeme) → ts ≡ t ∷ rest → has cs (class_of t) ≡ true → run body 0 (deeper cs n) ts ≡ fault ts missing
unfolding run run_with opening_at
deeper_deep cs n t ts rest e h = ap (λ (s : List Lexeme). run_with (opening body 0) (deeper cs n) s) e ∙ chosen _ _ _ h ∙ ap (λ (s : List Lexeme). fault s missing) (sym e)

pub deeper_opens : (l : ℕ) (cs : List ℕ) (n : ℕ) (t : Lexeme) (ts rest : List Lexeme) → ts ≡ t ∷ rest → has cs (class_of t) ≡ true → run body (suc l) (deeper cs n) ts ≡ (run body l (body n) rest >>= λ v r. done (pair (leaf t) v) r)
unfolding run run_with opening_at
deeper_opens l cs n t ts rest e h = ap (λ (s : List Lexeme). run_with (opening body (suc l)) (deeper cs n) s) e ∙ chosen _ _ _ h

module _ (l : ℕ) where
  pub select_is : (a b c : Grammar) (p : Value → Bool) (ts : List Lexeme) → run body l (select a p b c) ts ≡ (run body l a ts >>= λ v mid. cond (p v) (run body l b mid) (run body l c mid) >>= λ w rest. done (pair v w) rest)
  unfolding run run_with
  select_is a b c p ts = refl
