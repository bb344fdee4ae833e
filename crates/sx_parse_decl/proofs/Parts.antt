-- What a part's run makes of the whole's run.
use Rattle.std.proofs.Common.{◌≡◌, ℕ, suc, ◌<◌, List, ◌∷◌, length, Bool, true, not, sym, ap, ◌∙◌, subst, Some}
use Rattle.sx_grammar.specs.declared.lexemes.Lexeme.{Lexeme}
use Rattle.sx_parse_decl.specs.declared.stop.Stop.{Stop}
use Rattle.sx_parse_decl.specs.declared.stop.Stop.TheVariants as stops
use Rattle.sx_grammar.specs.Value.{Value, leaf, pair}
use Rattle.sx_grammar.specs.Classes.{class_of}
use Rattle.sx_grammar.specs.Grammar.{Grammar, both, deeper, giving, has, Whole, Out, done, fault, ◌>>=◌, nullable, run}
use Rattle.sx_grammar.specs.Rules.{body}
use Rattle.sx_parse_decl.specs.Reading.{blame, Stops}
use Rattle.sx_grammar.proofs.Bools.{not_true}
use Rattle.sx_grammar.proofs.Beginnings.{stays, goes, whole_begins}
use Rattle.sx_grammar.proofs.Fronts.{Found, found}
use Rattle.sx_grammar.proofs.Equations.{both_is, giving_is, deeper_opens}

blame_then : (o : Out) (f : Value → List Lexeme → Out) (left : ℕ) (deep : Bool) → blame o ≡ Some (left, deep) → blame (o >>= f) ≡ Some (left, deep)
blame_then (done v r) f left deep h = absurd (cc)
blame_then (fault r b) f left deep h = h

pub stops_then : (e : Stop) (o : Out) (f : Value → List Lexeme → Out) → Stops e o → Stops e (o >>= f)
stops_then stops.Memory o f h = tt
stops_then (stops.Fault left deep) o f h = blame_then o f left deep h

pub stops_at : (e : Stop) (o p : Out) → p ≡ o → Stops e o → Stops e p
stops_at e o p q h = subst (Stops e) (sym q) h

module _ (l : ℕ) where
  pub both_done : (a b : Grammar) (ts mid rest : List Lexeme) (v w : Value) → run body l a ts ≡ done v mid → run body l b mid ≡ done w rest → run body l (both a b) ts ≡ done (pair v w) rest
  both_done a b ts mid rest v w h k = both_is l a b ts ∙ ap (λ (o : Out). o >>= λ v mid. run body l b mid >>= λ w rest. done (pair v w) rest) h ∙ ap (λ (o : Out). o >>= λ w rest. done (pair v w) rest) k

  pub first_stops : (e : Stop) (a b : Grammar) (ts : List Lexeme) → Stops e (run body l a ts) → Stops e (run body l (both a b) ts)
  first_stops e a b ts h = stops_at e _ _ (both_is l a b ts) (stops_then e (run body l a ts) _ h)

  pub second_stops : (e : Stop) (a b : Grammar) (ts mid : List Lexeme) (v : Value) → run body l a ts ≡ done v mid → Stops e (run body l b mid) → Stops e (run body l (both a b) ts)
  second_stops e a b ts mid v h k = stops_at e _ _ (both_is l a b ts ∙ ap (λ (o : Out). o >>= λ v mid. run body l b mid >>= λ w rest. done (pair v w) rest) h) (stops_then e (run body l b mid) _ k)

  pub giving_done : (f : Value → Value) (g : Grammar) (ts rest : List Lexeme) (v : Value) → run body l g ts ≡ done v rest → run body l (giving f g) ts ≡ done (f v) rest
  giving_done f g ts rest v h = giving_is l f g ts ∙ ap (λ (o : Out). o >>= λ v rest. done (f v) rest) h

  pub giving_stops : (e : Stop) (f : Value → Value) (g : Grammar) (ts : List Lexeme) → Stops e (run body l g ts) → Stops e (run body l (giving f g) ts)
  giving_stops e f g ts h = stops_at e _ _ (giving_is l f g ts) (stops_then e (run body l g ts) _ h)

  pub run_shorter : (g : Grammar) (ts rest : List Lexeme) (v : Value) → not (nullable g) ≡ true → run body l g ts ≡ done v rest → length rest < length ts
  run_shorter g ts rest v nn e =
      let p : Whole body g v ts rest = subst (Found body l g ts) e (found body l g ts) in
      elim (whole_begins body p) [ stays k pa e ↦ absurd (not_true (nullable g) nn k) | goes h le ↦ le ]

pub deeper_done : (l m : ℕ) (cs : List ℕ) (n : ℕ) (t : Lexeme) (ts inside rest : List Lexeme) (v : Value) → l ≡ suc m → ts ≡ t ∷ inside → has cs (class_of t) ≡ true → run body m (body n) inside ≡ done v rest → run body l (deeper cs n) ts ≡ done (pair (leaf t) v) rest
deeper_done l m cs n t ts inside rest v e f h k =
    ap (λ (x : ℕ). run body x (deeper cs n) ts) e ∙ deeper_opens m cs n t ts inside f h ∙ ap (λ (o : Out). o >>= λ v rest. done (pair (leaf t) v) rest) k

pub deeper_stops : (e : Stop) (l m : ℕ) (cs : List ℕ) (n : ℕ) (t : Lexeme) (ts inside : List Lexeme) → l ≡ suc m → ts ≡ t ∷ inside → has cs (class_of t) ≡ true → Stops e (run body m (body n) inside) → Stops e (run body l (deeper cs n) ts)
deeper_stops e l m cs n t ts inside q f h k =
    stops_at e _ _ (ap (λ (x : ℕ). run body x (deeper cs n) ts) q ∙ deeper_opens m cs n t ts inside f h) (stops_then e (run body m (body n) inside) _ k)
