-- A loop that reads the turns of many into a list.
use Rattle.std.proofs.Common.{◌≡◌, ℕ, List, [], ◌∷◌, ◌++◌, true, false, not, refl, sym, ap, ◌∙◌, append_assoc}
use Rattle.std.proofs.lemmas.List.{append-nil}
use Rattle.sx_grammar.specs.declared.lexemes.Lexeme.{Lexeme}
use Rattle.sx_parse_decl.specs.declared.stop.Stop.{Stop}
use Rattle.sx_grammar.specs.Value.{Value, pair}
use Rattle.sx_grammar.specs.Grammar.{Grammar, many, starts, Out, done, fault, ◌>>=◌, nullable, first, run}
use Rattle.sx_grammar.specs.Rules.{body, list_in}
use Rattle.sx_parse_decl.specs.Reading.{Stops}
use Rattle.sx_grammar.proofs.Equations.{many_stop, many_goes}
use Rattle.sx_parse_decl.proofs.Parts.{stops_at, stops_then}

-- what the items so far and the turns to come give
abbrev pub with_turns : {X : Type 0} → (Value → X) → (List X → Value) → ℕ → Grammar → List X → List Lexeme → Out
with_turns f k l g xs ts = run body l (many g) ts >>= λ vs r. done (k (xs ++ list_in f vs)) r

next_turn : {X : Type 0} (f : Value → X) (k : List X → Value) (xs : List X) (v : Value) (o : Out) → ((o >>= λ vs rest. done (pair v vs) rest) >>= λ vs r. done (k (xs ++ list_in f vs)) r) ≡ (o >>= λ vs r. done (k ((xs ++ f v ∷ []) ++ list_in f vs)) r)
next_turn f k xs v (done vs r) = ap (λ ys. done (k ys) r) (sym (append_assoc xs (f v ∷ []) (list_in f vs)))
next_turn f k xs v (fault r b) = refl

module _ {X : Type 0} (f : Value → X) (k : List X → Value) (l : ℕ) (g : Grammar) where
  pub turn_goes : (xs : List X) (v : Value) (ts mid : List Lexeme) (o : Out) → not (nullable g) ≡ true → starts (first g) ts ≡ true → run body l g ts ≡ done v mid → with_turns f k l g xs ts ≡ o → with_turns f k l g (xs ++ f v ∷ []) mid ≡ o
  turn_goes xs v ts mid o nn s h inv =
      sym (ap (λ (y : Out). y >>= λ vs r. done (k (xs ++ list_in f vs)) r) (many_goes l g nn ts s ∙ ap (λ (y : Out). y >>= λ v r. run body l (many g) r >>= λ vs s. done (pair v vs) s) h)
      ∙ next_turn f k xs v (run body l (many g) mid)) ∙ inv

  pub turns_end : (xs : List X) (ts : List Lexeme) (o : Out) → starts (first g) ts ≡ false → with_turns f k l g xs ts ≡ o → o ≡ done (k xs) ts
  turns_end xs ts o s inv = sym inv ∙ ap (λ (y : Out). y >>= λ vs r. done (k (xs ++ list_in f vs)) r) (many_stop l g ts s) ∙ ap (λ (ys : List X). done (k ys) ts) (append-nil xs)

  pub turn_stops : (stop : Stop) (xs : List X) (ts : List Lexeme) (o : Out) → not (nullable g) ≡ true → starts (first g) ts ≡ true → Stops stop (run body l g ts) → with_turns f k l g xs ts ≡ o → Stops stop o
  turn_stops stop xs ts o nn s h inv =
      stops_at stop _ _ (sym inv) (stops_then stop (run body l (many g) ts) _ (stops_at stop _ _ (many_goes l g nn ts s) (stops_then stop (run body l g ts) _ h)))
