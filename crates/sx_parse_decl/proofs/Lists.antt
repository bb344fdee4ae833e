-- Lists of items, with one first.
use Rattle.std.proofs.Common.{◌≡◌, ℕ, List, [], ◌∷◌, ◌++◌, true, false, refl, sym, ap, subst, ◌∙◌, Result}
use Rattle.sx_grammar.specs.declared.lexemes.Lexeme.{Lexeme}
use Rattle.sx_parse_decl.specs.declared.stop.Stop.{Stop}
use Rattle.sx_grammar.specs.Value.{Value, pair}
use Rattle.sx_grammar.specs.Grammar.{Grammar, empty, both, either, many, giving, starts, first, Out, done, fault, ◌>>=◌, run, run_with}
use Rattle.sx_grammar.specs.Rules.{body, list_in, first_of, second_of}
use Rattle.sx_parse_decl.specs.Reading.{Gives, Stops}
use Rattle.sx_grammar.proofs.Equations.{both_is, giving_is, either_left, either_right}
use Rattle.sx_parse_decl.proofs.Parts.{stops_at, first_stops, giving_stops}
use Rattle.sx_parse_decl.proofs.Turns.{with_turns}

-- a list with an item first, or none: in any grammar of that form
module _ {X : Type 0} (f : Value → X) (k : List X → Value) (l : ℕ) (g h : Grammar) where
  abbrev pub listed : Grammar
  listed = either (giving (λ v. k (f (first_of v) ∷ list_in f (second_of v))) (both g (many h))) (giving (λ v. k []) empty)

  regroup : (x : Value) (o : Out) → ((o >>= λ w r. done (pair x w) r) >>= λ v r. done (k (f (first_of v) ∷ list_in f (second_of v))) r) ≡ (o >>= λ vs r. done (k ((f x ∷ []) ++ list_in f vs)) r)
  regroup x (done v r) = refl
  regroup x (fault r b) = refl

  pub list_begins : (x : Value) (ts rest : List Lexeme) → starts (first (both g (many h))) ts ≡ true → run body l g ts ≡ done x rest → with_turns f k l h (f x ∷ []) rest ≡ run body l listed ts
  list_begins x ts rest s e = sym (either_left l _ _ ts s ∙ giving_is l _ _ ts
      ∙ ap (λ (o : Out). o >>= λ v r. done (k (f (first_of v) ∷ list_in f (second_of v))) r) (both_is l g (many h) ts ∙ ap (λ (o : Out). o >>= λ v mid. run body l (many h) mid >>= λ w r. done (pair v w) r) e)
      ∙ regroup x (run body l (many h) rest))

  pub list_stops : (stop : Stop) (ts : List Lexeme) → starts (first (both g (many h))) ts ≡ true → Stops stop (run body l g ts) → Stops stop (run body l listed ts)
  list_stops stop ts s e = stops_at stop _ _ (either_left l _ _ ts s) (giving_stops l stop _ _ ts (first_stops l stop g (many h) ts e))

  pub list_none : (ts : List Lexeme) → starts (first (both g (many h))) ts ≡ false → run body l listed ts ≡ done (k []) ts
  unfolding run run_with
  list_none ts s = either_right l (giving (λ v. k (f (first_of v) ∷ list_in f (second_of v))) (both g (many h))) (giving (λ v. k []) empty) ts s

-- a list that is never empty
module _ {X : Type 0} (f : Value → X) (k : List X → Value) (l : ℕ) (g h : Grammar) where
  abbrev pub full : Grammar
  full = giving (λ v. k (f (first_of v) ∷ list_in f (second_of v))) (both g (many h))

  regroup_full : (x : Value) (o : Out) → ((o >>= λ w r. done (pair x w) r) >>= λ v r. done (k (f (first_of v) ∷ list_in f (second_of v))) r) ≡ (o >>= λ vs r. done (k ((f x ∷ []) ++ list_in f vs)) r)
  regroup_full x (done v r) = refl
  regroup_full x (fault r b) = refl

  pub full_begins : (x : Value) (ts rest : List Lexeme) → run body l g ts ≡ done x rest → with_turns f k l h (f x ∷ []) rest ≡ run body l full ts
  full_begins x ts rest e = sym (giving_is l _ _ ts
      ∙ ap (λ (o : Out). o >>= λ v r. done (k (f (first_of v) ∷ list_in f (second_of v))) r) (both_is l g (many h) ts ∙ ap (λ (o : Out). o >>= λ v mid. run body l (many h) mid >>= λ w r. done (pair v w) r) e)
      ∙ regroup_full x (run body l (many h) rest))

pub gives_at : {X : Type 0} (view : X → Value) (rest : X → List Lexeme) (r : Result X Stop) (o p : Out) → p ≡ o → Gives view rest r o → Gives view rest r p
gives_at view rest r o p e h = subst (Gives view rest r) (sym e) h
