-- Loops that read the turns of many into a list.
use Rattle.std.proofs.Common.{◌≡◌, ℕ, ◌<◌, List, [], ◌∷◌, ◌++◌, length, true, false, refl, ap, ◌∙◌}
use Rattle.std.proofs.lemmas.List.{append-nil}
use Rattle.sx_grammar.specs.declared.lexemes.Lexeme.{Lexeme}
use Rattle.sx_grammar.specs.declared.lexemes.Sort.{Sort}
use Rattle.sx_tree.specs.declared.code.Link.{Link}
use Rattle.sx_grammar.specs.Classes.{any}
use Rattle.sx_grammar.specs.Value.{Value, a_link, link_list}
use Rattle.sx_grammar.specs.Grammar.{Grammar, both, many, giving, starts, first, Out, done, run, run_with}
use Rattle.sx_grammar.specs.Rules.{after_comma, argument, body, closure_at, compare, conjunction, expr, link, link_in, links, list_in, operand, postfix, primary, product, reference, sum, unary}
use Rattle.sx_parse_decl.specs.Reading.{Stops}
use Rattle.sx_parse_decl.specs.declared.stop.Stop.{Stop}
use Rattle.sx_parse_decl.proofs.Parts.{run_shorter}
use Rattle.sx_parse_decl.proofs.Turns.{with_turns, turn_goes, turns_end, turn_stops}

pub row_begins : {X : Type 0} (f : Value → X) (k : List X → Value) (l : ℕ) (g : Grammar) (ts : List Lexeme) → with_turns f k l g [] ts ≡ run body l (giving (λ v. k (list_in f v)) (many g)) ts
unfolding run run_with
row_begins f k l g ts = refl

-- the further operands of a chain: those so far, and those to come
abbrev pub with_links : ℕ → List Sort → Grammar → List Link → List Lexeme → Out
with_links l ss g xs ts = with_turns link_in link_list l (link ss g) xs ts

module _ (l : ℕ) (ss : List Sort) (g : Grammar) where
  pub links_begin : (ts : List Lexeme) → with_links l ss g [] ts ≡ run body l (links ss g) ts
  unfolding links
  links_begin ts = row_begins link_in link_list l (link ss g) ts

  first_sign : (ts : List Lexeme) → starts (first (link ss g)) ts ≡ starts (any ss) ts
  unfolding link
  first_sign ts = ap (λ (cs : List ℕ). starts cs ts) (append-nil (any ss))

  pub link_goes : (xs : List Link) (x : Link) (ts mid : List Lexeme) (o : Out) → starts (any ss) ts ≡ true → run body l (link ss g) ts ≡ done (a_link x) mid → with_links l ss g xs ts ≡ o → with_links l ss g (xs ++ x ∷ []) mid ≡ o
  unfolding link
  link_goes xs x ts mid o s h inv = turn_goes link_in link_list l (link ss g) xs (a_link x) ts mid o refl (first_sign ts ∙ s) h inv

  pub links_end : (xs : List Link) (ts : List Lexeme) (o : Out) → starts (any ss) ts ≡ false → with_links l ss g xs ts ≡ o → o ≡ done (link_list xs) ts
  links_end xs ts o s inv = turns_end link_in link_list l (link ss g) xs ts o (first_sign ts ∙ s) inv

  pub link_stops : (stop : Stop) (xs : List Link) (ts : List Lexeme) (o : Out) → starts (any ss) ts ≡ true → Stops stop (run body l (link ss g) ts) → with_links l ss g xs ts ≡ o → Stops stop o
  unfolding link
  link_stops stop xs ts o s h inv = turn_stops link_in link_list l (link ss g) stop xs ts o refl (first_sign ts ∙ s) h inv

  pub link_shorter : (x : Link) (ts mid : List Lexeme) → run body l (link ss g) ts ≡ done (a_link x) mid → length mid < length ts
  unfolding link
  link_shorter x ts mid h = run_shorter l (link ss g) ts mid (a_link x) refl h

-- What begins a list of arguments begins an argument.
pub argument_begins : (ts : List Lexeme) → starts (first (both argument (many (after_comma argument)))) ts ≡ starts (first argument) ts
unfolding argument reference expr conjunction compare sum product unary operand closure_at postfix primary
argument_begins ts = refl
