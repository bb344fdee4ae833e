-- Where parts begin.
use Rattle.std.proofs.Common.{◌≡◌, ℕ, List, [], ◌∷◌, length, Bool, true, false, not, ◌||◌, refl, ap, ◌∙◌}
use Rattle.std.specs.Prelude.{◌==◌}
use Rattle.sx_grammar.specs.declared.lexemes.Lexeme.{Lexeme}
use Rattle.sx_grammar.specs.declared.lexemes.Sort.TheVariants as sorts
use Rattle.sx_grammar.specs.declared.lexemes.Mode.TheVariants as modes
use Rattle.sx_grammar.specs.Value.{nothing}
use Rattle.sx_grammar.specs.Classes.{here, below, class_of}
use Rattle.sx_grammar.specs.Grammar.{Grammar, empty, begin, has, starts, stands, first, nullable, done, run, run_with}
use Rattle.sx_grammar.specs.Rules.{body, optional, starters, line_starts, row_ends, row_item, block_item, local, variable_head, statement, keyword_statement, expr_statement, expr, conjunction, compare, sum, product, unary, operand, closure_at, postfix, primary}
use Rattle.sx_grammar.proofs.Equations.{either_left, either_right}
use Rattle.sx_grammar.proofs.Steps.{chosen}

pub first_returned : first (begin (here starters) (expr modes.Free)) ≡ here starters
unfolding expr conjunction compare sum product unary operand closure_at postfix primary
first_returned = refl

pub starts_stands : (cs : List ℕ) (ts : List Lexeme) → starts cs ts ≡ true → stands cs ts ≡ true
starts_stands cs [] h = absurd (cc)
starts_stands cs (t ∷ ts) h = h

-- one that stands only before tokens by which it begins, or none
module _ (l : ℕ) (cs : List ℕ) (g : Grammar) (same : first (begin cs g) ≡ cs) (ts : List Lexeme) where
  pub begin_none : starts cs ts ≡ false → run body l (optional (begin cs g)) ts ≡ done nothing ts
  unfolding run run_with
  begin_none h = either_right l (begin cs g) empty ts (ap (λ (ks : List ℕ). starts ks ts) same ∙ h)

  pub begin_some : starts cs ts ≡ true → run body l (optional (begin cs g)) ts ≡ run body l g ts
  unfolding run run_with
  begin_some h = either_left l (begin cs g) empty ts (ap (λ (ks : List ℕ). starts ks ts) same ∙ h) ∙ chosen (stands cs ts) _ _ (starts_stands cs ts h)

or_else : (b x : Bool) → (b || false) ≡ false → (b || x) ≡ x
or_else true x h = absurd (cc)
or_else false x h = refl

pub row_below : (ts : List Lexeme) → (length ts == 0) ≡ false → starts (here (sorts.CloseBrace ∷ [])) ts ≡ false → stands row_ends ts ≡ starts (below line_starts) ts
row_below [] n h = absurd (cc)
row_below (t ∷ ts) n h = or_else _ (has (below line_starts) (class_of t)) h

pub item_not_empty : not (nullable (row_item block_item)) ≡ true
unfolding block_item local variable_head statement keyword_statement expr_statement expr conjunction compare sum product unary operand closure_at postfix primary
item_not_empty = refl
