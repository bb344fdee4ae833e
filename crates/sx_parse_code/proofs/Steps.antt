-- The parts of a run, one after the other.
use Rattle.std.proofs.Common.{◌≡◌, ℕ, List, refl, sym, ap, ◌∙◌}
use Rattle.sx_grammar.specs.declared.lexemes.Lexeme.{Lexeme}
use Rattle.sx_grammar.specs.Value.{Value, pair}
use Rattle.sx_grammar.specs.Grammar.{Grammar, both, giving, Out, done, fault, ◌>>=◌, run}
use Rattle.sx_grammar.specs.Rules.{body}
use Rattle.sx_grammar.proofs.Equations.{both_is, giving_is}

pub paired : (f : Value → Value) (v : Value) (o : Out) → ((o >>= λ w r. done (pair v w) r) >>= λ u r. done (f u) r) ≡ (o >>= λ w r. done (f (pair v w)) r)
paired f v (done w r) = refl
paired f v (fault r c) = refl

-- behind a first part that is read, the second one gives what the whole does
pub second_is : (l : ℕ) (f : Value → Value) (a b : Grammar) (v : Value) (ts mid : List Lexeme) → run body l a ts ≡ done v mid → run body l (giving f (both a b)) ts ≡ run body l (giving (λ w. f (pair v w)) b) mid
second_is l f a b v ts mid h = giving_is l f (both a b) ts
    ∙ ap (λ (o : Out). o >>= λ u r. done (f u) r) (both_is l a b ts ∙ ap (λ (o : Out). o >>= λ u m. run body l b m >>= λ w r. done (pair u w) r) h)
    ∙ paired f v (run body l b mid) ∙ sym (giving_is l (λ w. f (pair v w)) b mid)
