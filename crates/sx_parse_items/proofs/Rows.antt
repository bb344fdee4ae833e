-- A list of items in a row begins with none.
use Rattle.std.proofs.Common.{◌≡◌, ℕ, List, [], sym}
use Rattle.sx_grammar.specs.declared.lexemes.Lexeme.{Lexeme}
use Rattle.sx_grammar.specs.Value.{Value}
use Rattle.sx_grammar.specs.Grammar.{Grammar, many, giving, run}
use Rattle.sx_grammar.specs.Rules.{body, list_in}
use Rattle.sx_grammar.proofs.Equations.{giving_is}
use Rattle.sx_parse_decl.proofs.Turns.{with_turns}

pub rows_begin : {X : Type 0} (f : Value → X) (k : List X → Value) (l : ℕ) (g : Grammar) (ts : List Lexeme) → with_turns f k l g [] ts ≡ run body l (giving (λ v. k (list_in f v)) (many g)) ts
rows_begin f k l g ts = sym (giving_is l (λ v. k (list_in f v)) (many g) ts)
