-- What follows a part, by the number of lexemes that are left.
use Rattle.std.proofs.Common.{◌≡◌, ℕ, ◌-◌, ◌≤◌, List, length, drop, sym, ap, ◌∙◌}
use Rattle.sx_grammar.specs.declared.lexemes.Lexeme.{Lexeme}
use Rattle.sx_grammar.specs.Value.{Value}
use Rattle.sx_grammar.specs.Grammar.{Grammar, done, run}
use Rattle.sx_grammar.specs.Rules.{body}
use Rattle.sx_grammar.proofs.Suffixes.{suffix_length, suffix_drop}
use Rattle.sx_parse_decl.proofs.Declared.{done_suffix}

module _ (l : ℕ) (g : Grammar) (ts : List Lexeme) (v : Value) (rest : List Lexeme) where
  pub rest_shorter : run body l g ts ≡ done v rest → length rest ≤ length ts
  rest_shorter h = suffix_length (done_suffix l g ts v rest h)

  pub rest_dropped : run body l g ts ≡ done v rest → run body l g ts ≡ done v (drop (length ts - length rest) ts)
  rest_dropped h = h ∙ ap (λ (r : List Lexeme). done v r) (sym (suffix_drop (done_suffix l g ts v rest h)))
