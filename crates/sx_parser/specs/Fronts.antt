-- Fronts of a text at the level of its tokens.
use Rattle.std.specs.Prelude.{ℕ, List, [], ◌∷◌, Option, Some, None}
use Rattle.sx_token.specs.declared.kinds.Token.{Token}
use Rattle.sx_grammar.specs.declared.lexemes.Lexeme.{Lexeme}
use Rattle.sx_grammar.specs.declared.lexemes.Sort.{Sort}
use Rattle.sx_grammar.specs.declared.lexemes.Sort.TheVariants as sorts
use Rattle.sx_grammar.specs.Grammar.{Front}
use Rattle.sx_grammar.specs.Lexemes.{sort_alone, sort_before}
use Rattle.sx_grammar.specs.Rules.{body}
use Rattle.sx_parser.specs.Text.{text}

-- the sort of the first token, or the one that stands behind them all
abbrev pub first_sort : List (List ℕ) → Sort → List Token → Sort
first_sort names behind [] = behind
first_sort names behind (t ∷ ts) = sort_alone names t.kind t

-- the lexemes of tokens behind which a token of this sort stands
unfoldable pub lexemes_before : List (List ℕ) → Sort → List Token → List Lexeme
lexemes_before names behind [] = []
lexemes_before names behind (t ∷ ts) = record { sort = sort_before (sort_alone names t.kind t) (first_sort names behind ts); token = t } ∷ lexemes_before names behind ts

-- the other sort that a bracket may have, by what stands behind it
abbrev pub other_sort : Sort → Option Sort
other_sort sorts.OpenBrace = Some sorts.OpenObservers
other_sort sorts.OpenRound = Some sorts.OpenText
other_sort s = None

-- all of these are a front of a text
pub record AreFront (ls : List Lexeme) : Type 0 where
  pub open_levels : ℕ
  pub front : Front body open_levels text ls []

-- With a token of some sort behind them the tokens are a front of a text.
pub record IsFront (names : List (List ℕ)) (ts : List Token) : Type 0 where
  pub behind : Sort
  pub lexemes : AreFront (lexemes_before names behind ts)
