-- Why a text with tokens is refused.
use Rattle.std.proofs.Common.{ℕ, ◌≤◌, List, length, sym, subst, Err}
use Rattle.sx_token.specs.declared.token_list.Tokens.{Tokens}
use Rattle.sx_lexer.specs.Answers.{IsTokens}
use Rattle.sx_parse_decl.specs.declared.declaration.ParseStop.{ParseStop}
use Rattle.sx_parse_decl.specs.declared.declaration.ParseStop.TheVariants as parse_stops
use Rattle.sx_parser.specs.Answer.{Answers}
use Rattle.sx_driver.specs.Faults.{Stops, syntactic_of, most_bytes}
use Rattle.sx_driver.proofs.Within.{syntax_within, deep_within}

in_text : (text : List ℕ) (tokens : Tokens) (at : ℕ) → IsTokens text tokens → at ≤ tokens.end → at ≤ length text
in_text text tokens at l h = subst (λ x. at ≤ x) l.shows.end h

pub refused : (text : List ℕ) (tokens : Tokens) (stop : ParseStop) → length text ≤ most_bytes → IsTokens text tokens → Answers tokens (Err stop) → Stops text (syntactic_of stop)
refused text tokens (parse_stops.Syntax at) short lexes h = (
  record { tokens = tokens; has = record { short = short; lexes = lexes }; is = h },
  (in_text text tokens at lexes (subst (λ x. x ≤ tokens.end) (sym h.there) (syntax_within tokens h.count)), short),
)
refused text tokens (parse_stops.TooDeep at) short lexes h = (
  record { tokens = tokens; has = record { short = short; lexes = lexes }; is = h },
  (in_text text tokens at lexes (deep_within tokens at h), short),
)
refused text tokens parse_stops.NoMemory short lexes h = tt
