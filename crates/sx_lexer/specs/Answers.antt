-- What lexing a text answers.
use Rattle.std.specs.Prelude.{◌≡◌, ℕ, ◌≤◌, List, length, Some, Result, Ok, Err, slice_get}
use Rattle.std.specs.Str.{chars, IsUtf8, IsValidUpTo}
use Rattle.sx_token.specs.declared.token_list.Tokens.{Tokens}
use Rattle.sx_lexer.specs.declared.faults.LexStop.{LexStop}
use Rattle.sx_lexer.specs.declared.faults.LexStop.TheVariants as stops
use Rattle.sx_lexer.specs.Lexis.{Lexed, LexesAll, FaultsFirst}
use Rattle.sx_lexer.specs.Shown.{Shows, place_in}

-- the text has these tokens
pub record IsTokens (bytes : List ℕ) (tokens : Tokens) : Type 0 where
  pub utf8 : IsUtf8 bytes
  pub lexed : List Lexed
  pub lexes : LexesAll (chars bytes) lexed
  pub few : length lexed ≤ 65536
  pub shows : Shows bytes lexed tokens

-- the text has more than 65,536 tokens, and the first one too many starts here
pub record IsTooMany (bytes : List ℕ) (at : ℕ) : Type 0 where
  pub utf8 : IsUtf8 bytes
  pub lexed : List Lexed
  pub lexes : LexesAll (chars bytes) lexed
  pub first : Lexed
  pub many : slice_get lexed 65536 ≡ Some first
  pub place : at ≡ place_in (length bytes) first.from

-- The tokens, or why there are none. Bytes that are no UTF-8 go before each fault, and each fault before too many
-- tokens, since only a text without fault has tokens. Want of memory may be answered of any text.
abbrev pub Answers : List ℕ → Result Tokens LexStop → Type 0
Answers bytes (Ok tokens) = IsTokens bytes tokens
Answers bytes (Err (stops.Encoding at)) = (IsUtf8 bytes → ⊥) × IsValidUpTo bytes at
Answers bytes (Err (stops.Lexical k at)) = IsUtf8 bytes × (p : List ℕ) × FaultsFirst (chars bytes) k p × (at ≡ place_in (length bytes) p)
Answers bytes (Err (stops.TooManyTokens at)) = IsTooMany bytes at
Answers bytes (Err stops.NoMemory) = Unit {0}
