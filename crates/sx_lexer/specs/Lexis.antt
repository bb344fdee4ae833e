-- The lexis: what stands between two places of a text.
use Rattle.std.specs.Prelude.{◌≡◌, ℕ, zero, suc, Bool, true, false, cond, not, ◌&&◌, ◌||◌, ◌==◌, nat_le, nat_lt, List, [], ◌∷◌, ◌++◌, length, Option, Some, None, Ok, Err}
use Rattle.std.specs.Char.{encode_utf8}
use Rattle.sx_token.specs.declared.spellings.Mark.{Mark}
use Rattle.sx_token.specs.declared.spellings.Mark.TheVariants as marks
use Rattle.sx_token.specs.declared.spellings.Operator.{Operator}
use Rattle.sx_lexer.specs.declared.characters.Begins.{Begins}
use Rattle.sx_lexer.specs.declared.characters.Begins.TheVariants as begin
use Rattle.sx_lexer.specs.declared.characters.RunKind.TheVariants as run_kinds
use Rattle.sx_lexer.specs.declared.pieces.Piece.{Piece}
use Rattle.sx_lexer.specs.declared.pieces.Piece.TheVariants as pieces
use Rattle.sx_lexer.specs.declared.faults.LexKind.{LexKind}
use Rattle.sx_lexer.specs.declared.faults.LexKind.TheVariants as kinds
use Rattle.sx_lexer.specs.Characters.{quote, star, slash, backslash, open_brace, close_brace, byte_order_mark, is_line_end, starts, begins, Run, between, past}
use Rattle.sx_lexer.specs.Words.{word_piece, number, lookup, spelled_operators, value_after}

-- Comments.

-- whether a comment is opened or closed at the place
abbrev pub is_edge : List ℕ → Bool
is_edge [] = false
is_edge (c ∷ s) = ((c == star) && starts slash s) || ((c == slash) && starts star s)

-- With so many comments open at the first place, the outermost ends at the second one; the test tells whether a line
-- end stands between them.
pub data Ends : ℕ → List ℕ → List ℕ → Bool → Type 0 where
  ends_here : {s : List ℕ} → Ends zero s s false
  ends_inner : {n : ℕ} {s r : List ℕ} {b : Bool} → Ends n s r b → Ends (suc n) (star ∷ slash ∷ s) r b
  ends_opened : {n : ℕ} {s r : List ℕ} {b : Bool} → Ends (suc (suc n)) s r b → Ends (suc n) (slash ∷ star ∷ s) r b
  ends_other : {n : ℕ} {c : ℕ} {s r : List ℕ} {b : Bool} → is_edge (c ∷ s) ≡ false → Ends (suc n) s r b → Ends (suc n) (c ∷ s) r (is_line_end c || b)

-- Text literals.

-- what a backslash and a character stand for: 0 t n r " \ '
abbrev pub simple_escape : ℕ → Option ℕ
simple_escape c =
    cond (c == 48) (Some 0) (cond (c == 116) (Some 9) (cond (c == 110) (Some 10) (cond (c == 114) (Some 13) (
    cond (c == 34) (Some 34) (cond (c == 92) (Some 92) (cond (c == 39) (Some 39) None))))))

-- a scalar value of Unicode, which is no surrogate
abbrev pub is_scalar : ℕ → Bool
is_scalar v = nat_lt v 55296 || (nat_le 57344 v && nat_lt v 1114112)

-- one to eight digits of a scalar
abbrev pub is_scalar_text : List ℕ → Bool
is_scalar_text ds = nat_le 1 (length ds) && (nat_le (length ds) 8 && is_scalar (value_after 16 0 ds))

-- the scalar whose digits stand between the places, where a brace closes them, and the place behind it
abbrev pub bracketed : List ℕ → List ℕ → Option (ℕ × List ℕ)
bracketed s [] = None
bracketed s (e ∷ q) = cond ((e == close_brace) && is_scalar_text (between s (e ∷ q))) (Some (value_after 16 0 (between s (e ∷ q)), q)) None

-- the scalar that stands in braces at the place, and the place behind it
abbrev pub unicode_escape : List ℕ → Option (ℕ × List ℕ)
unicode_escape [] = None
unicode_escape (c ∷ s) = cond (c == open_brace) (bracketed s (past run_kinds.Hexadecimal s)) None

abbrev pub beside : List ℕ → Option ℕ → Option (ℕ × List ℕ)
beside s None = None
beside s (Some v) = Some (v, s)

-- what an escape stands for whose backslash stands before the place, and the place behind it; 117 is the u
unfoldable pub escape : List ℕ → Option (ℕ × List ℕ)
escape [] = None
escape (c ∷ s) = cond (c == 117) (unicode_escape s) (beside s (simple_escape c))

-- a character that stands for itself in a text literal
abbrev pub is_plain : ℕ → Bool
is_plain c = not ((c == quote) || ((c == backslash) || is_line_end c))

-- The quote that ends a text on its line: a backslash takes the character behind it along.
pub data Closes : List ℕ → List ℕ → Type 0 where
  closes_here : {r : List ℕ} → Closes (quote ∷ r) r
  closes_plain : {c : ℕ} {s r : List ℕ} → is_plain c ≡ true → Closes s r → Closes (c ∷ s) r
  closes_escaped : {c : ℕ} {s r : List ℕ} → is_line_end c ≡ false → Closes s r → Closes (backslash ∷ c ∷ s) r

-- What the characters up to the quote stand for, in bytes.
pub data Spells : List ℕ → List ℕ → List ℕ → Type 0 where
  spells_end : {r : List ℕ} → Spells (quote ∷ r) r []
  spells_plain : {c : ℕ} {s r v : List ℕ} → is_plain c ≡ true → Spells s r v → Spells (c ∷ s) r (encode_utf8 c ++ v)
  spells_escape : {c : ℕ} {s q r v : List ℕ} → escape s ≡ Some (c, q) → Spells q r v → Spells (backslash ∷ s) r (encode_utf8 c ++ v)

-- The first backslash that begins no escape.
pub data BadEscapeAt : List ℕ → List ℕ → Type 0 where
  bad_here : {s : List ℕ} → escape s ≡ None → BadEscapeAt (backslash ∷ s) (backslash ∷ s)
  bad_plain : {c : ℕ} {s p : List ℕ} → is_plain c ≡ true → BadEscapeAt s p → BadEscapeAt (c ∷ s) p
  bad_escape : {c : ℕ} {s q p : List ℕ} → escape s ≡ Some (c, q) → BadEscapeAt q p → BadEscapeAt (backslash ∷ s) p

-- the place one character on
abbrev pub after : List ℕ → List ℕ
after [] = []
after (c ∷ s) = s

-- whether two quotes follow the first
abbrev pub is_multiline : List ℕ → Bool
is_multiline s = starts quote (after s) && starts quote (after (after s))

-- a text from the first place to the second one, and what it stands for
pub record IsText (s r v : List ℕ) : Type 0 where
  pub one_line : is_multiline s ≡ false
  pub spells : Spells (after s) r v

-- The faults of a text literal at its first quote, with their places: three quotes, no end on the line, or else its
-- first bad escape.
pub data FaultyText (s : List ℕ) : LexKind → List ℕ → Type 0 where
  multiline : is_multiline s ≡ true → FaultyText s kinds.MultilineString s
  open_string : is_multiline s ≡ false → ((r : List ℕ) → Closes (after s) r → ⊥) → FaultyText s kinds.OpenString s
  bad_text : {r p : List ℕ} → is_multiline s ≡ false → Closes (after s) r → BadEscapeAt (after s) p → FaultyText s kinds.BadEscape p

-- Space, tokens and faults. What begins at a place decides what stands there.

-- whether the character at the place is a line end
abbrev pub begins_line_end : List ℕ → Bool
begins_line_end [] = false
begins_line_end (c ∷ s) = is_line_end c

-- where this begins at the first place: from there to the second one a character of space or a comment stands, and
-- the test tells whether it holds a line end
abbrev pub SpaceAs : Begins → List ℕ → List ℕ → Bool → Type 0
SpaceAs begin.Space s r b = (r ≡ after s) × (b ≡ begins_line_end s)
SpaceAs begin.LineComment s r b = Run run_kinds.Line (after s) r × (b ≡ false)
SpaceAs begin.BlockComment s r b = Ends 1 (after (after s)) r b
SpaceAs x s r b = ⊥

-- the same, whatever begins there
abbrev pub Space : List ℕ → List ℕ → Bool → Type 0
Space s r b = SpaceAs (begins s) s r b

-- a token: a piece, or a text literal with the bytes that it stands for
pub data Lexeme : Type 0 where
  piece : Piece → Lexeme
  quoted : List ℕ → Lexeme

-- where this begins at the first place: from there to the second one the token stands, which is the longest one
abbrev pub TokenAs : Begins → List ℕ → List ℕ → Lexeme → Type 0
TokenAs begin.Letter s r t = Run run_kinds.Word (after s) r × (t ≡ piece (word_piece (between s r)))
TokenAs begin.Digit s r t = Run run_kinds.Word (after s) r × (p : Piece) × (number (between s r) ≡ Ok p) × (t ≡ piece p)
TokenAs begin.Quote s r t = (v : List ℕ) × IsText s r v × (t ≡ quoted v)
TokenAs begin.Operator s r t = Run run_kinds.Operator (after s) r × (o : Operator) × (lookup spelled_operators (between s r) ≡ Some o) × (t ≡ piece (pieces.Op o))
TokenAs (begin.Mark m) s r t = (r ≡ after s) × (t ≡ piece (pieces.Mark m))
TokenAs x s r t = ⊥

-- the same, whatever begins there
abbrev pub Token : List ℕ → List ℕ → Lexeme → Type 0
Token s r t = TokenAs (begins s) s r t

-- where this begins at the first place: a fault of the kind begins there, and is told at the second place
abbrev pub FaultyAs : Begins → List ℕ → LexKind → List ℕ → Type 0
FaultyAs begin.Digit s k p = (p ≡ s) × (r : List ℕ) × Run run_kinds.Word (after s) r × (number (between s r) ≡ Err k)
FaultyAs begin.Quote s k p = FaultyText s k p
FaultyAs begin.Operator s k p = (p ≡ s) × (k ≡ kinds.UnknownOperator) × (r : List ℕ) × Run run_kinds.Operator (after s) r × (lookup spelled_operators (between s r) ≡ None)
FaultyAs begin.BlockComment s k p = (p ≡ s) × (k ≡ kinds.OpenComment) × ((r : List ℕ) (b : Bool) → Ends 1 (after (after s)) r b → ⊥)
FaultyAs begin.Other s k p = (p ≡ s) × (k ≡ kinds.StrayCharacter)
FaultyAs x s k p = ⊥

-- the same, whatever begins there
abbrev pub Faulty : List ℕ → LexKind → List ℕ → Type 0
Faulty s k p = FaultyAs (begins s) s k p

-- The tokens of a text.

-- the marks that count as space to a token before them
abbrev pub closes_mark : Mark → Bool
closes_mark marks.CloseRound = true
closes_mark marks.CloseSquare = true
closes_mark marks.CloseBrace = true
closes_mark marks.Comma = true
closes_mark marks.Semicolon = true
closes_mark marks.Colon = true
closes_mark m = false

-- the marks that count as space to a token behind them
abbrev pub opens_mark : Mark → Bool
opens_mark marks.OpenRound = true
opens_mark marks.OpenSquare = true
opens_mark marks.OpenBrace = true
opens_mark marks.Comma = true
opens_mark marks.Semicolon = true
opens_mark marks.Colon = true
opens_mark m = false

-- what counts as space behind a token
abbrev pub is_space_after : Begins → Bool
is_space_after begin.Nothing = true
is_space_after begin.Space = true
is_space_after begin.LineComment = true
is_space_after begin.BlockComment = true
is_space_after (begin.Mark m) = closes_mark m
is_space_after b = false

-- which tokens count as space to the one behind them

abbrev pub is_space_behind_piece : Piece → Bool
is_space_behind_piece (pieces.Mark m) = opens_mark m
is_space_behind_piece p = false

abbrev pub is_space_behind : Lexeme → Bool
is_space_behind (piece p) = is_space_behind_piece p
is_space_behind (quoted v) = false

-- a token with the places before and behind it
pub record Lexed : Type 0 where
  pub lexeme : Lexeme
  pub from : List ℕ
  pub to : List ℕ
  pub line_before : Bool
  pub space_before : Bool
  pub space_after : Bool

-- a token between two places, behind a line end or none and behind space or none
abbrev pub lexed : Lexeme → List ℕ → List ℕ → Bool → Bool → Lexed
lexed t s r line space = record { lexeme = t; from = s; to = r; line_before = line; space_before = space; space_after = is_space_after (begins r) }

-- The tokens from a place on. The tests tell whether a line end stands between the token before and the place, and
-- whether something that counts as space stands right before it.
pub data Lexes : Bool → Bool → List ℕ → List Lexed → Type 0 where
  lexes_end : {line space : Bool} → Lexes line space [] []
  lexes_space : {line space : Bool} {s : List ℕ} {ts : List Lexed} (r : List ℕ) (b : Bool) → Space s r b → Lexes (line || b) true r ts → Lexes line space s ts
  lexes_token : {line space : Bool} {s r : List ℕ} {t : Lexeme} {ts : List Lexed} → Token s r t → Lexes false (is_space_behind t) r ts → Lexes line space s (lexed t s r line space ∷ ts)

-- the first fault from a place on
pub data Faults : List ℕ → LexKind → List ℕ → Type 0 where
  faults_here : {s p : List ℕ} {k : LexKind} → Faulty s k p → Faults s k p
  faults_space : {s p : List ℕ} {k : LexKind} (r : List ℕ) (b : Bool) → Space s r b → Faults r k p → Faults s k p
  faults_token : {s p : List ℕ} {k : LexKind} (r : List ℕ) (t : Lexeme) → Token s r t → Faults r k p → Faults s k p

-- a byte order mark at the start of a text counts as space
abbrev pub behind_mark : List ℕ → List ℕ
behind_mark [] = []
behind_mark (c ∷ s) = cond (c == byte_order_mark) s (c ∷ s)

-- the tokens of a text, and its first fault
abbrev pub LexesAll : List ℕ → List Lexed → Type 0
LexesAll text ts = Lexes true true (behind_mark text) ts

abbrev pub FaultsFirst : List ℕ → LexKind → List ℕ → Type 0
FaultsFirst text k p = Faults (behind_mark text) k p
