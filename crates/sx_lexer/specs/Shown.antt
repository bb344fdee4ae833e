-- What a list of tokens shows of the lexed tokens of a text.
use Rattle.std.specs.Prelude.{◌≡◌, ℕ, ◌+◌, ◌-◌, Bool, List, [], ◌∷◌, ◌++◌, length}
use Rattle.std.specs.Str.{encode_utf8_all}
use Rattle.sx_span.specs.Lines.{line_starts}
use Rattle.sx_token.specs.Sound.{contents}
use Rattle.sx_token.specs.declared.kinds.Token.{Token}
use Rattle.sx_token.specs.declared.token_list.Tokens.{Tokens}
use Rattle.sx_token.specs.declared.kinds.Kind.{Kind}
use Rattle.sx_token.specs.declared.kinds.Kind.TheVariants as token_kinds
use Rattle.sx_lexer.specs.declared.pieces.Piece.{Piece}
use Rattle.sx_lexer.specs.declared.pieces.Piece.TheVariants as pieces
use Rattle.sx_lexer.specs.Characters.{begins, between}
use Rattle.sx_lexer.specs.Names.{with_name, index_of}
use Rattle.sx_lexer.specs.Lexis.{Lexeme, piece, quoted, Lexed, is_space_after}

-- the lexeme that a piece or a text literal is

abbrev pub lexeme_of : Piece → Lexeme
lexeme_of p = piece p

abbrev pub quoted_of : List ℕ → Lexeme
quoted_of v = quoted v

-- the names with that of a token
abbrev pub with_lexeme : List (List ℕ) → Lexeme → List ℕ → List (List ℕ)
with_lexeme names (piece pieces.Name) w = with_name names w
with_lexeme names t w = names

-- the names with those of tokens
abbrev pub names_after : List (List ℕ) → List Lexed → List (List ℕ)
names_after names [] = names
names_after names (l ∷ ls) = names_after (with_lexeme names l.lexeme (between l.from l.to)) ls

-- the names of all tokens
abbrev pub names_of : List Lexed → List (List ℕ)
names_of ls = names_after [] ls

-- what a text literal stands for
abbrev pub text_in : Lexeme → List (List ℕ)
text_in (quoted v) = v ∷ []
text_in (piece p) = []

-- what the text literals stand for, in order
abbrev pub texts_of : List Lexed → List (List ℕ)
texts_of [] = []
texts_of (l ∷ ls) = text_in l.lexeme ++ texts_of ls

-- what the token is, by the names of the text
abbrev pub kind_of_piece : List (List ℕ) → Piece → List ℕ → Kind
kind_of_piece names pieces.Name w = token_kinds.Name (index_of names w)
kind_of_piece names pieces.Underscore w = token_kinds.Underscore
kind_of_piece names (pieces.Keyword k) w = token_kinds.Keyword k
kind_of_piece names pieces.Reserved w = token_kinds.Reserved
kind_of_piece names (pieces.Int n) w = token_kinds.Int n
kind_of_piece names pieces.IntMin w = token_kinds.IntMin
kind_of_piece names (pieces.Op o) w = token_kinds.Op o
kind_of_piece names (pieces.Mark m) w = token_kinds.Mark m

-- the same of each lexeme, by the names of the text and the number of text literals before it
abbrev pub kind_of : List (List ℕ) → ℕ → Lexeme → List ℕ → Kind
kind_of names n (piece p) w = kind_of_piece names p w
kind_of names n (quoted v) w = token_kinds.Text n

-- the place in bytes, by what follows it and the length of the text
abbrev pub place_in : ℕ → List ℕ → ℕ
place_in end s = end - length (encode_utf8_all s)

-- a token between two places
abbrev pub token_of : Kind → ℕ → List ℕ → List ℕ → Bool → Bool → Token
token_of k end s r line space = record {
  kind = k;
  span = record { start = place_in end s; end = place_in end r };
  line_before = line;
  space_before = space;
  space_after = is_space_after (begins r);
}

-- the token that a lexed one is
abbrev pub shown : List (List ℕ) → ℕ → ℕ → Lexed → Token
shown names end n l = record {
  kind = kind_of names n l.lexeme (between l.from l.to);
  span = record { start = place_in end l.from; end = place_in end l.to };
  line_before = l.line_before;
  space_before = l.space_before;
  space_after = l.space_after;
}

-- the tokens that lexed ones are, behind so many text literals
abbrev pub shown_all : List (List ℕ) → ℕ → ℕ → List Lexed → List Token
shown_all names end n [] = []
shown_all names end n (l ∷ ls) = shown names end n l ∷ shown_all names end (n + length (text_in l.lexeme)) ls

-- all that is told of a text whose tokens are these
pub record Shows (bytes : List ℕ) (ls : List Lexed) (tokens : Tokens) : Type 0 where
  pub list : tokens.list.items ≡ shown_all (names_of ls) (length bytes) 0 ls
  pub texts : contents tokens.texts.items ≡ texts_of ls
  pub names : contents tokens.names.items ≡ names_of ls
  pub lines : tokens.lines.items ≡ line_starts bytes
  pub end : tokens.end ≡ length bytes
