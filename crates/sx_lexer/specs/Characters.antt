-- Characters, and what begins at a place of a text.
-- A text is the list of its characters. A place in it is what follows it there.
use Rattle.std.specs.Prelude.{◌≡◌, ℕ, ◌-◌, Bool, true, false, cond, not, ◌&&◌, ◌||◌, ◌==◌, nat_le, List, [], ◌∷◌, length, take, Option, Some, None}
use Rattle.std.specs.Str.{encode_utf8_all}
use Rattle.unicode_ident.specs.Ident.{is_xid_start, is_xid_continue}
use Rattle.sx_token.specs.declared.spellings.Mark.{Mark}
use Rattle.sx_token.specs.declared.spellings.Mark.TheVariants as marks
use Rattle.sx_lexer.specs.declared.characters.Begins.{Begins}
use Rattle.sx_lexer.specs.declared.characters.Begins.TheVariants as begin
use Rattle.sx_lexer.specs.declared.characters.RunKind.{RunKind}
use Rattle.sx_lexer.specs.declared.characters.RunKind.TheVariants as run_kinds

-- the characters that the lexis speaks of by name

abbrev pub line_feed : ℕ
line_feed = 10

abbrev pub carriage_return : ℕ
carriage_return = 13

-- "
abbrev pub quote : ℕ
quote = 34

-- *
abbrev pub star : ℕ
star = 42

-- /
abbrev pub slash : ℕ
slash = 47

-- a backslash
abbrev pub backslash : ℕ
backslash = 92

abbrev pub underscore : ℕ
underscore = 95

abbrev pub open_brace : ℕ
open_brace = 123

abbrev pub close_brace : ℕ
close_brace = 125

-- U+FEFF
abbrev pub byte_order_mark : ℕ
byte_order_mark = 65279

-- space, tab, LF, vertical tab, form feed, CR
abbrev pub is_space : ℕ → Bool
is_space c = (c == 32) || (nat_le 9 c && nat_le c 13)

abbrev pub is_line_end : ℕ → Bool
is_line_end c = (c == line_feed) || (c == carriage_return)

-- 0 to 9
abbrev pub is_digit : ℕ → Bool
is_digit c = nat_le 48 c && nat_le c 57

-- 0 to 9, a to f, A to F
abbrev pub is_hexadecimal : ℕ → Bool
is_hexadecimal c = is_digit c || ((nat_le 97 c && nat_le c 102) || (nat_le 65 c && nat_le c 70))

-- / = - + ! * % < > & | ^ ~ ?
abbrev pub is_operator : ℕ → Bool
is_operator c = (c == 47) || ((c == 61) || ((c == 45) || ((c == 43) || ((c == 33) || ((c == 42) || ((c == 37) || ((c == 60) || ((c == 62) || ((c == 38) || ((c == 124) || ((c == 94) || ((c == 126) || (c == 63)))))))))))))

-- ( ) { } [ ] , : ; . @
abbrev pub mark_of : ℕ → Option Mark
mark_of c =
    cond (c == 40) (Some marks.OpenRound) (cond (c == 41) (Some marks.CloseRound) (cond (c == 123) (Some marks.OpenBrace) (cond (c == 125) (Some marks.CloseBrace) (
    cond (c == 91) (Some marks.OpenSquare) (cond (c == 93) (Some marks.CloseSquare) (cond (c == 44) (Some marks.Comma) (cond (c == 58) (Some marks.Colon) (
    cond (c == 59) (Some marks.Semicolon) (cond (c == 46) (Some marks.Dot) (cond (c == 64) (Some marks.At) None))))))))))

-- what a name begins with: XID_Start of Unicode Standard Annex 31, or _
abbrev pub starts_name : ℕ → Bool
starts_name c = is_xid_start c || (c == underscore)

-- whether the place begins with the character
abbrev pub starts : ℕ → List ℕ → Bool
starts c [] = false
starts c (d ∷ s) = d == c

abbrev pub begins_mark : ℕ → Option Mark → Begins
begins_mark c (Some m) = begin.Mark m
begins_mark c None = cond (starts_name c) begin.Letter begin.Other

-- what begins at a place
abbrev pub begins : List ℕ → Begins
begins [] = begin.Nothing
begins (c ∷ s) =
    cond (is_space c) begin.Space (cond (is_digit c) begin.Digit (cond (c == quote) begin.Quote (
    cond (is_operator c) (cond (c == slash) (cond (starts slash s) begin.LineComment (cond (starts star s) begin.BlockComment begin.Operator)) begin.Operator) (
    begins_mark c (mark_of c)))))

abbrev pub is_operator_here : Begins → Bool
is_operator_here begin.Operator = true
is_operator_here b = false

-- Whether a run of the kind goes on at a place. A run of operator characters ends before a comment.
abbrev pub runs : RunKind → List ℕ → Bool
runs run_kinds.Word [] = false
runs run_kinds.Word (c ∷ s) = is_xid_continue c
runs run_kinds.Operator s = is_operator_here (begins s)
runs run_kinds.Line [] = false
runs run_kinds.Line (c ∷ s) = not (is_line_end c)
runs run_kinds.Hexadecimal [] = false
runs run_kinds.Hexadecimal (c ∷ s) = is_hexadecimal c

-- From the first place the run of the kind goes to the second one and no further.
pub data Run (kind : RunKind) : List ℕ → List ℕ → Type 0 where
  run_ends : {s : List ℕ} → runs kind s ≡ false → Run kind s s
  run_goes : {c : ℕ} {s r : List ℕ} → runs kind (c ∷ s) ≡ true → Run kind s r → Run kind (c ∷ s) r

-- where a run of the kind ends
unfoldable pub past : RunKind → List ℕ → List ℕ
past kind [] = []
past kind (c ∷ s) = cond (runs kind (c ∷ s)) (past kind s) (c ∷ s)

-- the bytes between two places
abbrev pub between : List ℕ → List ℕ → List ℕ
between s r = take (length (encode_utf8_all s) - length (encode_utf8_all r)) (encode_utf8_all s)
