-- What the bytes of a word, a number and a run of operator characters are.
use Rattle.std.specs.Prelude.{ℕ, ◌+◌, ◌*◌, ◌-◌, ◌^◌, Bool, true, false, cond, ◌&&◌, ◌||◌, ◌==◌, nat_le, nat_lt, List, [], ◌∷◌, Option, Some, None, Result, Ok, Err, codes}
use Rattle.std.specs.Str.{bytes_eq}
use Rattle.sx_token.specs.declared.spellings.Word.{Word}
use Rattle.sx_token.specs.declared.spellings.Word.TheVariants as words
use Rattle.sx_token.specs.declared.spellings.Operator.{Operator}
use Rattle.sx_token.specs.declared.spellings.Operator.TheVariants as operators
use Rattle.sx_lexer.specs.declared.pieces.Piece.{Piece}
use Rattle.sx_lexer.specs.declared.pieces.Piece.TheVariants as pieces
use Rattle.sx_lexer.specs.declared.faults.LexKind.{LexKind}
use Rattle.sx_lexer.specs.declared.faults.LexKind.TheVariants as kinds

-- whether the bytes are in the list
abbrev pub among : List (List ℕ) → List ℕ → Bool
among [] w = false
among (v ∷ more) w = cond (bytes_eq v w) true (among more w)

-- what stands beside the bytes in the table
abbrev pub lookup : {X : Type 0} → List (List ℕ × X) → List ℕ → Option X
lookup [] w = None
lookup (p ∷ more) w = cond (bytes_eq p.0 w) (Some p.1) (lookup more w)

-- the words of the language; init is not among them
unfoldable pub keywords : List (List ℕ × Word)
keywords =
    (codes "break", words.Break) ∷ (codes "class", words.Class) ∷ (codes "continue", words.Continue) ∷ (codes "else", words.Else)
    ∷ (codes "false", words.False) ∷ (codes "func", words.Func) ∷ (codes "if", words.If) ∷ (codes "in", words.In)
    ∷ (codes "inout", words.Inout) ∷ (codes "let", words.Let) ∷ (codes "mutating", words.Mutating) ∷ (codes "return", words.Return)
    ∷ (codes "self", words.SelfWord) ∷ (codes "struct", words.Struct) ∷ (codes "subscript", words.Subscript) ∷ (codes "true", words.True)
    ∷ (codes "var", words.Var) ∷ (codes "while", words.While) ∷ []

-- the words of Swift that stand nowhere in the language
unfoldable pub reserved : List (List ℕ)
reserved =
    codes "associatedtype" ∷ codes "as" ∷ codes "catch" ∷ codes "default" ∷ codes "defer" ∷ codes "deinit" ∷ codes "do" ∷ codes "enum"
    ∷ codes "extension" ∷ codes "fallthrough" ∷ codes "fileprivate" ∷ codes "for" ∷ codes "guard" ∷ codes "import" ∷ codes "init"
    ∷ codes "internal" ∷ codes "is" ∷ codes "nil" ∷ codes "operator" ∷ codes "precedencegroup" ∷ codes "private" ∷ codes "protocol"
    ∷ codes "public" ∷ codes "repeat" ∷ codes "rethrows" ∷ codes "static" ∷ codes "super" ∷ codes "switch" ∷ codes "throw"
    ∷ codes "throws" ∷ codes "try" ∷ codes "typealias" ∷ codes "where" ∷ codes "Any" ∷ codes "Self" ∷ []

-- the operators, with their spellings
unfoldable pub spelled_operators : List (List ℕ × Operator)
spelled_operators =
    (codes "=", operators.Assign) ∷ (codes "+=", operators.PlusAssign) ∷ (codes "-=", operators.MinusAssign) ∷ (codes "*=", operators.StarAssign)
    ∷ (codes "/=", operators.SlashAssign) ∷ (codes "%=", operators.PercentAssign) ∷ (codes "+", operators.Plus) ∷ (codes "-", operators.Minus)
    ∷ (codes "*", operators.Star) ∷ (codes "/", operators.Slash) ∷ (codes "%", operators.Percent) ∷ (codes "<", operators.Less)
    ∷ (codes ">", operators.Greater) ∷ (codes "<=", operators.LessEqual) ∷ (codes ">=", operators.GreaterEqual) ∷ (codes "==", operators.Equal)
    ∷ (codes "!=", operators.NotEqual) ∷ (codes "===", operators.Same) ∷ (codes "!==", operators.NotSame) ∷ (codes "&&", operators.AndAnd)
    ∷ (codes "||", operators.OrOr) ∷ (codes "!", operators.Not) ∷ (codes "&", operators.And) ∷ (codes "->", operators.Arrow) ∷ []

-- the same, where the words of the language have been looked at
abbrev pub word_or : Option Word → List ℕ → Piece
word_or (Some k) w = pieces.Keyword k
word_or None w = cond (among reserved w) pieces.Reserved pieces.Name

-- the piece that a word of name characters is
abbrev pub word_piece : List ℕ → Piece
word_piece w = cond (bytes_eq (codes "_") w) pieces.Underscore (word_or (lookup keywords w) w)

-- the value of a digit in either case, or 36
abbrev pub digit : ℕ → ℕ
digit c = cond (nat_le 48 c && nat_le c 57) (c - 48) (cond (nat_le 97 c && nat_le c 102) (c - 87) (cond (nat_le 65 c && nat_le c 70) (c - 55) 36))

-- whether the bytes are digits of the base and underscores
abbrev pub are_digits : ℕ → List ℕ → Bool
are_digits base [] = true
are_digits base (c ∷ w) = ((c == 95) || nat_lt (digit c) base) && are_digits base w

-- what the digits stand for, behind others that stand for n
abbrev pub value_after : ℕ → ℕ → List ℕ → ℕ
value_after base n [] = n
value_after base n (c ∷ w) = value_after base (cond (c == 95) n (n * base + digit c)) w

-- the piece that a number of this value is
abbrev pub sized : ℕ → Result Piece LexKind
sized n = cond (nat_lt n (2 ^ 63)) (Ok (pieces.Int n)) (cond (n == 2 ^ 63) (Ok pieces.IntMin) (Err kinds.BigLiteral))

-- a number without its prefix: a digit, and then digits and underscores
abbrev pub number_in : ℕ → List ℕ → Result Piece LexKind
number_in base [] = Err kinds.BadNumber
number_in base (c ∷ w) = cond (nat_lt (digit c) base && are_digits base w) (sized (value_after base 0 (c ∷ w))) (Err kinds.BadNumber)

-- the base that stands behind the 0 of a prefix: x, o or b
abbrev pub base_of : ℕ → Option ℕ
base_of c = cond (c == 120) (Some 16) (cond (c == 111) (Some 8) (cond (c == 98) (Some 2) None))

-- the number, where the prefix tells a base or is none
abbrev pub number_behind : Option ℕ → List ℕ → List ℕ → Result Piece LexKind
number_behind None all w = number_in 10 all
number_behind (Some base) all w = number_in base w

-- the piece that a number is, from its first digit to the end of its word
abbrev pub number : List ℕ → Result Piece LexKind
number (z ∷ c ∷ w) = cond (z == 48) (number_behind (base_of c) (z ∷ c ∷ w) w) (number_in 10 (z ∷ c ∷ w))
number w = number_in 10 w
