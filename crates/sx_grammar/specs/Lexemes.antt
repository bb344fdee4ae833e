-- The lexemes of a text: each token with its sort.
use Rattle.std.specs.Prelude.{ℕ, List, [], ◌∷◌, cond, Option, Some, None, slice_get, codes}
use Rattle.std.specs.Str.{bytes_eq}
use Rattle.sx_token.specs.declared.kinds.Token.{Token}
use Rattle.sx_token.specs.declared.kinds.Kind.{Kind}
use Rattle.sx_token.specs.declared.kinds.Kind.TheVariants as kinds
use Rattle.sx_token.specs.declared.spellings.Operator.{Operator}
use Rattle.sx_token.specs.declared.spellings.Operator.TheVariants as operators
use Rattle.sx_token.specs.declared.spellings.Word.{Word}
use Rattle.sx_token.specs.declared.spellings.Word.TheVariants as words
use Rattle.sx_token.specs.declared.spellings.Mark.{Mark}
use Rattle.sx_token.specs.declared.spellings.Mark.TheVariants as marks
use Rattle.sx_grammar.specs.declared.lexemes.Lexeme.{Lexeme}
use Rattle.sx_grammar.specs.declared.lexemes.Sort.{Sort}
use Rattle.sx_grammar.specs.declared.lexemes.Sort.TheVariants as sorts

-- a name by its bytes; some have a meaning of their own in places
unfoldable pub word_sort : List ℕ → Sort
word_sort w = cond (bytes_eq w (codes "print")) sorts.Print (cond (bytes_eq w (codes "get")) sorts.Get (cond (bytes_eq w (codes "set")) sorts.Set (cond (bytes_eq w (codes "willSet")) sorts.WillSet (cond (bytes_eq w (codes "didSet")) sorts.DidSet (cond (bytes_eq w (codes "escaping")) sorts.Escaping sorts.Name)))))

abbrev pub name_sort : Option (List ℕ) → Sort
name_sort None = sorts.Name
name_sort (Some w) = word_sort w

-- an operator with space on both sides or on neither
abbrev pub infix_sort : Token → Sort → Sort
infix_sort t s = cond t.space_before (cond t.space_after s sorts.Misfit) (cond t.space_after sorts.Misfit s)

-- one with space on its left alone
abbrev pub prefix_sort : Token → Sort → Sort
prefix_sort t s = cond t.space_before (cond t.space_after sorts.Misfit s) sorts.Misfit

abbrev pub minus_sort : Token → Sort
minus_sort t = cond t.space_before (cond t.space_after sorts.Minus sorts.Negate) (cond t.space_after sorts.Misfit sorts.Minus)

abbrev pub operator_sort : Operator → Token → Sort
operator_sort operators.Assign t = infix_sort t sorts.Assign
operator_sort operators.PlusAssign t = infix_sort t sorts.Compound
operator_sort operators.MinusAssign t = infix_sort t sorts.Compound
operator_sort operators.StarAssign t = infix_sort t sorts.Compound
operator_sort operators.SlashAssign t = infix_sort t sorts.Compound
operator_sort operators.PercentAssign t = infix_sort t sorts.Compound
operator_sort operators.Plus t = infix_sort t sorts.Plus
operator_sort operators.Minus t = minus_sort t
operator_sort operators.Star t = infix_sort t sorts.Times
operator_sort operators.Slash t = infix_sort t sorts.Times
operator_sort operators.Percent t = infix_sort t sorts.Times
operator_sort operators.Less t = infix_sort t sorts.Relation
operator_sort operators.Greater t = infix_sort t sorts.Relation
operator_sort operators.LessEqual t = infix_sort t sorts.Relation
operator_sort operators.GreaterEqual t = infix_sort t sorts.Relation
operator_sort operators.Equal t = infix_sort t sorts.Relation
operator_sort operators.NotEqual t = infix_sort t sorts.Relation
operator_sort operators.Same t = infix_sort t sorts.Relation
operator_sort operators.NotSame t = infix_sort t sorts.Relation
operator_sort operators.AndAnd t = infix_sort t sorts.And
operator_sort operators.OrOr t = infix_sort t sorts.Or
operator_sort operators.Not t = prefix_sort t sorts.Not
operator_sort operators.And t = prefix_sort t sorts.Ampersand
operator_sort operators.Arrow t = sorts.Arrow

abbrev pub keyword_sort : Word → Sort
keyword_sort words.Break = sorts.Break
keyword_sort words.Class = sorts.Class
keyword_sort words.Continue = sorts.Continue
keyword_sort words.Else = sorts.Else
keyword_sort words.False = sorts.False
keyword_sort words.Func = sorts.Func
keyword_sort words.If = sorts.If
keyword_sort words.In = sorts.In
keyword_sort words.Init = sorts.Misfit
keyword_sort words.Inout = sorts.Inout
keyword_sort words.Let = sorts.Let
keyword_sort words.Mutating = sorts.Mutating
keyword_sort words.Return = sorts.Return
keyword_sort words.SelfWord = sorts.SelfWord
keyword_sort words.Struct = sorts.Struct
keyword_sort words.Subscript = sorts.Subscript
keyword_sort words.True = sorts.True
keyword_sort words.Var = sorts.Var
keyword_sort words.While = sorts.While

abbrev pub mark_sort : Mark → Sort
mark_sort marks.OpenRound = sorts.OpenRound
mark_sort marks.CloseRound = sorts.CloseRound
mark_sort marks.OpenBrace = sorts.OpenBrace
mark_sort marks.CloseBrace = sorts.CloseBrace
mark_sort marks.OpenSquare = sorts.OpenSquare
mark_sort marks.CloseSquare = sorts.CloseSquare
mark_sort marks.Comma = sorts.Comma
mark_sort marks.Colon = sorts.Colon
mark_sort marks.Semicolon = sorts.Semicolon
mark_sort marks.Dot = sorts.Dot
mark_sort marks.At = sorts.At

-- the sort of a token by itself
unfoldable pub sort_alone : List (List ℕ) → Kind → Token → Sort
sort_alone names (kinds.Name k) t = name_sort (slice_get names k)
sort_alone names kinds.Underscore t = sorts.Underscore
sort_alone names (kinds.Keyword w) t = keyword_sort w
sort_alone names kinds.Reserved t = sorts.Misfit
sort_alone names (kinds.Int n) t = sorts.Int
sort_alone names kinds.IntMin t = sorts.LeastInt
sort_alone names (kinds.Text k) t = sorts.Text
sort_alone names (kinds.Op o) t = operator_sort o t
sort_alone names (kinds.Mark m) t = mark_sort m

-- the sort of an opening bracket before a token of the second sort
abbrev pub before_observer : Sort → Sort
before_observer sorts.WillSet = sorts.OpenObservers
before_observer sorts.DidSet = sorts.OpenObservers
before_observer s = sorts.OpenBrace

abbrev pub before_text : Sort → Sort
before_text sorts.Text = sorts.OpenText
before_text s = sorts.OpenRound

abbrev pub sort_before : Sort → Sort → Sort
sort_before sorts.OpenBrace behind = before_observer behind
sort_before sorts.OpenRound behind = before_text behind
sort_before s behind = s

abbrev pub sort_of_first : List (List ℕ) → List Token → Sort
sort_of_first names [] = sorts.Misfit
sort_of_first names (t ∷ ts) = sort_alone names t.kind t

unfoldable pub lexemes : List (List ℕ) → List Token → List Lexeme
lexemes names [] = []
lexemes names (t ∷ ts) = record { sort = sort_before (sort_alone names t.kind t) (sort_of_first names ts); token = t } ∷ lexemes names ts
