-- The classes of lexemes: the sort, and whether a line end stands before the token.
use Rattle.std.specs.Prelude.{ℕ, ◌+◌, ◌*◌, cond, List, [], ◌∷◌}
use Rattle.sx_grammar.specs.declared.lexemes.Lexeme.{Lexeme}
use Rattle.sx_grammar.specs.declared.lexemes.Sort.{Sort}
use Rattle.sx_grammar.specs.declared.lexemes.Sort.TheVariants as sorts

-- the number of a sort
abbrev pub number : Sort → ℕ
number sorts.Int = 0
number sorts.LeastInt = 1
number sorts.Text = 2
number sorts.Name = 3
number sorts.Print = 4
number sorts.Get = 5
number sorts.Set = 6
number sorts.WillSet = 7
number sorts.DidSet = 8
number sorts.Escaping = 9
number sorts.Underscore = 10
number sorts.Break = 11
number sorts.Class = 12
number sorts.Continue = 13
number sorts.Else = 14
number sorts.False = 15
number sorts.Func = 16
number sorts.If = 17
number sorts.In = 18
number sorts.Inout = 19
number sorts.Let = 20
number sorts.Mutating = 21
number sorts.Return = 22
number sorts.SelfWord = 23
number sorts.Struct = 24
number sorts.Subscript = 25
number sorts.True = 26
number sorts.Var = 27
number sorts.While = 28
number sorts.Assign = 29
number sorts.Compound = 30
number sorts.Plus = 31
number sorts.Minus = 32
number sorts.Negate = 33
number sorts.Times = 34
number sorts.Relation = 35
number sorts.And = 36
number sorts.Or = 37
number sorts.Not = 38
number sorts.Ampersand = 39
number sorts.Arrow = 40
number sorts.Misfit = 41
number sorts.OpenRound = 42
number sorts.OpenText = 43
number sorts.CloseRound = 44
number sorts.OpenBrace = 45
number sorts.OpenObservers = 46
number sorts.CloseBrace = 47
number sorts.OpenSquare = 48
number sorts.CloseSquare = 49
number sorts.Comma = 50
number sorts.Colon = 51
number sorts.Semicolon = 52
number sorts.Dot = 53
number sorts.At = 54

-- twice the number of the sort, and one more on a new line
abbrev pub class_of : Lexeme → ℕ
class_of l = 2 * number l.sort + cond l.token.line_before 1 0

-- lexemes of these sorts, wherever they stand, on the line of the token before, on a new line
abbrev pub any : List Sort → List ℕ
any [] = []
any (s ∷ ss) = (2 * number s) ∷ ((2 * number s + 1) ∷ any ss)

abbrev pub here : List Sort → List ℕ
here [] = []
here (s ∷ ss) = (2 * number s) ∷ here ss

abbrev pub below : List Sort → List ℕ
below [] = []
below (s ∷ ss) = (2 * number s + 1) ∷ below ss
