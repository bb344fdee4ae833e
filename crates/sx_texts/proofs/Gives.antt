-- What holds of all that a grammar gives.
use Rattle.std.proofs.Common.{ℕ, List}
use Rattle.sx_grammar.specs.declared.lexemes.Lexeme.{Lexeme}
use Rattle.sx_grammar.specs.Value.{Value, pair}
use Rattle.sx_grammar.specs.Grammar.{Grammar, both, either, many, deeper, giving, Whole, whole_both, whole_left, whole_right, whole_none, whole_more, whole_deeper, whole_giving}
use Rattle.sx_grammar.specs.Rules.{body, first_of, second_of}

abbrev pub Gives : (Value → Type 0) → Grammar → Type 0
Gives P g = (v : Value) (ts rest : List Lexeme) → Whole body g v ts rest → P v

pub giving_gives : (P Q : Value → Type 0) (f : Value → Value) (g : Grammar) → ((v : Value) → P v → Q (f v)) → Gives P g → Gives Q (giving f g)
giving_gives P Q f g h k v ts rest (whole_giving {v = w} r) = h w (k w ts rest r)

-- whatever it is made of
pub made_gives : (Q : Value → Type 0) (f : Value → Value) (g : Grammar) → ((v : Value) → Q (f v)) → Gives Q (giving f g)
made_gives Q f g h v ts rest (whole_giving {v = w} r) = h w

pub either_gives : (P : Value → Type 0) (a b : Grammar) → Gives P a → Gives P b → Gives P (either a b)
either_gives P a b h k v ts rest (whole_left r) = h v ts rest r
either_gives P a b h k v ts rest (whole_right r) = k v ts rest r

pub first_gives : (P : Value → Type 0) (a b : Grammar) → Gives P a → Gives (λ v. P (first_of v)) (both a b)
first_gives P a b h v ts rest (whole_both {v = x} {mid = mid} r s) = h x ts mid r

pub second_gives : (P : Value → Type 0) (a b : Grammar) → Gives P b → Gives (λ v. P (second_of v)) (both a b)
second_gives P a b h v ts rest (whole_both {w = y} {mid = mid} r s) = h y mid rest s

pub deeper_gives : (P : Value → Type 0) (cs : List ℕ) (n : ℕ) → Gives P (body n) → Gives (λ v. P (second_of v)) (deeper cs n)
deeper_gives P cs n h v ts rest (whole_deeper {v = x} {ts = us} i r) = h x us rest r

-- of each of those in a row
abbrev pub Each : (Value → Type 0) → Value → Type 0
Each P (pair v vs) = P v × Each P vs
Each P v = Unit {0}

pub many_gives : (P : Value → Type 0) (g : Grammar) → Gives P g → Gives (Each P) (many g)
many_gives P g h v ts rest whole_none = tt
many_gives P g h v ts rest (whole_more {v = x} {vs = xs} {mid = mid} r s) = (h x ts mid r, many_gives P g h xs mid rest s)
