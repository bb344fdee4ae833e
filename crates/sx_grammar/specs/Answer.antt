-- What the tokens of a text are by a grammar, and where they stop to be.
use Rattle.std.specs.Prelude.{◌≡◌, ℕ, suc, ◌≤◌, ◌<◌, List, [], ◌∷◌, length, true}
use Rattle.sx_grammar.specs.declared.lexemes.Lexeme.{Lexeme}
use Rattle.sx_grammar.specs.Value.{Value}
use Rattle.sx_grammar.specs.Grammar.{Grammar, Whole, Front, starts, bracket_classes}
use Rattle.sx_grammar.specs.Rules.{body}

-- the greatest number of levels that may be open at one place
abbrev pub deepest : ℕ
deepest = 200

-- no longer part of the text is a front
abbrev pub IsFarthest : Grammar → List Lexeme → List Lexeme → Type 0
IsFarthest g ts rest = (m : ℕ) (other : List Lexeme) → Front body m g ts other → length rest ≤ length other

-- no front has more levels open at its end
abbrev pub IsShallow : ℕ → Grammar → List Lexeme → Type 0
IsShallow l g ts = (m : ℕ) (other : List Lexeme) → Front body m g ts other → m ≤ l

-- The longest front is whole: it stands for this value and no other.
pub record IsRead (l : ℕ) (g : Grammar) (ts : List Lexeme) (v : Value) (rest : List Lexeme) : Type 0 where
  pub whole : Whole body g v ts rest
  pub only : (w : Value) → Whole body g w ts rest → w ≡ v
  pub farthest : IsFarthest g ts rest
  pub shallow : IsShallow l g ts

-- a front with fewer levels open at its end
pub record HasRoom (l : ℕ) (g : Grammar) (ts rest : List Lexeme) : Type 0 where
  pub open_levels : ℕ
  pub front : Front body open_levels g ts rest
  pub fewer : open_levels < l

-- The longest front ends before the rest and isn't whole, and the token there opens no level too much: it is no opening bracket, or there is room for its level.
pub record IsMisfit (l : ℕ) (g : Grammar) (ts rest : List Lexeme) : Type 0 where
  pub open_levels : ℕ
  pub front : Front body open_levels g ts rest
  pub farthest : IsFarthest g ts rest
  pub not_whole : (v : Value) → Whole body g v ts rest → ⊥
  pub shallow : IsShallow l g ts
  pub room : starts bracket_classes rest ≡ true → HasRoom l g ts rest

-- The token at the rest opens a level too much: the tokens before it are a front, with it more levels are open than there may be, and never before.
pub record OpensTooMuch (l : ℕ) (g : Grammar) (ts rest : List Lexeme) : Type 0 where
  pub open_levels : ℕ
  pub before : Front body open_levels g ts rest
  pub token : Lexeme
  pub behind : List Lexeme
  pub there : rest ≡ token ∷ behind
  pub front : Front body (suc l) g ts behind
  pub earliest : (m : ℕ) (other : List Lexeme) → Front body m g ts other → l < m → length other < length rest

-- Or it is an opening bracket that doesn't fit, and in each reading up to there as many levels are open as may be.
pub record IsBlocked (l : ℕ) (g : Grammar) (ts rest : List Lexeme) : Type 0 where
  pub open_levels : ℕ
  pub front : Front body open_levels g ts rest
  pub farthest : IsFarthest g ts rest
  pub not_whole : (v : Value) → Whole body g v ts rest → ⊥
  pub shallow : IsShallow l g ts
  pub bracket : starts bracket_classes rest ≡ true
  pub full : (m : ℕ) → Front body m g ts rest → l ≤ m

pub data IsTooDeep (l : ℕ) (g : Grammar) (ts rest : List Lexeme) : Type 0 where
  opens_too_much : OpensTooMuch l g ts rest → IsTooDeep l g ts rest
  is_blocked : IsBlocked l g ts rest → IsTooDeep l g ts rest

-- No tokens are two things.
abbrev pub AtMostOne : Grammar → Type 0
AtMostOne g = (ts : List Lexeme) (v w : Value) → Whole body g v ts [] → Whole body g w ts [] → v ≡ w
