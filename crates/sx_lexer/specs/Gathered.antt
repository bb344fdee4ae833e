-- The tokens of a part of a text, as they are gathered.
use Rattle.std.specs.Prelude.{◌≡◌, ℕ, ◌+◌, ◌≤◌, true, List, [], ◌∷◌, ◌++◌, length, Some, slice_get, Vec, All}
use Rattle.std.specs.Global.{Global}
use Rattle.sx_span.specs.Lines.{AreLines}
use Rattle.sx_token.specs.Sound.{contents, RiseTo, IsKind, AreDistinct}
use Rattle.sx_token.specs.declared.kinds.Token.{Token}
use Rattle.sx_token.specs.declared.token_list.Tokens.{Tokens}
use Rattle.sx_lexer.specs.declared.gathering.Gathered.{Gathered}
use Rattle.sx_lexer.specs.declared.faults.LexStop.{LexStop}
use Rattle.sx_lexer.specs.declared.faults.LexStop.TheVariants as stops
use Rattle.sx_lexer.specs.Lexis.{Lexed, Lexes, Faults}
use Rattle.sx_lexer.specs.Shown.{names_of, texts_of, shown_all, place_in}

-- the tokens so far
pub record Holds (end : ℕ) (g : Gathered) (ls : List Lexed) : Type 0 where
  pub list : g.list.items ≡ shown_all (names_of ls) end 0 ls
  pub texts : contents g.texts.items ≡ texts_of ls
  pub names : g.names ≡ names_of ls

-- one more token
pub record Adds (end : ℕ) (old new : Gathered) (l : Lexed) : Type 0 where
  pub holds : (ls : List Lexed) → Holds end old ls → Holds end new (ls ++ l ∷ [])
  pub list : length new.list.items ≡ length old.list.items + 1
  pub texts : length new.texts.items ≤ length old.texts.items + 1
  pub names : length new.names ≤ length old.names + 1

-- all tokens from a place on
pub record IsGathered (end : ℕ) (s : List ℕ) (g : Gathered) : Type 0 where
  pub lexed : List Lexed
  pub lexes : Lexes true true s lexed
  pub holds : Holds end g lexed

-- why there are none: the first fault, or want of memory
abbrev pub IsGatherStop : ℕ → List ℕ → LexStop → Type 0
IsGatherStop end s (stops.Lexical k at) = (p : List ℕ) × Faults s k p × (at ≡ place_in end p)
IsGatherStop end s stops.NoMemory = Unit {0}
IsGatherStop end s (stops.Encoding at) = ⊥
IsGatherStop end s (stops.TooManyTokens at) = ⊥

-- what the tokens of a text keep, where there are so many texts
pub record AreTokens (list : List Token) (texts : ℕ) (names : List (List ℕ)) (lines : List ℕ) (end : ℕ) : Type 0 where
  pub spans_rise : RiseTo end 0 list
  pub short : end ≤ 262144
  pub kinds : All (λ t. IsKind texts (length names) t.kind) list
  pub names_differ : AreDistinct names
  pub lines_rise : AreLines lines

-- the tokens with the lines of the text
pub record Finishes (g : Gathered) (lines : Vec ℕ Global) (end : ℕ) (tokens : Tokens) : Type 0 where
  pub list : tokens.list ≡ g.list
  pub texts : tokens.texts ≡ g.texts
  pub names : contents tokens.names.items ≡ g.names
  pub lines_same : tokens.lines ≡ lines
  pub end_same : tokens.end ≡ end

-- why tokens are refused: the first of them past 65,536, or want of memory
abbrev pub IsFinishStop : List Token → LexStop → Type 0
IsFinishStop list (stops.TooManyTokens at) = (t : Token) × (slice_get list 65536 ≡ Some t) × (at ≡ t.span.start)
IsFinishStop list stops.NoMemory = Unit {0}
IsFinishStop list (stops.Encoding at) = ⊥
IsFinishStop list (stops.Lexical k at) = ⊥
