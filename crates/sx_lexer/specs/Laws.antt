-- What a text can be, and what it can be answered.
use Rattle.std.specs.Prelude.{◌≡◌, ◌⊎◌, ℕ, List, Result, Ok, Err}
use Rattle.sx_token.specs.Sound.{contents}
use Rattle.sx_token.specs.declared.token_list.Tokens.{Tokens}
use Rattle.sx_lexer.specs.declared.faults.LexKind.{LexKind}
use Rattle.sx_lexer.specs.declared.faults.LexStop.{LexStop}
use Rattle.sx_lexer.specs.declared.faults.LexStop.TheVariants as stops
use Rattle.sx_lexer.specs.Lexis.{Lexed, LexesAll, FaultsFirst}
use Rattle.sx_lexer.specs.Answers.{Answers}

-- A text has one list of tokens or one first fault, and not both.
pub record ExactlyOneAnswer : Type 0 where
  pub at_least_one : (text : List ℕ) → ((ts : List Lexed) × LexesAll text ts) ⊎ ((k : LexKind) × (p : List ℕ) × FaultsFirst text k p)
  pub one_list : (text : List ℕ) (ts us : List Lexed) → LexesAll text ts → LexesAll text us → ts ≡ us
  pub one_kind : (text p q : List ℕ) (k m : LexKind) → FaultsFirst text k p → FaultsFirst text m q → k ≡ m
  pub one_place : (text p q : List ℕ) (k m : LexKind) → FaultsFirst text k p → FaultsFirst text m q → p ≡ q
  pub not_both : (text p : List ℕ) (k : LexKind) (ts : List Lexed) → LexesAll text ts → FaultsFirst text k p → ⊥

-- the same lists
pub record SameTokens (t u : Tokens) : Type 0 where
  pub list : t.list.items ≡ u.list.items
  pub texts : contents t.texts.items ≡ contents u.texts.items
  pub names : contents t.names.items ≡ contents u.names.items
  pub lines : t.lines.items ≡ u.lines.items
  pub end : t.end ≡ u.end

-- want of memory
abbrev pub IsNoMemory : LexStop → Type 0
IsNoMemory stops.NoMemory = Unit {0}
IsNoMemory (stops.Encoding at) = ⊥
IsNoMemory (stops.Lexical k at) = ⊥
IsNoMemory (stops.TooManyTokens at) = ⊥

-- the same answer, or want of memory in one of them
abbrev pub Agree : Result Tokens LexStop → Result Tokens LexStop → Type 0
Agree (Ok t) (Ok u) = SameTokens t u
Agree (Ok t) (Err e) = IsNoMemory e
Agree (Err e) (Ok u) = IsNoMemory e
Agree (Err e) (Err f) = IsNoMemory e ⊎ (IsNoMemory f ⊎ (e ≡ f))

-- A text has one answer but for want of memory.
pub record AnswersAgree : Type 0 where
  pub agree : (bytes : List ℕ) (r s : Result Tokens LexStop) → Answers bytes r → Answers bytes s → Agree r s
