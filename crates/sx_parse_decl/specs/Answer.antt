-- What reading the head of a declaration answers.
use Rattle.std.specs.Prelude.{◌≡◌, ℕ, ◌+◌, List, [], ◌∷◌, length, Result, Ok, Err}
use Rattle.sx_grammar.specs.declared.lexemes.Lexeme.{Lexeme}
use Rattle.sx_grammar.specs.Value.{a_head}
use Rattle.sx_grammar.specs.Rules.{head}
use Rattle.sx_grammar.specs.Answer.{IsRead, IsMisfit, IsTooDeep}
use Rattle.sx_tree.specs.declared.declarations.Head.{Head}
use Rattle.sx_parse_decl.specs.declared.declaration.ParseStop.{ParseStop}
use Rattle.sx_parse_decl.specs.declared.declaration.ParseStop.TheVariants as stops

-- the place of the token before these, or the end of the text
abbrev pub place : ℕ → List Lexeme → ℕ
place end [] = end
place end (l ∷ ls) = l.token.span.start

-- With so many levels left, of the lexemes behind so many others: the longest front of a head is a head, and ends where the answer says.
pub record IsHead (l at : ℕ) (ls : List Lexeme) (h : Head) (end : ℕ) : Type 0 where
  pub rest : List Lexeme
  pub read : IsRead l head ls (a_head h) rest
  pub behind : end + length rest ≡ at + length ls

pub record IsSyntax (l end : ℕ) (ls : List Lexeme) (fault : ℕ) : Type 0 where
  pub rest : List Lexeme
  pub misfit : IsMisfit l head ls rest
  pub there : fault ≡ place end rest

pub record IsDeep (l end : ℕ) (ls : List Lexeme) (fault : ℕ) : Type 0 where
  pub rest : List Lexeme
  pub too_deep : IsTooDeep l head ls rest
  pub there : fault ≡ place end rest

abbrev pub Answers : ℕ → ℕ → ℕ → List Lexeme → Result (Head × ℕ) ParseStop → Type 0
Answers l at end ls (Ok x) = IsHead l at ls x.0 x.1
Answers l at end ls (Err (stops.Syntax p)) = IsSyntax l end ls p
Answers l at end ls (Err (stops.TooDeep p)) = IsDeep l end ls p
Answers l at end ls (Err stops.NoMemory) = Unit {0}
