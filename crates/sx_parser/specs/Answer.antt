-- What parsing a text answers.
use Rattle.std.specs.Prelude.{◌≡◌, ℕ, ◌≤◌, List, [], ◌∷◌, length, take, drop, Result, Ok, Err}
use Rattle.sx_token.specs.declared.kinds.Token.{Token}
use Rattle.sx_token.specs.declared.token_list.Tokens.{Tokens}
use Rattle.sx_token.specs.Sound.{contents}
use Rattle.sx_tree.specs.declared.tree.Tree.{Tree}
use Rattle.sx_grammar.specs.declared.lexemes.Lexeme.{Lexeme}
use Rattle.sx_grammar.specs.Value.{items}
use Rattle.sx_grammar.specs.Lexemes.{lexemes}
use Rattle.sx_grammar.specs.Answer.{deepest, IsRead, IsMisfit, IsTooDeep}
use Rattle.sx_parse_decl.specs.Answer.{place}
use Rattle.sx_parse_decl.specs.declared.declaration.ParseStop.{ParseStop}
use Rattle.sx_parse_decl.specs.declared.declaration.ParseStop.TheVariants as stops
use Rattle.sx_parser.specs.Text.{text}
use Rattle.sx_parser.specs.Fronts.{IsFront}

abbrev pub names_of : Tokens → List (List ℕ)
names_of t = contents t.names.items

-- the lexemes of a whole text
abbrev pub lexemes_of : Tokens → List Lexeme
lexemes_of t = lexemes (names_of t) t.list.items

-- the start of the first of these tokens, or the end of the text
abbrev pub start_of : ℕ → List Token → ℕ
start_of end [] = end
start_of end (t ∷ ts) = t.span.start

-- the lists that the tokens refer to
pub record HasLists (tokens : Tokens) (tree : Tree) : Type 0 where
  pub texts : contents tree.texts.items ≡ contents tokens.texts.items
  pub names : contents tree.names.items ≡ names_of tokens
  pub lines : tree.lines.items ≡ tokens.lines.items

-- the tree of the text, with the lists of its tokens
pub record IsTree (tokens : Tokens) (tree : Tree) : Type 0 where
  pub read : IsRead deepest text (lexemes_of tokens) (items tree.items) []
  pub lists : HasLists tokens tree

-- So many tokens are the longest front.
pub record IsLongest (names : List (List ℕ)) (ts : List Token) (count : ℕ) : Type 0 where
  pub within : count ≤ length ts
  pub front : IsFront names (take count ts)
  pub farthest : (n : ℕ) → n ≤ length ts → IsFront names (take n ts) → n ≤ count

-- The text has no tree and opens no level too much, and the token behind the longest front is at fault, or the end of the text.
pub record IsSyntax (tokens : Tokens) (fault : ℕ) : Type 0 where
  pub rest : List Lexeme
  pub misfit : IsMisfit deepest text (lexemes_of tokens) rest
  pub count : ℕ
  pub longest : IsLongest (names_of tokens) tokens.list.items count
  pub there : fault ≡ start_of tokens.end (drop count tokens.list.items)

pub record IsDeep (tokens : Tokens) (fault : ℕ) : Type 0 where
  pub rest : List Lexeme
  pub too_deep : IsTooDeep deepest text (lexemes_of tokens) rest
  pub there : fault ≡ place tokens.end rest

abbrev pub Answers : Tokens → Result Tree ParseStop → Type 0
Answers tokens (Ok tree) = IsTree tokens tree
Answers tokens (Err (stops.Syntax p)) = IsSyntax tokens p
Answers tokens (Err (stops.TooDeep p)) = IsDeep tokens p
Answers tokens (Err stops.NoMemory) = Unit {0}
