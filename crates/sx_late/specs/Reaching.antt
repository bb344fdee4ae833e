-- Which statements of the outermost level reach a stored global that is declared at or after them: this project's own.
-- In Swift the code at the outermost level runs in the order of the text (The Swift Programming Language,
-- "Declarations", top-level code), so a global that is reached so may have no value yet. Here such a text is refused.
use Rattle.std.specs.Prelude.{◌≡◌, ℕ, ◌≤◌, ◌<◌, length, take, filter, Bool, true, false, slice_get, Some}
use Rattle.sx_span.specs.declared.places.Node.{Node}
use Rattle.sx_typed.specs.Layers.{StatementLayer, statement_of}
use Rattle.sx_typed.specs.declared.code.Statement.{Statement}
use Rattle.sx_typed.specs.declared.code.StatementForm.{StatementForm-F}
use Rattle.sx_typed.specs.declared.program.Typed.{Typed}
use Rattle.sx_late.specs.Mentions.{Mentions, statement_mentions, function_mentions}
use Rattle.sx_late.specs.declared.mentions.Mentioned.{Mentioned}
use Rattle.sx_late.specs.declared.mentions.Mentioned.TheVariants.{Function, Global}
use Rattle.sx_late.specs.declared.reaching.LateReach.{LateReach}

-- it is one of those that are mentioned
abbrev pub IsMentioned : Mentions → Mentioned → Type 0
IsMentioned ms m = (i : ℕ) × (slice_get ms i ≡ Some m)

-- a list of mentions leads to global g
pub data Reaches (typed : Typed) : Mentions → ℕ → Type 0 where
  itself : (ms : Mentions) (g : ℕ) → IsMentioned ms (Global g) → Reaches typed ms g
  through : (ms : Mentions) (n : Node) (g : ℕ) → IsMentioned ms (Function n) → Reaches typed (function_mentions typed n) g → Reaches typed ms g

-- the statement stores the initial value of a stored global
abbrev pub layer_stores_global : StatementLayer → Bool
layer_stores_global (StatementForm-F.Expr e) = false
layer_stores_global (StatementForm-F.Constant n e) = false
layer_stores_global (StatementForm-F.Local l e) = false
layer_stores_global (StatementForm-F.Global g e) = true
layer_stores_global (StatementForm-F.Assign path e) = false
layer_stores_global (StatementForm-F.Compound o path e) = false
layer_stores_global (StatementForm-F.If e block otherwise) = false
layer_stores_global (StatementForm-F.While e block) = false
layer_stores_global (StatementForm-F.Return e) = false
layer_stores_global StatementForm-F.Break = false
layer_stores_global StatementForm-F.Continue = false

abbrev pub stores_global : Statement → Bool
stores_global s = layer_stores_global (statement_of s)

-- how many stored globals are declared before statement i, which is the number of the first that isn't: their initial
-- values are stored at the outermost level, in the order of the text
abbrev pub declared_before : Typed → ℕ → ℕ
declared_before typed i = length (filter stores_global (take i typed.top))

-- statement i reaches global g, one of the program's, which is declared at or after it
pub record IsLate (typed : Typed) (i g : ℕ) : Type 0 where
  pub statement : Statement
  pub stands : slice_get typed.top i ≡ Some statement
  pub reaches : Reaches typed (statement_mentions typed statement) g
  pub is_global : g < length typed.globals
  pub declared : declared_before typed i ≤ g

-- the first statement that is late, and the first global for which it is
pub record IsFirstLate (typed : Typed) (l : LateReach) : Type 0 where
  pub late : IsLate typed l.statement l.global
  pub statement_first : (i g : ℕ) → IsLate typed i g → l.statement ≤ i
  pub global_first : (g : ℕ) → IsLate typed l.statement g → l.global ≤ g

-- no statement is late
abbrev pub NoneLate : Typed → Type 0
NoneLate typed = (i g : ℕ) → ¬ IsLate typed i g
