-- The `var`s of blocks, by the numbers of their nodes.
use Rattle.std.specs.Prelude.{ℕ, List, [], ◌∷◌, ◌++◌, map, Contains}
use Rattle.std.specs.List.Sorted.{IsStrictlyIncreasing}
use Rattle.sx_span.specs.declared.places.Node.{Node}
use Rattle.sx_typed.specs.declared.code.Statement.{Statement, fold-Statement, Statement-F}
use Rattle.sx_typed.specs.declared.code.StatementForm.{StatementForm-F}
use Rattle.sx_typed.specs.declared.program.Function.{Function}

abbrev pub all : List (List ℕ) → List ℕ
all [] = []
all (ns ∷ nss) = ns ++ all nss

abbrev pub form_step : StatementForm-F (List ℕ) (List ℕ) → List ℕ
form_step (StatementForm-F.Expr e) = []
form_step (StatementForm-F.Constant n e) = []
form_step (StatementForm-F.Local l e) = l.node.0 ∷ []
form_step (StatementForm-F.Global g e) = []
form_step (StatementForm-F.Assign l e) = []
form_step (StatementForm-F.Compound o l e) = []
form_step (StatementForm-F.If c a b) = all a ++ all b
form_step (StatementForm-F.While c a) = all a
form_step (StatementForm-F.Return e) = []
form_step StatementForm-F.Break = []
form_step StatementForm-F.Continue = []

abbrev pub statement_step : Statement-F (List ℕ) (List ℕ) → List ℕ
statement_step s = s.form

abbrev pub statement_variables : Statement → List ℕ
statement_variables = fold-Statement (List ℕ) (List ℕ) form_step statement_step

abbrev pub block_variables : List Statement → List ℕ
block_variables ss = all (map statement_variables ss)

abbrev pub function_variables : Function → List ℕ
function_variables f = block_variables f.body

-- those of all bodies
abbrev pub variables_of : List Statement → List Function → List ℕ
variables_of top fs = block_variables top ++ all (map function_variables fs)

-- ---- each once, in the order of their nodes
abbrev pub number : Node → ℕ
number n = n.0

-- the same numbers stand in both
abbrev pub HaveTheSame : List ℕ → List ℕ → Type 0
HaveTheSame ns ms = (n : ℕ) → (Contains ns n → Contains ms n) × (Contains ms n → Contains ns n)

abbrev pub AreInOrder : List ℕ → List Node → Type 0
AreInOrder ns ms = HaveTheSame ns (map number ms) × IsStrictlyIncreasing (map number ms)
