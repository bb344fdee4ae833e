-- Statements and bodies (The Swift Programming Language, "Statements", "Functions"; SE-0255 for bodies of one expression).
use Rattle.std.specs.Prelude.{ℕ, Bool, true, false, not, ◌&&◌, ◌||◌, ◌==◌, List, [], ◌∷◌, ◌++◌, drop, length, Option, Some, None, is_none, cond}
use Rattle.sx_scope.specs.Tables.{entry}
use Rattle.std.specs.List.{list_any}
use Rattle.sx_span.specs.declared.places.Node.{Node}
use Rattle.sx_tree.specs.declared.operators.Assignment.{Assignment}
use Rattle.sx_tree.specs.declared.operators.Assignment.TheVariants as assignments
use Rattle.sx_types.specs.declared.types.Ty.{Ty}
use Rattle.sx_types.specs.declared.types.Ty.TheVariants as ty
use Rattle.sx_typed.specs.declared.code.Arithmetic.TheVariants as arithmetic
use Rattle.sx_typed.specs.declared.code.Expr.{Expr}
use Rattle.sx_typed.specs.declared.code.Lvalue.{Lvalue}
use Rattle.sx_typed.specs.declared.code.Statement.{Statement}
use Rattle.sx_typed.specs.declared.code.StatementForm.{StatementForm}
use Rattle.sx_typed.specs.declared.code.StatementForm.TheVariants as statements
use Rattle.sx_scope.specs.declared.stop.TypeKind.TheVariants as kind
use Rattle.sx_scope.specs.declared.declarations.Declarations.{Declarations}
use Rattle.sx_scope.specs.declared.declarations.Known.{Known}
use Rattle.sx_scope.specs.declared.declarations.Known.TheVariants as known
use Rattle.sx_scope.specs.declared.declarations.Symbol.{Symbol}
use Rattle.sx_scope.specs.declared.declarations.Symbol.TheVariants as symbol
use Rattle.sx_scope.specs.declared.walk.Asked.{Asked}
use Rattle.sx_scope.specs.declared.walk.Asked.TheVariants as asked
use Rattle.sx_scope.specs.declared.walk.Gives.{Gives}
use Rattle.sx_scope.specs.declared.walk.Gives.TheVariants as gives
use Rattle.sx_scope.specs.declared.walk.Local.{Local}
use Rattle.sx_scope.specs.declared.walk.LocalKind.{LocalKind}
use Rattle.sx_scope.specs.declared.walk.LocalKind.TheVariants as local_kind
use Rattle.sx_scope.specs.declared.walk.Place.{Place}
use Rattle.sx_scope.specs.declared.walk.Use.TheVariants as uses
use Rattle.sx_scope.specs.declared.walk.Walk.{Walk}
use Rattle.sx_scope.specs.Verdict.{Verdict, typed, untold, depends, fails, Judging, ◌▷◌, both, both_by, need, fault, moved}
use Rattle.sx_scope.specs.Walks.{numbered, with_local, with_locals}
use Rattle.sx_scope.specs.Paths.{path_of, modifiable}
use Rattle.sx_scope.specs.WrittenTypes.{is_void}
use Rattle.sx_calls.specs.Parts.{JudgedExpr, JudgedStatement, JudgedElse}
use Rattle.sx_calls.specs.Operators.{asked_by}

abbrev pub statement : ℕ → StatementForm → Statement
statement site f = record { site = site; form = f }

-- ---- statements one after another
abbrev pub statement_added : List Statement × Statement → Judging (List Statement)
statement_added (ss, s) = typed (ss ++ s ∷ [])

abbrev pub run_statements : Place → Verdict (List Statement) → List JudgedStatement → Verdict (List Statement)
run_statements p v [] = v
run_statements p v (s ∷ ss) = run_statements p (both v (s.value p) ▷ statement_added) ss

abbrev pub inside : Place → Walk → Place
inside p w = record p { outside_block = length w.locals }

-- statements in a scope of their own
abbrev pub scoped : Place → List JudgedStatement → Judging (List Statement)
scoped p ss w = moved (with_locals (length w.locals)) (run_statements (inside p w) (typed [] w) ss)

-- a block, which is a node
abbrev pub block : Place → List JudgedStatement → Judging (List Statement)
block p ss = numbered (λ n. scoped p ss)

-- ---- bodies
abbrev pub has_value : Gives → Bool
has_value gives.Nothing = false
has_value gives.Unknown = true
has_value (gives.Type t) = not (is_void t)

abbrev pub asked_to_give : Gives → Asked
asked_to_give gives.Nothing = asked.Nothing
asked_to_give gives.Unknown = asked.Unknown
asked_to_give (gives.Type t) = asked.Type t

abbrev pub given_back : ℕ → Expr → Judging (List Statement)
given_back site e = typed (statement site (statements.Return (Some e)) ∷ [])

-- a body of one expression gives its value, unless it gives none
abbrev pub single : Gives → List JudgedStatement → Option JudgedExpr
single g (s ∷ []) = cond (has_value g) s.alone None
single g ss = None

abbrev pub site_of : List JudgedStatement → ℕ
site_of [] = 0
site_of (s ∷ ss) = s.site

abbrev pub body_by : Place → List JudgedStatement → Option JudgedExpr → Judging (List Statement)
body_by p ss None = scoped p ss
body_by p ss (Some e) = numbered (λ n w. e.value p (asked_to_give p.gives) uses.Kept w ▷ given_back (site_of ss))

abbrev pub body : Place → List JudgedStatement → Judging (List Statement)
body p ss = body_by p ss (single p.gives ss)

-- whether the end of such statements may be reached
abbrev pub passes_end : List JudgedStatement → Bool
passes_end [] = true
passes_end (s ∷ []) = s.passes
passes_end (s ∷ (t ∷ ss)) = passes_end (t ∷ ss)

abbrev pub knows_value : Gives → Bool
knows_value (gives.Type t) = not (is_void t)
knows_value g = false

-- a body that gives a value doesn't reach its end
abbrev pub lacks_return : Gives → List JudgedStatement → Bool
lacks_return g ss = knows_value g && passes_end ss && is_none (single g ss)

-- ---- declarations in bodies
abbrev pub reserved_by : Option Symbol → Bool
reserved_by (Some symbol.BasicType) = true
reserved_by (Some symbol.Print) = true
reserved_by s = false

abbrev pub is_reserved : Declarations → ℕ → Bool
is_reserved d x = reserved_by (entry d.symbols x)

-- whether one of the locals from a number on has the name
abbrev pub is_taken : ℕ → ℕ → Walk → Bool
is_taken from x w = list_any (λ (l : Local). l.name == x) (drop from w.locals)

abbrev pub local_named : ℕ → Node → LocalKind → Bool → Known → Local
local_named x n k lent t = record { name = x; node = n; kind = k; known = t; lent = lent }

abbrev pub unless_taken : ℕ → Local → Walk → Walk
unless_taken from l w = cond (is_taken from l.name w) w (with_local l w)

abbrev pub is_fresh : Declarations → ℕ → ℕ → Walk → Bool
is_fresh d from x w = not (is_reserved d x || is_taken from x w)

abbrev pub fresh : Declarations → ℕ → ℕ → Node → Judging (Unit {0})
fresh d from x n w = need (is_fresh d from x w) kind.Duplicate n (typed tt) w

-- what is asked of an initial value by the written type
abbrev pub asked_by_type : Ty → Asked
asked_by_type t = cond (is_void t) asked.Unknown (asked.Type t)

abbrev pub asked_by_written : Option (Option Ty) → Asked
asked_by_written None = asked.Unknown
asked_by_written (Some None) = asked.Nothing
asked_by_written (Some (Some t)) = asked_by_type t

-- the outermost declaration that is given a type
abbrev pub outermost : Option Node → Node → Option Node
outermost None n = Some n
outermost (Some m) n = Some m

abbrev pub giving_in : Place → Bool → Node → Place
giving_in p true n = p
giving_in p false n = record p { giving = outermost p.giving n }

abbrev pub type_by : Option Ty → Expr → Ty
type_by None e = e.ty
type_by (Some t) e = t

-- no declaration has the type `Void`
abbrev pub declared_with : Node → Unit {0} × (Option Ty × Expr) → Judging Expr
declared_with n (u, (t, e)) = need (not (is_void (type_by t e))) kind.Mismatch n (typed e)

abbrev pub local_kind_of : Bool → LocalKind
local_kind_of true = local_kind.Constant
local_kind_of false = local_kind.Variable

abbrev pub local_form : Bool → Node → ℕ → Expr → StatementForm
local_form true n x e = statements.Constant n e
local_form false n x e = statements.Local (record { node = n; name = x }) e

abbrev pub declared_local : Bool → Node → ℕ → ℕ → Expr → Judging Statement
declared_local constant n x site e = typed (statement site (local_form constant n x e))

abbrev pub is_void_option : Option Ty → Bool
is_void_option None = false
is_void_option (Some t) = is_void t

-- nor is it written so
abbrev pub not_void_written : Node → Option Ty → Judging (Option Ty)
not_void_written n t = need (not (is_void_option t)) kind.Mismatch n (typed t)

abbrev pub local_value : Declarations → Place → ℕ → Bool → Judging (Option Ty) → JudgedExpr → Node → Judging Expr
local_value d p x written ty e n w =
    both (fresh d p.outside_block x n w) (λ w. both_by (ty w ▷ not_void_written n) (λ t. e.value (giving_in p written n) (asked_by_written t) uses.Kept)) ▷ declared_with n

-- the written type of a local, where it stands
abbrev pub stated_type : Verdict (Option Ty) → Option Ty
stated_type (typed t w) = t
stated_type (untold w) = None
stated_type (depends w) = None
stated_type (fails f fs w) = None

abbrev pub local_stated : Declarations → Place → ℕ → Judging (Option Ty) → Node → Walk → Option Ty
local_stated d p x ty n w = cond (is_fresh d p.outside_block x w) (stated_type (ty w ▷ not_void_written n)) None

-- A written type stands, whatever the value depends on: a local hangs on its value only where the value gives its type.
abbrev pub written_known : Option Ty → Known → Known
written_known None k = k
written_known (Some t) k = known.Type t

abbrev pub known_local : Option Ty → Verdict Expr → Known
known_local t (typed e w) = known.Type e.ty
known_local t (untold w) = written_known t known.Untold
known_local t (depends w) = written_known t known.Failed
known_local t (fails f fs w) = written_known t known.Failed

-- a declaration of a block; its name comes into scope behind it
abbrev pub declares : Place → ℕ → Bool → Node → Option Ty → Verdict Expr → Verdict Expr
declares p x constant n t v = moved (unless_taken p.outside_block (local_named x n (local_kind_of constant) false (known_local t v))) v

abbrev pub local_statement : Declarations → Bool → ℕ → ℕ → Bool → Judging (Option Ty) → JudgedExpr → Place → Judging Statement
local_statement d constant x site written ty e p =
    numbered (λ n w. declares p x constant n (local_stated d p x ty n w) (local_value d p x written ty e n w) ▷ declared_local constant n x site)

-- ---- assignments
abbrev pub asked_of_left : Assignment → Asked
asked_of_left assignments.Store = asked.Nothing
asked_of_left a = asked.Type ty.Int

abbrev pub assignable : Expr → Judging Expr
assignable e = need (modifiable e) kind.NotAssignable e.node (typed e)

abbrev pub asked_of_right : Assignment → Option Expr → Asked
asked_of_right assignments.Store left = asked_by left
asked_of_right a left = asked.Type ty.Int

abbrev pub assignment_form : Assignment → Lvalue → Expr → StatementForm
assignment_form assignments.Store l e = statements.Assign l e
assignment_form assignments.Add l e = statements.Compound arithmetic.Add l e
assignment_form assignments.Subtract l e = statements.Compound arithmetic.Subtract l e
assignment_form assignments.Multiply l e = statements.Compound arithmetic.Multiply l e
assignment_form assignments.Divide l e = statements.Compound arithmetic.Divide l e
assignment_form assignments.Remainder l e = statements.Compound arithmetic.Remainder l e

abbrev pub assigned_form : Assignment → Expr → Expr → StatementForm
assigned_form a left e = assignment_form a (path_of left) e

abbrev pub assigned : Assignment → ℕ → Expr × Expr → Judging Statement
assigned a site (left, e) = typed (statement site (assigned_form a left e))

abbrev pub assignment : Assignment → JudgedExpr → JudgedExpr → ℕ → Place → Judging Statement
assignment a l e site p =
    numbered (λ n w. both_by (l.value p (asked_of_left a) uses.Modified w ▷ assignable) (λ left. e.value p (asked_of_right a left) uses.Kept) ▷ assigned a site)

-- ---- the other statements
abbrev pub expr_statement : JudgedExpr → ℕ → Place → Judging Statement
expr_statement e site p = numbered (λ n w. e.value p asked.Nothing uses.Kept w ▷ (λ e. typed (statement site (statements.Expr e))))

abbrev pub else_block : Place → JudgedElse → Judging (List Statement)
else_block p JudgedElse.Absent w = typed [] w
else_block p (JudgedElse.Block ss) w = block p ss w
else_block p (JudgedElse.ElseIf s) w = s.value p w ▷ (λ s. typed (s ∷ []))

abbrev pub if_made : ℕ → (Expr × List Statement) × List Statement → Judging Statement
if_made site ((c, a), b) = typed (statement site (statements.If c a b))

abbrev pub if_statement : JudgedExpr → List JudgedStatement → JudgedElse → ℕ → Place → Judging Statement
if_statement c a b site p =
    numbered (λ n w. both (both (c.value p (asked.Type ty.Bool) uses.Kept w) (block p a)) (else_block p b) ▷ if_made site)

abbrev pub in_loop : Place → Place
in_loop p = record p { in_loop = true }

abbrev pub while_made : ℕ → Expr × List Statement → Judging Statement
while_made site (c, a) = typed (statement site (statements.While c a))

abbrev pub while_statement : JudgedExpr → List JudgedStatement → ℕ → Place → Judging Statement
while_statement c a site p = numbered (λ n w. both (c.value p (asked.Type ty.Bool) uses.Kept w) (block (in_loop p) a) ▷ while_made site)

abbrev pub returned : ℕ → Option Expr → Judging Statement
returned site e = typed (statement site (statements.Return e))

abbrev pub return_with : Gives → JudgedExpr → ℕ → Node → Place → Judging Statement
return_with gives.Nothing e site n p w = e.value p asked.Nothing uses.Kept w ▷ (λ e. fault kind.BreakOutside n)
return_with gives.Unknown e site n p w = e.value p asked.Unknown uses.Kept w ▷ (λ e. returned site (Some e))
return_with (gives.Type t) e site n p w =
    cond (is_void t) (e.value p asked.Nothing uses.Kept w ▷ (λ e. fault kind.Mismatch n)) (e.value p (asked.Type t) uses.Kept w ▷ (λ e. returned site (Some e)))

abbrev pub return_alone : Gives → ℕ → Node → Judging Statement
return_alone gives.Nothing site n = fault kind.BreakOutside n
return_alone gives.Unknown site n = returned site None
return_alone (gives.Type t) site n = need (is_void t) kind.Mismatch n (returned site None)

abbrev pub return_by : Option JudgedExpr → ℕ → Place → Node → Judging Statement
return_by None site p n = return_alone p.gives site n
return_by (Some e) site p n = return_with p.gives e site n p

abbrev pub return_statement : Option JudgedExpr → ℕ → Place → Judging Statement
return_statement e site p = numbered (return_by e site p)

abbrev pub leaving : StatementForm → ℕ → Place → Judging Statement
leaving f site p = numbered (λ n. need p.in_loop kind.BreakOutside n (typed (statement site f)))

-- ---- how statements end
abbrev pub any_breaks : List JudgedStatement → Bool
any_breaks ss = list_any (λ (s : JudgedStatement). s.breaks) ss

abbrev pub else_breaks : JudgedElse → Bool
else_breaks JudgedElse.Absent = false
else_breaks (JudgedElse.Block ss) = any_breaks ss
else_breaks (JudgedElse.ElseIf s) = s.breaks

abbrev pub else_passes : JudgedElse → Bool
else_passes JudgedElse.Absent = true
else_passes (JudgedElse.Block ss) = passes_end ss
else_passes (JudgedElse.ElseIf s) = s.passes
