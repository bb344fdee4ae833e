-- A visit of a tree in the order of its nodes, which counts them and gathers the function types: those that are written, those of
-- functions, and those of closure literals whose signature has types. Each is gathered once, where it is first seen
-- (The Swift Programming Language, "Types", "Functions", "Closures").
use Rattle.std.specs.Prelude.{ℕ, ◌+◌, Bool, List, [], ◌∷◌, ◌++◌, map, length, Option, Some, None, is_some, option_map, cond}
use Rattle.sx_tree.specs.declared.written_types.WrittenType.{WrittenType, fold-WrittenType, WrittenType-F}
use Rattle.sx_tree.specs.declared.written_types.TypeForm.{TypeForm-F}
use Rattle.sx_tree.specs.declared.written_types.TypeParameter.{TypeParameter, fold-TypeParameter, TypeParameter-F}
use Rattle.sx_tree.specs.declared.written_types.ClosureParameter.{ClosureParameter}
use Rattle.sx_tree.specs.declared.written_types.Signature.{Signature}
use Rattle.sx_tree.specs.declared.written_types.Signature.TheVariants as signatures
use Rattle.sx_tree.specs.declared.code.Argument.{Argument, fold-Argument, Argument-F}
use Rattle.sx_tree.specs.declared.code.Block.{Block, fold-Block, Block-F}
use Rattle.sx_tree.specs.declared.code.Closure.{Closure, fold-Closure, Closure-F}
use Rattle.sx_tree.specs.declared.code.Else.{Else, fold-Else, Else-F}
use Rattle.sx_tree.specs.declared.code.Expr.{Expr, fold-Expr, Expr-F}
use Rattle.sx_tree.specs.declared.code.ExprForm.{ExprForm, fold-ExprForm, ExprForm-F}
use Rattle.sx_tree.specs.declared.code.Link.{Link, fold-Link, Link-F}
use Rattle.sx_tree.specs.declared.code.Local.{Local, fold-Local, Local-F}
use Rattle.sx_tree.specs.declared.code.Part.{Part, fold-Part, Part-F}
use Rattle.sx_tree.specs.declared.code.Statement.{Statement, fold-Statement, Statement-F}
use Rattle.sx_tree.specs.declared.code.StatementForm.{StatementForm, fold-StatementForm, StatementForm-F}
use Rattle.sx_types.specs.declared.types.FunctionParameter.{FunctionParameter}
use Rattle.sx_types.specs.declared.types.FunctionType.{FunctionType}
use Rattle.sx_types.specs.declared.types.Ty.{Ty}
use Rattle.sx_types.specs.declared.types.Ty.TheVariants as ty
use Rattle.sx_types.specs.Same.{number_of}
use Rattle.sx_outline.specs.declared.visit.Visit.{Visit}

-- how far it is: the number of the next node, and the function types so far
abbrev pub Visited : Type 0
Visited = Visit

abbrev pub Visiting : Type 0
Visiting = Visited → Visited

-- a part that tells something, if all in it is known
abbrev pub Finding : Type 0 → Type 0
Finding A = Visited → Option A × Visited

-- so many nodes are passed
abbrev pub counted : ℕ → Visiting
counted n v = record v { next = n + v.next }

-- parts one behind the other
abbrev pub all : List Visiting → Visiting
all [] v = v
all (p ∷ ps) v = all ps (p v)

abbrev pub if_there : Option Visiting → Visiting
if_there None v = v
if_there (Some p) v = p v

-- ---- function types
abbrev pub with_function : List FunctionType → FunctionType → List FunctionType
with_function fs f = cond (is_some (number_of fs f)) fs (fs ++ f ∷ [])

abbrev pub function_number : List FunctionType → FunctionType → Option Ty
function_number fs f = option_map ty.Func (number_of fs f)

abbrev pub gathered : FunctionType → Finding Ty
gathered f v = (function_number (with_function v.functions f) f, record v { functions = with_function v.functions f })

-- where the parameters and the result are known
abbrev pub function_found : Option (List FunctionParameter) → Option Ty → Finding Ty
function_found (Some ps) (Some r) v = gathered (record { parameters = ps; result = r }) v
function_found ps r v = (None, v)

abbrev pub one_more : Option (List FunctionParameter) → Option FunctionParameter → Option (List FunctionParameter)
one_more (Some ps) (Some p) = Some (ps ++ p ∷ [])
one_more ps p = None

abbrev pub run_with : (Option (List FunctionParameter) → Visited → Option (List FunctionParameter) × Visited) → Option (List FunctionParameter) → Option FunctionParameter × Visited → Option (List FunctionParameter) × Visited
run_with rest ps (p, v) = rest (one_more ps p) v

-- parameters one after another, behind those before
abbrev pub run_parameters : List (Finding FunctionParameter) → Option (List FunctionParameter) → Visited → Option (List FunctionParameter) × Visited
run_parameters [] ps v = (ps, v)
run_parameters (p ∷ rest) ps v = run_with (run_parameters rest) ps (p v)

abbrev pub function_with : Option (List FunctionParameter) → Option Ty × Visited → Option Ty × Visited
function_with ps (r, v) = function_found ps r v

abbrev pub function_behind : Finding Ty → Option (List FunctionParameter) × Visited → Option Ty × Visited
function_behind r (ps, v) = function_with ps (r v)

-- the parameters, then the result, and then the function type
abbrev pub function_of : List (Finding FunctionParameter) → Finding Ty → Finding Ty
function_of ps r v = function_behind r (run_parameters ps (Some []) v)

abbrev pub passed : Bool → Option Ty × Visited → Option FunctionParameter × Visited
passed inout (None, v) = (None, v)
passed inout (Some t, v) = (Some (record { inout = inout; ty = t }), v)

-- ---- written types
abbrev pub type_parameter_step : TypeParameter-F (Finding Ty) (Finding FunctionParameter) (Finding Ty) → Finding FunctionParameter
type_parameter_step p v = passed p.inout (p.ty v)

abbrev pub type_step : WrittenType-F (Finding Ty) (Finding FunctionParameter) (Finding Ty) → Finding Ty
type_step t = t.form

-- ---- expressions and statements
-- what stands behind an operand makes nodes before it, and has nodes in it
pub record PartVisit : Type 0 where
  pub own : ℕ
  pub inner : Visiting

-- that of the call with a trailing closure alone
abbrev pub called : {X : Type 0} → Option X → ℕ
called None = 0
called (Some x) = 1

-- a closure as an argument: two nodes
abbrev pub trailing : Option Visiting → Visiting
trailing None v = v
trailing (Some c) v = c (counted 1 v)

abbrev pub own_of : List PartVisit → ℕ
own_of [] = 0
own_of (p ∷ ps) = p.own + own_of ps

abbrev pub inner_of : List PartVisit → Visiting
inner_of [] v = v
inner_of (p ∷ ps) v = inner_of ps (p.inner v)

abbrev pub else_step : Else-F Visiting Visiting PartVisit Visiting Visiting Visiting Visiting Visiting Visiting Visiting Visiting → Visiting
else_step Else-F.Absent v = v
else_step (Else-F.Block b) v = b v
else_step (Else-F.ElseIf s) v = s v

abbrev pub form_step : ExprForm-F Visiting Visiting PartVisit Visiting Visiting Visiting Visiting Visiting Visiting Visiting Visiting → Visiting
form_step (ExprForm-F.Int n) v = counted 1 v
form_step ExprForm-F.LeastInt v = counted 1 v
form_step (ExprForm-F.Bool b) v = counted 1 v
form_step (ExprForm-F.Named n c) v = trailing c (counted (called c + 1) v)
form_step ExprForm-F.SelfWord v = counted 1 v
form_step (ExprForm-F.Bracketed e) v = e (counted 1 v)
form_step (ExprForm-F.PrintText n) v = counted 1 v
form_step (ExprForm-F.Negate e) v = e (counted 1 v)
form_step (ExprForm-F.Not e) v = e (counted 1 v)
form_step (ExprForm-F.Chain e ls) v = all ls (e (counted (length ls) v))
form_step (ExprForm-F.Postfix e ps) v = inner_of ps (e (counted (own_of ps) v))
form_step (ExprForm-F.Closure c) v = c v
form_step (ExprForm-F.Array es) v = all es (counted 1 v)

abbrev pub part_step : Part-F Visiting Visiting PartVisit Visiting Visiting Visiting Visiting Visiting Visiting Visiting Visiting → PartVisit
part_step (Part-F.Member end n c) = record { own = called c + 1; inner = trailing c }
part_step (Part-F.Index end es) = record { own = 1; inner = all es }
part_step (Part-F.Call end as_ c) = record { own = 1; inner = λ v. trailing c (all as_ v) }

abbrev pub statement_form_step : StatementForm-F Visiting Visiting PartVisit Visiting Visiting Visiting Visiting Visiting Visiting Visiting Visiting → Visiting
statement_form_step (StatementForm-F.Expr e) v = e (counted 1 v)
statement_form_step (StatementForm-F.Assign o a b) v = b (a (counted 1 v))
statement_form_step (StatementForm-F.If c b e) v = e (b (c (counted 1 v)))
statement_form_step (StatementForm-F.While c b) v = b (c (counted 1 v))
statement_form_step (StatementForm-F.Return e) v = if_there e (counted 1 v)
statement_form_step StatementForm-F.Break v = counted 1 v
statement_form_step StatementForm-F.Continue v = counted 1 v
statement_form_step (StatementForm-F.Local l) v = l v

abbrev pub argument_step : Argument-F Visiting Visiting PartVisit Visiting Visiting Visiting Visiting Visiting Visiting Visiting Visiting → Visiting
argument_step a v = a.value (counted 1 v)

abbrev pub block_step : Block-F Visiting Visiting PartVisit Visiting Visiting Visiting Visiting Visiting Visiting Visiting Visiting → Visiting
block_step b v = all b.statements (counted 1 v)

abbrev pub expr_step : Expr-F Visiting Visiting PartVisit Visiting Visiting Visiting Visiting Visiting Visiting Visiting Visiting → Visiting
expr_step e = e.form

abbrev pub link_step : Link-F Visiting Visiting PartVisit Visiting Visiting Visiting Visiting Visiting Visiting Visiting Visiting → Visiting
link_step l = l.operand

abbrev pub statement_step : Statement-F Visiting Visiting PartVisit Visiting Visiting Visiting Visiting Visiting Visiting Visiting Visiting → Visiting
statement_step s = s.form

-- by the types that names mean
module _ (names : ℕ → Option Ty) where
  abbrev pub type_form_step : TypeForm-F (Finding Ty) (Finding FunctionParameter) (Finding Ty) → Finding Ty
  type_form_step (TypeForm-F.Named x) v = (names x, counted 1 v)
  type_form_step TypeForm-F.Unit v = (Some ty.Void, counted 1 v)
  type_form_step (TypeForm-F.Bracketed t) v = t (counted 1 v)
  type_form_step (TypeForm-F.Function ps r) v = function_of ps r (counted 1 v)
  type_form_step (TypeForm-F.Array x) v = (Some ty.Array, counted 1 v)

  abbrev pub type_visit : WrittenType → Finding Ty
  type_visit = fold-WrittenType (Finding Ty) (Finding FunctionParameter) (Finding Ty) type_form_step type_parameter_step type_step

  abbrev pub type_parameter_visit : TypeParameter → Finding FunctionParameter
  type_parameter_visit = fold-TypeParameter (Finding Ty) (Finding FunctionParameter) (Finding Ty) type_form_step type_parameter_step type_step

  -- a type that may be written, and what it is where it isn't
  abbrev pub type_or : Ty → Option WrittenType → Finding Ty
  type_or t None v = (Some t, v)
  type_or t (Some w) v = type_visit w v

  -- only its nodes and function types count
  abbrev pub type_passed : Option WrittenType → Visiting
  type_passed o v = (type_or ty.Void o v).1

  -- ---- the signatures of closure literals
  abbrev pub closure_parameter_visit : ClosureParameter → Finding FunctionParameter
  closure_parameter_visit p v = passed p.inout (type_visit p.ty (counted 1 v))

  abbrev pub signature_visit : Signature → Visiting
  signature_visit signatures.Absent v = v
  signature_visit (signatures.Names ns) v = counted (length ns) v
  signature_visit (signatures.Typed ps r) v = (function_of (map closure_parameter_visit ps) (type_or ty.Void r) v).1

  -- ---- closure literals and locals
  abbrev pub closure_step : Closure-F Visiting Visiting PartVisit Visiting Visiting Visiting Visiting Visiting Visiting Visiting Visiting → Visiting
  closure_step c v = all c.body (signature_visit c.signature (counted 1 v))

  abbrev pub local_step : Local-F Visiting Visiting PartVisit Visiting Visiting Visiting Visiting Visiting Visiting Visiting Visiting → Visiting
  local_step l v = l.value (type_passed l.ty (counted 1 v))

  abbrev pub else_visit : Else → Visiting
  else_visit = fold-Else Visiting Visiting PartVisit Visiting Visiting Visiting Visiting Visiting Visiting Visiting Visiting else_step form_step part_step statement_form_step argument_step block_step closure_step expr_step link_step local_step statement_step

  abbrev pub form_visit : ExprForm → Visiting
  form_visit = fold-ExprForm Visiting Visiting PartVisit Visiting Visiting Visiting Visiting Visiting Visiting Visiting Visiting else_step form_step part_step statement_form_step argument_step block_step closure_step expr_step link_step local_step statement_step

  abbrev pub part_visit : Part → PartVisit
  part_visit = fold-Part Visiting Visiting PartVisit Visiting Visiting Visiting Visiting Visiting Visiting Visiting Visiting else_step form_step part_step statement_form_step argument_step block_step closure_step expr_step link_step local_step statement_step

  abbrev pub statement_form_visit : StatementForm → Visiting
  statement_form_visit = fold-StatementForm Visiting Visiting PartVisit Visiting Visiting Visiting Visiting Visiting Visiting Visiting Visiting else_step form_step part_step statement_form_step argument_step block_step closure_step expr_step link_step local_step statement_step

  abbrev pub argument_visit : Argument → Visiting
  argument_visit = fold-Argument Visiting Visiting PartVisit Visiting Visiting Visiting Visiting Visiting Visiting Visiting Visiting else_step form_step part_step statement_form_step argument_step block_step closure_step expr_step link_step local_step statement_step

  abbrev pub block_visit : Block → Visiting
  block_visit = fold-Block Visiting Visiting PartVisit Visiting Visiting Visiting Visiting Visiting Visiting Visiting Visiting else_step form_step part_step statement_form_step argument_step block_step closure_step expr_step link_step local_step statement_step

  abbrev pub closure_visit : Closure → Visiting
  closure_visit = fold-Closure Visiting Visiting PartVisit Visiting Visiting Visiting Visiting Visiting Visiting Visiting Visiting else_step form_step part_step statement_form_step argument_step block_step closure_step expr_step link_step local_step statement_step

  abbrev pub expr_visit : Expr → Visiting
  expr_visit = fold-Expr Visiting Visiting PartVisit Visiting Visiting Visiting Visiting Visiting Visiting Visiting Visiting else_step form_step part_step statement_form_step argument_step block_step closure_step expr_step link_step local_step statement_step

  abbrev pub link_visit : Link → Visiting
  link_visit = fold-Link Visiting Visiting PartVisit Visiting Visiting Visiting Visiting Visiting Visiting Visiting Visiting else_step form_step part_step statement_form_step argument_step block_step closure_step expr_step link_step local_step statement_step

  abbrev pub local_visit : Local → Visiting
  local_visit = fold-Local Visiting Visiting PartVisit Visiting Visiting Visiting Visiting Visiting Visiting Visiting Visiting else_step form_step part_step statement_form_step argument_step block_step closure_step expr_step link_step local_step statement_step

  abbrev pub statement_visit : Statement → Visiting
  statement_visit = fold-Statement Visiting Visiting PartVisit Visiting Visiting Visiting Visiting Visiting Visiting Visiting Visiting else_step form_step part_step statement_form_step argument_step block_step closure_step expr_step link_step local_step statement_step
