-- Operators (The Swift Programming Language, "Basic Operators").
use Rattle.std.specs.Prelude.{ℕ, ◌+◌, Bool, true, false, ◌||◌, List, [], ◌∷◌, length, Option, Some, None}
use Rattle.sx_span.specs.declared.places.Node.{Node}
use Rattle.sx_tree.specs.declared.operators.BinaryOperator.{BinaryOperator}
use Rattle.sx_tree.specs.declared.operators.BinaryOperator.TheVariants as binary
use Rattle.sx_types.specs.declared.types.Ty.{Ty}
use Rattle.sx_types.specs.declared.types.Ty.TheVariants as ty
use Rattle.sx_typed.specs.declared.code.Arithmetic.TheVariants as arithmetic
use Rattle.sx_typed.specs.declared.code.Expr.{Expr}
use Rattle.sx_typed.specs.declared.code.Form.{Form}
use Rattle.sx_typed.specs.declared.code.Form.TheVariants as forms
use Rattle.sx_typed.specs.declared.code.Operator.TheVariants as operator
use Rattle.sx_scope.specs.declared.stop.TypeKind.TheVariants as kind
use Rattle.sx_scope.specs.declared.walk.Asked.{Asked}
use Rattle.sx_scope.specs.declared.walk.Asked.TheVariants as asked
use Rattle.sx_scope.specs.declared.walk.Place.{Place}
use Rattle.sx_scope.specs.declared.walk.Use.TheVariants as uses
use Rattle.sx_scope.specs.Verdict.{Verdict, typed, Judging, ◌▷◌, both_by, need}
use Rattle.sx_scope.specs.Walks.{node}
use Rattle.sx_scope.specs.Names.{agrees, same}
use Rattle.sx_scope.specs.Paths.{an_expr}
use Rattle.sx_calls.specs.Parts.{JudgedLink}

-- what an operator asks of its left operand
abbrev pub left_asked : BinaryOperator → Asked
left_asked binary.Or = asked.Type ty.Bool
left_asked binary.And = asked.Type ty.Bool
left_asked binary.Equal = asked.Nothing
left_asked binary.NotEqual = asked.Nothing
left_asked binary.Same = asked.Nothing
left_asked binary.NotSame = asked.Nothing
left_asked o = asked.Type ty.Int

abbrev pub is_basic : Ty → Bool
is_basic t = same t ty.Int || same t ty.Bool

abbrev pub is_reference : Ty → Bool
is_reference (ty.Class k) = true
is_reference t = false

-- whether a left operand of which nothing is asked may be one
abbrev pub fits_left : BinaryOperator → Ty → Bool
fits_left binary.Equal t = is_basic t
fits_left binary.NotEqual t = is_basic t
fits_left binary.Same t = is_reference t
fits_left binary.NotSame t = is_reference t
fits_left o t = true

abbrev pub as_left : Expr → Asked
as_left e = asked.Type e.ty

abbrev pub asked_by : Option Expr → Asked
asked_by None = asked.Unknown
asked_by (Some e) = asked.Type e.ty

-- what it asks of its right operand
abbrev pub right_asked : BinaryOperator → Option Expr → Asked
right_asked binary.Equal left = asked_by left
right_asked binary.NotEqual left = asked_by left
right_asked binary.Same left = asked_by left
right_asked binary.NotSame left = asked_by left
right_asked o left = left_asked o

abbrev pub result_of : BinaryOperator → Ty
result_of binary.Add = ty.Int
result_of binary.Subtract = ty.Int
result_of binary.Multiply = ty.Int
result_of binary.Divide = ty.Int
result_of binary.Remainder = ty.Int
result_of o = ty.Bool

abbrev pub operation : BinaryOperator → Expr → Expr → Form
operation binary.Or a b = forms.Or a b
operation binary.And a b = forms.And a b
operation binary.Less a b = forms.Operation operator.Less a b
operation binary.Greater a b = forms.Operation operator.Greater a b
operation binary.LessEqual a b = forms.Operation operator.LessEqual a b
operation binary.GreaterEqual a b = forms.Operation operator.GreaterEqual a b
operation binary.Equal a b = forms.Operation operator.Equal a b
operation binary.NotEqual a b = forms.Operation operator.NotEqual a b
operation binary.Same a b = forms.Operation operator.Same a b
operation binary.NotSame a b = forms.Operation operator.NotSame a b
operation binary.Add a b = forms.Operation (operator.Arithmetic arithmetic.Add) a b
operation binary.Subtract a b = forms.Operation (operator.Arithmetic arithmetic.Subtract) a b
operation binary.Multiply a b = forms.Operation (operator.Arithmetic arithmetic.Multiply) a b
operation binary.Divide a b = forms.Operation (operator.Arithmetic arithmetic.Divide) a b
operation binary.Remainder a b = forms.Operation (operator.Arithmetic arithmetic.Remainder) a b

abbrev pub operated : BinaryOperator → Node → ℕ → Expr × Expr → Judging Expr
operated o n site (a, b) = typed (an_expr n site (result_of o) (operation o a b))

abbrev pub left_fitting : BinaryOperator → Expr → Judging Expr
left_fitting o e = need (fits_left o e.ty) kind.Mismatch e.node (typed e)

-- the operation at node n of a link and what stands to its left
abbrev pub linked : Place → Node → ℕ → JudgedLink → Verdict Expr → Verdict Expr
linked p n site l v =
    both_by (v ▷ left_fitting l.operator) (λ left. l.operand.value p (right_asked l.operator left) uses.Kept) ▷ operated l.operator n site

-- the links one after another; each makes a node with all that stands to its left, and the whole has the number `start`
abbrev pub run_links : Place → ℕ → ℕ → Verdict Expr → List JudgedLink → Verdict Expr
run_links p start site v [] = v
run_links p start site v (l ∷ ls) = run_links p start site (linked p (node (start + length ls)) site l v) ls

abbrev pub asked_first : List JudgedLink → Asked
asked_first [] = asked.Nothing
asked_first (l ∷ ls) = left_asked l.operator

-- what is given agrees with what is asked
abbrev pub given : Node → Asked → Expr → Judging Expr
given n q e = need (agrees q e.ty) kind.Mismatch n (typed e)
