-- What is judged of the parts of a tree.
use Rattle.std.specs.Prelude.{ℕ, ◌+◌, Bool, true, List, [], ◌∷◌, Option, Some, None}
use Rattle.sx_tree.specs.declared.operators.BinaryOperator.{BinaryOperator}
use Rattle.sx_typed.specs.declared.code.Expr.{Expr}
use Rattle.sx_typed.specs.declared.code.Statement.{Statement}
use Rattle.sx_scope.specs.declared.walk.Asked.{Asked}
use Rattle.sx_scope.specs.declared.walk.Asked.TheVariants as asked
use Rattle.sx_scope.specs.declared.walk.Place.{Place}
use Rattle.sx_scope.specs.declared.walk.Use.{Use}
use Rattle.sx_scope.specs.Verdict.{Judging}
use Rattle.sx_calls.specs.declared.passed.Shape.{Shape}

-- an expression: whether it is a name alone, the word `self`, the word `true`, and what it is where something is asked of it
pub record JudgedExpr : Type 0 where
  pub name : Option ℕ
  pub is_self : Bool
  pub is_true : Bool
  pub value : Place → Asked → Use → Judging Expr

-- a further operand of a chain
pub record JudgedLink : Type 0 where
  pub operator : BinaryOperator
  pub operand : JudgedExpr

-- an argument
pub record JudgedArgument : Type 0 where
  pub shape : Shape
  pub value : JudgedExpr

-- a part behind an operand
pub data JudgedPart : Type 0 where
  Member : ℕ → Option JudgedExpr → JudgedPart
  Index : List JudgedExpr → JudgedPart
  Call : List JudgedArgument → Option JudgedExpr → JudgedPart

-- a statement: the expression that it is alone, where it starts, whether what follows it may be reached, whether it leaves the
-- loop around it, and what it is
pub record JudgedStatement : Type 0 where
  pub alone : Option JudgedExpr
  pub site : ℕ
  pub passes : Bool
  pub breaks : Bool
  pub value : Place → Judging Statement

-- what follows the block of an `if`: nothing, or statements, which may be one `if` that takes no node for a block
pub data JudgedElse : Type 0 where
  Absent : JudgedElse
  Block : List JudgedStatement → JudgedElse
  ElseIf : JudgedStatement → JudgedElse

-- a closure literal behind a call, as an argument
abbrev pub trailing_shape : Shape
trailing_shape = record { label = None; ampersand = None; trailing = true }

abbrev pub trailing : Option JudgedExpr → List JudgedArgument
trailing None = []
trailing (Some c) = record { shape = trailing_shape; value = c } ∷ []

-- how many nodes a part behind an operand makes that start at the operand
abbrev pub own_nodes_of : JudgedPart → ℕ
own_nodes_of (Member x None) = 1
own_nodes_of (Member x (Some c)) = 2
own_nodes_of (Index is) = 1
own_nodes_of (Call as_ c) = 1

abbrev pub own_nodes : List JudgedPart → ℕ
own_nodes [] = 0
own_nodes (p ∷ ps) = own_nodes_of p + own_nodes ps

-- only of the last part of a chain something is asked
abbrev pub asked_before : {X : Type 0} → List X → Asked → Asked
asked_before [] q = q
asked_before (x ∷ xs) q = asked.Nothing
