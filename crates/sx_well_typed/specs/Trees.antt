-- What is seen of a tree before its types are known.
use Rattle.std.specs.Prelude.{ℕ, ◌+◌, Bool, true, false, List, [], ◌∷◌, Option, Some, None, cond}
use Rattle.sx_tree.specs.declared.code.Argument.{Argument}
use Rattle.sx_tree.specs.declared.code.Block.{Block}
use Rattle.sx_tree.specs.declared.code.Closure.{Closure}
use Rattle.sx_tree.specs.declared.code.Else.{Else}
use Rattle.sx_tree.specs.declared.code.Expr.{Expr}
use Rattle.sx_tree.specs.declared.code.ExprForm.{ExprForm, ExprForm-F, out-ExprForm}
use Rattle.sx_tree.specs.declared.code.Link.{Link}
use Rattle.sx_tree.specs.declared.code.Local.{Local}
use Rattle.sx_tree.specs.declared.code.Part.{Part, Part-F, out-Part}
use Rattle.sx_tree.specs.declared.code.Statement.{Statement}
use Rattle.sx_tree.specs.declared.code.StatementForm.{StatementForm, StatementForm-F, out-StatementForm}
use Rattle.sx_scope.specs.declared.walk.Asked.{Asked}
use Rattle.sx_scope.specs.declared.walk.Asked.TheVariants as asked
use Rattle.sx_scope.specs.declared.walk.Gives.{Gives}
use Rattle.sx_calls.specs.Operators.{left_asked}
use Rattle.sx_bodies.specs.Statements.{has_value}

-- one level of a tree over the parts themselves
abbrev pub OfParts : (Type 0 → Type 0 → Type 0 → Type 0 → Type 0 → Type 0 → Type 0 → Type 0 → Type 0 → Type 0 → Type 0 → Type 0) → Type 0
OfParts F = F Else ExprForm Part StatementForm Argument Block Closure Expr Link Local Statement

-- an expression that is a name alone
abbrev pub name_in : OfParts ExprForm-F → Option ℕ
name_in (ExprForm-F.Named x None) = Some x
name_in f = None

abbrev pub alone_name : Expr → Option ℕ
alone_name e = name_in (out-ExprForm e.form)

-- the word `self`
abbrev pub self_in : OfParts ExprForm-F → Bool
self_in ExprForm-F.SelfWord = true
self_in f = false

abbrev pub is_self_word : Expr → Bool
is_self_word e = self_in (out-ExprForm e.form)

-- what is asked of the first operand of a chain: by the first operator
abbrev pub asked_of_first : List Link → Asked
asked_of_first [] = asked.Nothing
asked_of_first (l ∷ ls) = left_asked l.operator

-- how many nodes parts make that start at the operand
abbrev pub nodes_in : OfParts Part-F → ℕ
nodes_in (Part-F.Member end x None) = 1
nodes_in (Part-F.Member end x (Some c)) = 2
nodes_in (Part-F.Index end is) = 1
nodes_in (Part-F.Call end as_ c) = 1

abbrev pub nodes_of : List Part → ℕ
nodes_of [] = 0
nodes_of (x ∷ ps) = nodes_in (out-Part x) + nodes_of ps

-- whether the arguments of a call stand first
abbrev pub calls_in : OfParts Part-F → Bool
calls_in (Part-F.Call end as_ c) = true
calls_in x = false

abbrev pub calls_first : List Part → Bool
calls_first [] = false
calls_first (x ∷ ps) = calls_in (out-Part x)

-- the expression that a statement is alone
abbrev pub value_in : OfParts StatementForm-F → Option Expr
value_in (StatementForm-F.Expr e) = Some e
value_in f = None

-- the expression that a body is alone which gives a value
abbrev pub alone_value : Gives → List Statement → Option Expr
alone_value g (s ∷ []) = cond (has_value g) (value_in (out-StatementForm s.form)) None
alone_value g ss = None
