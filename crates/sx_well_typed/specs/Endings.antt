-- Bodies that don't end without the value that they are to give (The Swift Programming Language, "Control Transfer Statements",
-- "Loop Statements").
use Rattle.std.specs.Prelude.{◌≡◌, Bool, true, false, List, [], ◌∷◌, Option, Some}
use Rattle.sx_tree.specs.declared.code.Block.{Block, out-Block}
use Rattle.sx_tree.specs.declared.code.Else.{Else}
use Rattle.sx_tree.specs.declared.code.Else.TheVariants as otherwises
use Rattle.sx_tree.specs.declared.code.Expr.{Expr}
use Rattle.sx_tree.specs.declared.code.ExprForm.{ExprForm-F, out-ExprForm}
use Rattle.sx_tree.specs.declared.code.Statement.{Statement}
use Rattle.sx_tree.specs.declared.code.StatementForm.{StatementForm-F, out-StatementForm}
use Rattle.sx_tree.specs.declared.code.StatementForm.TheVariants as statement_forms
use Rattle.sx_types.specs.declared.types.Ty.{Ty}
use Rattle.sx_scope.specs.declared.walk.Gives.TheVariants as gives
use Rattle.sx_scope.specs.WrittenTypes.{is_void}
use Rattle.sx_well_typed.specs.Trees.{OfParts, alone_value}

-- the word `true`
abbrev pub true_in : OfParts ExprForm-F → Bool
true_in (ExprForm-F.Bool b) = b
true_in f = false

abbrev pub is_true_word : Expr → Bool
is_true_word e = true_in (out-ExprForm e.form)

-- a `break`, or an `if`, in which one may stand
abbrev pub may_break_in : OfParts StatementForm-F → Bool
may_break_in (StatementForm-F.If c a b) = true
may_break_in StatementForm-F.Break = true
may_break_in f = false

abbrev pub may_break : Statement → Bool
may_break s = may_break_in (out-StatementForm s.form)

-- what may be claimed
pub data Ending : Type 0 where
  -- what follows a statement is not reached, nor what follows statements, nor what follows an `else`
  stops : Statement → Ending
  stop : List Statement → Ending
  stops_else : Else → Ending
  -- no `break` in them leaves the loop around them
  stays : Statement → Ending
  stay : List Statement → Ending
  stays_else : Else → Ending

pub data Ends : Ending → Type 0 where
  -- The end of statements isn't reached where that of the last one isn't.
  stop_last : (s : Statement) → Ends (Ending.stops s) → Ends (Ending.stop (s ∷ []))
  stop_later : (s t : Statement) (ss : List Statement) → Ends (Ending.stop (t ∷ ss)) → Ends (Ending.stop (s ∷ (t ∷ ss)))
  -- `return` leaves the body.
  returned : (s : Statement) (e : Option Expr) → s.form ≡ statement_forms.Return e → Ends (Ending.stops s)
  -- The end of an `if` isn't reached where that of both its blocks isn't.
  branched : (s : Statement) (c : Expr) (a : Block) (b : Else) → s.form ≡ statement_forms.If c a b → Ends (Ending.stop (out-Block a).statements) → Ends (Ending.stops_else b) → Ends (Ending.stops s)
  -- A loop on the word `true` is left by a `break` alone.
  looped : (s : Statement) (c : Expr) (a : Block) → s.form ≡ statement_forms.While c a → is_true_word c ≡ true → Ends (Ending.stay (out-Block a).statements) → Ends (Ending.stops s)
  stops_block : (b : Block) → Ends (Ending.stop (out-Block b).statements) → Ends (Ending.stops_else (otherwises.Block b))
  stops_if : (s : Statement) → Ends (Ending.stops s) → Ends (Ending.stops_else (otherwises.ElseIf s))
  -- No `break` stands in no statements.
  stay_none : Ends (Ending.stay [])
  stay_more : (s : Statement) (ss : List Statement) → Ends (Ending.stays s) → Ends (Ending.stay ss) → Ends (Ending.stay (s ∷ ss))
  -- Nor in an `if` where it stands in neither block.
  stays_branched : (s : Statement) (c : Expr) (a : Block) (b : Else) → s.form ≡ statement_forms.If c a b → Ends (Ending.stay (out-Block a).statements) → Ends (Ending.stays_else b) → Ends (Ending.stays s)
  -- What stands in an inner loop leaves that loop, and other statements leave none.
  stays_other : (s : Statement) → may_break s ≡ false → Ends (Ending.stays s)
  stays_none : Ends (Ending.stays_else otherwises.Absent)
  stays_block : (b : Block) → Ends (Ending.stay (out-Block b).statements) → Ends (Ending.stays_else (otherwises.Block b))
  stays_if : (s : Statement) → Ends (Ending.stays s) → Ends (Ending.stays_else (otherwises.ElseIf s))

-- A body with this result gives its value wherever it ends.
pub data Returns (r : Ty) (ss : List Statement) : Type 0 where
  -- There is none to give.
  gives_none : is_void r ≡ true → Returns r ss
  -- It is one expression.
  gives_alone : (e : Expr) → alone_value (gives.Type r) ss ≡ Some e → Returns r ss
  -- Its end isn't reached.
  gives_before : Ends (Ending.stop ss) → Returns r ss
