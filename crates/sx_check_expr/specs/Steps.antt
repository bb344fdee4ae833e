-- One step along the parts behind an operand: a part, or a member and the arguments of its call.
use Rattle.std.specs.Prelude.{ℕ, ◌+◌, Bool, true, false, List, [], ◌∷◌, ◌++◌, Option, Some, None}
use Rattle.sx_typed.specs.declared.code.Expr.{Expr as TypedExpr}
use Rattle.sx_scope.specs.declared.declarations.Declarations.{Declarations}
use Rattle.sx_scope.specs.declared.walk.Asked.{Asked}
use Rattle.sx_scope.specs.declared.walk.Asked.TheVariants as asked
use Rattle.sx_scope.specs.declared.walk.Place.{Place}
use Rattle.sx_scope.specs.declared.walk.Use.TheVariants as uses
use Rattle.sx_scope.specs.Verdict.{Verdict, Judging, ◌▷◌}
use Rattle.sx_scope.specs.Walks.{node}
use Rattle.sx_scope.specs.Names.{called_member, member_value}
use Rattle.sx_calls.specs.Parts.{JudgedPart, JudgedArgument, JudgedExpr, asked_before, own_nodes, trailing}
use Rattle.sx_calls.specs.Calls.{call_value, index_value}
use Rattle.sx_check_expr.specs.Judge.{called_value, callee, run_parts}

-- whether the arguments of a call stand first
abbrev pub starts_call : List JudgedPart → Bool
starts_call [] = false
starts_call (JudgedPart.Member x c ∷ ps) = false
starts_call (JudgedPart.Index is ∷ ps) = false
starts_call (JudgedPart.Call as_ c ∷ ps) = true

-- what stands behind a member that is called or not
abbrev pub behind_member : List JudgedPart → List JudgedPart
behind_member [] = []
behind_member (JudgedPart.Member x c ∷ ps) = JudgedPart.Member x c ∷ ps
behind_member (JudgedPart.Index is ∷ ps) = JudgedPart.Index is ∷ ps
behind_member (JudgedPart.Call as_ c ∷ ps) = ps

-- what stands behind the step that begins with this part
abbrev pub behind_step : JudgedPart → List JudgedPart → List JudgedPart
behind_step (JudgedPart.Member x None) ps = behind_member ps
behind_step (JudgedPart.Member x (Some c)) ps = ps
behind_step (JudgedPart.Index is) ps = ps
behind_step (JudgedPart.Call as_ c) ps = ps

-- how many nodes a member makes with the call behind it
abbrev pub member_nodes : List JudgedPart → ℕ
member_nodes [] = 1
member_nodes (JudgedPart.Member x c ∷ ps) = 1
member_nodes (JudgedPart.Index is ∷ ps) = 1
member_nodes (JudgedPart.Call as_ c ∷ ps) = 2

-- how many nodes the step makes
abbrev pub step_nodes : JudgedPart → List JudgedPart → ℕ
step_nodes (JudgedPart.Member x None) ps = member_nodes ps
step_nodes (JudgedPart.Member x (Some c)) ps = 2
step_nodes (JudgedPart.Index is) ps = 1
step_nodes (JudgedPart.Call as_ c) ps = 1

module _ (d : Declarations) where
  -- a member that is called: the call is node n, and the member the node behind it
  abbrev pub method_value : Place → Asked → ℕ → ℕ → Bool → Verdict TypedExpr → ℕ → List JudgedArgument → Option JudgedExpr → Verdict TypedExpr
  method_value p q n site this v x as_ c = call_value d p q (node n) site (as_ ++ trailing c) (v ▷ called_member d p (node (1 + n)) site this x)

  abbrev pub member_step : Place → Asked → ℕ → ℕ → Bool → Verdict TypedExpr → ℕ → List JudgedPart → Verdict TypedExpr
  member_step p q n site this v x [] = v ▷ member_value d p q (node n) site this x
  member_step p q n site this v x (JudgedPart.Member y c ∷ ps) = v ▷ member_value d p q (node n) site this x
  member_step p q n site this v x (JudgedPart.Index is ∷ ps) = v ▷ member_value d p q (node n) site this x
  member_step p q n site this v x (JudgedPart.Call as_ c ∷ ps) = method_value p q n site this v x as_ c

  -- the step that begins with this part, before the others: the whole of what it makes is node n
  abbrev pub step_value : Place → Asked → ℕ → ℕ → Bool → Verdict TypedExpr → JudgedPart → List JudgedPart → Verdict TypedExpr
  step_value p q n site this v (JudgedPart.Member x None) ps = member_step p q n site this v x ps
  step_value p q n site this v (JudgedPart.Member x (Some c)) ps = method_value p q n site this v x [] (Some c)
  step_value p q n site this v (JudgedPart.Index is) ps = index_value d p q (node n) site is v
  step_value p q n site this v (JudgedPart.Call as_ c) ps = call_value d p q (node n) site (as_ ++ trailing c) (v ▷ called_value)

  -- ---- the operand
  abbrev pub run_called : Place → Asked → ℕ → ℕ → JudgedExpr → List JudgedArgument → List JudgedPart → Judging TypedExpr
  run_called p q start site e args ps w =
      run_parts d p q start site false (call_value d p (asked_before ps q) (node (own_nodes ps + start)) site args (callee d p site e w)) ps

  abbrev pub run_uncalled : Place → Asked → ℕ → ℕ → JudgedExpr → List JudgedPart → Judging TypedExpr
  run_uncalled p q start site e ps w = run_parts d p q start site e.is_self (e.value p asked.Nothing uses.Kept w) ps
