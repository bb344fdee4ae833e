-- The judgement of a part behind an operand, by those of the parts in it.
use Rattle.std.proofs.Common.{◌≡◌, ◌∙◌, ℕ, List, Option, Some, None, map, option_map, sym, ap}
use Rattle.sx_tree.specs.declared.code.Argument.{Argument}
use Rattle.sx_tree.specs.declared.code.Closure.{Closure}
use Rattle.sx_tree.specs.declared.code.Part.{Part, fold-roll-Part}
use Rattle.sx_tree.specs.declared.code.Part.TheVariants as parts
use Rattle.sx_tree.specs.declared.written_types.Name.{Name}
use Rattle.sx_scope.specs.declared.declarations.Declarations.{Declarations}
use Rattle.sx_calls.specs.Parts.{JudgedExpr, JudgedLink, JudgedArgument, JudgedPart, JudgedStatement, JudgedElse}
use Rattle.sx_check_expr.specs.Judge.{judged_argument, judged_closure, judged_part, else_step, form_step, part_step, statement_form_step, argument_step, block_step, closure_step, expr_step, link_step, local_step, statement_step}

pub member_is : (d : Declarations) (end : ℕ) (x : Name) (c : Option Closure) → judged_part d (parts.Member end x c) ≡ JudgedPart.Member x.number (option_map (judged_closure d) c)
member_is d end x None = ap (judged_part d) (sym (parts.rolls-Member end x None)) ∙ fold-roll-Part JudgedElse (ℕ → JudgedExpr) JudgedPart (ℕ → JudgedStatement) JudgedArgument (List JudgedStatement) JudgedExpr JudgedExpr JudgedLink (ℕ → JudgedStatement) JudgedStatement (else_step d) (form_step d) (part_step d) (statement_form_step d) (argument_step d) (block_step d) (closure_step d) (expr_step d) (link_step d) (local_step d) (statement_step d) _
member_is d end x (Some c) = ap (judged_part d) (sym (parts.rolls-Member end x (Some c))) ∙ fold-roll-Part JudgedElse (ℕ → JudgedExpr) JudgedPart (ℕ → JudgedStatement) JudgedArgument (List JudgedStatement) JudgedExpr JudgedExpr JudgedLink (ℕ → JudgedStatement) JudgedStatement (else_step d) (form_step d) (part_step d) (statement_form_step d) (argument_step d) (block_step d) (closure_step d) (expr_step d) (link_step d) (local_step d) (statement_step d) _

pub call_is : (d : Declarations) (end : ℕ) (as_ : List Argument) (c : Option Closure) → judged_part d (parts.Call end as_ c) ≡ JudgedPart.Call (map (judged_argument d) as_) (option_map (judged_closure d) c)
call_is d end as_ None = ap (judged_part d) (sym (parts.rolls-Call end as_ None)) ∙ fold-roll-Part JudgedElse (ℕ → JudgedExpr) JudgedPart (ℕ → JudgedStatement) JudgedArgument (List JudgedStatement) JudgedExpr JudgedExpr JudgedLink (ℕ → JudgedStatement) JudgedStatement (else_step d) (form_step d) (part_step d) (statement_form_step d) (argument_step d) (block_step d) (closure_step d) (expr_step d) (link_step d) (local_step d) (statement_step d) _
call_is d end as_ (Some c) = ap (judged_part d) (sym (parts.rolls-Call end as_ (Some c))) ∙ fold-roll-Part JudgedElse (ℕ → JudgedExpr) JudgedPart (ℕ → JudgedStatement) JudgedArgument (List JudgedStatement) JudgedExpr JudgedExpr JudgedLink (ℕ → JudgedStatement) JudgedStatement (else_step d) (form_step d) (part_step d) (statement_form_step d) (argument_step d) (block_step d) (closure_step d) (expr_step d) (link_step d) (local_step d) (statement_step d) _
