-- The judgement of a part of a tree, by those of the parts in it.
use Rattle.std.proofs.Common.{◌≡◌, ◌∙◌, ℕ, false, List, [], ◌∷◌, Option, Some, None, refl, ap}
use Rattle.sx_tree.specs.declared.code.Argument.{Argument, fold_out-Argument}
use Rattle.sx_tree.specs.declared.code.Closure.{Closure}
use Rattle.sx_tree.specs.declared.code.Link.{Link, fold_out-Link}
use Rattle.sx_tree.specs.declared.written_types.Name.{Name}
use Rattle.sx_scope.specs.declared.declarations.Declarations.{Declarations}
use Rattle.sx_calls.specs.Parts.{JudgedExpr, JudgedLink, JudgedArgument, JudgedPart, JudgedStatement, JudgedElse}
use Rattle.sx_calls.specs.declared.passed.Shape.{Shape}
use Rattle.sx_calls.specs.Calls.{shapes}
use Rattle.sx_check_expr.specs.Arguments.{judged_arguments, number_of_label, shape_of, shapes_of}
use Rattle.sx_check_expr.specs.Judge.{judged_expr, judged_link, judged_argument, label_of, else_step, form_step, part_step, statement_form_step, argument_step, block_step, closure_step, expr_step, link_step, local_step, statement_step}

pub link_is : (d : Declarations) (l : Link) → judged_link d l ≡ record { operator = l.operator; operand = judged_expr d l.operand }
link_is d l = fold_out-Link JudgedElse (ℕ → JudgedExpr) JudgedPart (ℕ → JudgedStatement) JudgedArgument (List JudgedStatement) JudgedExpr JudgedExpr JudgedLink (ℕ → JudgedStatement) JudgedStatement (else_step d) (form_step d) (part_step d) (statement_form_step d) (argument_step d) (block_step d) (closure_step d) (expr_step d) (link_step d) (local_step d) (statement_step d) l

same_label : (d : Declarations) (o : Option Name) → label_of d o ≡ number_of_label o
same_label d None = refl
same_label d (Some x) = refl

pub argument_is : (d : Declarations) (a : Argument) → judged_argument d a ≡ record { shape = shape_of a; value = judged_expr d a.value }
argument_is d a =
    fold_out-Argument JudgedElse (ℕ → JudgedExpr) JudgedPart (ℕ → JudgedStatement) JudgedArgument (List JudgedStatement) JudgedExpr JudgedExpr JudgedLink (ℕ → JudgedStatement) JudgedStatement (else_step d) (form_step d) (part_step d) (statement_form_step d) (argument_step d) (block_step d) (closure_step d) (expr_step d) (link_step d) (local_step d) (statement_step d) a
    ∙ ap (λ (o : Option ℕ). record { shape = record { label = o; ampersand = a.ampersand; trailing = false }; value = judged_expr d a.value }) (same_label d a.label)

-- how the arguments of a call are written
pub shapes_are : (d : Declarations) (as_ : List Argument) (c : Option Closure) → shapes d (judged_arguments d as_ c) ≡ shapes_of as_ c
shapes_are d [] None = refl
shapes_are d [] (Some c) = refl
shapes_are d (a ∷ as_) c = ap (λ (x : JudgedArgument). x.shape ∷ shapes d (judged_arguments d as_ c)) (argument_is d a) ∙ ap (λ (ss : List Shape). shape_of a ∷ ss) (shapes_are d as_ c)
