-- One level of a statement: where its parts take as many nodes as they have places, so does the whole.
use Rattle.std.proofs.Common.{◌≡◌, ℕ, suc, ◌+◌, ◌∷◌, ◌++◌, map, length, length-append, Some, None, is_some, refl, arith}
use Rattle.sx_tree.specs.declared.code.Block.{Block-F}
use Rattle.sx_tree.specs.declared.code.Else.{Else-F}
use Rattle.sx_tree.specs.declared.code.Local.{Local-F}
use Rattle.sx_tree.specs.declared.code.StatementForm.{StatementForm-F}
use Rattle.sx_tree.specs.declared.operators.Assignment.{Assignment}
use Rattle.sx_tree.specs.Nodes as nodes
use Rattle.sx_tree.specs.Nodes.{Places}
use Rattle.sx_typed.specs.declared.code.StatementForm.TheVariants as statements
use Rattle.sx_scope.specs.declared.declarations.Declarations.{Declarations}
use Rattle.sx_scope.specs.WrittenTypes.{judged_option}
use Rattle.sx_calls.specs.Parts.{JudgedStatement}
use Rattle.sx_check_expr.specs.Judge.{judged_block, judged_else, judged_expr, else_step, statement_form_step, block_step, local_step}
use Rattle.sx_order.proofs.WrittenTypes.{judged_option-takes}
use Rattle.sx_order_code.specs.Tied.{TiedStatementForm, TiedStatement, TiedBlock, TiedElse, TiedLocal}
use Rattle.sx_order_code.specs.Layers.{OfKnown, KnownBlock, KnownElse, KnownExpr, placed_else, placed_statement_form, placed_block, placed_local, judged_in_else, judged_in_statement_form, judged_in_block, judged_in_local, parts_of_else, parts_of_statement_form, parts_of_block, parts_of_local}
use Rattle.sx_order_code.proofs.Assignments.{expr_statement-takes, assignment-takes}
use Rattle.sx_order_code.proofs.Branches.{if_statement-takes, while_statement-takes, return_statement-takes, leaving-takes}
use Rattle.sx_order_code.proofs.Locals.{local_statement-takes}
use Rattle.sx_order_code.proofs.Known.{statement-as, statements-span}

module _ (d : Declarations) where
  pub assign-tied : (a : Assignment) (l e : KnownExpr d) (site start : ℕ) →
      TiedStatement (statement_form_step d (StatementForm-F.Assign a (judged_expr d l.0) (judged_expr d e.0)) site) (start ∷ (nodes.expr_places l.0 ++ nodes.expr_places e.0))
  assign-tied a l e site start =
      let left : Places = nodes.expr_places l.0 in
      let right : Places = nodes.expr_places e.0 in
      let sum : length (left ++ right) ≡ length left + length right = length-append left right in
      statement-as (statement_form_step d (StatementForm-F.Assign a (judged_expr d l.0) (judged_expr d e.0)) site) (suc (length left + length right)) (suc (length (left ++ right))) (omega (arith, sum))
      (record { takes = λ p. assignment-takes a (judged_expr d l.0) (judged_expr d e.0) site (length left) (length right) p l.1.0 e.1.0; alone = tt })

  pub if-tied : (c : KnownExpr d) (a : KnownBlock d) (b : KnownElse d) (site start : ℕ) →
      TiedStatement (statement_form_step d (StatementForm-F.If (judged_expr d c.0) (judged_block d a.0) (judged_else d b.0)) site) (start ∷ (nodes.expr_places c.0 ++ (nodes.block_places a.0 ++ nodes.else_places b.0)))
  if-tied c a b site start =
      let condition : Places = nodes.expr_places c.0 in
      let then : Places = nodes.block_places a.0 in
      let otherwise : Places = nodes.else_places b.0 in
      let (j, e, ss) = a.1 in
      let outer : length (condition ++ (then ++ otherwise)) ≡ length condition + length (then ++ otherwise) = length-append condition (then ++ otherwise) in
      let inner : length (then ++ otherwise) ≡ length then + length otherwise = length-append then otherwise in
      statement-as (statement_form_step d (StatementForm-F.If (judged_expr d c.0) (judged_block d a.0) (judged_else d b.0)) site) (suc (length condition + (suc j + length otherwise))) (suc (length (condition ++ (then ++ otherwise)))) (omega (arith, outer, inner, e))
      (record { takes = λ p. if_statement-takes (judged_expr d c.0) (judged_block d a.0) (judged_else d b.0) site (length condition) j (length otherwise) p c.1.0 ss b.1; alone = tt })

  pub while-tied : (c : KnownExpr d) (a : KnownBlock d) (site start : ℕ) →
      TiedStatement (statement_form_step d (StatementForm-F.While (judged_expr d c.0) (judged_block d a.0)) site) (start ∷ (nodes.expr_places c.0 ++ nodes.block_places a.0))
  while-tied c a site start =
      let condition : Places = nodes.expr_places c.0 in
      let then : Places = nodes.block_places a.0 in
      let (j, e, ss) = a.1 in
      let sum : length (condition ++ then) ≡ length condition + length then = length-append condition then in
      statement-as (statement_form_step d (StatementForm-F.While (judged_expr d c.0) (judged_block d a.0)) site) (suc (length condition + suc j)) (suc (length (condition ++ then))) (omega (arith, sum, e))
      (record { takes = λ p. while_statement-takes (judged_expr d c.0) (judged_block d a.0) site (length condition) j p c.1.0 ss; alone = tt })

  pub statement_form_level : (y : OfKnown d StatementForm-F) → TiedStatementForm (statement_form_step d (judged_in_statement_form d (parts_of_statement_form d y))) (nodes.statement_form_step (placed_statement_form (parts_of_statement_form d y)))
  statement_form_level (StatementForm-F.Expr e) site start =
      record { takes = λ p. expr_statement-takes (judged_expr d e.0) site (length (nodes.expr_places e.0)) p e.1.0; alone = (length (nodes.expr_places e.0), refl, e.1.0) }
  statement_form_level (StatementForm-F.Assign a l e) site start = assign-tied a l e site start
  statement_form_level (StatementForm-F.If c a b) site start = if-tied c a b site start
  statement_form_level (StatementForm-F.While c a) site start = while-tied c a site start
  statement_form_level (StatementForm-F.Return None) site start = record { takes = λ p. return_statement-takes None site 0 p refl; alone = tt }
  statement_form_level (StatementForm-F.Return (Some e)) site start =
      record { takes = λ p. return_statement-takes (Some (judged_expr d e.0)) site (length (nodes.expr_places e.0)) p e.1.0; alone = tt }
  statement_form_level StatementForm-F.Break site start = record { takes = λ p. leaving-takes statements.Break site p; alone = tt }
  statement_form_level StatementForm-F.Continue site start = record { takes = λ p. leaving-takes statements.Continue site p; alone = tt }
  statement_form_level (StatementForm-F.Local l) site start = l.1 site

  pub else_level : (y : OfKnown d Else-F) → TiedElse (else_step d (judged_in_else d (parts_of_else d y))) (nodes.else_step (placed_else (parts_of_else d y)))
  else_level Else-F.Absent = refl
  else_level (Else-F.Block b) = b.1
  else_level (Else-F.ElseIf s) = s.1

  pub block_level : (y : OfKnown d Block-F) → TiedBlock (block_step d (judged_in_block d (parts_of_block d y))) (nodes.block_step (placed_block (parts_of_block d y)))
  block_level y = (length (nodes.all (map nodes.statement_places (map (λ s. s.0) y.statements))), refl, statements-span d y.statements)

  pub local_level : (y : OfKnown d Local-F) → TiedLocal (local_step d (judged_in_local d (parts_of_local d y))) (nodes.local_step (placed_local (parts_of_local d y)))
  local_level y site =
      let written : Places = nodes.option_places nodes.type_places y.ty in
      let value : Places = nodes.expr_places y.value.0 in
      let s : JudgedStatement = local_step d (judged_in_local d (parts_of_local d y)) site in
      let sum : length (written ++ value) ≡ length written + length value = length-append written value in
      statement-as s (suc (length written + length value)) (suc (length (written ++ value))) (omega (arith, sum))
      (record { takes = λ p. local_statement-takes d y.constant y.name.number site (is_some y.ty) (judged_option d y.ty) (judged_expr d y.value.0) (length written) (length value) p (judged_option-takes d y.ty) y.value.1.0; alone = tt })
