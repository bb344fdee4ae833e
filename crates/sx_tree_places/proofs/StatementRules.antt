-- The rules of statements and blocks.
use Rattle.std.proofs.Common.{ℕ, [], ◌∷◌}
use Rattle.sx_tree.specs.declared.code.Block.{Block}
use Rattle.sx_tree.specs.declared.code.Expr.{Expr}
use Rattle.sx_tree.specs.declared.code.StatementForm.TheVariants as forms
use Rattle.sx_tree.specs.declared.declarations.Head.TheVariants as heads
use Rattle.sx_grammar.specs.declared.lexemes.Mode.TheVariants as modes
use Rattle.sx_grammar.specs.declared.lexemes.Sort.{Sort}
use Rattle.sx_grammar.specs.declared.lexemes.Sort.TheVariants as sorts
use Rattle.sx_grammar.specs.Value.{Value, leaf, pair, a_head, an_expr, if_parts, a_statement, a_block}
use Rattle.sx_grammar.specs.Grammar.{Grammar}
use Rattle.sx_grammar.specs.Rules.{assigned, assigned_of, assignment_of, block, block_in, block_item, block_items, block_list, closing, else_part, end_of, expr_in, expr_statement, first_of, from_to, if_parts_of, if_statement, if_tail, if_value, inside, jump_of, jump_value, keyword_statement, kind_in, local, local_of, option_in, return_value, row_item, second_of, separator, span_of, statement, statement_in, statements_in, while_value}
use Rattle.sx_tree_places.proofs.Placed.{BlockPlaced, ExprPlaced, Placed, KeptBy, StatementPlaced}
use Rattle.sx_tree_places.proofs.MadeStatements.{StatementFormPlaced, absent, answer, assign, block_made, conditional, else_block, else_if, expression, go_on, leave, loop, statement_made}
use Rattle.sx_tree_places.proofs.MadeStatements as made
use Rattle.sx_tree_places.proofs.Inside.{expr_placed, first_placed, inside_placed, list_placed, opening_placed, option_placed, second_placed, span_placed}
use Rattle.sx_tree_places.proofs.InsideCode.{block_placed, statement_placed, statements_placed}
use Rattle.sx_tree_places.proofs.Keeps.{Keeps}
use Rattle.sx_tree_places.proofs.HeadRules.{keeps_variable_head}
use Rattle.sx_tree_places.proofs.ExprRules.{keeps_expr}

module _ (P : ℕ → Type 0) (least : P 0) where
  third_placed : (v : Value) → Placed P v → Placed P (second_of (second_of v))
  third_placed v h = second_placed P least (second_of v) (second_placed P least v h)

  middle_placed : (v : Value) → Placed P v → Placed P (first_of (second_of v))
  middle_placed v h = first_placed P least (second_of v) (second_placed P least v h)

  pub keeps_block : Keeps P block
  unfolding block
  keeps_block = (
    λ v h. block_made P least (from_to (span_of (first_of v)) (span_of (closing v))) (statements_in (inside v)) (opening_placed P least v h) (statements_placed P least (inside v) (inside_placed P least v h)),
    tt,
  )

  local_of_placed : (v w : Value) → Placed P v → Placed P w → Placed P (local_of v w)
  local_of_placed (a_head (heads.Variable h)) (an_expr e) (i, n, t) k =
      statement_made P least (from_to h.span e.span) (forms.Local (record { constant = h.constant; name = h.name; ty = h.ty; value = e })) i (made.local P least h.constant h.name h.ty e n t k)
  local_of_placed v w h k = tt

  pub keeps_local : Keeps P local
  unfolding local
  keeps_local = (
    λ v h. local_of_placed (first_of v) (second_of (second_of v)) (first_placed P least v h) (third_placed v h),
    (keeps_variable_head P least (sorts.Let ∷ sorts.Var ∷ []), (tt, keeps_expr P least modes.Free)),
  )

  -- ---- conditions
  if_statement_placed : (w v : Value) → Placed P w → Placed P v → Placed P (if_statement w v)
  if_statement_placed w (if_parts c b e end) h (k, l, m) = statement_made P least (record { start = (span_of w).start; end = end }) (forms.If c b e) (span_placed P least w h) (conditional P least c b e k l m)
  if_statement_placed w v h k = tt

  if_value_placed : KeptBy P if_value
  if_value_placed v h = if_statement_placed (first_of v) (second_of v) (first_placed P least v h) (second_placed P least v h)

  if_parts_placed : (c : Expr) (b : Block) (v : Value) → ExprPlaced P c → BlockPlaced P b → Placed P v → Placed P (if_parts_of c b v)
  if_parts_placed c b (a_block e) h k l = (h, k, else_block P least e l)
  if_parts_placed c b (a_statement s) h k l = (h, k, else_if P least s l)
  if_parts_placed c b v h k l = (h, k, absent P least)

  keeps_else_part : Keeps P else_part
  unfolding else_part
  keeps_else_part = ((λ v h. second_placed P least v h, (tt, ((if_value_placed, tt), keeps_block))), tt)

  pub keeps_if_tail : Keeps P if_tail
  unfolding if_tail
  keeps_if_tail = (
    λ v h. if_parts_placed (expr_in (first_of v)) (block_in (first_of (second_of v))) (second_of (second_of v)) (expr_placed P least (first_of v) (first_placed P least v h))
        (block_placed P least (first_of (second_of v)) (middle_placed v h)) (third_placed v h),
    (keeps_expr P least modes.Condition, (keeps_block, keeps_else_part)),
  )

  while_value_placed : KeptBy P while_value
  while_value_placed v h =
      let c : Expr = expr_in (first_of (second_of v)) in
      let b : Block = block_in (second_of (second_of v)) in
      statement_made P least (from_to (span_of (first_of v)) (span_of (second_of (second_of v)))) (forms.While c b) (opening_placed P least v h)
      (loop P least c b (expr_placed P least (first_of (second_of v)) (middle_placed v h)) (block_placed P least (second_of (second_of v)) (third_placed v h)))

  return_value_placed : KeptBy P return_value
  return_value_placed v h =
      statement_made P least (from_to (span_of (first_of v)) (end_of (second_of v) (first_of v))) (forms.Return (option_in expr_in (second_of v))) (opening_placed P least v h)
      (answer P least (option_in expr_in (second_of v)) (option_placed P least (ExprPlaced P) expr_in (λ w k. expr_placed P least w k) (second_of v) (second_placed P least v h)))

  jump_placed : (s : Sort) → StatementFormPlaced P least (jump_of s)
  jump_placed sorts.Break = leave P least
  jump_placed s = go_on P least

  jump_value_placed : KeptBy P jump_value
  jump_value_placed (leaf l) h = statement_made P least l.token.span (jump_of l.sort) h (jump_placed l.sort)
  jump_value_placed v h = tt

  pub keeps_keyword_statement : Keeps P keyword_statement
  unfolding keyword_statement
  keeps_keyword_statement = (
    (if_value_placed, (tt, keeps_if_tail)),
    ((while_value_placed, (tt, (keeps_expr P least modes.Condition, keeps_block))), ((return_value_placed, (tt, (keeps_expr P least modes.Free, tt))), (jump_value_placed, tt))),
  )

  -- ---- expressions and assignments
  pub assigned_placed : (e : Expr) (v : Value) → ExprPlaced P e → Placed P v → Placed P (assigned_of e v)
  assigned_placed e (pair o x) h (k, l) =
      statement_made P least (from_to e.span (span_of x)) (forms.Assign (assignment_of (kind_in o)) e (expr_in x)) h.0 (assign P least (assignment_of (kind_in o)) e (expr_in x) h (expr_placed P least x l))
  assigned_placed e v h k = statement_made P least e.span (forms.Expr e) h.0 (expression P least e h)

  pub keeps_assigned : Keeps P assigned
  unfolding assigned
  keeps_assigned = ((tt, keeps_expr P least modes.Free), tt)

  pub keeps_expr_statement : Keeps P expr_statement
  unfolding expr_statement
  keeps_expr_statement = (
    λ v h. assigned_placed (expr_in (first_of v)) (second_of v) (expr_placed P least (first_of v) (first_placed P least v h)) (second_placed P least v h),
    (keeps_expr P least modes.Free, keeps_assigned),
  )

  pub keeps_statement : Keeps P statement
  unfolding statement
  keeps_statement = (keeps_keyword_statement, keeps_expr_statement)

  -- ---- items in a row
  pub keeps_separator : Keeps P separator
  unfolding separator
  keeps_separator = (tt, tt)

  pub keeps_row_item : (g : Grammar) → Keeps P g → Keeps P (row_item g)
  keeps_row_item g k = (λ v h. first_placed P least v h, (k, keeps_separator))

  keeps_block_item : Keeps P block_item
  unfolding block_item
  keeps_block_item = (keeps_local, keeps_statement)

  pub keeps_block_items : Keeps P block_items
  unfolding block_items
  keeps_block_items = (λ v h. list_placed P least (StatementPlaced P) statement_in (λ w k. statement_placed P least w k) v h, keeps_row_item block_item keeps_block_item)

  pub keeps_block_list : Keeps P block_list
  unfolding block_list
  keeps_block_list = (keeps_block_items, tt)
