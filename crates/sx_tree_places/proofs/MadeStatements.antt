-- Statements and blocks made of parts whose places have a property.
use Rattle.std.proofs.Common.{ℕ, Bool, List, ◌++◌, Option, Some, None, sym, subst}
use Rattle.sx_span.specs.declared.places.Span.{Span}
use Rattle.sx_tree.specs.declared.operators.Assignment.{Assignment}
use Rattle.sx_tree.specs.declared.written_types.Name.{Name}
use Rattle.sx_tree.specs.declared.written_types.WrittenType.{WrittenType}
use Rattle.sx_tree.specs.declared.code.Block.{Block, Block-F, fold-roll-Block, out-roll-Block}
use Rattle.sx_tree.specs.declared.code.Else.{Else, Else-F, fold-roll-Else, roll-Else}
use Rattle.sx_tree.specs.declared.code.Else.TheVariants as elses
use Rattle.sx_tree.specs.declared.code.Expr.{Expr}
use Rattle.sx_tree.specs.declared.code.Statement.{Statement}
use Rattle.sx_tree.specs.declared.code.StatementForm.{StatementForm, StatementForm-F, fold-roll-StatementForm, out-StatementForm, out-roll-StatementForm, roll-StatementForm}
use Rattle.sx_tree.specs.declared.code.StatementForm.TheVariants as forms
use Rattle.sx_tree.specs.Nodes.{Places, PartNodes, block_places, else_places, expr_places, local_places, option_places, statement_form_places, statement_places, type_places, else_step, form_step, part_step, statement_form_step, argument_step, block_step, closure_step, expr_step, link_step, local_step, statement_step}
use Rattle.sx_grammar.specs.Rules.{block_of, name_of_statement_form}
use Rattle.sx_nodes.specs.Pieces.{Level}
use Rattle.sx_node_places.proofs.Layers.{local_is, placed_else, placed_statement_form, statement_is}
use Rattle.sx_tree_places.proofs.Each.{Each, IfThere, each_all, each_append, each_option}
use Rattle.sx_tree_places.proofs.Placed.{BlockPlaced, ElsePlaced, ExprPlaced, NamePlaced, StatementPlaced, TypePlaced}

module _ (P : ℕ → Type 0) (least : P 0) where
  -- whatever place the statement has
  abbrev pub StatementFormPlaced : StatementForm → Type 0
  StatementFormPlaced f = ((start : ℕ) → P start → Each P (statement_form_places f start)) × NamePlaced P (name_of_statement_form (out-StatementForm f))

  pub statement_made : (s : Span) (f : StatementForm) → P s.start → StatementFormPlaced f → StatementPlaced P (record { span = s; form = f })
  statement_made s f h (k, n) = (subst (λ xs. Each P xs) (sym (statement_is (record { span = s; form = f }))) (k s.start h), n)

  form_made : (x : Level StatementForm-F) → ((start : ℕ) → P start → Each P (statement_form_step (placed_statement_form x) start)) → NamePlaced P (name_of_statement_form x) → StatementFormPlaced (roll-StatementForm x)
  form_made x k n = (
    λ start h. subst (λ (g : ℕ → Places). Each P (g start)) (sym (fold-roll-StatementForm Places (ℕ → Places) PartNodes (ℕ → Places) Places Places Places Places Places Places Places else_step form_step part_step statement_form_step argument_step block_step closure_step expr_step link_step local_step statement_step x)) (k start h),
    subst (λ (y : Level StatementForm-F). NamePlaced P (name_of_statement_form y)) (sym (out-roll-StatementForm x)) n,
  )

  -- ---- forms
  pub expression : (e : Expr) → ExprPlaced P e → StatementFormPlaced (forms.Expr e)
  unfolding Rattle.sx_tree.specs.declared.code.Else.TheViews.roll-StatementForm denote.Hole.Carrier.roll
  expression e (p, k) = form_made (StatementForm-F.Expr e) (λ start h. (h, k)) p

  pub assign : (o : Assignment) (a b : Expr) → ExprPlaced P a → ExprPlaced P b → StatementFormPlaced (forms.Assign o a b)
  unfolding Rattle.sx_tree.specs.declared.code.Else.TheViews.roll-StatementForm denote.Hole.Carrier.roll
  assign o a b (p, k) (q, l) = form_made (StatementForm-F.Assign o a b) (λ start h. (h, each_append P (expr_places a) (expr_places b) k l)) least

  pub conditional : (c : Expr) (b : Block) (e : Else) → ExprPlaced P c → BlockPlaced P b → ElsePlaced P e → StatementFormPlaced (forms.If c b e)
  unfolding Rattle.sx_tree.specs.declared.code.Else.TheViews.roll-StatementForm denote.Hole.Carrier.roll
  conditional c b e (p, k) (q, l) m =
      form_made (StatementForm-F.If c b e) (λ start h. (h, each_append P (expr_places c) (block_places b ++ else_places e) k (each_append P (block_places b) (else_places e) l m))) least

  pub loop : (c : Expr) (b : Block) → ExprPlaced P c → BlockPlaced P b → StatementFormPlaced (forms.While c b)
  unfolding Rattle.sx_tree.specs.declared.code.Else.TheViews.roll-StatementForm denote.Hole.Carrier.roll
  loop c b (p, k) (q, l) = form_made (StatementForm-F.While c b) (λ start h. (h, each_append P (expr_places c) (block_places b) k l)) least

  pub answer : (e : Option Expr) → IfThere (ExprPlaced P) e → StatementFormPlaced (forms.Return e)
  unfolding Rattle.sx_tree.specs.declared.code.Else.TheViews.roll-StatementForm denote.Hole.Carrier.roll
  answer None k = form_made (StatementForm-F.Return None) (λ start h. (h, tt)) least
  answer (Some e) (p, k) = form_made (StatementForm-F.Return (Some e)) (λ start h. (h, k)) least

  pub leave : StatementFormPlaced forms.Break
  unfolding Rattle.sx_tree.specs.declared.code.Else.TheViews.roll-StatementForm denote.Hole.Carrier.roll
  leave = form_made StatementForm-F.Break (λ start h. (h, tt)) least

  pub go_on : StatementFormPlaced forms.Continue
  unfolding Rattle.sx_tree.specs.declared.code.Else.TheViews.roll-StatementForm denote.Hole.Carrier.roll
  go_on = form_made StatementForm-F.Continue (λ start h. (h, tt)) least

  local_placed : (constant : Bool) (n : Name) (t : Option WrittenType) (e : Expr) → NamePlaced P n → IfThere (TypePlaced P) t → ExprPlaced P e → Each P (local_places (record { constant = constant; name = n; ty = t; value = e }))
  local_placed constant n t e h k (p, l) =
      subst (λ xs. Each P xs) (sym (local_is (record { constant = constant; name = n; ty = t; value = e })))
      (h, each_append P (option_places type_places t) (expr_places e) (each_option P (TypePlaced P) type_places (λ u m. m.1) t k) l)

  pub local : (constant : Bool) (n : Name) (t : Option WrittenType) (e : Expr) → NamePlaced P n → IfThere (TypePlaced P) t → ExprPlaced P e → StatementFormPlaced (forms.Local (record { constant = constant; name = n; ty = t; value = e }))
  unfolding Rattle.sx_tree.specs.declared.code.Else.TheViews.roll-StatementForm denote.Hole.Carrier.roll
  local constant n t e h k l =
      form_made (StatementForm-F.Local (record { constant = constant; name = n; ty = t; value = e })) (λ start i. local_placed constant n t e h k l) least

  -- ---- what follows the block of an if
  else_made : (x : Level Else-F) → Each P (else_step (placed_else x)) → ElsePlaced P (roll-Else x)
  else_made x k = subst (λ xs. Each P xs) (sym (fold-roll-Else Places (ℕ → Places) PartNodes (ℕ → Places) Places Places Places Places Places Places Places else_step form_step part_step statement_form_step argument_step block_step closure_step expr_step link_step local_step statement_step x)) k

  pub absent : ElsePlaced P elses.Absent
  unfolding Rattle.sx_tree.specs.declared.code.Else.TheViews.roll-Else denote.Hole.Carrier.roll
  absent = else_made Else-F.Absent tt

  pub else_block : (b : Block) → BlockPlaced P b → ElsePlaced P (elses.Block b)
  unfolding Rattle.sx_tree.specs.declared.code.Else.TheViews.roll-Else denote.Hole.Carrier.roll
  else_block b (p, k) = else_made (Else-F.Block b) k

  pub else_if : (s : Statement) → StatementPlaced P s → ElsePlaced P (elses.ElseIf s)
  unfolding Rattle.sx_tree.specs.declared.code.Else.TheViews.roll-Else denote.Hole.Carrier.roll
  else_if s (k, n) = else_made (Else-F.ElseIf s) k

  -- ---- blocks
  pub block_made : (s : Span) (ss : List Statement) → P s.start → Each (StatementPlaced P) ss → BlockPlaced P (block_of s ss)
  block_made s ss h ks =
      let x : Level Block-F = record { span = s; statements = ss } in (
        subst (λ (y : Level Block-F). P y.span.start) (sym (out-roll-Block x)) h,
        subst (λ xs. Each P xs) (sym (fold-roll-Block Places (ℕ → Places) PartNodes (ℕ → Places) Places Places Places Places Places Places Places else_step form_step part_step statement_form_step argument_step block_step closure_step expr_step link_step local_step statement_step x)) (h, each_all P (StatementPlaced P) statement_places (λ t l. l.0) ss ks),
      )
