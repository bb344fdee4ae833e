-- An item that is itself to blame fails at its first node, which is one of its own.
use Rattle.std.proofs.Common.{◌≡◌, ℕ, ◌<◌, length, sym, subst, ◌∙◌, arith}
use Rattle.sx_tree.specs.declared.code.Statement.{Statement, out-Statement}
use Rattle.sx_tree.specs.declared.code.StatementForm.{StatementForm, StatementForm-F, out-StatementForm}
use Rattle.sx_tree.specs.declared.declarations.Item.{Item}
use Rattle.sx_tree.specs.declared.declarations.Item.TheVariants as items
use Rattle.sx_tree.specs.declared.nodes.FaultOf.TheVariants as faults_of
use Rattle.sx_tree.specs.Nodes.{Places, item_places, statement_form_step, statement_places}
use Rattle.sx_nodes.specs.Pieces.{Level}
use Rattle.sx_node_places.proofs.Layers.{local_is, placed_statement_form, statement_form_is, statement_is}
use Rattle.sx_scope.specs.Verdict.{Verdict, typed, untold, depends, fails}
use Rattle.sx_check_decl.specs.Items.{blamed}
use Rattle.sx_check_decl.specs.declared.items.Blame.{Blame}
use Rattle.sx_check_decl.specs.declared.items.Blame.TheVariants as blames
use Rattle.sx_order.specs.Order.{Start, Spans}

-- ---- each item has a node
form-has : (x : Level StatementForm-F) (start : ℕ) → 0 < length (statement_form_step (placed_statement_form x) start)
form-has (StatementForm-F.Expr e) start = omega arith
form-has (StatementForm-F.Assign o a b) start = omega arith
form-has (StatementForm-F.If c b e) start = omega arith
form-has (StatementForm-F.While c b) start = omega arith
form-has (StatementForm-F.Return e) start = omega arith
form-has StatementForm-F.Break start = omega arith
form-has StatementForm-F.Continue start = omega arith
form-has (StatementForm-F.Local l) start = subst (λ (ps : Places). 0 < length ps) (sym (local_is l)) (omega arith)

pub statement-has : (s : Statement) → 0 < length (statement_places s)
statement-has s =
    let f : StatementForm = (out-Statement s).form in
    let start : ℕ = (out-Statement s).span.start in
    subst (λ (ps : Places). 0 < length ps) (sym (statement_is s ∙ statement_form_is f start)) (form-has (out-StatementForm f) start)

pub item-has : (i : Item) → 0 < length (item_places faults_of.Accessor i)
item-has (items.Function f) = omega arith
item-has (items.Type t) = omega arith
item-has (items.Global v) = omega arith
item-has (items.Statement s) = statement-has s

-- ---- blame
pub blamed-spans : {A : Type 0} {old : Start} {lo hi : ℕ} {Q : A → Type 0} (blame : Blame) (n : ℕ) (v : Verdict A) → n ≡ lo → lo < hi → Spans old lo hi Q v → Spans old lo hi Q (blamed blame n v)
blamed-spans blame n (typed a w) e l h = h
blamed-spans blame n (fails f fs w) e l h = h
blamed-spans blames.Others n (untold w) e l h = h
blamed-spans blames.Others n (depends w) e l h = h
blamed-spans blames.Itself n (untold w) e l h = record { holds = (h.holds, (omega (arith, e), omega (arith, e, l), tt)) }
blamed-spans blames.Itself n (depends w) e l h = record { holds = (h.holds, (omega (arith, e), omega (arith, e, l), tt)) }
