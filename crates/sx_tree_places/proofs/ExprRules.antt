-- The rules of operators and arguments.
use Rattle.std.proofs.Common.{ℕ, List, [], ◌∷◌, Option, Some, None}
use Rattle.sx_tree.specs.declared.code.Expr.{Expr}
use Rattle.sx_tree.specs.declared.code.ExprForm.TheVariants as forms
use Rattle.sx_tree.specs.declared.code.Link.{Link}
use Rattle.sx_tree.specs.declared.written_types.Name.{Name}
use Rattle.sx_grammar.specs.declared.lexemes.Mode.{Mode}
use Rattle.sx_grammar.specs.declared.lexemes.Mode.TheVariants as modes
use Rattle.sx_grammar.specs.declared.lexemes.Sort.{Sort}
use Rattle.sx_grammar.specs.declared.lexemes.Sort.TheVariants as sorts
use Rattle.sx_grammar.specs.Value.{Value, nothing, pair}
use Rattle.sx_grammar.specs.Grammar.{Grammar}
use Rattle.sx_grammar.specs.Rules.{argument, argument_in, argument_list, argument_of, argument_value, bracket, chain, chain_value, chained, compare, conjunction, expr, expr_in, first_of, indices, kind_in, labelled_argument, last_link, link, link_in, links, links_in, name_of_expr, operator_of, plain_argument, product, reference, relation, second_of, span_of, sum, unary}
use Rattle.sx_tree_places.proofs.Each.{Each}
use Rattle.sx_tree_places.proofs.Placed.{ArgumentPlaced, ExprPlaced, LinkPlaced, NamePlaced, Placed, KeptBy}
use Rattle.sx_tree_places.proofs.MadeExprs.{expr_made}
use Rattle.sx_tree_places.proofs.MadeExprs as made
use Rattle.sx_tree_places.proofs.MadeParts.{argument_made, link_made}
use Rattle.sx_tree_places.proofs.Inside.{argument_placed, expr_placed, first_placed, link_placed, links_placed, list_placed, listed_placed, second_placed, span_placed}
use Rattle.sx_tree_places.proofs.Keeps.{Keeps}
use Rattle.sx_tree_places.proofs.OperandRules.{keeps_postfix, keeps_unary}

module _ (P : ℕ → Type 0) (least : P 0) where
  -- ---- chains of operators
  keeps_link : (ss : List Sort) (g : Grammar) → Keeps P g → Keeps P (link ss g)
  unfolding link
  keeps_link ss g k = (
    λ v h. link_made P (operator_of (kind_in (first_of v))) (expr_in (second_of v)) (expr_placed P least (second_of v) (second_placed P least v h)),
    (tt, k),
  )

  pub chained_placed : (e : Expr) (ls : List Link) → ExprPlaced P e → Each (LinkPlaced P) ls → ExprPlaced P (chained e ls)
  chained_placed e [] h k = h
  chained_placed e (l ∷ ls) h k = expr_made P (record { start = e.span.start; end = last_link 0 (l ∷ ls) }) (forms.Chain e (l ∷ ls)) h.0 (made.chain P e (l ∷ ls) h k)

  pub keeps_links : (ss : List Sort) (g : Grammar) → Keeps P g → Keeps P (links ss g)
  unfolding links
  keeps_links ss g k = (λ v h. list_placed P least (LinkPlaced P) link_in (λ w m. link_placed P least w m) v h, keeps_link ss g k)

  chain_value_placed : KeptBy P chain_value
  chain_value_placed v h =
      chained_placed (expr_in (first_of v)) (links_in (second_of v)) (expr_placed P least (first_of v) (first_placed P least v h)) (links_placed P least (second_of v) (second_placed P least v h))

  keeps_chain : (ss : List Sort) (g : Grammar) → Keeps P g → Keeps P (chain ss g)
  keeps_chain ss g k = (chain_value_placed, (k, keeps_links ss g k))

  pub keeps_product : (m : Mode) → Keeps P (product m)
  unfolding product
  keeps_product m = keeps_chain (sorts.Times ∷ []) (unary m) (keeps_unary P least m)

  keeps_sum : (m : Mode) → Keeps P (sum m)
  unfolding sum
  keeps_sum m = keeps_chain (sorts.Plus ∷ sorts.Minus ∷ []) (product m) (keeps_product m)

  pub keeps_relation : (m : Mode) → Keeps P (relation m)
  unfolding relation
  keeps_relation m = ((λ v h. (link_placed P least v h, tt), keeps_link (sorts.Relation ∷ []) (sum m) (keeps_sum m)), (λ v h. tt, tt))

  pub keeps_compare : (m : Mode) → Keeps P (compare m)
  unfolding compare
  keeps_compare m = (chain_value_placed, (keeps_sum m, keeps_relation m))

  pub keeps_conjunction : (m : Mode) → Keeps P (conjunction m)
  unfolding conjunction
  keeps_conjunction m = keeps_chain (sorts.And ∷ []) (compare m) (keeps_compare m)

  pub keeps_expr : (m : Mode) → Keeps P (expr m)
  unfolding expr
  keeps_expr m = keeps_chain (sorts.Or ∷ []) (conjunction m) (keeps_conjunction m)

  pub keeps_bracket : Keeps P bracket
  unfolding bracket
  keeps_bracket = (keeps_expr modes.Free, tt)

  -- ---- arguments
  argument_of_placed : (start : ℕ) (label : Option Name) (ampersand : Option ℕ) (e : Expr) → P start → ExprPlaced P e → Placed P (argument_of start label ampersand e)
  argument_of_placed start label ampersand e h k = argument_made P (record { start = start; end = e.span.end }) label ampersand e h k

  plain_argument_placed : KeptBy P plain_argument
  plain_argument_placed (pair a e) (h, k) = argument_of_placed (span_of a).start None (Some (span_of a).start) (expr_in e) (span_placed P least a h) (expr_placed P least e k)
  plain_argument_placed v h = argument_of_placed (span_of v).start None None (expr_in v) (span_placed P least v h) (expr_placed P least v h)

  labelled_argument_placed : (n : Name) (v : Value) → NamePlaced P n → Placed P v → Placed P (labelled_argument n v)
  labelled_argument_placed n (pair a e) i (h, k) = argument_of_placed n.span.start (Some n) (Some (span_of a).start) (expr_in e) i (expr_placed P least e k)
  labelled_argument_placed n v i h = argument_of_placed n.span.start (Some n) None (expr_in v) i (expr_placed P least v h)

  argument_value_placed : KeptBy P argument_value
  argument_value_placed (pair e nothing) (h, k) = plain_argument_placed e h
  argument_value_placed (pair e (pair c v)) (h, (k, l)) = labelled_argument_placed (name_of_expr (expr_in e)) v (expr_placed P least e h).0 l
  argument_value_placed v h = tt

  keeps_reference : Keeps P reference
  unfolding reference
  keeps_reference = (tt, keeps_postfix P least modes.Free)

  keeps_argument : Keeps P argument
  unfolding argument
  keeps_argument = ((plain_argument_placed, keeps_reference), (argument_value_placed, (keeps_expr modes.Free, ((tt, (keeps_reference, keeps_expr modes.Free)), tt), tt)))

  pub keeps_argument_list : Keeps P argument_list
  unfolding argument_list
  keeps_argument_list = (
    (
      (λ v h. listed_placed P least (ArgumentPlaced P) argument_in (λ w k. argument_placed P least w k) v h, (keeps_argument, (λ v h. second_placed P least v h, (tt, keeps_argument)))),
      (λ v h. tt, tt),
    ),
    tt,
  )

  pub keeps_indices : Keeps P indices
  unfolding indices
  keeps_indices = (
    (λ v h. listed_placed P least (ExprPlaced P) expr_in (λ w k. expr_placed P least w k) v h, (keeps_expr modes.Free, (λ v h. second_placed P least v h, (tt, keeps_expr modes.Free)))),
    tt,
  )
