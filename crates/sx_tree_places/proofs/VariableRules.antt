-- The rules of accessors, observers and variables.
use Rattle.std.proofs.Common.{ℕ, List, [], ◌∷◌, Option, Some, None}
use Rattle.sx_span.specs.declared.places.Span.{Span}
use Rattle.sx_tree.specs.declared.code.Expr.{Expr}
use Rattle.sx_tree.specs.declared.declarations.Accessor.{Accessor}
use Rattle.sx_tree.specs.declared.declarations.Head.TheVariants as heads
use Rattle.sx_tree.specs.declared.declarations.VariableHead.{VariableHead}
use Rattle.sx_tree.specs.declared.nodes.FaultOf.{FaultOf}
use Rattle.sx_tree.specs.Nodes.{variable_places}
use Rattle.sx_grammar.specs.declared.lexemes.Mode.TheVariants as modes
use Rattle.sx_grammar.specs.declared.lexemes.Sort.{Sort}
use Rattle.sx_grammar.specs.declared.lexemes.Sort.TheVariants as sorts
use Rattle.sx_grammar.specs.Value.{Value, nothing, leaf, pair, a_head, accessors}
use Rattle.sx_grammar.specs.Rules.{accessed, accessor_list, accessor_name, accessor_name_in_brackets, accessor_value, accessor_with, accessors_in, accessors_of, accessors_value, closing, expr_in, first_of, from_to, get_part, global, global_value, initialised, initialised_item, inside, name_in, observed, observer_list, one_or_two, plain_separator, property, second_of, span_of, statements_in, value_end, variable_in, variable_of, variable_with}
use Rattle.sx_tree_places.proofs.Each.{Each, IfThere}
use Rattle.sx_tree_places.proofs.Placed.{AccessorPlaced, ExprPlaced, HeadPlaced, NamePlaced, Placed, KeptBy}
use Rattle.sx_tree_places.proofs.MadeDeclarations.{variable_placed}
use Rattle.sx_tree_places.proofs.MadeStatements.{block_made}
use Rattle.sx_tree_places.proofs.Inside.{expr_placed, first_placed, inside_placed, name_placed, option_placed, second_placed, span_placed}
use Rattle.sx_tree_places.proofs.InsideCode.{accessor_placed, accessors_placed, block_placed, statements_placed}
use Rattle.sx_tree_places.proofs.Keeps.{Keeps}
use Rattle.sx_tree_places.proofs.HeadRules.{keeps_variable_head}
use Rattle.sx_tree_places.proofs.ExprRules.{keeps_expr}
use Rattle.sx_tree_places.proofs.StatementRules.{keeps_block, keeps_block_items, keeps_separator}

module _ (P : ℕ → Type 0) (least : P 0) where
  -- ---- accessors and observers
  pub keeps_accessor_name_in_brackets : Keeps P accessor_name_in_brackets
  unfolding accessor_name_in_brackets
  keeps_accessor_name_in_brackets = (tt, tt)

  keeps_accessor_name : Keeps P accessor_name
  unfolding accessor_name
  keeps_accessor_name = ((λ v h. inside_placed P least v h, tt), tt)

  keeps_get_part : Keeps P get_part
  unfolding get_part
  keeps_get_part = (λ v h. (tt, (block_placed P least (second_of v) (second_placed P least v h)).1), (tt, keeps_block P least))

  accessor_value_placed : KeptBy P accessor_value
  accessor_value_placed (pair (leaf l) (pair n b)) (h, (k, m)) = (option_placed P least (NamePlaced P) name_in (λ w i. name_placed P least w i) n k, (block_placed P least b m).1)
  accessor_value_placed v h = tt

  keeps_accessor_with : (s : Sort) → Keeps P (accessor_with s)
  unfolding accessor_with
  keeps_accessor_with s = (accessor_value_placed, (tt, (keeps_accessor_name, keeps_block P least)))

  one_or_two_placed : KeptBy P one_or_two
  one_or_two_placed (pair a nothing) (h, k) = (accessor_placed P least a h, tt)
  one_or_two_placed (pair a b) (h, k) = (accessor_placed P least a h, (accessor_placed P least b k, tt))
  one_or_two_placed v h = tt

  pub keeps_accessor_list : Keeps P accessor_list
  unfolding accessor_list
  keeps_accessor_list = (
    ((one_or_two_placed, (keeps_get_part, (keeps_accessor_with sorts.Set, tt))), ((one_or_two_placed, (keeps_accessor_with sorts.Set, keeps_get_part)), keeps_block_items P least)),
    tt,
  )

  pub keeps_observer_list : Keeps P observer_list
  unfolding observer_list
  keeps_observer_list = (
    (
      (one_or_two_placed, (keeps_accessor_with sorts.WillSet, (keeps_accessor_with sorts.DidSet, tt))),
      (one_or_two_placed, (keeps_accessor_with sorts.DidSet, (keeps_accessor_with sorts.WillSet, tt))),
    ),
    tt,
  )

  accessors_of_placed : (s : Span) (v : Value) → P s.start → Placed P v → Placed P (accessors_of s v)
  accessors_of_placed s (accessors xs) h k = (k, block_made P least s [] h tt)
  accessors_of_placed s v h k = (((tt, (block_made P least s (statements_in v) h (statements_placed P least v k)).1), tt), block_made P least s [] h tt)

  accessors_value_placed : KeptBy P accessors_value
  accessors_value_placed v h = accessors_of_placed (from_to (span_of (first_of v)) (span_of (closing v))) (inside v) (span_placed P least (first_of v) (first_placed P least v h)) (inside_placed P least v h)

  keeps_observed : Keeps P observed
  unfolding observed
  keeps_observed = (accessors_value_placed, tt)

  pub keeps_accessed : (ss : List Sort) → Keeps P (accessed ss)
  unfolding accessed
  keeps_accessed ss = (accessors_value_placed, tt)

  -- ---- variables
  module _ (of : FaultOf) where
    variable_of_placed : (h : VariableHead) (last : Span) (e : Option Expr) (xs : List Accessor) → HeadPlaced P (heads.Variable h) → IfThere (ExprPlaced P) e → Each (AccessorPlaced P) xs → Each P (variable_places of (variable_of h last e xs))
    variable_of_placed h last e xs (s, n, t) k l = variable_placed P of (variable_of h last e xs) n t k l

    variable_with_placed : (h : VariableHead) (v : Value) → HeadPlaced P (heads.Variable h) → Placed P v → Each P (variable_places of (variable_with h v))
    variable_with_placed h nothing i k = variable_of_placed h h.span None [] i tt tt
    variable_with_placed h (pair (accessors xs) s) i (k, l) = variable_of_placed h (span_of s) None xs i tt k
    variable_with_placed h (pair a (pair e nothing)) i (k, (l, m)) = variable_of_placed h (span_of e) (Some (expr_in e)) [] i (expr_placed P least e l) tt
    variable_with_placed h (pair a (pair e (pair xs s))) i (k, (l, (m, n))) = variable_of_placed h (span_of s) (Some (expr_in e)) (accessors_in xs) i (expr_placed P least e l) (accessors_placed P least xs m)
    variable_with_placed h v i k = (least, tt)

    variable_in_placed : (w v : Value) → Placed P w → Placed P v → Each P (variable_places of (variable_in w v))
    variable_in_placed (a_head (heads.Variable h)) v i k = variable_with_placed h v i k
    variable_in_placed w v i k = (least, tt)

    parts_placed : (v : Value) → Placed P v → Each P (variable_places of (variable_in (first_of v) (second_of v)))
    parts_placed v h = variable_in_placed (first_of v) (second_of v) (first_placed P least v h) (second_placed P least v h)

  keeps_initialised : Keeps P initialised
  unfolding initialised
  keeps_initialised = (tt, (keeps_expr P least modes.Initial, (keeps_observed, tt)))

  pub keeps_property : Keeps P property
  unfolding property
  keeps_property = (
    λ v h of. parts_placed of v h,
    (keeps_variable_head P least (sorts.Var ∷ []), (keeps_initialised, (keeps_accessed (sorts.OpenBrace ∷ []), (keeps_observed, tt))), keeps_initialised),
  )

  keeps_plain_separator : Keeps P plain_separator
  unfolding plain_separator
  keeps_plain_separator = (tt, tt)

  keeps_value_end : Keeps P value_end
  unfolding value_end
  keeps_value_end = ((λ v h. first_placed P least v h, (keeps_observed, keeps_separator P least)), (λ v h. tt, keeps_plain_separator))

  keeps_initialised_item : Keeps P initialised_item
  unfolding initialised_item
  keeps_initialised_item = (tt, (keeps_expr P least modes.Initial, keeps_value_end))

  global_value_placed : KeptBy P global_value
  global_value_placed v h = λ of. parts_placed of v h

  pub keeps_global : Keeps P global
  unfolding global
  keeps_global = (
    (global_value_placed, (keeps_variable_head P least (sorts.Let ∷ []), (tt, (keeps_expr P least modes.Initial, (λ v h. tt, keeps_plain_separator))))),
    (
      global_value_placed,
      (
        keeps_variable_head P least (sorts.Var ∷ []),
        (keeps_initialised_item, (λ v h. first_placed P least v h, (keeps_accessed (sorts.OpenBrace ∷ []), keeps_separator P least))),
        keeps_initialised_item,
      ),
    ),
  )
