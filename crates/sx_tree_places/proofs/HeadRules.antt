-- The rules of the heads of declarations.
use Rattle.std.proofs.Common.{ℕ, List, Bool, true, false}
use Rattle.sx_span.specs.declared.places.Span.{Span}
use Rattle.sx_tree.specs.declared.declarations.Head.TheVariants as heads
use Rattle.sx_grammar.specs.declared.lexemes.Sort.{Sort}
use Rattle.sx_grammar.specs.Value.{Value, leaf, pair}
use Rattle.sx_grammar.specs.Rules.{first_of, function_head, function_head_of, function_rest, function_value, inside, mutating_head, mutating_value, second_of, span_of, subscript_head, subscript_value, type_head, type_head_value, type_in, typed, variable_head, variable_value}
use Rattle.sx_tree_places.proofs.Placed.{HeadPlaced, Placed, KeptBy, TypePlaced}
use Rattle.sx_tree_places.proofs.Inside.{first_placed, inside_placed, name_placed, option_placed, parameters_placed, second_placed, span_placed, type_placed}
use Rattle.sx_tree_places.proofs.Keeps.{Keeps}
use Rattle.sx_tree_places.proofs.TypeRules.{keeps_any_type, keeps_arrow}

module _ (P : ℕ → Type 0) (least : P 0) where
  keeps_typed : Keeps P typed
  unfolding typed
  keeps_typed = (λ v h. second_placed P least v h, (tt, keeps_any_type P least))

  head_placed : (mutating : Bool) (s : Span) (n ps r : Value) → Placed P n → Placed P ps → Placed P r → HeadPlaced P (heads.Function (function_head_of mutating s n ps r))
  head_placed mutating s n ps r h k l = (
    name_placed P least n h,
    parameters_placed P least (inside ps) (inside_placed P least ps k),
    option_placed P least (TypePlaced P) type_in (λ w m. type_placed P least w m) (second_of r) (second_placed P least r l),
  )

  -- the name, the parameters and the result
  rest_placed : (mutating : Bool) (s : Span) (v : Value) → Placed P v → HeadPlaced P (heads.Function (function_head_of mutating s (first_of v) (first_of (second_of v)) (second_of (second_of v))))
  rest_placed mutating s v h =
      head_placed mutating s (first_of v) (first_of (second_of v)) (second_of (second_of v)) (first_placed P least v h)
      (first_placed P least (second_of v) (second_placed P least v h)) (second_placed P least (second_of v) (second_placed P least v h))

  function_value_placed : KeptBy P function_value
  function_value_placed v h = rest_placed false (span_of (first_of v)) (second_of v) (second_placed P least v h)

  mutating_value_placed : KeptBy P mutating_value
  mutating_value_placed v h = rest_placed true (span_of (first_of v)) (second_of (second_of v)) (second_placed P least (second_of v) (second_placed P least v h))

  keeps_function_rest : Keeps P function_rest
  unfolding function_rest
  keeps_function_rest = (tt, (tt, (keeps_arrow P least, tt)))

  pub keeps_function_head : Keeps P function_head
  unfolding function_head
  keeps_function_head = (function_value_placed, (tt, keeps_function_rest))

  pub keeps_mutating_head : Keeps P mutating_head
  unfolding mutating_head
  keeps_mutating_head = (mutating_value_placed, (tt, (tt, keeps_function_rest)))

  type_head_value_placed : KeptBy P type_head_value
  type_head_value_placed (pair (leaf l) n) (h, k) = name_placed P least n k
  type_head_value_placed v h = tt

  pub keeps_type_head : (ss : List Sort) → Keeps P (type_head ss)
  unfolding type_head
  keeps_type_head ss = (type_head_value_placed, (tt, tt))

  variable_value_placed : KeptBy P variable_value
  variable_value_placed (pair (leaf l) (pair n t)) (h, (k, m)) = (h, name_placed P least n k, option_placed P least (TypePlaced P) type_in (λ w i. type_placed P least w i) t m)
  variable_value_placed v h = tt

  pub keeps_variable_head : (ss : List Sort) → Keeps P (variable_head ss)
  unfolding variable_head
  keeps_variable_head ss = (variable_value_placed, (tt, (tt, (keeps_typed, tt))))

  subscript_value_placed : KeptBy P subscript_value
  subscript_value_placed (pair s (pair ps r)) (h, (k, m)) =
      (span_placed P least s h, parameters_placed P least (inside ps) (inside_placed P least ps k), type_placed P least (second_of r) (second_placed P least r m))
  subscript_value_placed v h = tt

  pub keeps_subscript_head : Keeps P subscript_head
  unfolding subscript_head
  keeps_subscript_head = (subscript_value_placed, (tt, (tt, keeps_arrow P least)))
