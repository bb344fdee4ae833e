-- The rules of types and parameters.
use Rattle.std.proofs.Common.{ℕ, List, [], ◌∷◌}
use Rattle.sx_span.specs.declared.places.Span.{Span}
use Rattle.sx_tree.specs.declared.written_types.TypeForm.TheVariants as forms
use Rattle.sx_tree.specs.declared.written_types.TypeParameter.{TypeParameter}
use Rattle.sx_tree.specs.declared.written_types.WrittenType.{WrittenType}
use Rattle.sx_grammar.specs.Value.{nothing, leaf, pair, names_of_parameter, a_marked}
use Rattle.sx_grammar.specs.Rules.{any_type, arrow, bracket_type, closing, first_of, from_to, function_type, in_brackets, inside, labelled, name_number, named_type, parameter, parameter_bracket, parameter_in, parameter_list, parameter_names, parameter_type, parameter_value, second_of, span_of, subscript_bracket, subscript_parameter, subscript_parameter_list, type_bracket, type_in, type_parameter, type_parameter_in, type_parameter_list, type_parameters_in}
use Rattle.sx_tree_places.proofs.Each.{Each}
use Rattle.sx_tree_places.proofs.Placed.{ParameterPlaced, KeptBy, TypeParameterPlaced, TypePlaced}
use Rattle.sx_tree_places.proofs.MadeTypes.{bracketed, function, named, type_made, unit}
use Rattle.sx_tree_places.proofs.Inside.{first_placed, inside_placed, listed_placed, name_placed, opening_placed, parameter_placed, second_placed, type_parameter_placed, type_parameters_placed, type_placed}
use Rattle.sx_tree_places.proofs.Keeps.{Keeps}

module _ (P : ℕ → Type 0) (least : P 0) where
  named_type_placed : KeptBy P named_type
  named_type_placed (leaf l) h = type_made P l.token.span (forms.Named (name_number l.token.kind)) h (named P (name_number l.token.kind))
  named_type_placed v h = tt

  in_brackets_placed : (s : Span) (ps : List TypeParameter) → P s.start → Each (TypeParameterPlaced P) ps → TypePlaced P (in_brackets s ps)
  in_brackets_placed s [] h k = type_made P s forms.Unit h (unit P)
  in_brackets_placed s (p ∷ ps) h (k, ks) = type_made P s (forms.Bracketed p.ty) h (bracketed P p.ty k)

  function_type_placed : (s : Span) (ps : List TypeParameter) (r : WrittenType) → P s.start → Each (TypeParameterPlaced P) ps → TypePlaced P r → TypePlaced P (function_type s ps r)
  function_type_placed s ps r h ks k = type_made P (from_to s r.span) (forms.Function ps r) h (function P ps r ks k)

  bracket_type_placed : KeptBy P bracket_type
  bracket_type_placed (pair v nothing) (h, k) = in_brackets_placed (from_to (span_of (first_of v)) (span_of (closing v))) (type_parameters_in (inside v)) (opening_placed P least v h) (type_parameters_placed P least (inside v) (inside_placed P least v h))
  bracket_type_placed (pair v w) (h, k) =
      function_type_placed (span_of (first_of v)) (type_parameters_in (inside v)) (type_in (second_of w)) (opening_placed P least v h)
      (type_parameters_placed P least (inside v) (inside_placed P least v h)) (type_placed P least (second_of w) (second_placed P least w k))
  bracket_type_placed v h = tt

  pub keeps_arrow : Keeps P arrow
  unfolding arrow
  keeps_arrow = tt

  pub keeps_any_type : Keeps P any_type
  unfolding any_type
  keeps_any_type = ((named_type_placed, tt), (bracket_type_placed, (tt, (keeps_arrow, tt), keeps_arrow)))

  pub keeps_type_parameter : Keeps P type_parameter
  unfolding type_parameter
  keeps_type_parameter = (λ v h. type_placed P least (second_of v) (second_placed P least v h), ((tt, tt), keeps_any_type))

  keeps_type_parameter_list : Keeps P type_parameter_list
  unfolding type_parameter_list
  keeps_type_parameter_list = (
    (λ v h. listed_placed P least (TypeParameterPlaced P) type_parameter_in (λ w k. type_parameter_placed P least w k) v h, (keeps_type_parameter, (λ v h. second_placed P least v h, (tt, keeps_type_parameter)))),
    (λ v h. tt, tt),
  )

  pub keeps_type_bracket : Keeps P type_bracket
  unfolding type_bracket
  keeps_type_bracket = (keeps_type_parameter_list, tt)

  -- ---- parameters
  labelled_placed : KeptBy P labelled
  labelled_placed (pair v nothing) (h, k) = name_placed P least v h
  labelled_placed (pair v w) (h, k) = name_placed P least w k
  labelled_placed v h = tt

  keeps_parameter_names : Keeps P parameter_names
  unfolding parameter_names
  keeps_parameter_names = ((labelled_placed, (tt, (tt, tt))), (λ v h. name_placed P least (second_of v) (second_placed P least v h), (tt, tt)))

  keeps_parameter_type : Keeps P parameter_type
  unfolding parameter_type
  keeps_parameter_type = (
    (λ v h. type_placed P least (second_of v) (second_placed P least v h), (tt, keeps_any_type)),
    (λ v h. type_placed P least (second_of v) (second_placed P least v h), (((tt, tt), tt), keeps_any_type)),
  )

  parameter_value_placed : KeptBy P parameter_value
  parameter_value_placed (pair (names_of_parameter start label name) (pair c (a_marked marker ty))) (h, (k, l)) = (h, l)
  parameter_value_placed v h = tt

  keeps_parameter : Keeps P parameter
  unfolding parameter
  keeps_parameter = (parameter_value_placed, (keeps_parameter_names, (tt, keeps_parameter_type)))

  keeps_parameter_list : Keeps P parameter_list
  unfolding parameter_list
  keeps_parameter_list = (
    (λ v h. listed_placed P least (ParameterPlaced P) parameter_in (λ w k. parameter_placed P least w k) v h, (keeps_parameter, (λ v h. second_placed P least v h, (tt, keeps_parameter)))),
    (λ v h. tt, tt),
  )

  pub keeps_parameter_bracket : Keeps P parameter_bracket
  unfolding parameter_bracket
  keeps_parameter_bracket = (keeps_parameter_list, tt)

  keeps_subscript_parameter : Keeps P subscript_parameter
  unfolding subscript_parameter
  keeps_subscript_parameter = (
    λ v h. (name_placed P least (first_of v) (first_placed P least v h), type_placed P least (second_of (second_of v)) (second_placed P least (second_of v) (second_placed P least v h))),
    (tt, (tt, keeps_any_type)),
  )

  keeps_subscript_parameter_list : Keeps P subscript_parameter_list
  unfolding subscript_parameter_list
  keeps_subscript_parameter_list =
      (λ v h. listed_placed P least (ParameterPlaced P) parameter_in (λ w k. parameter_placed P least w k) v h, (keeps_subscript_parameter, (λ v h. second_placed P least v h, (tt, keeps_subscript_parameter))))

  pub keeps_subscript_bracket : Keeps P subscript_bracket
  unfolding subscript_bracket
  keeps_subscript_bracket = (keeps_subscript_parameter_list, tt)
