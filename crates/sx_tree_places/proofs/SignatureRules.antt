-- The rules of what stands before the in of a closure literal.
use Rattle.std.proofs.Common.{ℕ, List, ◌∷◌}
use Rattle.sx_tree.specs.declared.written_types.Name.{Name}
use Rattle.sx_tree.specs.declared.written_types.Signature.TheVariants as signatures
use Rattle.sx_tree.specs.Nodes.{name_places}
use Rattle.sx_grammar.specs.declared.lexemes.Mode.TheVariants as modes
use Rattle.sx_grammar.specs.Value.{Value, pair, a_statement, statements}
use Rattle.sx_grammar.specs.Rules.{closure_parameter, closure_parameter_in, closure_parameter_of, closure_parameter_type, closure_parameters_behind, first_bracket, first_of, from_other, name_in, name_of_statement, named_literal, named_signature, names_behind, names_in, others, second_of}
use Rattle.sx_tree_places.proofs.Each.{Each, each_all}
use Rattle.sx_tree_places.proofs.Placed.{ClosureParameterPlaced, NamePlaced, Placed, KeptBy, SignaturePlaced}
use Rattle.sx_tree_places.proofs.Inside.{closure_parameter_placed, first_placed, list_placed, name_placed, names_placed, second_placed, type_parameter_placed}
use Rattle.sx_tree_places.proofs.InsideCode.{statements_placed}
use Rattle.sx_tree_places.proofs.Keeps.{Keeps}
use Rattle.sx_tree_places.proofs.TypeRules.{keeps_type_parameter}
use Rattle.sx_tree_places.proofs.ExprRules.{keeps_expr}
use Rattle.sx_tree_places.proofs.StatementRules.{keeps_block_items, keeps_expr_statement, keeps_separator}

module _ (P : ℕ → Type 0) (least : P 0) where
  pub keeps_others : Keeps P others
  unfolding others
  keeps_others = (λ v h. second_placed P least v h, (keeps_separator P least, keeps_block_items P least))

  -- ---- names without types
  keeps_names_behind : Keeps P names_behind
  unfolding names_behind
  keeps_names_behind = (λ v h. list_placed P least (NamePlaced P) name_in (λ w k. name_placed P least w k) v h, (λ v h. second_placed P least v h, (tt, tt)))

  names_signature : (ns : List Name) → Each (NamePlaced P) ns → SignaturePlaced P (signatures.Names ns)
  names_signature ns h = each_all P (NamePlaced P) name_places (λ n k. (k, tt)) ns h

  named_literal_placed : KeptBy P named_literal
  named_literal_placed (pair (a_statement s) (statements ss)) (h, k) = (tt, (h, k))
  named_literal_placed (pair (a_statement s) (pair ns v)) (h, (k, l)) =
      (names_signature (name_of_statement s ∷ names_in ns) (h.1, names_placed P least ns k), statements_placed P least (second_of v) (second_placed P least v l))
  named_literal_placed v h = tt

  keeps_named_signature : Keeps P named_signature
  unfolding named_signature
  keeps_named_signature = (keeps_names_behind, (tt, keeps_block_items P least))

  pub keeps_from_other : Keeps P from_other
  unfolding from_other
  keeps_from_other = (named_literal_placed, (keeps_expr_statement P least, (keeps_named_signature, keeps_others), keeps_others))

  -- ---- parameters with types
  pub parameter_of_placed : (n : Name) (v : Value) → NamePlaced P n → Placed P v → ClosureParameterPlaced P (closure_parameter_of n v)
  parameter_of_placed n v h k = (h, type_parameter_placed P least v k)

  keeps_closure_parameter_type : Keeps P closure_parameter_type
  unfolding closure_parameter_type
  keeps_closure_parameter_type = (λ v h. second_placed P least v h, (tt, keeps_type_parameter P least))

  keeps_closure_parameter : Keeps P closure_parameter
  unfolding closure_parameter
  keeps_closure_parameter = (
    λ v h. parameter_of_placed (name_in (first_of v)) (second_of v) (name_placed P least (first_of v) (first_placed P least v h)) (second_placed P least v h),
    (tt, keeps_closure_parameter_type),
  )

  keeps_closure_parameters_behind : Keeps P closure_parameters_behind
  unfolding closure_parameters_behind
  keeps_closure_parameters_behind = (
    λ v h. list_placed P least (ClosureParameterPlaced P) closure_parameter_in (λ w k. closure_parameter_placed P least w k) v h,
    (λ v h. second_placed P least v h, (tt, keeps_closure_parameter)),
  )

  pub keeps_first_bracket : Keeps P first_bracket
  unfolding first_bracket
  keeps_first_bracket = (((keeps_expr P least modes.Free, ((keeps_closure_parameter_type, keeps_closure_parameters_behind), tt), tt), tt), tt)
