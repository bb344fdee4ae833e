-- What is in a value whose places have a property has it too: names, types and expressions.
use Rattle.std.proofs.Common.{ℕ, [], None}
use Rattle.sx_tree.specs.declared.written_types.Signature.TheVariants as signatures
use Rattle.sx_tree.specs.declared.written_types.TypeForm.TheVariants as type_forms
use Rattle.sx_tree.specs.declared.code.Part.TheVariants as parts
use Rattle.sx_tree.specs.declared.operators.BinaryOperator.TheVariants as binary
use Rattle.sx_tree.specs.declared.code.ExprForm.TheVariants as forms
use Rattle.sx_grammar.specs.Value.{Value, nothing, leaf, pair, a_type, a_type_parameter, type_parameters, a_parameter, parameters, an_expr, exprs, a_part, part_list, a_link, link_list, name_list, closure_parameters, an_argument, arguments, a_closure, a_closure_parameter, a_block}
use Rattle.sx_grammar.specs.Rules.{argument_in, arguments_in, closure_in, closure_parameter_in, closure_parameters_in, expr_in, exprs_in, first_of, inside, link_in, links_in, list_in, listed_in, name_in, names_in, no_closure, no_expr, no_span, no_type, option_in, parameter_in, parameters_in, part_in, parts_in, second_of, span_of, type_in, type_parameter_in, type_parameters_in}
use Rattle.sx_tree_places.proofs.Each.{Each, IfThere}
use Rattle.sx_tree_places.proofs.Placed.{ArgumentPlaced, ClosureParameterPlaced, ClosurePlaced, ExprPlaced, LinkPlaced, NamePlaced, ParameterPlaced, PartPlaced, Placed, TypeParameterPlaced, TypePlaced}
use Rattle.sx_tree_places.proofs.MadeTypes.{type_made, unit}
use Rattle.sx_tree_places.proofs.MadeExprs.{expr_made, self_word}
use Rattle.sx_tree_places.proofs.MadeParts.{argument_made, closure_made, index, link_made}

module _ (P : ℕ → Type 0) (least : P 0) where
  pub span_placed : (v : Value) → Placed P v → P (span_of v).start
  span_placed (leaf l) h = h
  span_placed (an_expr e) (h, k) = h
  span_placed (a_type t) (h, k) = h
  span_placed (a_closure c) (h, k) = h
  span_placed (a_block b) (h, k) = h
  span_placed v h = least

  pub first_placed : (v : Value) → Placed P v → Placed P (first_of v)
  first_placed (pair a b) (h, k) = h
  first_placed v h = tt

  pub second_placed : (v : Value) → Placed P v → Placed P (second_of v)
  second_placed (pair a b) (h, k) = k
  second_placed v h = tt

  pub inside_placed : (v : Value) → Placed P v → Placed P (inside v)
  inside_placed v h = first_placed (second_of v) (second_placed v h)

  pub opening_placed : (v : Value) → Placed P v → P (span_of (first_of v)).start
  opening_placed v h = span_placed (first_of v) (first_placed v h)

  -- ---- lists
  pub list_placed : {X : Type 0} (Q : X → Type 0) (f : Value → X) → ((v : Value) → Placed P v → Q (f v)) → (v : Value) → Placed P v → Each Q (list_in f v)
  list_placed Q f k (pair v vs) (h, hs) = (k v h, list_placed Q f k vs hs)
  list_placed Q f k v h = tt

  pub listed_placed : {X : Type 0} (Q : X → Type 0) (f : Value → X) → ((v : Value) → Placed P v → Q (f v)) → (v : Value) → Placed P v → Each Q (listed_in f v)
  listed_placed Q f k v h = (k (first_of v) (first_placed v h), list_placed Q f k (second_of v) (second_placed v h))

  pub option_placed : {X : Type 0} (Q : X → Type 0) (f : Value → X) → ((v : Value) → Placed P v → Q (f v)) → (v : Value) → Placed P v → IfThere Q (option_in f v)
  option_placed Q f k nothing h = tt
  option_placed Q f k v h = k v h

  -- ---- names and types
  pub name_placed : (v : Value) → Placed P v → NamePlaced P (name_in v)
  name_placed (leaf l) h = h
  name_placed v h = least

  pub no_type_placed : TypePlaced P no_type
  no_type_placed = type_made P no_span type_forms.Unit least (unit P)

  pub type_placed : (v : Value) → Placed P v → TypePlaced P (type_in v)
  type_placed (a_type t) h = h
  type_placed v h = no_type_placed

  pub type_parameter_placed : (v : Value) → Placed P v → TypeParameterPlaced P (type_parameter_in v)
  type_parameter_placed (a_type_parameter p) h = h
  type_parameter_placed v h = no_type_placed

  pub type_parameters_placed : (v : Value) → Placed P v → Each (TypeParameterPlaced P) (type_parameters_in v)
  type_parameters_placed (type_parameters ps) h = h
  type_parameters_placed v h = tt

  pub parameter_placed : (v : Value) → Placed P v → ParameterPlaced P (parameter_in v)
  parameter_placed (a_parameter p) h = h
  parameter_placed v h = (least, no_type_placed)

  pub parameters_placed : (v : Value) → Placed P v → Each (ParameterPlaced P) (parameters_in v)
  parameters_placed (parameters ps) h = h
  parameters_placed v h = tt

  pub names_placed : (v : Value) → Placed P v → Each (NamePlaced P) (names_in v)
  names_placed (name_list ns) h = h
  names_placed v h = tt

  pub closure_parameter_placed : (v : Value) → Placed P v → ClosureParameterPlaced P (closure_parameter_in v)
  closure_parameter_placed (a_closure_parameter p) h = h
  closure_parameter_placed v h = (least, no_type_placed)

  pub closure_parameters_placed : (v : Value) → Placed P v → Each (ClosureParameterPlaced P) (closure_parameters_in v)
  closure_parameters_placed (closure_parameters ps) h = h
  closure_parameters_placed v h = tt

  -- ---- expressions
  no_expr_placed : ExprPlaced P no_expr
  no_expr_placed = expr_made P no_span forms.SelfWord least (self_word P)

  pub expr_placed : (v : Value) → Placed P v → ExprPlaced P (expr_in v)
  expr_placed (an_expr e) h = h
  expr_placed v h = no_expr_placed

  pub exprs_placed : (v : Value) → Placed P v → Each (ExprPlaced P) (exprs_in v)
  exprs_placed (exprs es) h = h
  exprs_placed v h = tt

  no_closure_placed : ClosurePlaced P no_closure
  no_closure_placed = closure_made P no_span signatures.Absent [] least tt tt

  pub closure_placed : (v : Value) → Placed P v → ClosurePlaced P (closure_in v)
  closure_placed (a_closure c) h = h
  closure_placed v h = no_closure_placed

  no_part_placed : PartPlaced P (parts.Index 0 [])
  no_part_placed = index P 0 [] tt

  pub part_placed : (v : Value) → Placed P v → PartPlaced P (part_in v)
  part_placed (a_part p) h = h
  part_placed v h = no_part_placed

  pub parts_placed : (v : Value) → Placed P v → Each (PartPlaced P) (parts_in v)
  parts_placed (part_list ps) h = h
  parts_placed v h = tt

  no_link_placed : LinkPlaced P (record { operator = binary.Or; operand = no_expr })
  no_link_placed = link_made P binary.Or no_expr no_expr_placed

  pub link_placed : (v : Value) → Placed P v → LinkPlaced P (link_in v)
  link_placed (a_link l) h = h
  link_placed v h = no_link_placed

  pub links_placed : (v : Value) → Placed P v → Each (LinkPlaced P) (links_in v)
  links_placed (link_list ls) h = h
  links_placed v h = tt

  no_argument_placed : ArgumentPlaced P (record { span = no_span; label = None; ampersand = None; value = no_expr })
  no_argument_placed = argument_made P no_span None None no_expr least no_expr_placed

  pub argument_placed : (v : Value) → Placed P v → ArgumentPlaced P (argument_in v)
  argument_placed (an_argument a) h = h
  argument_placed v h = no_argument_placed

  pub arguments_placed : (v : Value) → Placed P v → Each (ArgumentPlaced P) (arguments_in v)
  arguments_placed (arguments xs) h = h
  arguments_placed v h = tt
