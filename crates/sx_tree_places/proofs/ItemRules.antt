-- The rules of members, types and items.
use Rattle.std.proofs.Common.{ℕ, [], ◌∷◌}
use Rattle.sx_tree.specs.declared.declarations.Head.TheVariants as heads
use Rattle.sx_tree.specs.declared.nodes.FaultOf.{FaultOf}
use Rattle.sx_tree.specs.Nodes.{function_places, subscript_places, type_declaration_places}
use Rattle.sx_grammar.specs.declared.lexemes.Sort.{Sort}
use Rattle.sx_grammar.specs.declared.lexemes.Sort.TheVariants as sorts
use Rattle.sx_grammar.specs.Value.{Value, a_head}
use Rattle.sx_grammar.specs.Grammar.{both, either, giving}
use Rattle.sx_grammar.specs.Rules.{block, braces, class_members, declared_of, first_of, function, function_of, inside, item, item_in, list_in, member_in, method, method_value, mutating_head, program, property, second_of, structure_members, subscript_member, subscript_of, type_declaration}
use Rattle.sx_tree_places.proofs.Each.{Each}
use Rattle.sx_tree_places.proofs.Placed.{ItemPlaced, MemberPlaced, Placed, KeptBy}
use Rattle.sx_tree_places.proofs.MadeDeclarations.{declaration_placed, function_placed, subscript_placed}
use Rattle.sx_tree_places.proofs.Inside.{first_placed, inside_placed, list_placed, no_type_placed, second_placed}
use Rattle.sx_tree_places.proofs.InsideCode.{accessors_placed, block_placed, item_placed, member_placed, members_placed, no_block_placed, statement_placed}
use Rattle.sx_tree_places.proofs.Keeps.{Keeps}
use Rattle.sx_tree_places.proofs.HeadRules.{keeps_function_head, keeps_mutating_head, keeps_subscript_head, keeps_type_head}
use Rattle.sx_tree_places.proofs.StatementRules.{keeps_block, keeps_row_item, keeps_statement}
use Rattle.sx_tree_places.proofs.VariableRules.{keeps_accessed, keeps_global, keeps_property}

module _ (P : ℕ → Type 0) (least : P 0) where
  -- ---- functions and subscripts
  function_of_placed : (w b : Value) → Placed P w → Placed P b → Each P (function_places (function_of w b))
  function_of_placed (a_head (heads.Function h)) b (n, ps, r) k = function_placed P (function_of (a_head (heads.Function h)) b) n ps r (block_placed P least b k)
  function_of_placed w b h k = (least, (no_block_placed P least).1)

  parts_placed : (v : Value) → Placed P v → Each P (function_places (function_of (first_of v) (second_of v)))
  parts_placed v h = function_of_placed (first_of v) (second_of v) (first_placed P least v h) (second_placed P least v h)

  method_value_placed : KeptBy P method_value
  method_value_placed v h = λ of. parts_placed v h

  keeps_method : Keeps P method
  unfolding method
  keeps_method = (method_value_placed, (keeps_function_head P least, keeps_block P least))

  module _ (of : FaultOf) where
    subscript_of_placed : (w v : Value) → Placed P w → Placed P v → Each P (subscript_places of (subscript_of w v))
    subscript_of_placed (a_head (heads.Subscript h)) v (s, ps, r) k =
        subscript_placed P of (subscript_of (a_head (heads.Subscript h)) v) s ps r (accessors_placed P least (first_of v) (first_placed P least v k))
    subscript_of_placed w v h k = subscript_placed P of (subscript_of w v) least tt (no_type_placed P least) tt

    declared_of_placed : (w v : Value) → Placed P w → Placed P v → Each P (type_declaration_places of (declared_of w v))
    declared_of_placed (a_head (heads.Type h)) v n k = declaration_placed P of (declared_of (a_head (heads.Type h)) v) n (members_placed P least (inside v) (inside_placed P least v k))
    declared_of_placed w v h k = (least, tt)

  keeps_subscript_member : Keeps P subscript_member
  unfolding subscript_member
  keeps_subscript_member = (
    λ v h of. subscript_of_placed of (first_of v) (second_of v) (first_placed P least v h) (second_placed P least v h),
    (keeps_subscript_head P least, keeps_accessed P least braces),
  )

  -- ---- types
  members_listed : (v : Value) → Placed P v → Each (MemberPlaced P) (list_in member_in v)
  members_listed v h = list_placed P least (MemberPlaced P) member_in (λ w k. member_placed P least w k) v h

  pub keeps_class_members : Keeps P class_members
  unfolding class_members
  keeps_class_members = ((λ v h. members_listed v h, keeps_row_item P least (either property (either method subscript_member)) (keeps_property P least, (keeps_method, keeps_subscript_member))), tt)

  pub keeps_structure_members : Keeps P structure_members
  unfolding structure_members
  keeps_structure_members = (
    (
      λ v h. members_listed v h,
      keeps_row_item P least (either property (either (giving method_value (both mutating_head block)) (either method subscript_member))) (keeps_property P least, ((method_value_placed, (keeps_mutating_head P least, keeps_block P least)), (keeps_method, keeps_subscript_member))),
    ),
    tt,
  )

  keeps_type_declaration : (s : Sort) (n : ℕ) → Keeps P (type_declaration s n)
  unfolding type_declaration
  keeps_type_declaration s n = (
    λ v h of. declared_of_placed of (first_of v) (second_of v) (first_placed P least v h) (second_placed P least v h),
    (keeps_type_head P least (s ∷ []), tt),
  )

  -- ---- items
  keeps_function : Keeps P function
  unfolding function
  keeps_function = (λ v h of. parts_placed v h, (keeps_function_head P least, keeps_block P least))

  keeps_item : Keeps P item
  unfolding item
  keeps_item = (
    keeps_function,
    (keeps_type_declaration sorts.Struct _, (keeps_type_declaration sorts.Class _, (λ v h of. (statement_placed P least v h).0, keeps_statement P least))),
  )

  pub keeps_program : Keeps P program
  unfolding program
  keeps_program = (λ v h. list_placed P least (ItemPlaced P) item_in (λ w k. item_placed P least w k) v h, (keeps_global P least, keeps_row_item P least item keeps_item))
