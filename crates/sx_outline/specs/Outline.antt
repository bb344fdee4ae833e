-- The nodes of the declarations of a program, and its function types.
use Rattle.std.specs.Prelude.{ℕ, Bool, true, false, List, [], ◌∷◌, map, Option, Some, None}
use Rattle.sx_span.specs.declared.places.Node.{Node}
use Rattle.sx_tree.specs.declared.code.Expr.{Expr}
use Rattle.sx_tree.specs.declared.declarations.Accessor.{Accessor}
use Rattle.sx_tree.specs.declared.declarations.Function.{Function}
use Rattle.sx_tree.specs.declared.declarations.Initialiser.{Initialiser}
use Rattle.sx_tree.specs.declared.declarations.Item.{Item}
use Rattle.sx_tree.specs.declared.declarations.Item.TheVariants as items
use Rattle.sx_tree.specs.declared.declarations.Marker.{Marker}
use Rattle.sx_tree.specs.declared.declarations.Marker.TheVariants as marker
use Rattle.sx_tree.specs.declared.declarations.Member.{Member}
use Rattle.sx_tree.specs.declared.declarations.Member.TheVariants as members
use Rattle.sx_tree.specs.declared.declarations.Parameter.{Parameter}
use Rattle.sx_tree.specs.declared.declarations.Subscript.{Subscript}
use Rattle.sx_tree.specs.declared.declarations.Variable.{Variable}
use Rattle.sx_types.specs.declared.types.FunctionParameter.{FunctionParameter}
use Rattle.sx_types.specs.declared.types.Ty.{Ty}
use Rattle.sx_types.specs.declared.types.Ty.TheVariants as ty
use Rattle.sx_outline.specs.declared.outline.ItemNodes.{ItemNodes}
use Rattle.sx_outline.specs.declared.outline.MemberNodes.{MemberNodes}
use Rattle.sx_outline.specs.declared.outline.Outline.{Outline}
use Rattle.sx_outline.specs.Visit.{Visited, Visiting, Finding, counted, passed, function_of, type_visit, type_or, type_passed, block_visit, expr_visit, statement_visit}

abbrev pub node : ℕ → Node
node n = record { 0 = n }

abbrev pub is_inout : Marker → Bool
is_inout marker.InOut = true
is_inout m = false

module _ (names : ℕ → Option Ty) where
  abbrev pub accessor_visit : Accessor → Visiting
  accessor_visit a v = block_visit names a.body (counted 1 v)

  abbrev pub accessors_visit : List Accessor → Visiting
  accessors_visit [] v = v
  accessors_visit (a ∷ as_) v = accessors_visit as_ (accessor_visit a v)

  abbrev pub parameter_visit : Parameter → Finding FunctionParameter
  parameter_visit p v = passed (is_inout p.marker) (type_visit names p.ty (counted 1 v))

  -- its head: the parameters and the result
  abbrev pub head_visit : List Parameter → Finding Ty → Visiting
  head_visit ps r v = (function_of (map parameter_visit ps) r v).1

  abbrev pub function_visit : Function → Visiting
  function_visit f v = block_visit names f.body (head_visit f.parameters (type_or names ty.Void f.result) (counted 1 v))

  abbrev pub value_visit : Option Expr → Visiting
  value_visit None v = v
  value_visit (Some e) v = expr_visit names e v

  -- up to the accessors
  abbrev pub variable_head_visit : Variable → Visiting
  variable_head_visit x v = value_visit x.value (type_passed names x.ty (counted 1 v))

  abbrev pub variable_visit : Variable → Visiting
  variable_visit x v = accessors_visit x.accessors (variable_head_visit x v)

  abbrev pub subscript_head_visit : Subscript → Visiting
  subscript_head_visit s v = head_visit s.parameters (type_visit names s.result) (counted 1 v)

  abbrev pub subscript_visit : Subscript → Visiting
  subscript_visit s v = accessors_visit s.accessors (subscript_head_visit s v)

  abbrev pub initialiser_visit : Initialiser → Visiting
  initialiser_visit i v = block_visit names i.body (head_visit i.parameters (λ v. (Some ty.Void, v)) (counted 1 v))

  abbrev pub member_visit : Member → Visiting
  member_visit (members.Property x) v = variable_visit x v
  member_visit (members.Method f) v = function_visit f v
  member_visit (members.Subscript s) v = subscript_visit s v
  member_visit (members.Initialiser i) v = initialiser_visit i v

  abbrev pub members_visit : List Member → Visiting
  members_visit [] v = v
  members_visit (m ∷ ms) v = members_visit ms (member_visit m v)

  abbrev pub item_visit : Item → Visiting
  item_visit (items.Function f) v = function_visit f v
  item_visit (items.Type t) v = members_visit t.members (counted 1 v)
  item_visit (items.Global x) v = variable_visit x v
  item_visit (items.Statement s) v = statement_visit names s v

  abbrev pub items_visit : List Item → Visiting
  items_visit [] v = v
  items_visit (i ∷ is) v = items_visit is (item_visit i v)

  -- ---- the nodes of declarations that are visited from here
  abbrev pub accessor_nodes : List Accessor → Visited → List Node
  accessor_nodes [] v = []
  accessor_nodes (a ∷ as_) v = node v.next ∷ accessor_nodes as_ (accessor_visit a v)

  abbrev pub member_accessors : Member → Visited → List Node
  member_accessors (members.Property x) v = accessor_nodes x.accessors (variable_head_visit x v)
  member_accessors (members.Method f) v = []
  member_accessors (members.Subscript s) v = accessor_nodes s.accessors (subscript_head_visit s v)
  member_accessors (members.Initialiser i) v = []

  abbrev pub member_nodes : List Member → Visited → List MemberNodes
  member_nodes [] v = []
  member_nodes (m ∷ ms) v = record { node = node v.next; accessors = member_accessors m v } ∷ member_nodes ms (member_visit m v)

  abbrev pub item_accessors : Item → Visited → List Node
  item_accessors (items.Function f) v = []
  item_accessors (items.Type t) v = []
  item_accessors (items.Global x) v = accessor_nodes x.accessors (variable_head_visit x v)
  item_accessors (items.Statement s) v = []

  abbrev pub item_members : Item → Visited → List MemberNodes
  item_members (items.Function f) v = []
  item_members (items.Type t) v = member_nodes t.members (counted 1 v)
  item_members (items.Global x) v = []
  item_members (items.Statement s) v = []

  abbrev pub item_nodes : List Item → Visited → List ItemNodes
  item_nodes [] v = []
  item_nodes (i ∷ is) v = record { node = node v.next; accessors = item_accessors i v; members = item_members i v } ∷ item_nodes is (item_visit i v)

abbrev pub nothing_visited : Visited
nothing_visited = record { next = 0; functions = [] }

abbrev pub outline_by : List ItemNodes → Visited → Outline
outline_by is v = record { items = is; nodes = v.next; functions = v.functions }

-- what a program declares, by the types that names mean
abbrev pub outlined : (ℕ → Option Ty) → List Item → Outline
outlined names is = outline_by (item_nodes names is nothing_visited) (items_visit names is nothing_visited)
