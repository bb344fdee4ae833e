-- A visit of declarations counts as many nodes as they have places.
use Rattle.std.proofs.Common.{ℕ, suc, ◌+◌, List, [], ◌∷◌, ◌++◌, Option, Some, None, length, length-append, map, arith}
use Rattle.sx_types.specs.declared.types.Ty.{Ty}
use Rattle.sx_types.specs.declared.types.Ty.TheVariants as ty
use Rattle.sx_tree.specs.declared.code.Expr.{Expr}
use Rattle.sx_tree.specs.declared.declarations.Accessor.{Accessor}
use Rattle.sx_tree.specs.declared.declarations.Function.{Function}
use Rattle.sx_tree.specs.declared.declarations.Initialiser.{Initialiser}
use Rattle.sx_tree.specs.declared.declarations.Item.{Item}
use Rattle.sx_tree.specs.declared.declarations.Item.TheVariants as items
use Rattle.sx_tree.specs.declared.declarations.Member.{Member}
use Rattle.sx_tree.specs.declared.declarations.Member.TheVariants as members
use Rattle.sx_tree.specs.declared.declarations.Parameter.{Parameter}
use Rattle.sx_tree.specs.declared.declarations.Subscript.{Subscript}
use Rattle.sx_tree.specs.declared.declarations.Variable.{Variable}
use Rattle.sx_tree.specs.declared.nodes.FaultOf.{FaultOf}
use Rattle.sx_tree.specs.Nodes.{accessor_places, all, block_places, expr_places, function_places, initialiser_places, item_places, member_places, option_places, parameter_places, places_of_items, subscript_places, type_places, variable_places}
use Rattle.sx_outline.specs.Outline.{accessor_visit, accessors_visit, function_visit, head_visit, initialiser_visit, is_inout, item_visit, items_visit, member_visit, members_visit, parameter_visit, subscript_head_visit, subscript_visit, value_visit, variable_head_visit, variable_visit}
use Rattle.sx_outline.specs.Visit.{Finding, counted, type_or, type_passed, type_visit}
use Rattle.sx_order_items.specs.Counts.{Counts, Finds}
use Rattle.sx_order_items.proofs.CodeVisits.{block_visit-counts, expr_visit-counts, statement_visit-counts}
use Rattle.sx_order_items.proofs.TypeVisits.{type_or-finds, type_passed-counts, type_visit-finds}
use Rattle.sx_order_items.proofs.Visits.{all-find, function_of-finds, passed-next}

module _ (names : ℕ → Option Ty) where
  -- ---- heads
  pub parameter_visit-finds : (p : Parameter) → Finds (length (parameter_places p)) (parameter_visit names p)
  parameter_visit-finds p v = omega (arith, passed-next (is_inout p.marker) (type_visit names p.ty (counted 1 v)), type_visit-finds names p.ty (counted 1 v))

  pub head_visit-counts : (ps : List Parameter) (r : Finding Ty) (m : ℕ) → Finds m r → Counts (length (all (map parameter_places ps)) + m) (head_visit names ps r)
  head_visit-counts ps r m h = function_of-finds (map (parameter_visit names) ps) r (length (all (map parameter_places ps))) m (all-find parameter_places (parameter_visit names) parameter_visit-finds ps) h

  pub function_visit-counts : (f : Function) → Counts (length (function_places f)) (function_visit names f)
  function_visit-counts f v =
      let head : List ℕ = all (map parameter_places f.parameters) in
      let result : List ℕ = option_places type_places f.result in
      let inner : List ℕ = block_places f.body in
      omega (
        arith,
        length-append head (result ++ inner),
        length-append result inner,
        head_visit-counts f.parameters (type_or names ty.Void f.result) (length result) (type_or-finds names ty.Void f.result) (counted 1 v),
        block_visit-counts names f.body (head_visit names f.parameters (type_or names ty.Void f.result) (counted 1 v)),
      )

  pub initialiser_visit-counts : (i : Initialiser) → Counts (length (initialiser_places i)) (initialiser_visit names i)
  initialiser_visit-counts i v =
      let head : List ℕ = all (map parameter_places i.parameters) in
      let inner : List ℕ = block_places i.body in
      let nothing : Finding Ty = λ u. (Some ty.Void, u) in
      omega (arith, length-append head inner, head_visit-counts i.parameters nothing 0 (λ u. omega arith) (counted 1 v), block_visit-counts names i.body (head_visit names i.parameters nothing (counted 1 v)))

  pub accessor_visit-counts : (a : Accessor) → Counts (suc (length (block_places a.body))) (accessor_visit names a)
  accessor_visit-counts a v = omega (arith, block_visit-counts names a.body (counted 1 v))

  -- ---- accessors; whose faults the places are for doesn't count
  module _ (of : FaultOf) where
    pub accessors_visit-counts : (place : ℕ) (as_ : List Accessor) → Counts (length (all (map (accessor_places of place) as_))) (accessors_visit names as_)
    accessors_visit-counts place [] v = omega arith
    accessors_visit-counts place (a ∷ as_) v =
        omega (arith, length-append (accessor_places of place a) (all (map (accessor_places of place) as_)), block_visit-counts names a.body (counted 1 v), accessors_visit-counts place as_ (accessor_visit names a v))

    pub value_visit-counts : (o : Option Expr) → Counts (length (option_places expr_places o)) (value_visit names o)
    value_visit-counts None v = omega arith
    value_visit-counts (Some e) v = expr_visit-counts names e v

    -- ---- variables and subscripts
    pub variable_head_visit-counts : (x : Variable) → Counts (suc (length (option_places type_places x.ty)) + length (option_places expr_places x.value)) (variable_head_visit names x)
    variable_head_visit-counts x v = omega (arith, type_passed-counts names x.ty (counted 1 v), value_visit-counts x.value (type_passed names x.ty (counted 1 v)))

    pub variable_visit-counts : (x : Variable) → Counts (length (variable_places of x)) (variable_visit names x)
    variable_visit-counts x v =
        let type_s : List ℕ = option_places type_places x.ty in
        let value_s : List ℕ = option_places expr_places x.value in
        let accessor_s : List ℕ = all (map (accessor_places of x.name.span.start) x.accessors) in
        omega (arith, length-append type_s (value_s ++ accessor_s), length-append value_s accessor_s, variable_head_visit-counts x v, accessors_visit-counts x.name.span.start x.accessors (variable_head_visit names x v))

    pub subscript_head_visit-counts : (s : Subscript) → Counts (suc (length (all (map parameter_places s.parameters))) + length (type_places s.result)) (subscript_head_visit names s)
    subscript_head_visit-counts s v = omega (arith, head_visit-counts s.parameters (type_visit names s.result) (length (type_places s.result)) (type_visit-finds names s.result) (counted 1 v))

    pub subscript_visit-counts : (s : Subscript) → Counts (length (subscript_places of s)) (subscript_visit names s)
    subscript_visit-counts s v =
        let head : List ℕ = all (map parameter_places s.parameters) in
        let result : List ℕ = type_places s.result in
        let accessor_s : List ℕ = all (map (accessor_places of s.span.start) s.accessors) in
        omega (arith, length-append head (result ++ accessor_s), length-append result accessor_s, subscript_head_visit-counts s v, accessors_visit-counts s.span.start s.accessors (subscript_head_visit names s v))

    -- ---- members and items
    pub member_visit-counts : (m : Member) → Counts (length (member_places of m)) (member_visit names m)
    member_visit-counts (members.Property x) v = variable_visit-counts x v
    member_visit-counts (members.Method f) v = function_visit-counts f v
    member_visit-counts (members.Subscript s) v = subscript_visit-counts s v
    member_visit-counts (members.Initialiser i) v = initialiser_visit-counts i v

    pub members_visit-counts : (ms : List Member) → Counts (length (all (map (member_places of) ms))) (members_visit names ms)
    members_visit-counts [] v = omega arith
    members_visit-counts (m ∷ ms) v =
        omega (arith, length-append (member_places of m) (all (map (member_places of) ms)), member_visit-counts m v, members_visit-counts ms (member_visit names m v))

    pub item_visit-counts : (i : Item) → Counts (length (item_places of i)) (item_visit names i)
    item_visit-counts (items.Function f) v = function_visit-counts f v
    item_visit-counts (items.Type t) v = omega (arith, members_visit-counts t.members (counted 1 v))
    item_visit-counts (items.Global x) v = variable_visit-counts x v
    item_visit-counts (items.Statement s) v = statement_visit-counts names s v

    pub items_visit-counts : (is : List Item) → Counts (length (places_of_items of is)) (items_visit names is)
    items_visit-counts [] v = omega arith
    items_visit-counts (i ∷ is) v = omega (arith, length-append (item_places of i) (places_of_items of is), item_visit-counts i v, items_visit-counts is (item_visit names i v))
