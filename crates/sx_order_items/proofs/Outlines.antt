-- The outline of a program has as many nodes as the program has places, and has declarations at the nodes at which the walk meets them.
use Rattle.std.proofs.Common.{◌≡◌, ℕ, suc, ◌+◌, List, [], ◌∷◌, Option, length, refl, subst, arith}
use Rattle.sx_types.specs.declared.types.Ty.{Ty}
use Rattle.sx_tree.specs.declared.declarations.Accessor.{Accessor}
use Rattle.sx_tree.specs.declared.declarations.Item.{Item}
use Rattle.sx_tree.specs.declared.declarations.Item.TheVariants as items
use Rattle.sx_tree.specs.declared.declarations.Member.{Member}
use Rattle.sx_tree.specs.declared.declarations.Member.TheVariants as members
use Rattle.sx_tree.specs.declared.declarations.Variable.{Variable}
use Rattle.sx_tree.specs.declared.nodes.FaultOf.TheVariants as faults
use Rattle.sx_tree.specs.Nodes.{all_places, block_places, item_places, member_places}
use Rattle.sx_outline.specs.Outline.{accessor_nodes, accessor_visit, item_accessors, item_members, item_nodes, item_visit, member_accessors, member_nodes, member_visit, nothing_visited, outlined, subscript_head_visit, variable_head_visit}
use Rattle.sx_outline.specs.Visit.{Visited, counted}
use Rattle.sx_order_items.specs.Starts.{AccessorsAt, ItemAccessorsAt, ItemMembersAt, ItemsAt, MemberAccessorsAt, MembersAt, behind_head, behind_value}
use Rattle.sx_order_items.proofs.OutlineVisits.{accessor_visit-counts, item_visit-counts, items_visit-counts, member_visit-counts, subscript_head_visit-counts, variable_head_visit-counts}

module _ (names : ℕ → Option Ty) where
  pub accessors-at : (as_ : List Accessor) (v : Visited) → AccessorsAt v.next as_ (accessor_nodes names as_ v)
  accessors-at [] v = tt
  accessors-at (a ∷ as_) v =
      let counts : (accessor_visit names a v).next ≡ suc (length (block_places a.body)) + v.next = accessor_visit-counts names a v in
      (refl, subst (λ (n : ℕ). AccessorsAt n as_ (accessor_nodes names as_ (accessor_visit names a v))) counts (accessors-at as_ (accessor_visit names a v)))

  pub variable-at : (x : Variable) (v : Visited) → AccessorsAt (behind_value v.next x) x.accessors (accessor_nodes names x.accessors (variable_head_visit names x v))
  variable-at x v =
      let counts : (variable_head_visit names x v).next ≡ behind_value v.next x = omega (arith, variable_head_visit-counts names faults.Accessor x v) in
      subst (λ (n : ℕ). AccessorsAt n x.accessors (accessor_nodes names x.accessors (variable_head_visit names x v))) counts (accessors-at x.accessors (variable_head_visit names x v))

  pub member-at : (m : Member) (v : Visited) → MemberAccessorsAt v.next m (member_accessors names m v)
  member-at (members.Property x) v = variable-at x v
  member-at (members.Method f) v = refl
  member-at (members.Subscript s) v =
      let counts : (subscript_head_visit names s v).next ≡ behind_head v.next s = omega (arith, subscript_head_visit-counts names faults.Accessor s v) in
      subst (λ (n : ℕ). AccessorsAt n s.accessors (accessor_nodes names s.accessors (subscript_head_visit names s v))) counts (accessors-at s.accessors (subscript_head_visit names s v))
  member-at (members.Initialiser i) v = refl

  pub members-at : (ms : List Member) (v : Visited) → MembersAt v.next ms (member_nodes names ms v)
  members-at [] v = tt
  members-at (m ∷ ms) v =
      let counts : (member_visit names m v).next ≡ length (member_places faults.Accessor m) + v.next = member_visit-counts names faults.Accessor m v in
      (refl, member-at m v, subst (λ (n : ℕ). MembersAt n ms (member_nodes names ms (member_visit names m v))) counts (members-at ms (member_visit names m v)))

  pub item-accessors-at : (i : Item) (v : Visited) → ItemAccessorsAt v.next i (item_accessors names i v)
  item-accessors-at (items.Function f) v = refl
  item-accessors-at (items.Type t) v = refl
  item-accessors-at (items.Global x) v = variable-at x v
  item-accessors-at (items.Statement s) v = refl

  pub item-members-at : (i : Item) (v : Visited) → ItemMembersAt v.next i (item_members names i v)
  item-members-at (items.Function f) v = refl
  item-members-at (items.Type t) v =
      let start : 1 + v.next ≡ suc v.next = omega arith in
      subst (λ (n : ℕ). MembersAt n t.members (member_nodes names t.members (counted 1 v))) start (members-at t.members (counted 1 v))
  item-members-at (items.Global x) v = refl
  item-members-at (items.Statement s) v = refl

  pub items-at : (is : List Item) (v : Visited) → ItemsAt v.next is (item_nodes names is v)
  items-at [] v = tt
  items-at (i ∷ is) v =
      let counts : (item_visit names i v).next ≡ length (item_places faults.Accessor i) + v.next = item_visit-counts names faults.Accessor i v in
      (refl, item-accessors-at i v, item-members-at i v, subst (λ (n : ℕ). ItemsAt n is (item_nodes names is (item_visit names i v))) counts (items-at is (item_visit names i v)))

  pub outlined-nodes : (is : List Item) → (outlined names is).nodes ≡ length (all_places is)
  outlined-nodes is = omega (arith, items_visit-counts names faults.Accessor is nothing_visited)

  pub outlined-at : (is : List Item) → ItemsAt 0 is (outlined names is).items
  outlined-at is = items-at is nothing_visited
