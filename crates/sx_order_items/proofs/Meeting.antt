-- The walk over a program meets each declaration at the node that the outline has for it, and with the same number.
use Rattle.std.proofs.Common.{◌≡◌, ℕ, suc, ◌+◌, Bool, true, false, cond, is_none, List, [], ◌∷◌, length, slice_get, Option, Some, None, refl, sym, subst, ap, arith}
use Rattle.sx_types.specs.declared.types.Ty.{Ty}
use Rattle.sx_tree.specs.declared.code.Expr.{Expr}
use Rattle.sx_tree.specs.declared.declarations.Item.{Item}
use Rattle.sx_tree.specs.declared.declarations.Item.TheVariants as items
use Rattle.sx_tree.specs.declared.declarations.Member.{Member}
use Rattle.sx_tree.specs.declared.declarations.Member.TheVariants as members
use Rattle.sx_tree.specs.declared.declarations.TypeKind.{TypeKind}
use Rattle.sx_tree.specs.declared.declarations.TypeKind.TheVariants as type_kind
use Rattle.sx_tree.specs.declared.nodes.FaultOf.TheVariants as faults
use Rattle.sx_tree.specs.declared.written_types.WrittenType.{WrittenType}
use Rattle.sx_tree.specs.Nodes.{item_places, member_places}
use Rattle.sx_scope.specs.declared.stop.TypeStop.{TypeStop}
use Rattle.sx_scope.specs.Walks.{node}
use Rattle.sx_outline.specs.Outline.{item_nodes, item_visit, member_nodes, member_visit}
use Rattle.sx_outline.specs.Visit.{Visited, counted}
use Rattle.sx_tables.specs.declared.names.Numbers.{Numbers}
use Rattle.sx_tables.specs.Names.{behind_item, behind_member, behind_members, behind_type, counted_if}
use Rattle.sx_members.specs.Members as members_of
use Rattle.sx_members.specs.Members.{Before, nothing_before}
use Rattle.sx_settle.specs.Settled.{Giving, giving_by, giving_items, giving_members}
use Rattle.sx_order_items.specs.Stops.{FollowsAt, ItemsStop, MemberStops, MembersStop, StopsBy, StopsLie}
use Rattle.sx_order_items.proofs.OutlineVisits.{item_visit-counts, member_visit-counts}

-- ---- numbers
pub counted-alike : (b : Bool) (k j : ℕ) → k ≡ j → cond b (suc k) k ≡ counted_if b j
counted-alike true k j e = ap suc e
counted-alike false k j e = e

pub member-alike : (m : Member) (b : Before) (k : Numbers) → b.given ≡ k.given → (members_of.behind_member m b).given ≡ (behind_member m k).given
member-alike (members.Property v) b k e = counted-alike (is_none v.ty) b.given k.given e
member-alike (members.Method f) b k e = e
member-alike (members.Subscript s) b k e = e
member-alike (members.Initialiser i) b k e = e

pub type-alike : (t : TypeKind) (k : Numbers) → (behind_type t k).given ≡ k.given
type-alike type_kind.Structure k = refl
type-alike type_kind.Class k = refl

module _ (names : ℕ → Option Ty) (stops : List (Option TypeStop)) (whole : List Giving) (lie : StopsLie whole stops) where
  -- ---- a declaration whose type may be written
  pub variable-stops : (t : Option WrittenType) (o : Option Expr) (n k : ℕ) (rest : List Giving) → FollowsAt whole (giving_by t (node n) o rest) k → StopsBy stops n k o t
  variable-stops (Some t) o n k rest on = tt
  variable-stops None o n k rest on =
      let start : 0 + k ≡ k = omega arith in
      lie k (record { node = node n; value = o }) (subst (λ (j : ℕ). slice_get whole j ≡ Some (record { node = node n; value = o })) start (sym (on 0)))

  pub variable-follows : (t : Option WrittenType) (o : Option Expr) (n k : ℕ) (rest : List Giving) → FollowsAt whole (giving_by t (node n) o rest) k → FollowsAt whole rest (counted_if (is_none t) k)
  variable-follows (Some t) o n k rest on = on
  variable-follows None o n k rest on = λ j. let more : suc j + k ≡ j + suc k = omega arith in subst (λ (i : ℕ). slice_get rest j ≡ slice_get whole i) more (on (suc j))

  -- ---- members
  pub member-stops : (m : Member) (ms : List Member) (v : Visited) (b : Before) (k : Numbers) (rest : List Giving) → b.given ≡ k.given →
      FollowsAt whole (giving_members (m ∷ ms) (member_nodes names (m ∷ ms) v) rest) k.given → MemberStops stops v.next b m
  member-stops (members.Property x) ms v b k rest e on =
      let gs : List Giving = giving_members ms (member_nodes names ms (member_visit names (members.Property x) v)) rest in
      subst (λ (j : ℕ). StopsBy stops v.next j x.value x.ty) (sym e) (variable-stops x.ty x.value v.next k.given gs on)
  member-stops (members.Method f) ms v b k rest e on = tt
  member-stops (members.Subscript s) ms v b k rest e on = tt
  member-stops (members.Initialiser i) ms v b k rest e on = tt

  pub member-follows : (m : Member) (ms : List Member) (v : Visited) (k : Numbers) (rest : List Giving) →
      FollowsAt whole (giving_members (m ∷ ms) (member_nodes names (m ∷ ms) v) rest) k.given → FollowsAt whole (giving_members ms (member_nodes names ms (member_visit names m v)) rest) (behind_member m k).given
  member-follows (members.Property x) ms v k rest on =
      variable-follows x.ty x.value v.next k.given (giving_members ms (member_nodes names ms (member_visit names (members.Property x) v)) rest) on
  member-follows (members.Method f) ms v k rest on = on
  member-follows (members.Subscript s) ms v k rest on = on
  member-follows (members.Initialiser i) ms v k rest on = on

  pub members-stop : (ms : List Member) (v : Visited) (b : Before) (k : Numbers) (rest : List Giving) → b.given ≡ k.given → FollowsAt whole (giving_members ms (member_nodes names ms v) rest) k.given → MembersStop stops v.next b ms
  members-stop [] v b k rest e on = tt
  members-stop (m ∷ ms) v b k rest e on =
      let counts : (member_visit names m v).next ≡ length (member_places faults.Accessor m) + v.next = member_visit-counts names faults.Accessor m v in (
        member-stops m ms v b k rest e on,
        subst (λ (n : ℕ). MembersStop stops n (members_of.behind_member m b) ms) counts
            (members-stop ms (member_visit names m v) (members_of.behind_member m b) (behind_member m k) rest (member-alike m b k e) (member-follows m ms v k rest on)),
      )

  pub members-follow : (ms : List Member) (v : Visited) (k : Numbers) (rest : List Giving) → FollowsAt whole (giving_members ms (member_nodes names ms v) rest) k.given → FollowsAt whole rest (behind_members ms k).given
  members-follow [] v k rest on = on
  members-follow (m ∷ ms) v k rest on = members-follow ms (member_visit names m v) (behind_member m k) rest (member-follows m ms v k rest on)

  -- ---- items
  pub behind-item : (i : Item) (is : List Item) (v : Visited) (k : Numbers) → ItemsStop stops (item_visit names i v).next (behind_item i k) is → ItemsStop stops (length (item_places faults.Accessor i) + v.next) (behind_item i k) is
  behind-item i is v k h =
      let counts : (item_visit names i v).next ≡ length (item_places faults.Accessor i) + v.next = item_visit-counts names faults.Accessor i v in
      subst (λ (n : ℕ). ItemsStop stops n (behind_item i k) is) counts h

  pub items-stop : (is : List Item) (v : Visited) (k : Numbers) → FollowsAt whole (giving_items is (item_nodes names is v)) k.given → ItemsStop stops v.next k is
  items-stop [] v k on = tt
  items-stop (items.Function f ∷ is) v k on = (tt, behind-item (items.Function f) is v k (items-stop is (item_visit names (items.Function f) v) (behind_item (items.Function f) k) on))
  items-stop (items.Type t ∷ is) v k on =
      let rest : List Giving = giving_items is (item_nodes names is (item_visit names (items.Type t) v)) in
      let start : 1 + v.next ≡ suc v.next = omega arith in
      let first : MembersStop stops (1 + v.next) (nothing_before k.given) t.members = members-stop t.members (counted 1 v) (nothing_before k.given) k rest refl on in
      let follows : FollowsAt whole rest (behind_members t.members k).given = members-follow t.members (counted 1 v) k rest on in (
        subst (λ (n : ℕ). MembersStop stops n (nothing_before k.given) t.members) start first,
        behind-item (items.Type t) is v k (items-stop is (item_visit names (items.Type t) v) (behind_item (items.Type t) k) (subst (λ (n : ℕ). FollowsAt whole rest n) (sym (type-alike t.kind (behind_members t.members k))) follows)),
      )
  items-stop (items.Global x ∷ is) v k on =
      let rest : List Giving = giving_items is (item_nodes names is (item_visit names (items.Global x) v)) in
      (variable-stops x.ty x.value v.next k.given rest on, behind-item (items.Global x) is v k (items-stop is (item_visit names (items.Global x) v) (behind_item (items.Global x) k) (variable-follows x.ty x.value v.next k.given rest on)))
  items-stop (items.Statement s ∷ is) v k on = (tt, behind-item (items.Statement s) is v k (items-stop is (item_visit names (items.Statement s) v) (behind_item (items.Statement s) k) on))
