-- Where the faults lie by which declarations have failed: each at the declaration or among the nodes of its initial value, where the
-- walk over the program meets it.
use Rattle.std.specs.Prelude.{◌≡◌, ℕ, suc, ◌+◌, List, [], ◌∷◌, length, slice_get, Option, Some, None}
use Rattle.sx_tree.specs.declared.code.Expr.{Expr}
use Rattle.sx_tree.specs.declared.declarations.Item.{Item}
use Rattle.sx_tree.specs.declared.declarations.Item.TheVariants as items
use Rattle.sx_tree.specs.declared.declarations.Member.{Member}
use Rattle.sx_tree.specs.declared.declarations.Member.TheVariants as members
use Rattle.sx_tree.specs.declared.declarations.Variable.{Variable}
use Rattle.sx_tree.specs.declared.nodes.FaultOf.TheVariants as faults
use Rattle.sx_tree.specs.declared.written_types.WrittenType.{WrittenType}
use Rattle.sx_tree.specs.Nodes.{expr_places, item_places, member_places}
use Rattle.sx_scope.specs.declared.stop.TypeStop.{TypeStop}
use Rattle.sx_scope.specs.Walks.{node}
use Rattle.sx_tables.specs.declared.names.Numbers.{Numbers}
use Rattle.sx_tables.specs.Names.{behind_item}
use Rattle.sx_members.specs.Members.{Before, behind_member, nothing_before}
use Rattle.sx_members.specs.Variables.{stop_of}
use Rattle.sx_settle.specs.Settled.{Giving}
use Rattle.sx_order.specs.Order.{Lies, number_of}

-- ---- the declaration at node n, which has the number k among those whose initial values give their types
abbrev pub ValueStops : List (Option TypeStop) → ℕ → ℕ → Expr → Type 0
ValueStops stops n k e = (f : TypeStop) → stop_of stops k ≡ Some f → Lies n (length (expr_places e) + suc n) (node (number_of f))

abbrev pub GivenStops : List (Option TypeStop) → ℕ → ℕ → Option Expr → Type 0
GivenStops stops n k None = Unit {0}
GivenStops stops n k (Some e) = ValueStops stops n k e

abbrev pub StopsBy : List (Option TypeStop) → ℕ → ℕ → Option Expr → Option WrittenType → Type 0
StopsBy stops n k o None = GivenStops stops n k o
StopsBy stops n k o (Some t) = Unit {0}

abbrev pub VariableStops : List (Option TypeStop) → ℕ → ℕ → Variable → Type 0
VariableStops stops n k v = StopsBy stops n k v.value v.ty

-- ---- members from node n on, behind such declarations
abbrev pub MemberStops : List (Option TypeStop) → ℕ → Before → Member → Type 0
MemberStops stops n b (members.Property v) = VariableStops stops n b.given v
MemberStops stops n b (members.Method f) = Unit {0}
MemberStops stops n b (members.Subscript s) = Unit {0}
MemberStops stops n b (members.Initialiser i) = Unit {0}

abbrev pub MembersStop : List (Option TypeStop) → ℕ → Before → List Member → Type 0
MembersStop stops n b [] = Unit {0}
MembersStop stops n b (m ∷ ms) = MemberStops stops n b m × MembersStop stops (length (member_places faults.Accessor m) + n) (behind_member m b) ms

-- ---- items from node n on, behind those that are counted so
abbrev pub ItemStops : List (Option TypeStop) → ℕ → Numbers → Item → Type 0
ItemStops stops n k (items.Function f) = Unit {0}
ItemStops stops n k (items.Type t) = MembersStop stops (suc n) (nothing_before k.given) t.members
ItemStops stops n k (items.Global v) = VariableStops stops n k.given v
ItemStops stops n k (items.Statement s) = Unit {0}

abbrev pub ItemsStop : List (Option TypeStop) → ℕ → Numbers → List Item → Type 0
ItemsStop stops n k [] = Unit {0}
ItemsStop stops n k (i ∷ is) = ItemStops stops n k i × ItemsStop stops (length (item_places faults.Accessor i) + n) (behind_item i k) is

-- ---- all that give types to declarations, as they are settled
abbrev pub StopsLie : List Giving → List (Option TypeStop) → Type 0
StopsLie gs stops = (i : ℕ) (g : Giving) → slice_get gs i ≡ Some g → GivenStops stops g.node.0 i g.value

-- a list from its place k on is this one
abbrev pub FollowsAt : {A : Type 0} → List A → List A → ℕ → Type 0
FollowsAt whole part k = (j : ℕ) → slice_get part j ≡ slice_get whole (j + k)
