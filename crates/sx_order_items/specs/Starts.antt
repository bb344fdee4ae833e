-- The nodes at which the walk over a program meets declarations: each stands behind as many nodes as there are places before it.
use Rattle.std.specs.Prelude.{◌≡◌, ℕ, suc, ◌+◌, List, [], ◌∷◌, length, map}
use Rattle.sx_span.specs.declared.places.Node.{Node}
use Rattle.sx_tree.specs.declared.declarations.Accessor.{Accessor}
use Rattle.sx_tree.specs.declared.declarations.Item.{Item}
use Rattle.sx_tree.specs.declared.declarations.Item.TheVariants as items
use Rattle.sx_tree.specs.declared.declarations.Member.{Member}
use Rattle.sx_tree.specs.declared.declarations.Member.TheVariants as members
use Rattle.sx_tree.specs.declared.declarations.Subscript.{Subscript}
use Rattle.sx_tree.specs.declared.declarations.Variable.{Variable}
use Rattle.sx_tree.specs.declared.nodes.FaultOf.TheVariants as faults
use Rattle.sx_tree.specs.Nodes.{all, block_places, expr_places, item_places, member_places, option_places, parameter_places, type_places}
use Rattle.sx_outline.specs.declared.outline.ItemNodes.{ItemNodes}
use Rattle.sx_outline.specs.declared.outline.MemberNodes.{MemberNodes}

-- accessors, of which the first has this number
abbrev pub AccessorsAt : ℕ → List Accessor → List Node → Type 0
AccessorsAt n [] [] = Unit {0}
AccessorsAt n [] (m ∷ ms) = ⊥
AccessorsAt n (a ∷ as_) [] = ⊥
AccessorsAt n (a ∷ as_) (m ∷ ms) = (m.0 ≡ n) × AccessorsAt (suc (length (block_places a.body)) + n) as_ ms

-- those of a variable at this node, behind its type and value, and those of a subscript, behind its head
abbrev pub behind_value : ℕ → Variable → ℕ
behind_value n v = length (option_places expr_places v.value) + (length (option_places type_places v.ty) + suc n)

abbrev pub behind_head : ℕ → Subscript → ℕ
behind_head n s = length (type_places s.result) + (length (all (map parameter_places s.parameters)) + suc n)

abbrev pub MemberAccessorsAt : ℕ → Member → List Node → Type 0
MemberAccessorsAt n (members.Property v) ns = AccessorsAt (behind_value n v) v.accessors ns
MemberAccessorsAt n (members.Method f) ns = ns ≡ []
MemberAccessorsAt n (members.Subscript s) ns = AccessorsAt (behind_head n s) s.accessors ns
MemberAccessorsAt n (members.Initialiser i) ns = ns ≡ []

abbrev pub MembersAt : ℕ → List Member → List MemberNodes → Type 0
MembersAt n [] [] = Unit {0}
MembersAt n [] (k ∷ ks) = ⊥
MembersAt n (m ∷ ms) [] = ⊥
MembersAt n (m ∷ ms) (k ∷ ks) = (k.node.0 ≡ n) × MemberAccessorsAt n m k.accessors × MembersAt (length (member_places faults.Accessor m) + n) ms ks

abbrev pub ItemAccessorsAt : ℕ → Item → List Node → Type 0
ItemAccessorsAt n (items.Function f) ns = ns ≡ []
ItemAccessorsAt n (items.Type t) ns = ns ≡ []
ItemAccessorsAt n (items.Global v) ns = AccessorsAt (behind_value n v) v.accessors ns
ItemAccessorsAt n (items.Statement s) ns = ns ≡ []

abbrev pub ItemMembersAt : ℕ → Item → List MemberNodes → Type 0
ItemMembersAt n (items.Function f) ks = ks ≡ []
ItemMembersAt n (items.Type t) ks = MembersAt (suc n) t.members ks
ItemMembersAt n (items.Global v) ks = ks ≡ []
ItemMembersAt n (items.Statement s) ks = ks ≡ []

abbrev pub ItemsAt : ℕ → List Item → List ItemNodes → Type 0
ItemsAt n [] [] = Unit {0}
ItemsAt n [] (k ∷ ks) = ⊥
ItemsAt n (i ∷ is) [] = ⊥
ItemsAt n (i ∷ is) (k ∷ ks) = (k.node.0 ≡ n) × ItemAccessorsAt n i k.accessors × ItemMembersAt n i k.members × ItemsAt (length (item_places faults.Accessor i) + n) is ks
