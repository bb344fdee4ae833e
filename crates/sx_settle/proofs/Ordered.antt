-- What gives types, one item or member after another.
use Rattle.std.proofs.Common.{◌≡◌, ◌∙◌, List, [], ◌∷◌, ◌++◌, Option, Some, None, refl, sym, ap}
use Rattle.std.proofs.lemmas.List.{append_assoc}
use Rattle.sx_span.specs.declared.places.Node.{Node}
use Rattle.sx_tree.specs.declared.code.Expr.{Expr}
use Rattle.sx_tree.specs.declared.declarations.Item.{Item}
use Rattle.sx_tree.specs.declared.declarations.Item.TheVariants as items
use Rattle.sx_tree.specs.declared.declarations.Member.{Member}
use Rattle.sx_tree.specs.declared.declarations.Member.TheVariants as members
use Rattle.sx_tree.specs.declared.written_types.WrittenType.{WrittenType}
use Rattle.sx_outline.specs.declared.outline.ItemNodes.{ItemNodes}
use Rattle.sx_outline.specs.declared.outline.MemberNodes.{MemberNodes}
use Rattle.sx_settle.specs.Settled.{Giving, giving_by, giving_items, giving_members}
use Rattle.sx_settle.specs.Steps.{giving_item, giving_member}

by_before : (t : Option WrittenType) (n : Node) (e : Option Expr) (gs : List Giving) → giving_by t n e gs ≡ giving_by t n e [] ++ gs
by_before None n e gs = refl
by_before (Some t) n e gs = refl

first_member : (m : Member) (ms : List Member) (n : MemberNodes) (ns : List MemberNodes) (gs : List Giving) → giving_members (m ∷ ms) (n ∷ ns) gs ≡ giving_member m n.node ++ giving_members ms ns gs
first_member (members.Property v) ms n ns gs = by_before v.ty n.node v.value (giving_members ms ns gs)
first_member (members.Method f) ms n ns gs = refl
first_member (members.Subscript s) ms n ns gs = refl
first_member (members.Initialiser i) ms n ns gs = refl

members_before : (ms : List Member) (ns : List MemberNodes) (gs : List Giving) → giving_members ms ns gs ≡ giving_members ms ns [] ++ gs
members_before [] ns gs = refl
members_before (m ∷ ms) [] gs = refl
members_before (m ∷ ms) (n ∷ ns) gs =
    first_member m ms n ns gs
    ∙ ap (λ (rest : List Giving). giving_member m n.node ++ rest) (members_before ms ns gs)
    ∙ sym (append_assoc (giving_member m n.node) (giving_members ms ns []) gs)
    ∙ ap (λ (all : List Giving). all ++ gs) (sym (first_member m ms n ns []))

first_item : (i : Item) (is : List Item) (n : ItemNodes) (ns : List ItemNodes) → giving_items (i ∷ is) (n ∷ ns) ≡ giving_item i n ++ giving_items is ns
first_item (items.Global v) is n ns = by_before v.ty n.node v.value (giving_items is ns)
first_item (items.Type t) is n ns = members_before t.members n.members (giving_items is ns)
first_item (items.Function f) is n ns = refl
first_item (items.Statement s) is n ns = refl

-- what was found, with one more, and what the rest gives is what the whole gives
pub members_on : (found more whole : List Giving) (members rest : List Member) (m : Member) (nodes others : List MemberNodes) (n : MemberNodes) → members ≡ m ∷ rest → nodes ≡ n ∷ others → found ++ giving_members members nodes [] ≡ whole → more ≡ found ++ giving_member m n.node → more ++ giving_members rest others [] ≡ whole
members_on found more whole members rest m nodes others n of_members of_nodes run added =
    ap (λ (gs : List Giving). gs ++ giving_members rest others []) added
    ∙ append_assoc found (giving_member m n.node) (giving_members rest others [])
    ∙ ap (λ (gs : List Giving). found ++ gs) (sym (first_member m rest n others []))
    ∙ ap (λ (ms : List Member). found ++ giving_members ms (n ∷ others) []) (sym of_members)
    ∙ ap (λ (ns : List MemberNodes). found ++ giving_members members ns []) (sym of_nodes)
    ∙ run

pub items_on : (found more whole : List Giving) (items rest : List Item) (i : Item) (nodes others : List ItemNodes) (n : ItemNodes) → items ≡ i ∷ rest → nodes ≡ n ∷ others → found ++ giving_items items nodes ≡ whole → more ≡ found ++ giving_item i n → more ++ giving_items rest others ≡ whole
items_on found more whole items rest i nodes others n of_items of_nodes run added =
    ap (λ (gs : List Giving). gs ++ giving_items rest others) added
    ∙ append_assoc found (giving_item i n) (giving_items rest others)
    ∙ ap (λ (gs : List Giving). found ++ gs) (sym (first_item i rest n others))
    ∙ ap (λ (is : List Item). found ++ giving_items is (n ∷ others)) (sym of_items)
    ∙ ap (λ (ns : List ItemNodes). found ++ giving_items items ns) (sym of_nodes)
    ∙ run
