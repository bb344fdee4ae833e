-- The places of a text's tree lie in the text, since those of its tokens do.
use Rattle.std.proofs.Common.{ℕ, ◌≤◌, List, [], ◌∷◌, All, arith, subst}
use Rattle.std.proofs.lemmas.List.Elements.{All-cons, All-nil}
use Rattle.sx_token.specs.declared.token_list.Tokens.{Tokens}
use Rattle.sx_lexer.specs.Answers.{IsTokens}
use Rattle.sx_tree.specs.declared.declarations.Item.{Item}
use Rattle.sx_tree.specs.declared.nodes.FaultOf.{FaultOf}
use Rattle.sx_tree.specs.declared.nodes.FaultOf.TheVariants as faults
use Rattle.sx_tree.specs.declared.tree.Tree.{Tree}
use Rattle.sx_tree.specs.Nodes.{Places, all_parameter_places, all_places, item_places, places_of_items}
use Rattle.sx_grammar.specs.Rules.{body}
use Rattle.sx_parser.specs.Answer.{IsTree, names_of}
use Rattle.sx_parser.specs.Text.{text}
use Rattle.sx_tree_places.specs.Laws.{LieIn}
use Rattle.sx_tree_places.proofs.Each.{Each, each_all}
use Rattle.sx_tree_places.proofs.Placed.{ItemPlaced}
use Rattle.sx_tree_places.proofs.Inside.{first_placed}
use Rattle.sx_tree_places.proofs.Keeps.{Keeps, whole_placed}
use Rattle.sx_tree_places.proofs.ItemRules.{keeps_program}
use Rattle.sx_tree_places.proofs.Table.{keeps_body}
use Rattle.sx_tree_places.proofs.Starts.{lexemes_within}

keeps_text : (P : ℕ → Type 0) (least : P 0) → Keeps P text
unfolding text
keeps_text P least = (λ v h. first_placed P least v h, (keeps_program P least, tt))

all_of_each : (P : ℕ → Type 0) (xs : Places) → Each P xs → All P xs
all_of_each P [] h = All-nil P
all_of_each P (x ∷ xs) (h, hs) = All-cons P x xs h (all_of_each P xs hs)

items_placed : (P : ℕ → Type 0) (of : FaultOf) (is : List Item) → Each (ItemPlaced P) is → All P (places_of_items of is)
items_placed P of is h = all_of_each P (places_of_items of is) (each_all P (ItemPlaced P) (item_places of) (λ i k. k of) is h)

tree_placed : (of : FaultOf) (tokens : Tokens) (tree : Tree) → IsTree tokens tree → All (λ p. p ≤ tokens.end) (places_of_items of tree.items)
tree_placed of tokens tree is =
    let least : 0 ≤ tokens.end = omega arith in
    items_placed (λ p. p ≤ tokens.end) of tree.items
    (whole_placed (λ p. p ≤ tokens.end) body (keeps_body (λ p. p ≤ tokens.end) least) is.read.whole (keeps_text (λ p. p ≤ tokens.end) least) (lexemes_within tokens (names_of tokens))).0

lie_by : (of : FaultOf) (bytes : List ℕ) (tokens : Tokens) (tree : Tree) → IsTokens bytes tokens → IsTree tokens tree → LieIn bytes (places_of_items of tree.items)
lie_by of bytes tokens tree lexed parsed = subst (λ end. All (λ p. p ≤ end) (places_of_items of tree.items)) lexed.shows.end (tree_placed of tokens tree parsed)

pub lie_in_the_text : (bytes : List ℕ) (tokens : Tokens) (tree : Tree) → IsTokens bytes tokens → IsTree tokens tree → LieIn bytes (all_places tree.items) × LieIn bytes (all_parameter_places tree.items)
lie_in_the_text bytes tokens tree lexed parsed = (lie_by faults.Accessor bytes tokens tree lexed parsed, lie_by faults.Parameter bytes tokens tree lexed parsed)
