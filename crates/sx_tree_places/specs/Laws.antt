-- Where the nodes of a text's tree stand.
use Rattle.std.specs.Prelude.{ℕ, ◌≤◌, List, length, All}
use Rattle.sx_token.specs.declared.token_list.Tokens.{Tokens}
use Rattle.sx_lexer.specs.Answers.{IsTokens}
use Rattle.sx_tree.specs.declared.tree.Tree.{Tree}
use Rattle.sx_tree.specs.Nodes.{Places, all_places, all_parameter_places}
use Rattle.sx_parser.specs.Answer.{IsTree}

-- each place is one of the text's bytes or its end
abbrev pub LieIn : List ℕ → Places → Type 0
LieIn text places = All (λ p. p ≤ length text) places

-- The faults of each node of the tree stand in the text, and so do those of accessors' parameters.
abbrev pub PlacesLieInTheText : Type 0
PlacesLieInTheText = (text : List ℕ) (tokens : Tokens) (tree : Tree) → IsTokens text tokens → IsTree tokens tree → LieIn text (all_places tree.items) × LieIn text (all_parameter_places tree.items)
