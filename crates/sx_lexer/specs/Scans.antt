-- How the ends of comments and texts are found, from left to right.
use Rattle.std.specs.Prelude.{ℕ, zero, suc, Bool, true, false, cond, not, ◌&&◌, ◌||◌, ◌==◌, List, [], ◌∷◌, Option, Some, None}
use Rattle.sx_lexer.specs.declared.comments.Edge.{Edge}
use Rattle.sx_lexer.specs.declared.comments.Edge.TheVariants as edges
use Rattle.sx_lexer.specs.Characters.{quote, star, slash, backslash, is_line_end}

-- what two characters that follow one another do in a comment
abbrev pub edge_of : ℕ → ℕ → Edge
edge_of c d = cond (c == star) (cond (d == slash) edges.Closes edges.Inside) (cond (c == slash) (cond (d == star) edges.Opens edges.Inside) edges.Inside)

-- a choice by an edge
abbrev pub on_edge : {X : Type 0} → Edge → X → X → X → X
on_edge edges.Closes x y z = x
on_edge edges.Opens x y z = y
on_edge edges.Inside x y z = z

-- with so many comments open: where the outermost ends, and whether a line end was passed
unfoldable pub comment_end : ℕ → Bool → List ℕ → Option (List ℕ × Bool)
comment_end zero line s = Some (s, line)
comment_end (suc n) line [] = None
comment_end (suc n) line (c ∷ []) = None
comment_end (suc n) line (c ∷ d ∷ s) =
    on_edge (edge_of c d) (comment_end n line s) (comment_end (suc (suc n)) line s) (comment_end (suc n) (line || is_line_end c) (d ∷ s))

-- whether a text ends on its line; the first test tells whether a backslash stands before the place
unfoldable pub is_closed : Bool → List ℕ → Bool
is_closed escaped [] = false
is_closed escaped (c ∷ s) = cond (is_line_end c) false (cond (not escaped && (c == quote)) true (is_closed (not escaped && (c == backslash)) s))
