-- Pieces of a tree that are held by references, and stacks of them.
use Rattle.std.specs.Prelude.{List, map, reverse}
use Rattle.sx_nodes.specs.declared.pieces.Piece.{Piece as Held}
use Rattle.sx_nodes.specs.declared.pieces.Piece.TheVariants as held
use Rattle.sx_nodes.specs.Pieces.{Piece}

abbrev pub piece : Held → Piece
piece (held.Function f) = Piece.function f.now
piece (held.Declaration t) = Piece.declaration t.now
piece (held.Variable v) = Piece.variable v.now
piece (held.Subscript s) = Piece.subscript s.now
piece (held.Initialiser i) = Piece.initialiser i.now
piece (held.Accessor a) = Piece.accessor a.now
piece (held.Parameter p) = Piece.parameter p.now
piece (held.Written t) = Piece.written t.now
piece (held.Name n) = Piece.name n
piece (held.ClosureParameter p) = Piece.closure_parameter p.now
piece (held.Statement s) = Piece.statement s.now
piece (held.Block b) = Piece.block b.now
piece (held.Expression e) = Piece.expression e.now
piece (held.Argument a) = Piece.argument a.now
piece (held.Trailing c) = Piece.trailing c.now
piece (held.Closure c) = Piece.closure c.now

-- the last of a stack comes first
abbrev pub walked : List Held → List Piece
walked hs = map piece (reverse hs)
