-- What makes nodes in a tree: which nodes it makes itself, and what stands in it (The Swift Programming Language, "Summary of the
-- Grammar"; the numbers are those of the tree's list of places).
use Rattle.std.specs.Prelude.{ℕ, zero, suc, List, [], ◌∷◌, ◌++◌, map, length, take, slice_get, Option, Some, None}
use Rattle.sx_span.specs.declared.places.Span.{Span}
use Rattle.sx_tree.specs.declared.written_types.WrittenType.{WrittenType, out-WrittenType}
use Rattle.sx_tree.specs.declared.written_types.TypeForm.{TypeForm, TypeForm-F, out-TypeForm}
use Rattle.sx_tree.specs.declared.written_types.TypeParameter.{TypeParameter, out-TypeParameter}
use Rattle.sx_tree.specs.declared.written_types.ClosureParameter.{ClosureParameter}
use Rattle.sx_tree.specs.declared.written_types.Signature.{Signature}
use Rattle.sx_tree.specs.declared.written_types.Signature.TheVariants as signatures
use Rattle.sx_tree.specs.declared.written_types.Name.{Name}
use Rattle.sx_tree.specs.declared.code.Argument.{Argument, out-Argument}
use Rattle.sx_tree.specs.declared.code.Block.{Block, out-Block}
use Rattle.sx_tree.specs.declared.code.Closure.{Closure, out-Closure}
use Rattle.sx_tree.specs.declared.code.Else.{Else, Else-F, out-Else}
use Rattle.sx_tree.specs.declared.code.Expr.{Expr, out-Expr, roll-Expr}
use Rattle.sx_tree.specs.declared.code.ExprForm.{ExprForm, ExprForm-F, out-ExprForm}
use Rattle.sx_tree.specs.declared.code.ExprForm.TheVariants as forms
use Rattle.sx_tree.specs.declared.code.Link.{Link, out-Link}
use Rattle.sx_tree.specs.declared.code.Local.{Local, out-Local}
use Rattle.sx_tree.specs.declared.code.Part.{Part, Part-F, out-Part}
use Rattle.sx_tree.specs.declared.code.Part.TheVariants as parts
use Rattle.sx_tree.specs.declared.code.Statement.{Statement, out-Statement}
use Rattle.sx_tree.specs.declared.code.StatementForm.{StatementForm, StatementForm-F, out-StatementForm}
use Rattle.sx_tree.specs.declared.declarations.Accessor.{Accessor}
use Rattle.sx_tree.specs.declared.declarations.Function.{Function}
use Rattle.sx_tree.specs.declared.declarations.Initialiser.{Initialiser}
use Rattle.sx_tree.specs.declared.declarations.Item.{Item}
use Rattle.sx_tree.specs.declared.declarations.Item.TheVariants as items
use Rattle.sx_tree.specs.declared.declarations.Member.{Member}
use Rattle.sx_tree.specs.declared.declarations.Member.TheVariants as members
use Rattle.sx_tree.specs.declared.declarations.Parameter.{Parameter}
use Rattle.sx_tree.specs.declared.declarations.Subscript.{Subscript}
use Rattle.sx_tree.specs.declared.declarations.TypeDeclaration.{TypeDeclaration}
use Rattle.sx_tree.specs.declared.declarations.Variable.{Variable}
use Rattle.sx_nodes.specs.declared.code.Code.{Code}
use Rattle.sx_nodes.specs.declared.code.Code.TheVariants as code

-- `trailing` is a closure literal behind a call, as an argument
pub data Piece : Type 0 where
  function : Function → Piece
  declaration : TypeDeclaration → Piece
  variable : Variable → Piece
  subscript : Subscript → Piece
  initialiser : Initialiser → Piece
  accessor : Accessor → Piece
  parameter : Parameter → Piece
  written : WrittenType → Piece
  name : Name → Piece
  closure_parameter : ClosureParameter → Piece
  statement : Statement → Piece
  block : Block → Piece
  expression : Expr → Piece
  argument : Argument → Piece
  trailing : Closure → Piece
  closure : Closure → Piece

-- one level of the code of a tree, over its parts
abbrev pub Level : (Type 0 → Type 0 → Type 0 → Type 0 → Type 0 → Type 0 → Type 0 → Type 0 → Type 0 → Type 0 → Type 0 → Type 0) → Type 0
Level F = F Else ExprForm Part StatementForm Argument Block Closure Expr Link Local Statement

-- ---- the nodes that a piece makes itself
-- the fronts of a list with at most so many items, the longest first
abbrev pub fronts : {X : Type 0} → ℕ → List X → List (List X)
fronts zero xs = []
fronts (suc k) xs = take (suc k) xs ∷ fronts k xs

-- a member that is called with a closure literal alone makes a node of its own behind that of the call
abbrev pub uncalled_level : List Part → Level Part-F → List (List Part)
uncalled_level before (Part-F.Member end x (Some c)) = (before ++ parts.Member end x None ∷ []) ∷ []
uncalled_level before part = []

abbrev pub uncalled : List Part → Option Part → List (List Part)
uncalled before None = []
uncalled before (Some part) = uncalled_level before (out-Part part)

abbrev pub part_fronts : ℕ → List Part → List (List Part)
part_fronts zero ps = []
part_fronts (suc k) ps = take (suc k) ps ∷ (uncalled (take k ps) (slice_get ps k) ++ part_fronts k ps)

-- The expressions that start where one does and aren't operands: of operators of one level, of parts behind an operand and of a name
-- that is called with a closure literal alone, each with all that stands to its left.
abbrev pub front_forms : ExprForm → Level ExprForm-F → List ExprForm
front_forms f (ExprForm-F.Named x (Some c)) = f ∷ forms.Named x None ∷ []
front_forms f (ExprForm-F.Chain e ls) = map (λ front. forms.Chain e front) (fronts (length ls) ls)
front_forms f (ExprForm-F.Postfix e ps) = map (λ front. forms.Postfix e front) (part_fronts (length ps) ps)
front_forms f level = f ∷ []

-- a front keeps the bytes of the whole
abbrev pub a_front : Span → ExprForm → Option Code
a_front s f = Some (code.Expression (roll-Expr (record { span = s; form = f })))

abbrev pub own : Piece → List (Option Code)
own (Piece.statement s) = Some (code.Statement s) ∷ []
own (Piece.block b) = Some (code.Block b) ∷ []
own (Piece.expression e) = map (a_front (out-Expr e).span) (front_forms (out-Expr e).form (out-ExprForm (out-Expr e).form))
own (Piece.closure c) = a_front (out-Closure c).span (forms.Closure c) ∷ []
own p = None ∷ []

-- ---- what stands in a piece
abbrev pub optional : {X : Type 0} → (X → Piece) → Option X → List Piece
optional f None = []
optional f (Some x) = f x ∷ []

abbrev pub in_type_level : TypeForm-F TypeForm TypeParameter WrittenType → List Piece
in_type_level (TypeForm-F.Bracketed t) = Piece.written t ∷ []
in_type_level (TypeForm-F.Function ps r) = map (λ p. Piece.written (out-TypeParameter p).ty) ps ++ Piece.written r ∷ []
in_type_level level = []

abbrev pub in_type : TypeForm → List Piece
in_type f = in_type_level (out-TypeForm f)

abbrev pub in_signature : Signature → List Piece
in_signature signatures.Absent = []
in_signature (signatures.Names ns) = map Piece.name ns
in_signature (signatures.Typed ps r) = map Piece.closure_parameter ps ++ optional Piece.written r

abbrev pub in_closure : Closure → List Piece
in_closure c = in_signature (out-Closure c).signature ++ map Piece.statement (out-Closure c).body

abbrev pub in_part_level : Level Part-F → List Piece
in_part_level (Part-F.Member end x c) = optional Piece.trailing c
in_part_level (Part-F.Index end es) = map Piece.expression es
in_part_level (Part-F.Call end as_ c) = map Piece.argument as_ ++ optional Piece.trailing c

abbrev pub in_part : Part → List Piece
in_part p = in_part_level (out-Part p)

abbrev pub in_parts : List Part → List Piece
in_parts [] = []
in_parts (p ∷ ps) = in_part p ++ in_parts ps

abbrev pub in_form_level : Level ExprForm-F → List Piece
in_form_level (ExprForm-F.Named x c) = optional Piece.trailing c
in_form_level (ExprForm-F.Bracketed e) = Piece.expression e ∷ []
in_form_level (ExprForm-F.Negate e) = Piece.expression e ∷ []
in_form_level (ExprForm-F.Not e) = Piece.expression e ∷ []
in_form_level (ExprForm-F.Chain e ls) = Piece.expression e ∷ map (λ l. Piece.expression (out-Link l).operand) ls
in_form_level (ExprForm-F.Postfix e ps) = Piece.expression e ∷ in_parts ps
in_form_level (ExprForm-F.Closure c) = in_closure c
in_form_level (ExprForm-F.Array es) = map Piece.expression es
in_form_level level = []

abbrev pub in_form : ExprForm → List Piece
in_form f = in_form_level (out-ExprForm f)

abbrev pub in_else_level : Level Else-F → List Piece
in_else_level Else-F.Absent = []
in_else_level (Else-F.Block b) = Piece.block b ∷ []
in_else_level (Else-F.ElseIf s) = Piece.statement s ∷ []

abbrev pub in_else : Else → List Piece
in_else e = in_else_level (out-Else e)

abbrev pub in_local : Local → List Piece
in_local l = optional Piece.written (out-Local l).ty ++ Piece.expression (out-Local l).value ∷ []

abbrev pub in_statement_level : Level StatementForm-F → List Piece
in_statement_level (StatementForm-F.Expr e) = Piece.expression e ∷ []
in_statement_level (StatementForm-F.Assign o a b) = Piece.expression a ∷ Piece.expression b ∷ []
in_statement_level (StatementForm-F.If c b e) = Piece.expression c ∷ Piece.block b ∷ in_else e
in_statement_level (StatementForm-F.While c b) = Piece.expression c ∷ Piece.block b ∷ []
in_statement_level (StatementForm-F.Return e) = optional Piece.expression e
in_statement_level (StatementForm-F.Local l) = in_local l
in_statement_level level = []

abbrev pub in_statement : StatementForm → List Piece
in_statement f = in_statement_level (out-StatementForm f)

abbrev pub member : Member → Piece
member (members.Property v) = Piece.variable v
member (members.Method f) = Piece.function f
member (members.Subscript s) = Piece.subscript s
member (members.Initialiser i) = Piece.initialiser i

abbrev pub item : Item → Piece
item (items.Function f) = Piece.function f
item (items.Type t) = Piece.declaration t
item (items.Global v) = Piece.variable v
item (items.Statement s) = Piece.statement s

abbrev pub inner : Piece → List Piece
inner (Piece.function f) = map Piece.parameter f.parameters ++ (optional Piece.written f.result ++ Piece.block f.body ∷ [])
inner (Piece.declaration t) = map member t.members
inner (Piece.variable v) = optional Piece.written v.ty ++ (optional Piece.expression v.value ++ map Piece.accessor v.accessors)
inner (Piece.subscript s) = map Piece.parameter s.parameters ++ Piece.written s.result ∷ map Piece.accessor s.accessors
inner (Piece.initialiser i) = map Piece.parameter i.parameters ++ Piece.block i.body ∷ []
inner (Piece.accessor a) = Piece.block a.body ∷ []
inner (Piece.parameter p) = Piece.written p.ty ∷ []
inner (Piece.written t) = in_type (out-WrittenType t).form
inner (Piece.name n) = []
inner (Piece.closure_parameter p) = Piece.written p.ty ∷ []
inner (Piece.statement s) = in_statement (out-Statement s).form
inner (Piece.block b) = map Piece.statement (out-Block b).statements
inner (Piece.expression e) = in_form (out-Expr e).form
inner (Piece.argument a) = Piece.expression (out-Argument a).value ∷ []
inner (Piece.trailing c) = Piece.closure c ∷ []
inner (Piece.closure c) = in_closure c
