-- Where the faults of each node stand, the nodes in order: by the place of their first token, outer before inner.
use Rattle.std.specs.Prelude.{ℕ, List, [], ◌∷◌, ◌++◌, map, Option, Some, None}
use Rattle.sx_tree.specs.declared.written_types.WrittenType.{WrittenType, fold-WrittenType, WrittenType-F}
use Rattle.sx_tree.specs.declared.written_types.TypeForm.{TypeForm, fold-TypeForm, TypeForm-F}
use Rattle.sx_tree.specs.declared.written_types.TypeParameter.{TypeParameter, fold-TypeParameter, TypeParameter-F}
use Rattle.sx_tree.specs.declared.written_types.ClosureParameter.{ClosureParameter}
use Rattle.sx_tree.specs.declared.written_types.Signature.{Signature}
use Rattle.sx_tree.specs.declared.written_types.Signature.TheVariants as signatures
use Rattle.sx_tree.specs.declared.written_types.Name.{Name}
use Rattle.sx_tree.specs.declared.code.Argument.{Argument, fold-Argument, Argument-F}
use Rattle.sx_tree.specs.declared.code.Block.{Block, fold-Block, Block-F}
use Rattle.sx_tree.specs.declared.code.Closure.{Closure, fold-Closure, Closure-F}
use Rattle.sx_tree.specs.declared.code.Else.{Else, fold-Else, Else-F}
use Rattle.sx_tree.specs.declared.code.Expr.{Expr, fold-Expr, Expr-F}
use Rattle.sx_tree.specs.declared.code.ExprForm.{ExprForm, fold-ExprForm, ExprForm-F}
use Rattle.sx_tree.specs.declared.code.Link.{Link, fold-Link, Link-F}
use Rattle.sx_tree.specs.declared.code.Local.{Local, fold-Local, Local-F}
use Rattle.sx_tree.specs.declared.code.Part.{Part, fold-Part, Part-F}
use Rattle.sx_tree.specs.declared.code.Statement.{Statement, fold-Statement, Statement-F}
use Rattle.sx_tree.specs.declared.code.StatementForm.{StatementForm, fold-StatementForm, StatementForm-F}
use Rattle.sx_tree.specs.declared.declarations.Accessor.{Accessor}
use Rattle.sx_tree.specs.declared.declarations.Function.{Function}
use Rattle.sx_tree.specs.declared.declarations.Initialiser.{Initialiser}
use Rattle.sx_tree.specs.declared.declarations.Item.{Item}
use Rattle.sx_tree.specs.declared.declarations.Item.TheVariants as items
use Rattle.sx_tree.specs.declared.declarations.Member.{Member}
use Rattle.sx_tree.specs.declared.declarations.Member.TheVariants as members
use Rattle.sx_tree.specs.declared.declarations.Parameter.{Parameter}
use Rattle.sx_tree.specs.declared.declarations.Subscript.{Subscript}
use Rattle.sx_tree.specs.declared.declarations.TypeDeclaration.{TypeDeclaration}
use Rattle.sx_tree.specs.declared.declarations.Variable.{Variable}
use Rattle.sx_tree.specs.declared.nodes.FaultOf.{FaultOf}
use Rattle.sx_tree.specs.declared.nodes.FaultOf.TheVariants as faults

abbrev pub Places : Type 0
Places = List ℕ

-- one behind the other
abbrev pub all : List Places → Places
all [] = []
all (p ∷ ps) = p ++ all ps

abbrev pub option_places : {X : Type 0} → (X → Places) → Option X → Places
option_places f None = []
option_places f (Some x) = f x

-- types
abbrev pub type_form_step : TypeForm-F (ℕ → Places) Places Places → ℕ → Places
type_form_step (TypeForm-F.Named n) start = start ∷ []
type_form_step TypeForm-F.Unit start = start ∷ []
type_form_step (TypeForm-F.Bracketed t) start = start ∷ t
type_form_step (TypeForm-F.Function ps r) start = start ∷ (all ps ++ r)
type_form_step (TypeForm-F.Array n) start = start ∷ []

abbrev pub type_step : WrittenType-F (ℕ → Places) Places Places → Places
type_step t = t.form t.span.start

abbrev pub type_parameter_step : TypeParameter-F (ℕ → Places) Places Places → Places
type_parameter_step p = p.ty

abbrev pub type_places : WrittenType → Places
type_places = fold-WrittenType (ℕ → Places) Places Places type_form_step type_parameter_step type_step

abbrev pub type_form_places : TypeForm → ℕ → Places
type_form_places = fold-TypeForm (ℕ → Places) Places Places type_form_step type_parameter_step type_step

abbrev pub type_parameter_places : TypeParameter → Places
type_parameter_places = fold-TypeParameter (ℕ → Places) Places Places type_form_step type_parameter_step type_step

-- the signature of a closure
abbrev pub closure_parameter_places : ClosureParameter → Places
closure_parameter_places p = p.name.span.start ∷ type_places p.ty

abbrev pub name_places : Name → Places
name_places n = n.span.start ∷ []

abbrev pub signature_places : Signature → Places
signature_places signatures.Absent = []
signature_places (signatures.Names ns) = all (map name_places ns)
signature_places (signatures.Typed ps r) = all (map closure_parameter_places ps) ++ option_places type_places r

-- Expressions and statements. What stands behind an operand makes nodes that start at the operand, and has nodes in it.
pub record PartNodes : Type 0 where
  pub own : ℕ → Places
  pub inner : Places

-- a closure as an argument: two nodes at one place
abbrev pub trailing : Option Places → Places
trailing None = []
trailing (Some []) = []
trailing (Some (p ∷ ps)) = p ∷ (p ∷ ps)

-- that of the call with a trailing closure alone
abbrev pub called : {X : Type 0} → Option X → ℕ → Places
called None start = []
called (Some x) start = start ∷ []

-- each operator of a chain has one
abbrev pub own_of_links : List Places → ℕ → Places
own_of_links [] start = []
own_of_links (l ∷ ls) start = start ∷ own_of_links ls start

abbrev pub own_of_parts : List PartNodes → ℕ → Places
own_of_parts [] start = []
own_of_parts (p ∷ ps) start = p.own start ++ own_of_parts ps start

abbrev pub inner_of_parts : List PartNodes → Places
inner_of_parts [] = []
inner_of_parts (p ∷ ps) = p.inner ++ inner_of_parts ps

abbrev pub else_step : Else-F Places (ℕ → Places) PartNodes (ℕ → Places) Places Places Places Places Places Places Places → Places
else_step Else-F.Absent = []
else_step (Else-F.Block b) = b
else_step (Else-F.ElseIf s) = s

abbrev pub form_step : ExprForm-F Places (ℕ → Places) PartNodes (ℕ → Places) Places Places Places Places Places Places Places → ℕ → Places
form_step (ExprForm-F.Int n) start = start ∷ []
form_step ExprForm-F.LeastInt start = start ∷ []
form_step (ExprForm-F.Bool b) start = start ∷ []
form_step (ExprForm-F.Named n c) start = called c start ++ start ∷ trailing c
form_step ExprForm-F.SelfWord start = start ∷ []
form_step (ExprForm-F.Bracketed e) start = start ∷ e
form_step (ExprForm-F.PrintText n) start = start ∷ []
form_step (ExprForm-F.Negate e) start = start ∷ e
form_step (ExprForm-F.Not e) start = start ∷ e
form_step (ExprForm-F.Chain e ls) start = own_of_links ls start ++ (e ++ all ls)
form_step (ExprForm-F.Postfix e ps) start = own_of_parts ps start ++ (e ++ inner_of_parts ps)
form_step (ExprForm-F.Closure c) start = c
form_step (ExprForm-F.Array es) start = start ∷ all es

abbrev pub part_step : Part-F Places (ℕ → Places) PartNodes (ℕ → Places) Places Places Places Places Places Places Places → PartNodes
part_step (Part-F.Member end n c) = record { own = λ start. called c start ++ start ∷ []; inner = trailing c }
part_step (Part-F.Index end es) = record { own = λ start. start ∷ []; inner = all es }
part_step (Part-F.Call end as_ c) = record { own = λ start. start ∷ []; inner = all as_ ++ trailing c }

-- a statement that declares a local has the place of its name
abbrev pub statement_form_step : StatementForm-F Places (ℕ → Places) PartNodes (ℕ → Places) Places Places Places Places Places Places Places → ℕ → Places
statement_form_step (StatementForm-F.Expr e) start = start ∷ e
statement_form_step (StatementForm-F.Assign o a b) start = start ∷ (a ++ b)
statement_form_step (StatementForm-F.If c b e) start = start ∷ (c ++ (b ++ e))
statement_form_step (StatementForm-F.While c b) start = start ∷ (c ++ b)
statement_form_step (StatementForm-F.Return e) start = start ∷ option_places (λ p. p) e
statement_form_step StatementForm-F.Break start = start ∷ []
statement_form_step StatementForm-F.Continue start = start ∷ []
statement_form_step (StatementForm-F.Local l) start = l

abbrev pub argument_step : Argument-F Places (ℕ → Places) PartNodes (ℕ → Places) Places Places Places Places Places Places Places → Places
argument_step a = a.span.start ∷ a.value

abbrev pub block_step : Block-F Places (ℕ → Places) PartNodes (ℕ → Places) Places Places Places Places Places Places Places → Places
block_step b = b.span.start ∷ all b.statements

abbrev pub closure_step : Closure-F Places (ℕ → Places) PartNodes (ℕ → Places) Places Places Places Places Places Places Places → Places
closure_step c = c.span.start ∷ (signature_places c.signature ++ all c.body)

abbrev pub expr_step : Expr-F Places (ℕ → Places) PartNodes (ℕ → Places) Places Places Places Places Places Places Places → Places
expr_step e = e.form e.span.start

abbrev pub link_step : Link-F Places (ℕ → Places) PartNodes (ℕ → Places) Places Places Places Places Places Places Places → Places
link_step l = l.operand

abbrev pub local_step : Local-F Places (ℕ → Places) PartNodes (ℕ → Places) Places Places Places Places Places Places Places → Places
local_step l = l.name.span.start ∷ (option_places type_places l.ty ++ l.value)

abbrev pub statement_step : Statement-F Places (ℕ → Places) PartNodes (ℕ → Places) Places Places Places Places Places Places Places → Places
statement_step s = s.form s.span.start

abbrev pub else_places : Else → Places
else_places = fold-Else Places (ℕ → Places) PartNodes (ℕ → Places) Places Places Places Places Places Places Places else_step form_step part_step statement_form_step argument_step block_step closure_step expr_step link_step local_step statement_step

abbrev pub form_places : ExprForm → ℕ → Places
form_places = fold-ExprForm Places (ℕ → Places) PartNodes (ℕ → Places) Places Places Places Places Places Places Places else_step form_step part_step statement_form_step argument_step block_step closure_step expr_step link_step local_step statement_step

abbrev pub part_nodes : Part → PartNodes
part_nodes = fold-Part Places (ℕ → Places) PartNodes (ℕ → Places) Places Places Places Places Places Places Places else_step form_step part_step statement_form_step argument_step block_step closure_step expr_step link_step local_step statement_step

abbrev pub statement_form_places : StatementForm → ℕ → Places
statement_form_places = fold-StatementForm Places (ℕ → Places) PartNodes (ℕ → Places) Places Places Places Places Places Places Places else_step form_step part_step statement_form_step argument_step block_step closure_step expr_step link_step local_step statement_step

abbrev pub argument_places : Argument → Places
argument_places = fold-Argument Places (ℕ → Places) PartNodes (ℕ → Places) Places Places Places Places Places Places Places else_step form_step part_step statement_form_step argument_step block_step closure_step expr_step link_step local_step statement_step

abbrev pub block_places : Block → Places
block_places = fold-Block Places (ℕ → Places) PartNodes (ℕ → Places) Places Places Places Places Places Places Places else_step form_step part_step statement_form_step argument_step block_step closure_step expr_step link_step local_step statement_step

abbrev pub closure_places : Closure → Places
closure_places = fold-Closure Places (ℕ → Places) PartNodes (ℕ → Places) Places Places Places Places Places Places Places else_step form_step part_step statement_form_step argument_step block_step closure_step expr_step link_step local_step statement_step

abbrev pub expr_places : Expr → Places
expr_places = fold-Expr Places (ℕ → Places) PartNodes (ℕ → Places) Places Places Places Places Places Places Places else_step form_step part_step statement_form_step argument_step block_step closure_step expr_step link_step local_step statement_step

abbrev pub link_places : Link → Places
link_places = fold-Link Places (ℕ → Places) PartNodes (ℕ → Places) Places Places Places Places Places Places Places else_step form_step part_step statement_form_step argument_step block_step closure_step expr_step link_step local_step statement_step

abbrev pub local_places : Local → Places
local_places = fold-Local Places (ℕ → Places) PartNodes (ℕ → Places) Places Places Places Places Places Places Places else_step form_step part_step statement_form_step argument_step block_step closure_step expr_step link_step local_step statement_step

abbrev pub statement_places : Statement → Places
statement_places = fold-Statement Places (ℕ → Places) PartNodes (ℕ → Places) Places Places Places Places Places Places Places else_step form_step part_step statement_form_step argument_step block_step closure_step expr_step link_step local_step statement_step

-- Declarations. A fault of an accessor as a whole stands at the place of its declaration, and one of its parameter at the name of that
-- parameter, if it is written.
abbrev pub name_or : ℕ → Option Name → ℕ
name_or place None = place
name_or place (Some n) = n.span.start

abbrev pub accessor_place : FaultOf → ℕ → Accessor → ℕ
accessor_place faults.Accessor place a = place
accessor_place faults.Parameter place a = name_or place a.parameter

abbrev pub parameter_places : Parameter → Places
parameter_places p = p.name.span.start ∷ type_places p.ty

abbrev pub function_places : Function → Places
function_places f = f.name.span.start ∷ (all (map parameter_places f.parameters) ++ (option_places type_places f.result ++ block_places f.body))

abbrev pub initialiser_places : Initialiser → Places
initialiser_places i = i.span.start ∷ (all (map parameter_places i.parameters) ++ block_places i.body)

module _ (of : FaultOf) where
  abbrev pub accessor_places : ℕ → Accessor → Places
  accessor_places place a = accessor_place of place a ∷ block_places a.body

  abbrev pub variable_places : Variable → Places
  variable_places v = v.name.span.start ∷ (option_places type_places v.ty ++ (option_places expr_places v.value ++ all (map (accessor_places v.name.span.start) v.accessors)))

  abbrev pub subscript_places : Subscript → Places
  subscript_places s = s.span.start ∷ (all (map parameter_places s.parameters) ++ (type_places s.result ++ all (map (accessor_places s.span.start) s.accessors)))

  abbrev pub member_places : Member → Places
  member_places (members.Property v) = variable_places v
  member_places (members.Method f) = function_places f
  member_places (members.Subscript s) = subscript_places s
  member_places (members.Initialiser i) = initialiser_places i

  abbrev pub type_declaration_places : TypeDeclaration → Places
  type_declaration_places t = t.name.span.start ∷ all (map member_places t.members)

  abbrev pub item_places : Item → Places
  item_places (items.Function f) = function_places f
  item_places (items.Type t) = type_declaration_places t
  item_places (items.Global v) = variable_places v
  item_places (items.Statement s) = statement_places s

  abbrev pub places_of_items : List Item → Places
  places_of_items is = all (map item_places is)

-- where the faults of the nodes stand, and where those of accessors' parameters do
abbrev pub all_places : List Item → Places
all_places = places_of_items faults.Accessor

abbrev pub all_parameter_places : List Item → Places
all_parameter_places = places_of_items faults.Parameter
