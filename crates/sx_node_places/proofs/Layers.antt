-- The places of a part of a tree, by those of its parts.
use Rattle.std.proofs.Common.{◌≡◌, ℕ, List, [], ◌∷◌, ◌++◌, map, None, ap}
use Rattle.sx_tree.specs.declared.written_types.WrittenType.{WrittenType, out-WrittenType, fold_out-WrittenType}
use Rattle.sx_tree.specs.declared.written_types.TypeForm.{TypeForm, TypeForm-F, out-TypeForm, fold_out-TypeForm, map-TypeForm}
use Rattle.sx_tree.specs.declared.written_types.TypeParameter.{TypeParameter, out-TypeParameter, fold_out-TypeParameter}
use Rattle.sx_tree.specs.declared.code.Else.{Else, Else-F, fold_out-Else, map-Else, out-Else}
use Rattle.sx_tree.specs.declared.code.ExprForm.{ExprForm, ExprForm-F, fold-roll-ExprForm, fold_out-ExprForm, map-ExprForm, out-ExprForm, roll-ExprForm}
use Rattle.sx_tree.specs.declared.code.Part.{Part, Part-F, fold-roll-Part, fold_out-Part, map-Part, out-Part, roll-Part}
use Rattle.sx_tree.specs.declared.code.StatementForm.{StatementForm, StatementForm-F, fold_out-StatementForm, map-StatementForm, out-StatementForm}
use Rattle.sx_tree.specs.declared.code.Argument.{Argument, fold_out-Argument, out-Argument}
use Rattle.sx_tree.specs.declared.code.Block.{Block, fold_out-Block, out-Block}
use Rattle.sx_tree.specs.declared.code.Closure.{Closure, fold_out-Closure, out-Closure}
use Rattle.sx_tree.specs.declared.code.Expr.{Expr, fold-roll-Expr, fold_out-Expr, out-Expr, roll-Expr}
use Rattle.sx_tree.specs.declared.code.Link.{Link, fold_out-Link, out-Link}
use Rattle.sx_tree.specs.declared.code.Local.{Local, fold_out-Local, out-Local}
use Rattle.sx_tree.specs.declared.code.Statement.{Statement, fold_out-Statement, out-Statement}
use Rattle.sx_tree.specs.declared.code.ExprForm.TheVariants as forms
use Rattle.sx_tree.specs.declared.code.Part.TheVariants as parts
use Rattle.sx_tree.specs.declared.written_types.Name.{Name}
use Rattle.sx_span.specs.declared.places.Span.{Span}
use Rattle.sx_tree.specs.Nodes.{Places, PartNodes, all, option_places, signature_places, own_of_links, own_of_parts, inner_of_parts, type_places, type_form_places, type_parameter_places, type_form_step, type_parameter_step, type_step, else_places, form_places, part_nodes, statement_form_places, argument_places, block_places, closure_places, expr_places, link_places, local_places, statement_places, else_step, form_step, part_step, statement_form_step, argument_step, block_step, closure_step, expr_step, link_step, local_step, statement_step}
use Rattle.sx_nodes.specs.Pieces.{Level}

-- a level with the places of its parts
abbrev pub PlacesLevel : (Type 0 → Type 0 → Type 0 → Type 0 → Type 0 → Type 0 → Type 0 → Type 0 → Type 0 → Type 0 → Type 0 → Type 0) → Type 0
PlacesLevel F = F Places (ℕ → Places) PartNodes (ℕ → Places) Places Places Places Places Places Places Places

abbrev pub placed_else : Level Else-F → PlacesLevel Else-F
placed_else = map-Else Else ExprForm Part StatementForm Argument Block Closure Expr Link Local Statement Places (ℕ → Places) PartNodes (ℕ → Places) Places Places Places Places Places Places Places else_places form_places part_nodes statement_form_places argument_places block_places closure_places expr_places link_places local_places statement_places

abbrev pub placed_form : Level ExprForm-F → PlacesLevel ExprForm-F
placed_form = map-ExprForm Else ExprForm Part StatementForm Argument Block Closure Expr Link Local Statement Places (ℕ → Places) PartNodes (ℕ → Places) Places Places Places Places Places Places Places else_places form_places part_nodes statement_form_places argument_places block_places closure_places expr_places link_places local_places statement_places

abbrev pub placed_part : Level Part-F → PlacesLevel Part-F
placed_part = map-Part Else ExprForm Part StatementForm Argument Block Closure Expr Link Local Statement Places (ℕ → Places) PartNodes (ℕ → Places) Places Places Places Places Places Places Places else_places form_places part_nodes statement_form_places argument_places block_places closure_places expr_places link_places local_places statement_places

abbrev pub placed_statement_form : Level StatementForm-F → PlacesLevel StatementForm-F
placed_statement_form = map-StatementForm Else ExprForm Part StatementForm Argument Block Closure Expr Link Local Statement Places (ℕ → Places) PartNodes (ℕ → Places) Places Places Places Places Places Places Places else_places form_places part_nodes statement_form_places argument_places block_places closure_places expr_places link_places local_places statement_places

abbrev pub placed_type_form : TypeForm-F TypeForm TypeParameter WrittenType → TypeForm-F (ℕ → Places) Places Places
placed_type_form = map-TypeForm TypeForm TypeParameter WrittenType (ℕ → Places) Places Places type_form_places type_parameter_places type_places

-- ---- types
pub type_is : (t : WrittenType) → type_places t ≡ type_form_places (out-WrittenType t).form (out-WrittenType t).span.start
type_is t = fold_out-WrittenType (ℕ → Places) Places Places type_form_step type_parameter_step type_step t

pub type_form_is : (f : TypeForm) (start : ℕ) → type_form_places f start ≡ type_form_step (placed_type_form (out-TypeForm f)) start
type_form_is f start = ap (λ (g : ℕ → Places). g start) (fold_out-TypeForm (ℕ → Places) Places Places type_form_step type_parameter_step type_step f)

pub type_parameter_is : (p : TypeParameter) → type_parameter_places p ≡ type_places (out-TypeParameter p).ty
type_parameter_is p = fold_out-TypeParameter (ℕ → Places) Places Places type_form_step type_parameter_step type_step p

-- ---- expressions and statements
pub expr_is : (e : Expr) → expr_places e ≡ form_places (out-Expr e).form (out-Expr e).span.start
expr_is e = fold_out-Expr Places (ℕ → Places) PartNodes (ℕ → Places) Places Places Places Places Places Places Places else_step form_step part_step statement_form_step argument_step block_step closure_step expr_step link_step local_step statement_step e

pub statement_is : (s : Statement) → statement_places s ≡ statement_form_places (out-Statement s).form (out-Statement s).span.start
statement_is s = fold_out-Statement Places (ℕ → Places) PartNodes (ℕ → Places) Places Places Places Places Places Places Places else_step form_step part_step statement_form_step argument_step block_step closure_step expr_step link_step local_step statement_step s

pub block_is : (b : Block) → block_places b ≡ (out-Block b).span.start ∷ all (map statement_places (out-Block b).statements)
block_is b = fold_out-Block Places (ℕ → Places) PartNodes (ℕ → Places) Places Places Places Places Places Places Places else_step form_step part_step statement_form_step argument_step block_step closure_step expr_step link_step local_step statement_step b

pub closure_is : (c : Closure) → closure_places c ≡ (out-Closure c).span.start ∷ (signature_places (out-Closure c).signature ++ all (map statement_places (out-Closure c).body))
closure_is c = fold_out-Closure Places (ℕ → Places) PartNodes (ℕ → Places) Places Places Places Places Places Places Places else_step form_step part_step statement_form_step argument_step block_step closure_step expr_step link_step local_step statement_step c

pub argument_is : (a : Argument) → argument_places a ≡ (out-Argument a).span.start ∷ expr_places (out-Argument a).value
argument_is a = fold_out-Argument Places (ℕ → Places) PartNodes (ℕ → Places) Places Places Places Places Places Places Places else_step form_step part_step statement_form_step argument_step block_step closure_step expr_step link_step local_step statement_step a

pub link_is : (l : Link) → link_places l ≡ expr_places (out-Link l).operand
link_is l = fold_out-Link Places (ℕ → Places) PartNodes (ℕ → Places) Places Places Places Places Places Places Places else_step form_step part_step statement_form_step argument_step block_step closure_step expr_step link_step local_step statement_step l

pub local_is : (l : Local) → local_places l ≡ (out-Local l).name.span.start ∷ (option_places type_places (out-Local l).ty ++ expr_places (out-Local l).value)
local_is l = fold_out-Local Places (ℕ → Places) PartNodes (ℕ → Places) Places Places Places Places Places Places Places else_step form_step part_step statement_form_step argument_step block_step closure_step expr_step link_step local_step statement_step l

pub else_is : (e : Else) → else_places e ≡ else_step (placed_else (out-Else e))
else_is e = fold_out-Else Places (ℕ → Places) PartNodes (ℕ → Places) Places Places Places Places Places Places Places else_step form_step part_step statement_form_step argument_step block_step closure_step expr_step link_step local_step statement_step e

pub part_is : (p : Part) → part_nodes p ≡ part_step (placed_part (out-Part p))
part_is p = fold_out-Part Places (ℕ → Places) PartNodes (ℕ → Places) Places Places Places Places Places Places Places else_step form_step part_step statement_form_step argument_step block_step closure_step expr_step link_step local_step statement_step p

pub form_is : (f : ExprForm) (start : ℕ) → form_places f start ≡ form_step (placed_form (out-ExprForm f)) start
form_is f start = ap (λ (g : ℕ → Places). g start) (fold_out-ExprForm Places (ℕ → Places) PartNodes (ℕ → Places) Places Places Places Places Places Places Places else_step form_step part_step statement_form_step argument_step block_step closure_step expr_step link_step local_step statement_step f)

pub statement_form_is : (f : StatementForm) (start : ℕ) → statement_form_places f start ≡ statement_form_step (placed_statement_form (out-StatementForm f)) start
statement_form_is f start = ap (λ (g : ℕ → Places). g start) (fold_out-StatementForm Places (ℕ → Places) PartNodes (ℕ → Places) Places Places Places Places Places Places Places else_step form_step part_step statement_form_step argument_step block_step closure_step expr_step link_step local_step statement_step f)

-- ---- what is made of parts
pub made_expr_is : (s : Span) (f : ExprForm) → expr_places (roll-Expr (record { span = s; form = f })) ≡ form_places f s.start
made_expr_is s f = fold-roll-Expr Places (ℕ → Places) PartNodes (ℕ → Places) Places Places Places Places Places Places Places else_step form_step part_step statement_form_step argument_step block_step closure_step expr_step link_step local_step statement_step (record { span = s; form = f })

pub name_is : (x : ℕ) (start : ℕ) → form_places (forms.Named x None) start ≡ start ∷ []
unfolding Rattle.sx_tree.specs.declared.code.Else.TheViews.roll-ExprForm denote.Hole.Carrier.roll
name_is x start = ap (λ (g : ℕ → Places). g start) (fold-roll-ExprForm Places (ℕ → Places) PartNodes (ℕ → Places) Places Places Places Places Places Places Places else_step form_step part_step statement_form_step argument_step block_step closure_step expr_step link_step local_step statement_step (ExprForm-F.Named x None))

pub chain_is : (e : Expr) (ls : List Link) (start : ℕ) → form_places (forms.Chain e ls) start ≡ own_of_links (map link_places ls) start ++ (expr_places e ++ all (map link_places ls))
unfolding Rattle.sx_tree.specs.declared.code.Else.TheViews.roll-ExprForm denote.Hole.Carrier.roll
chain_is e ls start = ap (λ (g : ℕ → Places). g start) (fold-roll-ExprForm Places (ℕ → Places) PartNodes (ℕ → Places) Places Places Places Places Places Places Places else_step form_step part_step statement_form_step argument_step block_step closure_step expr_step link_step local_step statement_step (ExprForm-F.Chain e ls))

pub postfix_is : (e : Expr) (ps : List Part) (start : ℕ) → form_places (forms.Postfix e ps) start ≡ own_of_parts (map part_nodes ps) start ++ (expr_places e ++ inner_of_parts (map part_nodes ps))
unfolding Rattle.sx_tree.specs.declared.code.Else.TheViews.roll-ExprForm denote.Hole.Carrier.roll
postfix_is e ps start = ap (λ (g : ℕ → Places). g start) (fold-roll-ExprForm Places (ℕ → Places) PartNodes (ℕ → Places) Places Places Places Places Places Places Places else_step form_step part_step statement_form_step argument_step block_step closure_step expr_step link_step local_step statement_step (ExprForm-F.Postfix e ps))

pub literal_is : (c : Closure) (start : ℕ) → form_places (forms.Closure c) start ≡ closure_places c
unfolding Rattle.sx_tree.specs.declared.code.Else.TheViews.roll-ExprForm denote.Hole.Carrier.roll
literal_is c start = ap (λ (g : ℕ → Places). g start) (fold-roll-ExprForm Places (ℕ → Places) PartNodes (ℕ → Places) Places Places Places Places Places Places Places else_step form_step part_step statement_form_step argument_step block_step closure_step expr_step link_step local_step statement_step (ExprForm-F.Closure c))

pub member_is : (end : ℕ) (x : Name) → part_nodes (parts.Member end x None) ≡ record { own = λ start. start ∷ []; inner = [] }
unfolding Rattle.sx_tree.specs.declared.code.Else.TheViews.roll-Part denote.Hole.Carrier.roll
member_is end x = fold-roll-Part Places (ℕ → Places) PartNodes (ℕ → Places) Places Places Places Places Places Places Places else_step form_step part_step statement_form_step argument_step block_step closure_step expr_step link_step local_step statement_step (Part-F.Member end x None)
