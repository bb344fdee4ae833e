-- The nodes that a typed program keeps: each item adds its own.
use Rattle.std.proofs.Common.{ℕ, ◌≤◌, ◌<◌, Bool, true, false, cond, List, [], ◌∷◌, ◌++◌, Option, Some, None, map, sym, subst, arith}
use Rattle.std.proofs.lemmas.List.{map-append}
use Rattle.sx_span.specs.declared.places.Node.{Node}
use Rattle.sx_tree.specs.declared.declarations.TypeKind.{TypeKind}
use Rattle.sx_tree.specs.declared.declarations.TypeKind.TheVariants as type_kinds
use Rattle.sx_tree.specs.declared.declarations.Variable.{Variable}
use Rattle.sx_typed.specs.declared.code.Expr.{Expr}
use Rattle.sx_typed.specs.declared.program.TypeDeclaration.{TypeDeclaration}
use Rattle.sx_heads.specs.Variables.{is_computed}
use Rattle.sx_members.specs.declared.variables.TypedVariable.{TypedVariable}
use Rattle.sx_check_decl.specs.declared.items.Program.{Program}
use Rattle.sx_check_decl.specs.declared.items.TypedItem.{TypedItem}
use Rattle.sx_check_decl.specs.declared.items.TypedItem.TheVariants as typed_items
use Rattle.sx_check_decl.specs.Items.{global_declared, stored_global, type_declared, with_item}
use Rattle.sx_check_decl.specs.Program.{node_of_global}
use Rattle.sx_order_items.specs.Below.{NodesBelow, ValueBelow, VariableBelow, ItemBelow, ProgramBelow}

nodes-more : (lo hi : ℕ) (ns : List Node) → lo ≤ hi → NodesBelow lo ns → NodesBelow hi ns
nodes-more lo hi [] l h = tt
nodes-more lo hi (n ∷ ns) l h = (omega (arith, l, h.0), nodes-more lo hi ns l h.1)

nodes-one : (hi : ℕ) (ns : List Node) (n : Node) → NodesBelow hi ns → n.0 < hi → NodesBelow hi (ns ++ n ∷ [])
nodes-one hi [] n h l = (l, tt)
nodes-one hi (m ∷ ns) n h l = (h.0, nodes-one hi ns n h.1 l)

pub program-more : (lo hi : ℕ) (p : Program) → lo ≤ hi → ProgramBelow lo p → ProgramBelow hi p
program-more lo hi p l h = (nodes-more lo hi p.starts l h.0, nodes-more lo hi (map node_of_global p.globals) l h.1)

-- ---- items
pub declared-below : (hi : ℕ) (k : TypeKind) (t : TypeDeclaration) → ItemBelow hi (type_declared k t)
declared-below hi type_kinds.Structure t = tt
declared-below hi type_kinds.Class t = tt

pub global-below : (hi : ℕ) (v : Variable) (x : TypedVariable) → VariableBelow hi x → ItemBelow hi (global_declared v x)
global-below hi v x h = by (is_computed v.accessors)
  where
    by : (b : Bool) → ItemBelow hi (cond b typed_items.Nothing (typed_items.Global v.name.number v.constant x))
    by true = tt
    by false = h

stored-below : (hi : ℕ) (o : Option Expr) (p : Program) → ProgramBelow hi p → ValueBelow hi o → ProgramBelow hi (stored_global o p)
stored-below hi None p h l = h
stored-below hi (Some e) p h l = (nodes-one hi p.starts e.node h.0 l, h.1)

pub with-below : (hi : ℕ) (i : TypedItem) (p : Program) → ProgramBelow hi p → ItemBelow hi i → ProgramBelow hi (with_item i p)
with-below hi typed_items.Nothing p h l = h
with-below hi (typed_items.Structure t) p h l = h
with-below hi (typed_items.Class t) p h l = h
with-below hi (typed_items.Global x constant v) p h l =
    let stored = stored-below hi v.value p h l.1 in
    let q : Program = stored_global v.value p in (
      stored.0,
      subst (NodesBelow hi) (sym (map-append node_of_global q.globals (record { node = v.node; name = x; ty = v.ty; constant = constant } ∷ []))) (nodes-one hi (map node_of_global q.globals) v.node stored.1 l.0),
    )
with-below hi (typed_items.Statement n s) p h l = (nodes-one hi p.starts n h.0 l, h.1)
