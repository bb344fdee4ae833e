-- When the places of what a part of a text stands for have a property.
use Rattle.std.proofs.Common.{ℕ}
use Rattle.sx_tree.specs.declared.code.Argument.{Argument}
use Rattle.sx_tree.specs.declared.code.Block.{Block, out-Block}
use Rattle.sx_tree.specs.declared.code.Closure.{Closure, out-Closure}
use Rattle.sx_tree.specs.declared.code.Else.{Else}
use Rattle.sx_tree.specs.declared.code.Expr.{Expr}
use Rattle.sx_tree.specs.declared.code.Link.{Link}
use Rattle.sx_tree.specs.declared.code.Part.{Part}
use Rattle.sx_tree.specs.declared.code.Statement.{Statement}
use Rattle.sx_tree.specs.declared.declarations.Accessor.{Accessor}
use Rattle.sx_tree.specs.declared.declarations.Head.{Head}
use Rattle.sx_tree.specs.declared.declarations.Head.TheVariants as heads
use Rattle.sx_tree.specs.declared.declarations.Item.{Item}
use Rattle.sx_tree.specs.declared.declarations.Member.{Member}
use Rattle.sx_tree.specs.declared.declarations.Parameter.{Parameter}
use Rattle.sx_tree.specs.declared.nodes.FaultOf.{FaultOf}
use Rattle.sx_tree.specs.declared.written_types.ClosureParameter.{ClosureParameter}
use Rattle.sx_tree.specs.declared.written_types.Name.{Name}
use Rattle.sx_tree.specs.declared.written_types.Signature.{Signature}
use Rattle.sx_tree.specs.declared.written_types.TypeParameter.{TypeParameter}
use Rattle.sx_tree.specs.declared.written_types.WrittenType.{WrittenType}
use Rattle.sx_tree.specs.Nodes.{argument_places, block_places, closure_places, else_places, expr_places, item_places, link_places, member_places, part_nodes, signature_places, statement_places, type_places}
use Rattle.sx_grammar.specs.Value.{Value, nothing, leaf, pair, a_type, a_type_parameter, type_parameters, names_of_parameter, a_marked, a_parameter, parameters, a_head, an_expr, exprs, a_part, part_list, a_link, link_list, name_list, closure_parameters, an_argument, arguments, a_signature, a_literal, a_closure, a_closure_parameter, if_parts, a_statement, statements, a_block, an_accessor, accessors, a_member, members, an_item, items}
use Rattle.sx_grammar.specs.Rules.{name_of_statement}
use Rattle.sx_tree_places.proofs.Each.{Each, IfThere}

module _ (P : ℕ → Type 0) where
  abbrev pub NamePlaced : Name → Type 0
  NamePlaced n = P n.span.start

  abbrev pub TypePlaced : WrittenType → Type 0
  TypePlaced t = P t.span.start × Each P (type_places t)

  abbrev pub TypeParameterPlaced : TypeParameter → Type 0
  TypeParameterPlaced p = TypePlaced p.ty

  abbrev pub ParameterPlaced : Parameter → Type 0
  ParameterPlaced p = NamePlaced p.name × TypePlaced p.ty

  abbrev pub ClosureParameterPlaced : ClosureParameter → Type 0
  ClosureParameterPlaced p = NamePlaced p.name × TypePlaced p.ty

  abbrev pub SignaturePlaced : Signature → Type 0
  SignaturePlaced g = Each P (signature_places g)

  abbrev pub ExprPlaced : Expr → Type 0
  ExprPlaced e = P e.span.start × Each P (expr_places e)

  abbrev pub LinkPlaced : Link → Type 0
  LinkPlaced l = Each P (link_places l)

  -- whatever place the operand before it has
  abbrev pub PartPlaced : Part → Type 0
  PartPlaced p = ((start : ℕ) → P start → Each P ((part_nodes p).own start)) × Each P (part_nodes p).inner

  abbrev pub ArgumentPlaced : Argument → Type 0
  ArgumentPlaced a = Each P (argument_places a)

  abbrev pub ClosurePlaced : Closure → Type 0
  ClosurePlaced c = P (out-Closure c).span.start × Each P (closure_places c)

  abbrev pub BlockPlaced : Block → Type 0
  BlockPlaced b = P (out-Block b).span.start × Each P (block_places b)

  abbrev pub ElsePlaced : Else → Type 0
  ElsePlaced e = Each P (else_places e)

  -- a statement that is a name may become one of a signature
  abbrev pub StatementPlaced : Statement → Type 0
  StatementPlaced s = Each P (statement_places s) × NamePlaced (name_of_statement s)

  abbrev pub AccessorPlaced : Accessor → Type 0
  AccessorPlaced a = IfThere NamePlaced a.parameter × Each P (block_places a.body)

  abbrev pub HeadPlaced : Head → Type 0
  HeadPlaced (heads.Function h) = NamePlaced h.name × Each ParameterPlaced h.parameters × IfThere TypePlaced h.result
  HeadPlaced (heads.Type h) = NamePlaced h.name
  HeadPlaced (heads.Variable h) = P h.span.start × NamePlaced h.name × IfThere TypePlaced h.ty
  HeadPlaced (heads.Subscript h) = P h.span.start × Each ParameterPlaced h.parameters × TypePlaced h.result

  abbrev pub MemberPlaced : Member → Type 0
  MemberPlaced m = (of : FaultOf) → Each P (member_places of m)

  abbrev pub ItemPlaced : Item → Type 0
  ItemPlaced i = (of : FaultOf) → Each P (item_places of i)

  abbrev pub Placed : Value → Type 0
  Placed nothing = Unit {0}
  Placed (leaf l) = P l.token.span.start
  Placed (pair v w) = Placed v × Placed w
  Placed (a_type t) = TypePlaced t
  Placed (a_type_parameter p) = TypeParameterPlaced p
  Placed (type_parameters ps) = Each TypeParameterPlaced ps
  Placed (names_of_parameter start label name) = NamePlaced name
  Placed (a_marked m t) = TypePlaced t
  Placed (a_parameter p) = ParameterPlaced p
  Placed (parameters ps) = Each ParameterPlaced ps
  Placed (a_head h) = HeadPlaced h
  Placed (an_expr e) = ExprPlaced e
  Placed (exprs es) = Each ExprPlaced es
  Placed (a_part p) = PartPlaced p
  Placed (part_list ps) = Each PartPlaced ps
  Placed (a_link l) = LinkPlaced l
  Placed (link_list ls) = Each LinkPlaced ls
  Placed (name_list ns) = Each NamePlaced ns
  Placed (an_argument a) = ArgumentPlaced a
  Placed (arguments xs) = Each ArgumentPlaced xs
  Placed (a_signature ps) = Each ClosureParameterPlaced ps
  Placed (a_literal g ss) = SignaturePlaced g × Each StatementPlaced ss
  Placed (a_closure c) = ClosurePlaced c
  Placed (a_closure_parameter p) = ClosureParameterPlaced p
  Placed (closure_parameters ps) = Each ClosureParameterPlaced ps
  Placed (if_parts c b e end) = ExprPlaced c × BlockPlaced b × ElsePlaced e
  Placed (a_statement s) = StatementPlaced s
  Placed (statements ss) = Each StatementPlaced ss
  Placed (a_block b) = BlockPlaced b
  Placed (an_accessor a) = AccessorPlaced a
  Placed (accessors xs) = Each AccessorPlaced xs
  Placed (a_member m) = MemberPlaced m
  Placed (members ms) = Each MemberPlaced ms
  Placed (an_item i) = ItemPlaced i
  Placed (items is) = Each ItemPlaced is

  -- what a rule makes of something placed is placed
  abbrev pub KeptBy : (Value → Value) → Type 0
  KeptBy f = (v : Value) → Placed v → Placed (f v)
