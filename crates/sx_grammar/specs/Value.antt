-- What a part of a text stands for.
use Rattle.std.specs.Prelude.{ℕ, List, Option}
use Rattle.sx_grammar.specs.declared.lexemes.Lexeme.{Lexeme}
use Rattle.sx_tree.specs.declared.code.Argument.{Argument}
use Rattle.sx_tree.specs.declared.code.Block.{Block}
use Rattle.sx_tree.specs.declared.code.Closure.{Closure}
use Rattle.sx_tree.specs.declared.code.Else.{Else}
use Rattle.sx_tree.specs.declared.code.Expr.{Expr}
use Rattle.sx_tree.specs.declared.code.Link.{Link}
use Rattle.sx_tree.specs.declared.code.Part.{Part}
use Rattle.sx_tree.specs.declared.code.Statement.{Statement}
use Rattle.sx_tree.specs.declared.declarations.Accessor.{Accessor}
use Rattle.sx_tree.specs.declared.declarations.Head.{Head}
use Rattle.sx_tree.specs.declared.declarations.Item.{Item}
use Rattle.sx_tree.specs.declared.declarations.Marker.{Marker}
use Rattle.sx_tree.specs.declared.declarations.Member.{Member}
use Rattle.sx_tree.specs.declared.declarations.Parameter.{Parameter}
use Rattle.sx_tree.specs.declared.written_types.ClosureParameter.{ClosureParameter}
use Rattle.sx_tree.specs.declared.written_types.Name.{Name}
use Rattle.sx_tree.specs.declared.written_types.Signature.{Signature}
use Rattle.sx_tree.specs.declared.written_types.TypeParameter.{TypeParameter}
use Rattle.sx_tree.specs.declared.written_types.WrittenType.{WrittenType}

-- Values that no tree has yet are pairs of what their parts stand for.
pub data Value : Type 0 where
  nothing : Value
  leaf : Lexeme → Value
  pair : Value → Value → Value
  a_type : WrittenType → Value
  a_type_parameter : TypeParameter → Value
  type_parameters : List TypeParameter → Value
  -- where it starts, its label and its name
  names_of_parameter : ℕ → Option Name → Name → Value
  a_marked : Marker → WrittenType → Value
  a_parameter : Parameter → Value
  parameters : List Parameter → Value
  a_head : Head → Value
  an_expr : Expr → Value
  exprs : List Expr → Value
  a_part : Part → Value
  part_list : List Part → Value
  a_link : Link → Value
  link_list : List Link → Value
  name_list : List Name → Value
  an_argument : Argument → Value
  arguments : List Argument → Value
  a_signature : List ClosureParameter → Value
  a_literal : Signature → List Statement → Value
  a_closure : Closure → Value
  a_closure_parameter : ClosureParameter → Value
  closure_parameters : List ClosureParameter → Value
  -- an if without its word, and where it ends
  if_parts : Expr → Block → Else → ℕ → Value
  a_statement : Statement → Value
  statements : List Statement → Value
  a_block : Block → Value
  an_accessor : Accessor → Value
  accessors : List Accessor → Value
  a_member : Member → Value
  members : List Member → Value
  an_item : Item → Value
  items : List Item → Value
