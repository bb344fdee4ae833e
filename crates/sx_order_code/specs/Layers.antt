-- One level of a tree: over its parts, over what is judged of them, over their places, and over parts for which the two are tied.
use Rattle.std.specs.Prelude.{ℕ, List}
use Rattle.sx_tree.specs.declared.code.Argument.{Argument, Argument-F, map-Argument}
use Rattle.sx_tree.specs.declared.code.Block.{Block, Block-F, map-Block}
use Rattle.sx_tree.specs.declared.code.Closure.{Closure, Closure-F, map-Closure}
use Rattle.sx_tree.specs.declared.code.Else.{Else, Else-F, map-Else}
use Rattle.sx_tree.specs.declared.code.Expr.{Expr, Expr-F, map-Expr}
use Rattle.sx_tree.specs.declared.code.ExprForm.{ExprForm, ExprForm-F, map-ExprForm}
use Rattle.sx_tree.specs.declared.code.Link.{Link, Link-F, map-Link}
use Rattle.sx_tree.specs.declared.code.Local.{Local, Local-F, map-Local}
use Rattle.sx_tree.specs.declared.code.Part.{Part, Part-F, map-Part}
use Rattle.sx_tree.specs.declared.code.Statement.{Statement, Statement-F, map-Statement}
use Rattle.sx_tree.specs.declared.code.StatementForm.{StatementForm, StatementForm-F, map-StatementForm}
use Rattle.sx_tree.specs.Nodes as nodes
use Rattle.sx_tree.specs.Nodes.{Places, PartNodes}
use Rattle.sx_scope.specs.declared.declarations.Declarations.{Declarations}
use Rattle.sx_calls.specs.Parts.{JudgedExpr, JudgedLink, JudgedArgument, JudgedPart, JudgedStatement, JudgedElse}
use Rattle.sx_check_expr.specs.Judge.{judged_else, judged_form, judged_part, judged_statement_form, judged_argument, judged_block, judged_closure, judged_expr, judged_link, judged_local, judged_statement}
use Rattle.sx_order_code.specs.Tied.{TiedElse, TiedForm, TiedPart, TiedStatementForm, TiedArgument, TiedBlock, TiedClosure, TiedExpr, TiedLink, TiedLocal, TiedStatement}

-- a level over the parts themselves, over what is judged of them, and over their places
abbrev pub OfParts : (Type 0 → Type 0 → Type 0 → Type 0 → Type 0 → Type 0 → Type 0 → Type 0 → Type 0 → Type 0 → Type 0 → Type 0) → Type 0
OfParts F = F Else ExprForm Part StatementForm Argument Block Closure Expr Link Local Statement

abbrev pub OfJudged : (Type 0 → Type 0 → Type 0 → Type 0 → Type 0 → Type 0 → Type 0 → Type 0 → Type 0 → Type 0 → Type 0 → Type 0) → Type 0
OfJudged F = F JudgedElse (ℕ → JudgedExpr) JudgedPart (ℕ → JudgedStatement) JudgedArgument (List JudgedStatement) JudgedExpr JudgedExpr JudgedLink (ℕ → JudgedStatement) JudgedStatement

abbrev pub OfPlaces : (Type 0 → Type 0 → Type 0 → Type 0 → Type 0 → Type 0 → Type 0 → Type 0 → Type 0 → Type 0 → Type 0 → Type 0) → Type 0
OfPlaces F = F Places (ℕ → Places) PartNodes (ℕ → Places) Places Places Places Places Places Places Places

-- the places of the parts at one level
abbrev pub placed_else : OfParts Else-F → OfPlaces Else-F
placed_else = map-Else Else ExprForm Part StatementForm Argument Block Closure Expr Link Local Statement Places (ℕ → Places) PartNodes (ℕ → Places) Places Places Places Places Places Places Places nodes.else_places nodes.form_places nodes.part_nodes nodes.statement_form_places nodes.argument_places nodes.block_places nodes.closure_places nodes.expr_places nodes.link_places nodes.local_places nodes.statement_places

abbrev pub placed_form : OfParts ExprForm-F → OfPlaces ExprForm-F
placed_form = map-ExprForm Else ExprForm Part StatementForm Argument Block Closure Expr Link Local Statement Places (ℕ → Places) PartNodes (ℕ → Places) Places Places Places Places Places Places Places nodes.else_places nodes.form_places nodes.part_nodes nodes.statement_form_places nodes.argument_places nodes.block_places nodes.closure_places nodes.expr_places nodes.link_places nodes.local_places nodes.statement_places

abbrev pub placed_part : OfParts Part-F → OfPlaces Part-F
placed_part = map-Part Else ExprForm Part StatementForm Argument Block Closure Expr Link Local Statement Places (ℕ → Places) PartNodes (ℕ → Places) Places Places Places Places Places Places Places nodes.else_places nodes.form_places nodes.part_nodes nodes.statement_form_places nodes.argument_places nodes.block_places nodes.closure_places nodes.expr_places nodes.link_places nodes.local_places nodes.statement_places

abbrev pub placed_statement_form : OfParts StatementForm-F → OfPlaces StatementForm-F
placed_statement_form = map-StatementForm Else ExprForm Part StatementForm Argument Block Closure Expr Link Local Statement Places (ℕ → Places) PartNodes (ℕ → Places) Places Places Places Places Places Places Places nodes.else_places nodes.form_places nodes.part_nodes nodes.statement_form_places nodes.argument_places nodes.block_places nodes.closure_places nodes.expr_places nodes.link_places nodes.local_places nodes.statement_places

abbrev pub placed_argument : OfParts Argument-F → OfPlaces Argument-F
placed_argument = map-Argument Else ExprForm Part StatementForm Argument Block Closure Expr Link Local Statement Places (ℕ → Places) PartNodes (ℕ → Places) Places Places Places Places Places Places Places nodes.else_places nodes.form_places nodes.part_nodes nodes.statement_form_places nodes.argument_places nodes.block_places nodes.closure_places nodes.expr_places nodes.link_places nodes.local_places nodes.statement_places

abbrev pub placed_block : OfParts Block-F → OfPlaces Block-F
placed_block = map-Block Else ExprForm Part StatementForm Argument Block Closure Expr Link Local Statement Places (ℕ → Places) PartNodes (ℕ → Places) Places Places Places Places Places Places Places nodes.else_places nodes.form_places nodes.part_nodes nodes.statement_form_places nodes.argument_places nodes.block_places nodes.closure_places nodes.expr_places nodes.link_places nodes.local_places nodes.statement_places

abbrev pub placed_closure : OfParts Closure-F → OfPlaces Closure-F
placed_closure = map-Closure Else ExprForm Part StatementForm Argument Block Closure Expr Link Local Statement Places (ℕ → Places) PartNodes (ℕ → Places) Places Places Places Places Places Places Places nodes.else_places nodes.form_places nodes.part_nodes nodes.statement_form_places nodes.argument_places nodes.block_places nodes.closure_places nodes.expr_places nodes.link_places nodes.local_places nodes.statement_places

abbrev pub placed_expr : OfParts Expr-F → OfPlaces Expr-F
placed_expr = map-Expr Else ExprForm Part StatementForm Argument Block Closure Expr Link Local Statement Places (ℕ → Places) PartNodes (ℕ → Places) Places Places Places Places Places Places Places nodes.else_places nodes.form_places nodes.part_nodes nodes.statement_form_places nodes.argument_places nodes.block_places nodes.closure_places nodes.expr_places nodes.link_places nodes.local_places nodes.statement_places

abbrev pub placed_link : OfParts Link-F → OfPlaces Link-F
placed_link = map-Link Else ExprForm Part StatementForm Argument Block Closure Expr Link Local Statement Places (ℕ → Places) PartNodes (ℕ → Places) Places Places Places Places Places Places Places nodes.else_places nodes.form_places nodes.part_nodes nodes.statement_form_places nodes.argument_places nodes.block_places nodes.closure_places nodes.expr_places nodes.link_places nodes.local_places nodes.statement_places

abbrev pub placed_local : OfParts Local-F → OfPlaces Local-F
placed_local = map-Local Else ExprForm Part StatementForm Argument Block Closure Expr Link Local Statement Places (ℕ → Places) PartNodes (ℕ → Places) Places Places Places Places Places Places Places nodes.else_places nodes.form_places nodes.part_nodes nodes.statement_form_places nodes.argument_places nodes.block_places nodes.closure_places nodes.expr_places nodes.link_places nodes.local_places nodes.statement_places

abbrev pub placed_statement : OfParts Statement-F → OfPlaces Statement-F
placed_statement = map-Statement Else ExprForm Part StatementForm Argument Block Closure Expr Link Local Statement Places (ℕ → Places) PartNodes (ℕ → Places) Places Places Places Places Places Places Places nodes.else_places nodes.form_places nodes.part_nodes nodes.statement_form_places nodes.argument_places nodes.block_places nodes.closure_places nodes.expr_places nodes.link_places nodes.local_places nodes.statement_places

module _ (d : Declarations) where
  -- what is judged of the parts at one level
  abbrev pub judged_in_else : OfParts Else-F → OfJudged Else-F
  judged_in_else = map-Else Else ExprForm Part StatementForm Argument Block Closure Expr Link Local Statement JudgedElse (ℕ → JudgedExpr) JudgedPart (ℕ → JudgedStatement) JudgedArgument (List JudgedStatement) JudgedExpr JudgedExpr JudgedLink (ℕ → JudgedStatement) JudgedStatement (judged_else d) (judged_form d) (judged_part d) (judged_statement_form d) (judged_argument d) (judged_block d) (judged_closure d) (judged_expr d) (judged_link d) (judged_local d) (judged_statement d)

  abbrev pub judged_in_form : OfParts ExprForm-F → OfJudged ExprForm-F
  judged_in_form = map-ExprForm Else ExprForm Part StatementForm Argument Block Closure Expr Link Local Statement JudgedElse (ℕ → JudgedExpr) JudgedPart (ℕ → JudgedStatement) JudgedArgument (List JudgedStatement) JudgedExpr JudgedExpr JudgedLink (ℕ → JudgedStatement) JudgedStatement (judged_else d) (judged_form d) (judged_part d) (judged_statement_form d) (judged_argument d) (judged_block d) (judged_closure d) (judged_expr d) (judged_link d) (judged_local d) (judged_statement d)

  abbrev pub judged_in_part : OfParts Part-F → OfJudged Part-F
  judged_in_part = map-Part Else ExprForm Part StatementForm Argument Block Closure Expr Link Local Statement JudgedElse (ℕ → JudgedExpr) JudgedPart (ℕ → JudgedStatement) JudgedArgument (List JudgedStatement) JudgedExpr JudgedExpr JudgedLink (ℕ → JudgedStatement) JudgedStatement (judged_else d) (judged_form d) (judged_part d) (judged_statement_form d) (judged_argument d) (judged_block d) (judged_closure d) (judged_expr d) (judged_link d) (judged_local d) (judged_statement d)

  abbrev pub judged_in_statement_form : OfParts StatementForm-F → OfJudged StatementForm-F
  judged_in_statement_form = map-StatementForm Else ExprForm Part StatementForm Argument Block Closure Expr Link Local Statement JudgedElse (ℕ → JudgedExpr) JudgedPart (ℕ → JudgedStatement) JudgedArgument (List JudgedStatement) JudgedExpr JudgedExpr JudgedLink (ℕ → JudgedStatement) JudgedStatement (judged_else d) (judged_form d) (judged_part d) (judged_statement_form d) (judged_argument d) (judged_block d) (judged_closure d) (judged_expr d) (judged_link d) (judged_local d) (judged_statement d)

  abbrev pub judged_in_argument : OfParts Argument-F → OfJudged Argument-F
  judged_in_argument = map-Argument Else ExprForm Part StatementForm Argument Block Closure Expr Link Local Statement JudgedElse (ℕ → JudgedExpr) JudgedPart (ℕ → JudgedStatement) JudgedArgument (List JudgedStatement) JudgedExpr JudgedExpr JudgedLink (ℕ → JudgedStatement) JudgedStatement (judged_else d) (judged_form d) (judged_part d) (judged_statement_form d) (judged_argument d) (judged_block d) (judged_closure d) (judged_expr d) (judged_link d) (judged_local d) (judged_statement d)

  abbrev pub judged_in_block : OfParts Block-F → OfJudged Block-F
  judged_in_block = map-Block Else ExprForm Part StatementForm Argument Block Closure Expr Link Local Statement JudgedElse (ℕ → JudgedExpr) JudgedPart (ℕ → JudgedStatement) JudgedArgument (List JudgedStatement) JudgedExpr JudgedExpr JudgedLink (ℕ → JudgedStatement) JudgedStatement (judged_else d) (judged_form d) (judged_part d) (judged_statement_form d) (judged_argument d) (judged_block d) (judged_closure d) (judged_expr d) (judged_link d) (judged_local d) (judged_statement d)

  abbrev pub judged_in_closure : OfParts Closure-F → OfJudged Closure-F
  judged_in_closure = map-Closure Else ExprForm Part StatementForm Argument Block Closure Expr Link Local Statement JudgedElse (ℕ → JudgedExpr) JudgedPart (ℕ → JudgedStatement) JudgedArgument (List JudgedStatement) JudgedExpr JudgedExpr JudgedLink (ℕ → JudgedStatement) JudgedStatement (judged_else d) (judged_form d) (judged_part d) (judged_statement_form d) (judged_argument d) (judged_block d) (judged_closure d) (judged_expr d) (judged_link d) (judged_local d) (judged_statement d)

  abbrev pub judged_in_expr : OfParts Expr-F → OfJudged Expr-F
  judged_in_expr = map-Expr Else ExprForm Part StatementForm Argument Block Closure Expr Link Local Statement JudgedElse (ℕ → JudgedExpr) JudgedPart (ℕ → JudgedStatement) JudgedArgument (List JudgedStatement) JudgedExpr JudgedExpr JudgedLink (ℕ → JudgedStatement) JudgedStatement (judged_else d) (judged_form d) (judged_part d) (judged_statement_form d) (judged_argument d) (judged_block d) (judged_closure d) (judged_expr d) (judged_link d) (judged_local d) (judged_statement d)

  abbrev pub judged_in_link : OfParts Link-F → OfJudged Link-F
  judged_in_link = map-Link Else ExprForm Part StatementForm Argument Block Closure Expr Link Local Statement JudgedElse (ℕ → JudgedExpr) JudgedPart (ℕ → JudgedStatement) JudgedArgument (List JudgedStatement) JudgedExpr JudgedExpr JudgedLink (ℕ → JudgedStatement) JudgedStatement (judged_else d) (judged_form d) (judged_part d) (judged_statement_form d) (judged_argument d) (judged_block d) (judged_closure d) (judged_expr d) (judged_link d) (judged_local d) (judged_statement d)

  abbrev pub judged_in_local : OfParts Local-F → OfJudged Local-F
  judged_in_local = map-Local Else ExprForm Part StatementForm Argument Block Closure Expr Link Local Statement JudgedElse (ℕ → JudgedExpr) JudgedPart (ℕ → JudgedStatement) JudgedArgument (List JudgedStatement) JudgedExpr JudgedExpr JudgedLink (ℕ → JudgedStatement) JudgedStatement (judged_else d) (judged_form d) (judged_part d) (judged_statement_form d) (judged_argument d) (judged_block d) (judged_closure d) (judged_expr d) (judged_link d) (judged_local d) (judged_statement d)

  abbrev pub judged_in_statement : OfParts Statement-F → OfJudged Statement-F
  judged_in_statement = map-Statement Else ExprForm Part StatementForm Argument Block Closure Expr Link Local Statement JudgedElse (ℕ → JudgedExpr) JudgedPart (ℕ → JudgedStatement) JudgedArgument (List JudgedStatement) JudgedExpr JudgedExpr JudgedLink (ℕ → JudgedStatement) JudgedStatement (judged_else d) (judged_form d) (judged_part d) (judged_statement_form d) (judged_argument d) (judged_block d) (judged_closure d) (judged_expr d) (judged_link d) (judged_local d) (judged_statement d)

  -- what is judged of a part is tied to its places
  abbrev pub ElseIsTied : Else → Type 0
  ElseIsTied x = TiedElse (judged_else d x) (nodes.else_places x)

  abbrev pub ExprFormIsTied : ExprForm → Type 0
  ExprFormIsTied x = TiedForm (judged_form d x) (nodes.form_places x)

  abbrev pub PartIsTied : Part → Type 0
  PartIsTied x = TiedPart (judged_part d x) (nodes.part_nodes x)

  abbrev pub StatementFormIsTied : StatementForm → Type 0
  StatementFormIsTied x = TiedStatementForm (judged_statement_form d x) (nodes.statement_form_places x)

  abbrev pub ArgumentIsTied : Argument → Type 0
  ArgumentIsTied x = TiedArgument (judged_argument d x) (nodes.argument_places x)

  abbrev pub BlockIsTied : Block → Type 0
  BlockIsTied x = TiedBlock (judged_block d x) (nodes.block_places x)

  abbrev pub ClosureIsTied : Closure → Type 0
  ClosureIsTied x = TiedClosure (judged_closure d x) (nodes.closure_places x)

  abbrev pub ExprIsTied : Expr → Type 0
  ExprIsTied x = TiedExpr (judged_expr d x) (nodes.expr_places x)

  abbrev pub LinkIsTied : Link → Type 0
  LinkIsTied x = TiedLink (judged_link d x) (nodes.link_places x)

  abbrev pub LocalIsTied : Local → Type 0
  LocalIsTied x = TiedLocal (judged_local d x) (nodes.local_places x)

  abbrev pub StatementIsTied : Statement → Type 0
  StatementIsTied x = TiedStatement (judged_statement d x) (nodes.statement_places x)

  -- a part of which this is known
  abbrev pub KnownElse : Type 0
  KnownElse = (x : Else) × ElseIsTied x

  abbrev pub KnownExprForm : Type 0
  KnownExprForm = (x : ExprForm) × ExprFormIsTied x

  abbrev pub KnownPart : Type 0
  KnownPart = (x : Part) × PartIsTied x

  abbrev pub KnownStatementForm : Type 0
  KnownStatementForm = (x : StatementForm) × StatementFormIsTied x

  abbrev pub KnownArgument : Type 0
  KnownArgument = (x : Argument) × ArgumentIsTied x

  abbrev pub KnownBlock : Type 0
  KnownBlock = (x : Block) × BlockIsTied x

  abbrev pub KnownClosure : Type 0
  KnownClosure = (x : Closure) × ClosureIsTied x

  abbrev pub KnownExpr : Type 0
  KnownExpr = (x : Expr) × ExprIsTied x

  abbrev pub KnownLink : Type 0
  KnownLink = (x : Link) × LinkIsTied x

  abbrev pub KnownLocal : Type 0
  KnownLocal = (x : Local) × LocalIsTied x

  abbrev pub KnownStatement : Type 0
  KnownStatement = (x : Statement) × StatementIsTied x

  -- a level over such parts, and the parts themselves
  abbrev pub OfKnown : (Type 0 → Type 0 → Type 0 → Type 0 → Type 0 → Type 0 → Type 0 → Type 0 → Type 0 → Type 0 → Type 0 → Type 0) → Type 0
  OfKnown F = F KnownElse KnownExprForm KnownPart KnownStatementForm KnownArgument KnownBlock KnownClosure KnownExpr KnownLink KnownLocal KnownStatement

  abbrev pub parts_of_else : OfKnown Else-F → OfParts Else-F
  parts_of_else = map-Else KnownElse KnownExprForm KnownPart KnownStatementForm KnownArgument KnownBlock KnownClosure KnownExpr KnownLink KnownLocal KnownStatement Else ExprForm Part StatementForm Argument Block Closure Expr Link Local Statement (λ x. x.0) (λ x. x.0) (λ x. x.0) (λ x. x.0) (λ x. x.0) (λ x. x.0) (λ x. x.0) (λ x. x.0) (λ x. x.0) (λ x. x.0) (λ x. x.0)

  abbrev pub parts_of_form : OfKnown ExprForm-F → OfParts ExprForm-F
  parts_of_form = map-ExprForm KnownElse KnownExprForm KnownPart KnownStatementForm KnownArgument KnownBlock KnownClosure KnownExpr KnownLink KnownLocal KnownStatement Else ExprForm Part StatementForm Argument Block Closure Expr Link Local Statement (λ x. x.0) (λ x. x.0) (λ x. x.0) (λ x. x.0) (λ x. x.0) (λ x. x.0) (λ x. x.0) (λ x. x.0) (λ x. x.0) (λ x. x.0) (λ x. x.0)

  abbrev pub parts_of_part : OfKnown Part-F → OfParts Part-F
  parts_of_part = map-Part KnownElse KnownExprForm KnownPart KnownStatementForm KnownArgument KnownBlock KnownClosure KnownExpr KnownLink KnownLocal KnownStatement Else ExprForm Part StatementForm Argument Block Closure Expr Link Local Statement (λ x. x.0) (λ x. x.0) (λ x. x.0) (λ x. x.0) (λ x. x.0) (λ x. x.0) (λ x. x.0) (λ x. x.0) (λ x. x.0) (λ x. x.0) (λ x. x.0)

  abbrev pub parts_of_statement_form : OfKnown StatementForm-F → OfParts StatementForm-F
  parts_of_statement_form = map-StatementForm KnownElse KnownExprForm KnownPart KnownStatementForm KnownArgument KnownBlock KnownClosure KnownExpr KnownLink KnownLocal KnownStatement Else ExprForm Part StatementForm Argument Block Closure Expr Link Local Statement (λ x. x.0) (λ x. x.0) (λ x. x.0) (λ x. x.0) (λ x. x.0) (λ x. x.0) (λ x. x.0) (λ x. x.0) (λ x. x.0) (λ x. x.0) (λ x. x.0)

  abbrev pub parts_of_argument : OfKnown Argument-F → OfParts Argument-F
  parts_of_argument = map-Argument KnownElse KnownExprForm KnownPart KnownStatementForm KnownArgument KnownBlock KnownClosure KnownExpr KnownLink KnownLocal KnownStatement Else ExprForm Part StatementForm Argument Block Closure Expr Link Local Statement (λ x. x.0) (λ x. x.0) (λ x. x.0) (λ x. x.0) (λ x. x.0) (λ x. x.0) (λ x. x.0) (λ x. x.0) (λ x. x.0) (λ x. x.0) (λ x. x.0)

  abbrev pub parts_of_block : OfKnown Block-F → OfParts Block-F
  parts_of_block = map-Block KnownElse KnownExprForm KnownPart KnownStatementForm KnownArgument KnownBlock KnownClosure KnownExpr KnownLink KnownLocal KnownStatement Else ExprForm Part StatementForm Argument Block Closure Expr Link Local Statement (λ x. x.0) (λ x. x.0) (λ x. x.0) (λ x. x.0) (λ x. x.0) (λ x. x.0) (λ x. x.0) (λ x. x.0) (λ x. x.0) (λ x. x.0) (λ x. x.0)

  abbrev pub parts_of_closure : OfKnown Closure-F → OfParts Closure-F
  parts_of_closure = map-Closure KnownElse KnownExprForm KnownPart KnownStatementForm KnownArgument KnownBlock KnownClosure KnownExpr KnownLink KnownLocal KnownStatement Else ExprForm Part StatementForm Argument Block Closure Expr Link Local Statement (λ x. x.0) (λ x. x.0) (λ x. x.0) (λ x. x.0) (λ x. x.0) (λ x. x.0) (λ x. x.0) (λ x. x.0) (λ x. x.0) (λ x. x.0) (λ x. x.0)

  abbrev pub parts_of_expr : OfKnown Expr-F → OfParts Expr-F
  parts_of_expr = map-Expr KnownElse KnownExprForm KnownPart KnownStatementForm KnownArgument KnownBlock KnownClosure KnownExpr KnownLink KnownLocal KnownStatement Else ExprForm Part StatementForm Argument Block Closure Expr Link Local Statement (λ x. x.0) (λ x. x.0) (λ x. x.0) (λ x. x.0) (λ x. x.0) (λ x. x.0) (λ x. x.0) (λ x. x.0) (λ x. x.0) (λ x. x.0) (λ x. x.0)

  abbrev pub parts_of_link : OfKnown Link-F → OfParts Link-F
  parts_of_link = map-Link KnownElse KnownExprForm KnownPart KnownStatementForm KnownArgument KnownBlock KnownClosure KnownExpr KnownLink KnownLocal KnownStatement Else ExprForm Part StatementForm Argument Block Closure Expr Link Local Statement (λ x. x.0) (λ x. x.0) (λ x. x.0) (λ x. x.0) (λ x. x.0) (λ x. x.0) (λ x. x.0) (λ x. x.0) (λ x. x.0) (λ x. x.0) (λ x. x.0)

  abbrev pub parts_of_local : OfKnown Local-F → OfParts Local-F
  parts_of_local = map-Local KnownElse KnownExprForm KnownPart KnownStatementForm KnownArgument KnownBlock KnownClosure KnownExpr KnownLink KnownLocal KnownStatement Else ExprForm Part StatementForm Argument Block Closure Expr Link Local Statement (λ x. x.0) (λ x. x.0) (λ x. x.0) (λ x. x.0) (λ x. x.0) (λ x. x.0) (λ x. x.0) (λ x. x.0) (λ x. x.0) (λ x. x.0) (λ x. x.0)

  abbrev pub parts_of_statement : OfKnown Statement-F → OfParts Statement-F
  parts_of_statement = map-Statement KnownElse KnownExprForm KnownPart KnownStatementForm KnownArgument KnownBlock KnownClosure KnownExpr KnownLink KnownLocal KnownStatement Else ExprForm Part StatementForm Argument Block Closure Expr Link Local Statement (λ x. x.0) (λ x. x.0) (λ x. x.0) (λ x. x.0) (λ x. x.0) (λ x. x.0) (λ x. x.0) (λ x. x.0) (λ x. x.0) (λ x. x.0) (λ x. x.0)
