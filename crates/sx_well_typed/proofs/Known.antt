-- One level of a tree over parts of which each judgement that they are typed is derived.
use Rattle.std.proofs.Common.{List, [], ◌∷◌, map}
use Rattle.sx_tree.specs.declared.code.Else.{Else, Else-F, map-Else}
use Rattle.sx_tree.specs.declared.code.ExprForm.{ExprForm, ExprForm-F, map-ExprForm}
use Rattle.sx_tree.specs.declared.code.Part.{Part, Part-F, map-Part}
use Rattle.sx_tree.specs.declared.code.StatementForm.{StatementForm, StatementForm-F, map-StatementForm}
use Rattle.sx_tree.specs.declared.code.Argument.{Argument, Argument-F, map-Argument}
use Rattle.sx_tree.specs.declared.code.Block.{Block, Block-F, map-Block}
use Rattle.sx_tree.specs.declared.code.Closure.{Closure, Closure-F, map-Closure}
use Rattle.sx_tree.specs.declared.code.Expr.{Expr, Expr-F, map-Expr}
use Rattle.sx_tree.specs.declared.code.Link.{Link, Link-F, map-Link}
use Rattle.sx_tree.specs.declared.code.Local.{Local, Local-F, map-Local}
use Rattle.sx_tree.specs.declared.code.Statement.{Statement, Statement-F, map-Statement}
use Rattle.sx_scope.specs.declared.declarations.Declarations.{Declarations}
use Rattle.sx_well_typed.proofs.Derives.{Each, ElseDerives, FormDerives, PartDerives, StatementFormDerives, ArgumentDerives, BlockDerives, ClosureDerives, ExprDerives, LinkDerives, LocalDerives, StatementDerives}
use Rattle.sx_well_typed.proofs.Levels.{OfParts}

-- of a list of such parts it is so of each
pub each-known : {X : Type 0} (P : X → Type 0) (xs : List ((x : X) × P x)) → Each P (map (λ x. x.0) xs)
each-known P [] = tt
each-known P (x ∷ xs) = (x.1, each-known P xs)

module _ (d : Declarations) where
  abbrev pub KnownElse : Type 0
  KnownElse = (x : Else) × ElseDerives d x

  abbrev pub KnownExprForm : Type 0
  KnownExprForm = (x : ExprForm) × FormDerives d x

  abbrev pub KnownPart : Type 0
  KnownPart = (x : Part) × PartDerives d x

  abbrev pub KnownStatementForm : Type 0
  KnownStatementForm = (x : StatementForm) × StatementFormDerives d x

  abbrev pub KnownArgument : Type 0
  KnownArgument = (x : Argument) × ArgumentDerives d x

  abbrev pub KnownBlock : Type 0
  KnownBlock = (x : Block) × BlockDerives d x

  abbrev pub KnownClosure : Type 0
  KnownClosure = (x : Closure) × ClosureDerives d x

  abbrev pub KnownExpr : Type 0
  KnownExpr = (x : Expr) × ExprDerives d x

  abbrev pub KnownLink : Type 0
  KnownLink = (x : Link) × LinkDerives d x

  abbrev pub KnownLocal : Type 0
  KnownLocal = (x : Local) × LocalDerives d x

  abbrev pub KnownStatement : Type 0
  KnownStatement = (x : Statement) × StatementDerives d x

  abbrev pub OfKnown : (Type 0 → Type 0 → Type 0 → Type 0 → Type 0 → Type 0 → Type 0 → Type 0 → Type 0 → Type 0 → Type 0 → Type 0) → Type 0
  OfKnown F = F KnownElse KnownExprForm KnownPart KnownStatementForm KnownArgument KnownBlock KnownClosure KnownExpr KnownLink KnownLocal KnownStatement

  -- the parts themselves
  abbrev pub parts_of_else : OfKnown Else-F → OfParts Else-F
  parts_of_else = map-Else KnownElse KnownExprForm KnownPart KnownStatementForm KnownArgument KnownBlock KnownClosure KnownExpr KnownLink KnownLocal KnownStatement Else ExprForm Part StatementForm Argument Block Closure Expr Link Local Statement (λ x. x.0) (λ x. x.0) (λ x. x.0) (λ x. x.0) (λ x. x.0) (λ x. x.0) (λ x. x.0) (λ x. x.0) (λ x. x.0) (λ x. x.0) (λ x. x.0)

  abbrev pub parts_of_form : OfKnown ExprForm-F → OfParts ExprForm-F
  parts_of_form = map-ExprForm KnownElse KnownExprForm KnownPart KnownStatementForm KnownArgument KnownBlock KnownClosure KnownExpr KnownLink KnownLocal KnownStatement Else ExprForm Part StatementForm Argument Block Closure Expr Link Local Statement (λ x. x.0) (λ x. x.0) (λ x. x.0) (λ x. x.0) (λ x. x.0) (λ x. x.0) (λ x. x.0) (λ x. x.0) (λ x. x.0) (λ x. x.0) (λ x. x.0)

  abbrev pub parts_of_part : OfKnown Part-F → OfParts Part-F
  parts_of_part = map-Part KnownElse KnownExprForm KnownPart KnownStatementForm KnownArgument KnownBlock KnownClosure KnownExpr KnownLink KnownLocal KnownStatement Else ExprForm Part StatementForm Argument Block Closure Expr Link Local Statement (λ x. x.0) (λ x. x.0) (λ x. x.0) (λ x. x.0) (λ x. x.0) (λ x. x.0) (λ x. x.0) (λ x. x.0) (λ x. x.0) (λ x. x.0) (λ x. x.0)

  abbrev pub parts_of_statement_form : OfKnown StatementForm-F → OfParts StatementForm-F
  parts_of_statement_form = map-StatementForm KnownElse KnownExprForm KnownPart KnownStatementForm KnownArgument KnownBlock KnownClosure KnownExpr KnownLink KnownLocal KnownStatement Else ExprForm Part StatementForm Argument Block Closure Expr Link Local Statement (λ x. x.0) (λ x. x.0) (λ x. x.0) (λ x. x.0) (λ x. x.0) (λ x. x.0) (λ x. x.0) (λ x. x.0) (λ x. x.0) (λ x. x.0) (λ x. x.0)

  abbrev pub parts_of_argument : OfKnown Argument-F → OfParts Argument-F
  parts_of_argument = map-Argument KnownElse KnownExprForm KnownPart KnownStatementForm KnownArgument KnownBlock KnownClosure KnownExpr KnownLink KnownLocal KnownStatement Else ExprForm Part StatementForm Argument Block Closure Expr Link Local Statement (λ x. x.0) (λ x. x.0) (λ x. x.0) (λ x. x.0) (λ x. x.0) (λ x. x.0) (λ x. x.0) (λ x. x.0) (λ x. x.0) (λ x. x.0) (λ x. x.0)

  abbrev pub parts_of_block : OfKnown Block-F → OfParts Block-F
  parts_of_block = map-Block KnownElse KnownExprForm KnownPart KnownStatementForm KnownArgument KnownBlock KnownClosure KnownExpr KnownLink KnownLocal KnownStatement Else ExprForm Part StatementForm Argument Block Closure Expr Link Local Statement (λ x. x.0) (λ x. x.0) (λ x. x.0) (λ x. x.0) (λ x. x.0) (λ x. x.0) (λ x. x.0) (λ x. x.0) (λ x. x.0) (λ x. x.0) (λ x. x.0)

  abbrev pub parts_of_closure : OfKnown Closure-F → OfParts Closure-F
  parts_of_closure = map-Closure KnownElse KnownExprForm KnownPart KnownStatementForm KnownArgument KnownBlock KnownClosure KnownExpr KnownLink KnownLocal KnownStatement Else ExprForm Part StatementForm Argument Block Closure Expr Link Local Statement (λ x. x.0) (λ x. x.0) (λ x. x.0) (λ x. x.0) (λ x. x.0) (λ x. x.0) (λ x. x.0) (λ x. x.0) (λ x. x.0) (λ x. x.0) (λ x. x.0)

  abbrev pub parts_of_expr : OfKnown Expr-F → OfParts Expr-F
  parts_of_expr = map-Expr KnownElse KnownExprForm KnownPart KnownStatementForm KnownArgument KnownBlock KnownClosure KnownExpr KnownLink KnownLocal KnownStatement Else ExprForm Part StatementForm Argument Block Closure Expr Link Local Statement (λ x. x.0) (λ x. x.0) (λ x. x.0) (λ x. x.0) (λ x. x.0) (λ x. x.0) (λ x. x.0) (λ x. x.0) (λ x. x.0) (λ x. x.0) (λ x. x.0)

  abbrev pub parts_of_link : OfKnown Link-F → OfParts Link-F
  parts_of_link = map-Link KnownElse KnownExprForm KnownPart KnownStatementForm KnownArgument KnownBlock KnownClosure KnownExpr KnownLink KnownLocal KnownStatement Else ExprForm Part StatementForm Argument Block Closure Expr Link Local Statement (λ x. x.0) (λ x. x.0) (λ x. x.0) (λ x. x.0) (λ x. x.0) (λ x. x.0) (λ x. x.0) (λ x. x.0) (λ x. x.0) (λ x. x.0) (λ x. x.0)

  abbrev pub parts_of_local : OfKnown Local-F → OfParts Local-F
  parts_of_local = map-Local KnownElse KnownExprForm KnownPart KnownStatementForm KnownArgument KnownBlock KnownClosure KnownExpr KnownLink KnownLocal KnownStatement Else ExprForm Part StatementForm Argument Block Closure Expr Link Local Statement (λ x. x.0) (λ x. x.0) (λ x. x.0) (λ x. x.0) (λ x. x.0) (λ x. x.0) (λ x. x.0) (λ x. x.0) (λ x. x.0) (λ x. x.0) (λ x. x.0)

  abbrev pub parts_of_statement : OfKnown Statement-F → OfParts Statement-F
  parts_of_statement = map-Statement KnownElse KnownExprForm KnownPart KnownStatementForm KnownArgument KnownBlock KnownClosure KnownExpr KnownLink KnownLocal KnownStatement Else ExprForm Part StatementForm Argument Block Closure Expr Link Local Statement (λ x. x.0) (λ x. x.0) (λ x. x.0) (λ x. x.0) (λ x. x.0) (λ x. x.0) (λ x. x.0) (λ x. x.0) (λ x. x.0) (λ x. x.0) (λ x. x.0)
