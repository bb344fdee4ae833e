-- What a visit counts at one layer of an expression or statement, by what it counts in the parts.
use Rattle.std.proofs.Common.{ℕ, Option, length}
use Rattle.sx_tree.specs.declared.code.Else.{Else, Else-F, fold-roll-Else, map-Else, roll-Else}
use Rattle.sx_tree.specs.declared.code.ExprForm.{ExprForm, ExprForm-F, fold-roll-ExprForm, map-ExprForm, roll-ExprForm}
use Rattle.sx_tree.specs.declared.code.Part.{Part, Part-F, fold-roll-Part, map-Part, roll-Part}
use Rattle.sx_tree.specs.declared.code.StatementForm.{StatementForm, StatementForm-F, fold-roll-StatementForm, map-StatementForm, roll-StatementForm}
use Rattle.sx_tree.specs.declared.code.Argument.{Argument, Argument-F, fold-roll-Argument, map-Argument, roll-Argument}
use Rattle.sx_tree.specs.declared.code.Block.{Block, Block-F, fold-roll-Block, map-Block, roll-Block}
use Rattle.sx_tree.specs.declared.code.Closure.{Closure, Closure-F, fold-roll-Closure, map-Closure, roll-Closure}
use Rattle.sx_tree.specs.declared.code.Expr.{Expr, Expr-F, fold-roll-Expr, map-Expr, roll-Expr}
use Rattle.sx_tree.specs.declared.code.Link.{Link, Link-F, fold-roll-Link, map-Link, roll-Link}
use Rattle.sx_tree.specs.declared.code.Local.{Local, Local-F, fold-roll-Local, map-Local, roll-Local}
use Rattle.sx_tree.specs.declared.code.Statement.{Statement, Statement-F, fold-roll-Statement, map-Statement, roll-Statement}
use Rattle.sx_tree.specs.Nodes as nodes
use Rattle.sx_types.specs.declared.types.Ty.{Ty}
use Rattle.sx_outline.specs.Visit.{Visiting, PartVisit, else_step, form_step, part_step, statement_form_step, argument_step, block_step, closure_step, expr_step, link_step, local_step, statement_step, else_visit, form_visit, part_visit, statement_form_visit, argument_visit, block_visit, closure_visit, expr_visit, link_visit, local_visit, statement_visit}
use Rattle.sx_order_items.specs.Counts.{Counts, FormsCount, PartsCount, ClosureCount}
use Rattle.sx_order_items.proofs.Counted.{counts-by, forms-by, parts-by, closures-by}

module _ (names : ℕ → Option Ty) where
  abbrev pub ElseCounts : Else → Type 0
  ElseCounts x = Counts (length (nodes.else_places x)) (else_visit names x)

  abbrev pub ExprFormCounts : ExprForm → Type 0
  ExprFormCounts x = FormsCount (nodes.form_places x) (form_visit names x)

  abbrev pub PartCounts : Part → Type 0
  PartCounts x = PartsCount (nodes.part_nodes x) (part_visit names x)

  abbrev pub StatementFormCounts : StatementForm → Type 0
  StatementFormCounts x = FormsCount (nodes.statement_form_places x) (statement_form_visit names x)

  abbrev pub ArgumentCounts : Argument → Type 0
  ArgumentCounts x = Counts (length (nodes.argument_places x)) (argument_visit names x)

  abbrev pub BlockCounts : Block → Type 0
  BlockCounts x = Counts (length (nodes.block_places x)) (block_visit names x)

  abbrev pub ClosureCounts : Closure → Type 0
  ClosureCounts x = ClosureCount (nodes.closure_places x) (closure_visit names x)

  abbrev pub ExprCounts : Expr → Type 0
  ExprCounts x = Counts (length (nodes.expr_places x)) (expr_visit names x)

  abbrev pub LinkCounts : Link → Type 0
  LinkCounts x = Counts (length (nodes.link_places x)) (link_visit names x)

  abbrev pub LocalCounts : Local → Type 0
  LocalCounts x = Counts (length (nodes.local_places x)) (local_visit names x)

  abbrev pub StatementCounts : Statement → Type 0
  StatementCounts x = Counts (length (nodes.statement_places x)) (statement_visit names x)

  abbrev pub SomeElse : Type 0
  SomeElse = (x : Else) × ElseCounts x

  abbrev pub SomeExprForm : Type 0
  SomeExprForm = (x : ExprForm) × ExprFormCounts x

  abbrev pub SomePart : Type 0
  SomePart = (x : Part) × PartCounts x

  abbrev pub SomeStatementForm : Type 0
  SomeStatementForm = (x : StatementForm) × StatementFormCounts x

  abbrev pub SomeArgument : Type 0
  SomeArgument = (x : Argument) × ArgumentCounts x

  abbrev pub SomeBlock : Type 0
  SomeBlock = (x : Block) × BlockCounts x

  abbrev pub SomeClosure : Type 0
  SomeClosure = (x : Closure) × ClosureCounts x

  abbrev pub SomeExpr : Type 0
  SomeExpr = (x : Expr) × ExprCounts x

  abbrev pub SomeLink : Type 0
  SomeLink = (x : Link) × LinkCounts x

  abbrev pub SomeLocal : Type 0
  SomeLocal = (x : Local) × LocalCounts x

  abbrev pub SomeStatement : Type 0
  SomeStatement = (x : Statement) × StatementCounts x

  -- ---- a layer with what its parts count, and without
  abbrev pub ElseLayer : Type 0
  ElseLayer = Else-F SomeElse SomeExprForm SomePart SomeStatementForm SomeArgument SomeBlock SomeClosure SomeExpr SomeLink SomeLocal SomeStatement

  abbrev pub plain_else : ElseLayer → Else-F Else ExprForm Part StatementForm Argument Block Closure Expr Link Local Statement
  plain_else y = map-Else SomeElse SomeExprForm SomePart SomeStatementForm SomeArgument SomeBlock SomeClosure SomeExpr SomeLink SomeLocal SomeStatement Else ExprForm Part StatementForm Argument Block Closure Expr Link Local Statement (λ x0. x0.0) (λ x1. x1.0) (λ x2. x2.0) (λ x3. x3.0) (λ x4. x4.0) (λ x5. x5.0) (λ x6. x6.0) (λ x7. x7.0) (λ x8. x8.0) (λ x9. x9.0) (λ x10. x10.0) y

  abbrev pub ExprFormLayer : Type 0
  ExprFormLayer = ExprForm-F SomeElse SomeExprForm SomePart SomeStatementForm SomeArgument SomeBlock SomeClosure SomeExpr SomeLink SomeLocal SomeStatement

  abbrev pub plain_form : ExprFormLayer → ExprForm-F Else ExprForm Part StatementForm Argument Block Closure Expr Link Local Statement
  plain_form y = map-ExprForm SomeElse SomeExprForm SomePart SomeStatementForm SomeArgument SomeBlock SomeClosure SomeExpr SomeLink SomeLocal SomeStatement Else ExprForm Part StatementForm Argument Block Closure Expr Link Local Statement (λ x0. x0.0) (λ x1. x1.0) (λ x2. x2.0) (λ x3. x3.0) (λ x4. x4.0) (λ x5. x5.0) (λ x6. x6.0) (λ x7. x7.0) (λ x8. x8.0) (λ x9. x9.0) (λ x10. x10.0) y

  abbrev pub PartLayer : Type 0
  PartLayer = Part-F SomeElse SomeExprForm SomePart SomeStatementForm SomeArgument SomeBlock SomeClosure SomeExpr SomeLink SomeLocal SomeStatement

  abbrev pub plain_part : PartLayer → Part-F Else ExprForm Part StatementForm Argument Block Closure Expr Link Local Statement
  plain_part y = map-Part SomeElse SomeExprForm SomePart SomeStatementForm SomeArgument SomeBlock SomeClosure SomeExpr SomeLink SomeLocal SomeStatement Else ExprForm Part StatementForm Argument Block Closure Expr Link Local Statement (λ x0. x0.0) (λ x1. x1.0) (λ x2. x2.0) (λ x3. x3.0) (λ x4. x4.0) (λ x5. x5.0) (λ x6. x6.0) (λ x7. x7.0) (λ x8. x8.0) (λ x9. x9.0) (λ x10. x10.0) y

  abbrev pub StatementFormLayer : Type 0
  StatementFormLayer = StatementForm-F SomeElse SomeExprForm SomePart SomeStatementForm SomeArgument SomeBlock SomeClosure SomeExpr SomeLink SomeLocal SomeStatement

  abbrev pub plain_statement_form : StatementFormLayer → StatementForm-F Else ExprForm Part StatementForm Argument Block Closure Expr Link Local Statement
  plain_statement_form y = map-StatementForm SomeElse SomeExprForm SomePart SomeStatementForm SomeArgument SomeBlock SomeClosure SomeExpr SomeLink SomeLocal SomeStatement Else ExprForm Part StatementForm Argument Block Closure Expr Link Local Statement (λ x0. x0.0) (λ x1. x1.0) (λ x2. x2.0) (λ x3. x3.0) (λ x4. x4.0) (λ x5. x5.0) (λ x6. x6.0) (λ x7. x7.0) (λ x8. x8.0) (λ x9. x9.0) (λ x10. x10.0) y

  abbrev pub ArgumentLayer : Type 0
  ArgumentLayer = Argument-F SomeElse SomeExprForm SomePart SomeStatementForm SomeArgument SomeBlock SomeClosure SomeExpr SomeLink SomeLocal SomeStatement

  abbrev pub plain_argument : ArgumentLayer → Argument-F Else ExprForm Part StatementForm Argument Block Closure Expr Link Local Statement
  plain_argument y = map-Argument SomeElse SomeExprForm SomePart SomeStatementForm SomeArgument SomeBlock SomeClosure SomeExpr SomeLink SomeLocal SomeStatement Else ExprForm Part StatementForm Argument Block Closure Expr Link Local Statement (λ x0. x0.0) (λ x1. x1.0) (λ x2. x2.0) (λ x3. x3.0) (λ x4. x4.0) (λ x5. x5.0) (λ x6. x6.0) (λ x7. x7.0) (λ x8. x8.0) (λ x9. x9.0) (λ x10. x10.0) y

  abbrev pub BlockLayer : Type 0
  BlockLayer = Block-F SomeElse SomeExprForm SomePart SomeStatementForm SomeArgument SomeBlock SomeClosure SomeExpr SomeLink SomeLocal SomeStatement

  abbrev pub plain_block : BlockLayer → Block-F Else ExprForm Part StatementForm Argument Block Closure Expr Link Local Statement
  plain_block y = map-Block SomeElse SomeExprForm SomePart SomeStatementForm SomeArgument SomeBlock SomeClosure SomeExpr SomeLink SomeLocal SomeStatement Else ExprForm Part StatementForm Argument Block Closure Expr Link Local Statement (λ x0. x0.0) (λ x1. x1.0) (λ x2. x2.0) (λ x3. x3.0) (λ x4. x4.0) (λ x5. x5.0) (λ x6. x6.0) (λ x7. x7.0) (λ x8. x8.0) (λ x9. x9.0) (λ x10. x10.0) y

  abbrev pub ClosureLayer : Type 0
  ClosureLayer = Closure-F SomeElse SomeExprForm SomePart SomeStatementForm SomeArgument SomeBlock SomeClosure SomeExpr SomeLink SomeLocal SomeStatement

  abbrev pub plain_closure : ClosureLayer → Closure-F Else ExprForm Part StatementForm Argument Block Closure Expr Link Local Statement
  plain_closure y = map-Closure SomeElse SomeExprForm SomePart SomeStatementForm SomeArgument SomeBlock SomeClosure SomeExpr SomeLink SomeLocal SomeStatement Else ExprForm Part StatementForm Argument Block Closure Expr Link Local Statement (λ x0. x0.0) (λ x1. x1.0) (λ x2. x2.0) (λ x3. x3.0) (λ x4. x4.0) (λ x5. x5.0) (λ x6. x6.0) (λ x7. x7.0) (λ x8. x8.0) (λ x9. x9.0) (λ x10. x10.0) y

  abbrev pub ExprLayer : Type 0
  ExprLayer = Expr-F SomeElse SomeExprForm SomePart SomeStatementForm SomeArgument SomeBlock SomeClosure SomeExpr SomeLink SomeLocal SomeStatement

  abbrev pub plain_expr : ExprLayer → Expr-F Else ExprForm Part StatementForm Argument Block Closure Expr Link Local Statement
  plain_expr y = map-Expr SomeElse SomeExprForm SomePart SomeStatementForm SomeArgument SomeBlock SomeClosure SomeExpr SomeLink SomeLocal SomeStatement Else ExprForm Part StatementForm Argument Block Closure Expr Link Local Statement (λ x0. x0.0) (λ x1. x1.0) (λ x2. x2.0) (λ x3. x3.0) (λ x4. x4.0) (λ x5. x5.0) (λ x6. x6.0) (λ x7. x7.0) (λ x8. x8.0) (λ x9. x9.0) (λ x10. x10.0) y

  abbrev pub LinkLayer : Type 0
  LinkLayer = Link-F SomeElse SomeExprForm SomePart SomeStatementForm SomeArgument SomeBlock SomeClosure SomeExpr SomeLink SomeLocal SomeStatement

  abbrev pub plain_link : LinkLayer → Link-F Else ExprForm Part StatementForm Argument Block Closure Expr Link Local Statement
  plain_link y = map-Link SomeElse SomeExprForm SomePart SomeStatementForm SomeArgument SomeBlock SomeClosure SomeExpr SomeLink SomeLocal SomeStatement Else ExprForm Part StatementForm Argument Block Closure Expr Link Local Statement (λ x0. x0.0) (λ x1. x1.0) (λ x2. x2.0) (λ x3. x3.0) (λ x4. x4.0) (λ x5. x5.0) (λ x6. x6.0) (λ x7. x7.0) (λ x8. x8.0) (λ x9. x9.0) (λ x10. x10.0) y

  abbrev pub LocalLayer : Type 0
  LocalLayer = Local-F SomeElse SomeExprForm SomePart SomeStatementForm SomeArgument SomeBlock SomeClosure SomeExpr SomeLink SomeLocal SomeStatement

  abbrev pub plain_local : LocalLayer → Local-F Else ExprForm Part StatementForm Argument Block Closure Expr Link Local Statement
  plain_local y = map-Local SomeElse SomeExprForm SomePart SomeStatementForm SomeArgument SomeBlock SomeClosure SomeExpr SomeLink SomeLocal SomeStatement Else ExprForm Part StatementForm Argument Block Closure Expr Link Local Statement (λ x0. x0.0) (λ x1. x1.0) (λ x2. x2.0) (λ x3. x3.0) (λ x4. x4.0) (λ x5. x5.0) (λ x6. x6.0) (λ x7. x7.0) (λ x8. x8.0) (λ x9. x9.0) (λ x10. x10.0) y

  abbrev pub StatementLayer : Type 0
  StatementLayer = Statement-F SomeElse SomeExprForm SomePart SomeStatementForm SomeArgument SomeBlock SomeClosure SomeExpr SomeLink SomeLocal SomeStatement

  abbrev pub plain_statement : StatementLayer → Statement-F Else ExprForm Part StatementForm Argument Block Closure Expr Link Local Statement
  plain_statement y = map-Statement SomeElse SomeExprForm SomePart SomeStatementForm SomeArgument SomeBlock SomeClosure SomeExpr SomeLink SomeLocal SomeStatement Else ExprForm Part StatementForm Argument Block Closure Expr Link Local Statement (λ x0. x0.0) (λ x1. x1.0) (λ x2. x2.0) (λ x3. x3.0) (λ x4. x4.0) (λ x5. x5.0) (λ x6. x6.0) (λ x7. x7.0) (λ x8. x8.0) (λ x9. x9.0) (λ x10. x10.0) y

  -- ---- a layer, by what its parts count
  abbrev pub placed_else : Else-F Else ExprForm Part StatementForm Argument Block Closure Expr Link Local Statement → nodes.Places
  placed_else x = nodes.else_step (map-Else Else ExprForm Part StatementForm Argument Block Closure Expr Link Local Statement nodes.Places (ℕ → nodes.Places) nodes.PartNodes (ℕ → nodes.Places) nodes.Places nodes.Places nodes.Places nodes.Places nodes.Places nodes.Places nodes.Places nodes.else_places nodes.form_places nodes.part_nodes nodes.statement_form_places nodes.argument_places nodes.block_places nodes.closure_places nodes.expr_places nodes.link_places nodes.local_places nodes.statement_places x)

  abbrev pub visited_else : Else-F Else ExprForm Part StatementForm Argument Block Closure Expr Link Local Statement → Visiting
  visited_else x = else_step (map-Else Else ExprForm Part StatementForm Argument Block Closure Expr Link Local Statement Visiting Visiting PartVisit Visiting Visiting Visiting Visiting Visiting Visiting Visiting Visiting (else_visit names) (form_visit names) (part_visit names) (statement_form_visit names) (argument_visit names) (block_visit names) (closure_visit names) (expr_visit names) (link_visit names) (local_visit names) (statement_visit names) x)

  pub at_else : (x : Else-F Else ExprForm Part StatementForm Argument Block Closure Expr Link Local Statement) → Counts (length (placed_else x)) (visited_else x) → ElseCounts (roll-Else x)
  at_else x h = counts-by (fold-roll-Else nodes.Places (ℕ → nodes.Places) nodes.PartNodes (ℕ → nodes.Places) nodes.Places nodes.Places nodes.Places nodes.Places nodes.Places nodes.Places nodes.Places nodes.else_step nodes.form_step nodes.part_step nodes.statement_form_step nodes.argument_step nodes.block_step nodes.closure_step nodes.expr_step nodes.link_step nodes.local_step nodes.statement_step x) (fold-roll-Else Visiting Visiting PartVisit Visiting Visiting Visiting Visiting Visiting Visiting Visiting Visiting else_step form_step part_step statement_form_step argument_step block_step (closure_step names) expr_step link_step (local_step names) statement_step x) h

  abbrev pub placed_form : ExprForm-F Else ExprForm Part StatementForm Argument Block Closure Expr Link Local Statement → ℕ → nodes.Places
  placed_form x = nodes.form_step (map-ExprForm Else ExprForm Part StatementForm Argument Block Closure Expr Link Local Statement nodes.Places (ℕ → nodes.Places) nodes.PartNodes (ℕ → nodes.Places) nodes.Places nodes.Places nodes.Places nodes.Places nodes.Places nodes.Places nodes.Places nodes.else_places nodes.form_places nodes.part_nodes nodes.statement_form_places nodes.argument_places nodes.block_places nodes.closure_places nodes.expr_places nodes.link_places nodes.local_places nodes.statement_places x)

  abbrev pub visited_form : ExprForm-F Else ExprForm Part StatementForm Argument Block Closure Expr Link Local Statement → Visiting
  visited_form x = form_step (map-ExprForm Else ExprForm Part StatementForm Argument Block Closure Expr Link Local Statement Visiting Visiting PartVisit Visiting Visiting Visiting Visiting Visiting Visiting Visiting Visiting (else_visit names) (form_visit names) (part_visit names) (statement_form_visit names) (argument_visit names) (block_visit names) (closure_visit names) (expr_visit names) (link_visit names) (local_visit names) (statement_visit names) x)

  pub at_form : (x : ExprForm-F Else ExprForm Part StatementForm Argument Block Closure Expr Link Local Statement) → FormsCount (placed_form x) (visited_form x) → ExprFormCounts (roll-ExprForm x)
  at_form x h = forms-by (fold-roll-ExprForm nodes.Places (ℕ → nodes.Places) nodes.PartNodes (ℕ → nodes.Places) nodes.Places nodes.Places nodes.Places nodes.Places nodes.Places nodes.Places nodes.Places nodes.else_step nodes.form_step nodes.part_step nodes.statement_form_step nodes.argument_step nodes.block_step nodes.closure_step nodes.expr_step nodes.link_step nodes.local_step nodes.statement_step x) (fold-roll-ExprForm Visiting Visiting PartVisit Visiting Visiting Visiting Visiting Visiting Visiting Visiting Visiting else_step form_step part_step statement_form_step argument_step block_step (closure_step names) expr_step link_step (local_step names) statement_step x) h

  abbrev pub placed_part : Part-F Else ExprForm Part StatementForm Argument Block Closure Expr Link Local Statement → nodes.PartNodes
  placed_part x = nodes.part_step (map-Part Else ExprForm Part StatementForm Argument Block Closure Expr Link Local Statement nodes.Places (ℕ → nodes.Places) nodes.PartNodes (ℕ → nodes.Places) nodes.Places nodes.Places nodes.Places nodes.Places nodes.Places nodes.Places nodes.Places nodes.else_places nodes.form_places nodes.part_nodes nodes.statement_form_places nodes.argument_places nodes.block_places nodes.closure_places nodes.expr_places nodes.link_places nodes.local_places nodes.statement_places x)

  abbrev pub visited_part : Part-F Else ExprForm Part StatementForm Argument Block Closure Expr Link Local Statement → PartVisit
  visited_part x = part_step (map-Part Else ExprForm Part StatementForm Argument Block Closure Expr Link Local Statement Visiting Visiting PartVisit Visiting Visiting Visiting Visiting Visiting Visiting Visiting Visiting (else_visit names) (form_visit names) (part_visit names) (statement_form_visit names) (argument_visit names) (block_visit names) (closure_visit names) (expr_visit names) (link_visit names) (local_visit names) (statement_visit names) x)

  pub at_part : (x : Part-F Else ExprForm Part StatementForm Argument Block Closure Expr Link Local Statement) → PartsCount (placed_part x) (visited_part x) → PartCounts (roll-Part x)
  at_part x h = parts-by (fold-roll-Part nodes.Places (ℕ → nodes.Places) nodes.PartNodes (ℕ → nodes.Places) nodes.Places nodes.Places nodes.Places nodes.Places nodes.Places nodes.Places nodes.Places nodes.else_step nodes.form_step nodes.part_step nodes.statement_form_step nodes.argument_step nodes.block_step nodes.closure_step nodes.expr_step nodes.link_step nodes.local_step nodes.statement_step x) (fold-roll-Part Visiting Visiting PartVisit Visiting Visiting Visiting Visiting Visiting Visiting Visiting Visiting else_step form_step part_step statement_form_step argument_step block_step (closure_step names) expr_step link_step (local_step names) statement_step x) h

  abbrev pub placed_statement_form : StatementForm-F Else ExprForm Part StatementForm Argument Block Closure Expr Link Local Statement → ℕ → nodes.Places
  placed_statement_form x = nodes.statement_form_step (map-StatementForm Else ExprForm Part StatementForm Argument Block Closure Expr Link Local Statement nodes.Places (ℕ → nodes.Places) nodes.PartNodes (ℕ → nodes.Places) nodes.Places nodes.Places nodes.Places nodes.Places nodes.Places nodes.Places nodes.Places nodes.else_places nodes.form_places nodes.part_nodes nodes.statement_form_places nodes.argument_places nodes.block_places nodes.closure_places nodes.expr_places nodes.link_places nodes.local_places nodes.statement_places x)

  abbrev pub visited_statement_form : StatementForm-F Else ExprForm Part StatementForm Argument Block Closure Expr Link Local Statement → Visiting
  visited_statement_form x = statement_form_step (map-StatementForm Else ExprForm Part StatementForm Argument Block Closure Expr Link Local Statement Visiting Visiting PartVisit Visiting Visiting Visiting Visiting Visiting Visiting Visiting Visiting (else_visit names) (form_visit names) (part_visit names) (statement_form_visit names) (argument_visit names) (block_visit names) (closure_visit names) (expr_visit names) (link_visit names) (local_visit names) (statement_visit names) x)

  pub at_statement_form : (x : StatementForm-F Else ExprForm Part StatementForm Argument Block Closure Expr Link Local Statement) → FormsCount (placed_statement_form x) (visited_statement_form x) → StatementFormCounts (roll-StatementForm x)
  at_statement_form x h = forms-by (fold-roll-StatementForm nodes.Places (ℕ → nodes.Places) nodes.PartNodes (ℕ → nodes.Places) nodes.Places nodes.Places nodes.Places nodes.Places nodes.Places nodes.Places nodes.Places nodes.else_step nodes.form_step nodes.part_step nodes.statement_form_step nodes.argument_step nodes.block_step nodes.closure_step nodes.expr_step nodes.link_step nodes.local_step nodes.statement_step x) (fold-roll-StatementForm Visiting Visiting PartVisit Visiting Visiting Visiting Visiting Visiting Visiting Visiting Visiting else_step form_step part_step statement_form_step argument_step block_step (closure_step names) expr_step link_step (local_step names) statement_step x) h

  abbrev pub placed_argument : Argument-F Else ExprForm Part StatementForm Argument Block Closure Expr Link Local Statement → nodes.Places
  placed_argument x = nodes.argument_step (map-Argument Else ExprForm Part StatementForm Argument Block Closure Expr Link Local Statement nodes.Places (ℕ → nodes.Places) nodes.PartNodes (ℕ → nodes.Places) nodes.Places nodes.Places nodes.Places nodes.Places nodes.Places nodes.Places nodes.Places nodes.else_places nodes.form_places nodes.part_nodes nodes.statement_form_places nodes.argument_places nodes.block_places nodes.closure_places nodes.expr_places nodes.link_places nodes.local_places nodes.statement_places x)

  abbrev pub visited_argument : Argument-F Else ExprForm Part StatementForm Argument Block Closure Expr Link Local Statement → Visiting
  visited_argument x = argument_step (map-Argument Else ExprForm Part StatementForm Argument Block Closure Expr Link Local Statement Visiting Visiting PartVisit Visiting Visiting Visiting Visiting Visiting Visiting Visiting Visiting (else_visit names) (form_visit names) (part_visit names) (statement_form_visit names) (argument_visit names) (block_visit names) (closure_visit names) (expr_visit names) (link_visit names) (local_visit names) (statement_visit names) x)

  pub at_argument : (x : Argument-F Else ExprForm Part StatementForm Argument Block Closure Expr Link Local Statement) → Counts (length (placed_argument x)) (visited_argument x) → ArgumentCounts (roll-Argument x)
  at_argument x h = counts-by (fold-roll-Argument nodes.Places (ℕ → nodes.Places) nodes.PartNodes (ℕ → nodes.Places) nodes.Places nodes.Places nodes.Places nodes.Places nodes.Places nodes.Places nodes.Places nodes.else_step nodes.form_step nodes.part_step nodes.statement_form_step nodes.argument_step nodes.block_step nodes.closure_step nodes.expr_step nodes.link_step nodes.local_step nodes.statement_step x) (fold-roll-Argument Visiting Visiting PartVisit Visiting Visiting Visiting Visiting Visiting Visiting Visiting Visiting else_step form_step part_step statement_form_step argument_step block_step (closure_step names) expr_step link_step (local_step names) statement_step x) h

  abbrev pub placed_block : Block-F Else ExprForm Part StatementForm Argument Block Closure Expr Link Local Statement → nodes.Places
  placed_block x = nodes.block_step (map-Block Else ExprForm Part StatementForm Argument Block Closure Expr Link Local Statement nodes.Places (ℕ → nodes.Places) nodes.PartNodes (ℕ → nodes.Places) nodes.Places nodes.Places nodes.Places nodes.Places nodes.Places nodes.Places nodes.Places nodes.else_places nodes.form_places nodes.part_nodes nodes.statement_form_places nodes.argument_places nodes.block_places nodes.closure_places nodes.expr_places nodes.link_places nodes.local_places nodes.statement_places x)

  abbrev pub visited_block : Block-F Else ExprForm Part StatementForm Argument Block Closure Expr Link Local Statement → Visiting
  visited_block x = block_step (map-Block Else ExprForm Part StatementForm Argument Block Closure Expr Link Local Statement Visiting Visiting PartVisit Visiting Visiting Visiting Visiting Visiting Visiting Visiting Visiting (else_visit names) (form_visit names) (part_visit names) (statement_form_visit names) (argument_visit names) (block_visit names) (closure_visit names) (expr_visit names) (link_visit names) (local_visit names) (statement_visit names) x)

  pub at_block : (x : Block-F Else ExprForm Part StatementForm Argument Block Closure Expr Link Local Statement) → Counts (length (placed_block x)) (visited_block x) → BlockCounts (roll-Block x)
  at_block x h = counts-by (fold-roll-Block nodes.Places (ℕ → nodes.Places) nodes.PartNodes (ℕ → nodes.Places) nodes.Places nodes.Places nodes.Places nodes.Places nodes.Places nodes.Places nodes.Places nodes.else_step nodes.form_step nodes.part_step nodes.statement_form_step nodes.argument_step nodes.block_step nodes.closure_step nodes.expr_step nodes.link_step nodes.local_step nodes.statement_step x) (fold-roll-Block Visiting Visiting PartVisit Visiting Visiting Visiting Visiting Visiting Visiting Visiting Visiting else_step form_step part_step statement_form_step argument_step block_step (closure_step names) expr_step link_step (local_step names) statement_step x) h

  abbrev pub placed_closure : Closure-F Else ExprForm Part StatementForm Argument Block Closure Expr Link Local Statement → nodes.Places
  placed_closure x = nodes.closure_step (map-Closure Else ExprForm Part StatementForm Argument Block Closure Expr Link Local Statement nodes.Places (ℕ → nodes.Places) nodes.PartNodes (ℕ → nodes.Places) nodes.Places nodes.Places nodes.Places nodes.Places nodes.Places nodes.Places nodes.Places nodes.else_places nodes.form_places nodes.part_nodes nodes.statement_form_places nodes.argument_places nodes.block_places nodes.closure_places nodes.expr_places nodes.link_places nodes.local_places nodes.statement_places x)

  abbrev pub visited_closure : Closure-F Else ExprForm Part StatementForm Argument Block Closure Expr Link Local Statement → Visiting
  visited_closure x = closure_step names (map-Closure Else ExprForm Part StatementForm Argument Block Closure Expr Link Local Statement Visiting Visiting PartVisit Visiting Visiting Visiting Visiting Visiting Visiting Visiting Visiting (else_visit names) (form_visit names) (part_visit names) (statement_form_visit names) (argument_visit names) (block_visit names) (closure_visit names) (expr_visit names) (link_visit names) (local_visit names) (statement_visit names) x)

  pub at_closure : (x : Closure-F Else ExprForm Part StatementForm Argument Block Closure Expr Link Local Statement) → ClosureCount (placed_closure x) (visited_closure x) → ClosureCounts (roll-Closure x)
  at_closure x h = closures-by (fold-roll-Closure nodes.Places (ℕ → nodes.Places) nodes.PartNodes (ℕ → nodes.Places) nodes.Places nodes.Places nodes.Places nodes.Places nodes.Places nodes.Places nodes.Places nodes.else_step nodes.form_step nodes.part_step nodes.statement_form_step nodes.argument_step nodes.block_step nodes.closure_step nodes.expr_step nodes.link_step nodes.local_step nodes.statement_step x) (fold-roll-Closure Visiting Visiting PartVisit Visiting Visiting Visiting Visiting Visiting Visiting Visiting Visiting else_step form_step part_step statement_form_step argument_step block_step (closure_step names) expr_step link_step (local_step names) statement_step x) h

  abbrev pub placed_expr : Expr-F Else ExprForm Part StatementForm Argument Block Closure Expr Link Local Statement → nodes.Places
  placed_expr x = nodes.expr_step (map-Expr Else ExprForm Part StatementForm Argument Block Closure Expr Link Local Statement nodes.Places (ℕ → nodes.Places) nodes.PartNodes (ℕ → nodes.Places) nodes.Places nodes.Places nodes.Places nodes.Places nodes.Places nodes.Places nodes.Places nodes.else_places nodes.form_places nodes.part_nodes nodes.statement_form_places nodes.argument_places nodes.block_places nodes.closure_places nodes.expr_places nodes.link_places nodes.local_places nodes.statement_places x)

  abbrev pub visited_expr : Expr-F Else ExprForm Part StatementForm Argument Block Closure Expr Link Local Statement → Visiting
  visited_expr x = expr_step (map-Expr Else ExprForm Part StatementForm Argument Block Closure Expr Link Local Statement Visiting Visiting PartVisit Visiting Visiting Visiting Visiting Visiting Visiting Visiting Visiting (else_visit names) (form_visit names) (part_visit names) (statement_form_visit names) (argument_visit names) (block_visit names) (closure_visit names) (expr_visit names) (link_visit names) (local_visit names) (statement_visit names) x)

  pub at_expr : (x : Expr-F Else ExprForm Part StatementForm Argument Block Closure Expr Link Local Statement) → Counts (length (placed_expr x)) (visited_expr x) → ExprCounts (roll-Expr x)
  at_expr x h = counts-by (fold-roll-Expr nodes.Places (ℕ → nodes.Places) nodes.PartNodes (ℕ → nodes.Places) nodes.Places nodes.Places nodes.Places nodes.Places nodes.Places nodes.Places nodes.Places nodes.else_step nodes.form_step nodes.part_step nodes.statement_form_step nodes.argument_step nodes.block_step nodes.closure_step nodes.expr_step nodes.link_step nodes.local_step nodes.statement_step x) (fold-roll-Expr Visiting Visiting PartVisit Visiting Visiting Visiting Visiting Visiting Visiting Visiting Visiting else_step form_step part_step statement_form_step argument_step block_step (closure_step names) expr_step link_step (local_step names) statement_step x) h

  abbrev pub placed_link : Link-F Else ExprForm Part StatementForm Argument Block Closure Expr Link Local Statement → nodes.Places
  placed_link x = nodes.link_step (map-Link Else ExprForm Part StatementForm Argument Block Closure Expr Link Local Statement nodes.Places (ℕ → nodes.Places) nodes.PartNodes (ℕ → nodes.Places) nodes.Places nodes.Places nodes.Places nodes.Places nodes.Places nodes.Places nodes.Places nodes.else_places nodes.form_places nodes.part_nodes nodes.statement_form_places nodes.argument_places nodes.block_places nodes.closure_places nodes.expr_places nodes.link_places nodes.local_places nodes.statement_places x)

  abbrev pub visited_link : Link-F Else ExprForm Part StatementForm Argument Block Closure Expr Link Local Statement → Visiting
  visited_link x = link_step (map-Link Else ExprForm Part StatementForm Argument Block Closure Expr Link Local Statement Visiting Visiting PartVisit Visiting Visiting Visiting Visiting Visiting Visiting Visiting Visiting (else_visit names) (form_visit names) (part_visit names) (statement_form_visit names) (argument_visit names) (block_visit names) (closure_visit names) (expr_visit names) (link_visit names) (local_visit names) (statement_visit names) x)

  pub at_link : (x : Link-F Else ExprForm Part StatementForm Argument Block Closure Expr Link Local Statement) → Counts (length (placed_link x)) (visited_link x) → LinkCounts (roll-Link x)
  at_link x h = counts-by (fold-roll-Link nodes.Places (ℕ → nodes.Places) nodes.PartNodes (ℕ → nodes.Places) nodes.Places nodes.Places nodes.Places nodes.Places nodes.Places nodes.Places nodes.Places nodes.else_step nodes.form_step nodes.part_step nodes.statement_form_step nodes.argument_step nodes.block_step nodes.closure_step nodes.expr_step nodes.link_step nodes.local_step nodes.statement_step x) (fold-roll-Link Visiting Visiting PartVisit Visiting Visiting Visiting Visiting Visiting Visiting Visiting Visiting else_step form_step part_step statement_form_step argument_step block_step (closure_step names) expr_step link_step (local_step names) statement_step x) h

  abbrev pub placed_local : Local-F Else ExprForm Part StatementForm Argument Block Closure Expr Link Local Statement → nodes.Places
  placed_local x = nodes.local_step (map-Local Else ExprForm Part StatementForm Argument Block Closure Expr Link Local Statement nodes.Places (ℕ → nodes.Places) nodes.PartNodes (ℕ → nodes.Places) nodes.Places nodes.Places nodes.Places nodes.Places nodes.Places nodes.Places nodes.Places nodes.else_places nodes.form_places nodes.part_nodes nodes.statement_form_places nodes.argument_places nodes.block_places nodes.closure_places nodes.expr_places nodes.link_places nodes.local_places nodes.statement_places x)

  abbrev pub visited_local : Local-F Else ExprForm Part StatementForm Argument Block Closure Expr Link Local Statement → Visiting
  visited_local x = local_step names (map-Local Else ExprForm Part StatementForm Argument Block Closure Expr Link Local Statement Visiting Visiting PartVisit Visiting Visiting Visiting Visiting Visiting Visiting Visiting Visiting (else_visit names) (form_visit names) (part_visit names) (statement_form_visit names) (argument_visit names) (block_visit names) (closure_visit names) (expr_visit names) (link_visit names) (local_visit names) (statement_visit names) x)

  pub at_local : (x : Local-F Else ExprForm Part StatementForm Argument Block Closure Expr Link Local Statement) → Counts (length (placed_local x)) (visited_local x) → LocalCounts (roll-Local x)
  at_local x h = counts-by (fold-roll-Local nodes.Places (ℕ → nodes.Places) nodes.PartNodes (ℕ → nodes.Places) nodes.Places nodes.Places nodes.Places nodes.Places nodes.Places nodes.Places nodes.Places nodes.else_step nodes.form_step nodes.part_step nodes.statement_form_step nodes.argument_step nodes.block_step nodes.closure_step nodes.expr_step nodes.link_step nodes.local_step nodes.statement_step x) (fold-roll-Local Visiting Visiting PartVisit Visiting Visiting Visiting Visiting Visiting Visiting Visiting Visiting else_step form_step part_step statement_form_step argument_step block_step (closure_step names) expr_step link_step (local_step names) statement_step x) h

  abbrev pub placed_statement : Statement-F Else ExprForm Part StatementForm Argument Block Closure Expr Link Local Statement → nodes.Places
  placed_statement x = nodes.statement_step (map-Statement Else ExprForm Part StatementForm Argument Block Closure Expr Link Local Statement nodes.Places (ℕ → nodes.Places) nodes.PartNodes (ℕ → nodes.Places) nodes.Places nodes.Places nodes.Places nodes.Places nodes.Places nodes.Places nodes.Places nodes.else_places nodes.form_places nodes.part_nodes nodes.statement_form_places nodes.argument_places nodes.block_places nodes.closure_places nodes.expr_places nodes.link_places nodes.local_places nodes.statement_places x)

  abbrev pub visited_statement : Statement-F Else ExprForm Part StatementForm Argument Block Closure Expr Link Local Statement → Visiting
  visited_statement x = statement_step (map-Statement Else ExprForm Part StatementForm Argument Block Closure Expr Link Local Statement Visiting Visiting PartVisit Visiting Visiting Visiting Visiting Visiting Visiting Visiting Visiting (else_visit names) (form_visit names) (part_visit names) (statement_form_visit names) (argument_visit names) (block_visit names) (closure_visit names) (expr_visit names) (link_visit names) (local_visit names) (statement_visit names) x)

  pub at_statement : (x : Statement-F Else ExprForm Part StatementForm Argument Block Closure Expr Link Local Statement) → Counts (length (placed_statement x)) (visited_statement x) → StatementCounts (roll-Statement x)
  at_statement x h = counts-by (fold-roll-Statement nodes.Places (ℕ → nodes.Places) nodes.PartNodes (ℕ → nodes.Places) nodes.Places nodes.Places nodes.Places nodes.Places nodes.Places nodes.Places nodes.Places nodes.else_step nodes.form_step nodes.part_step nodes.statement_form_step nodes.argument_step nodes.block_step nodes.closure_step nodes.expr_step nodes.link_step nodes.local_step nodes.statement_step x) (fold-roll-Statement Visiting Visiting PartVisit Visiting Visiting Visiting Visiting Visiting Visiting Visiting Visiting else_step form_step part_step statement_form_step argument_step block_step (closure_step names) expr_step link_step (local_step names) statement_step x) h
