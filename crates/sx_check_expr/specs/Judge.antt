-- What expressions and statements are: one clause for each form, the parts of which are judged (The Swift Programming Language,
-- "Expressions", "Statements").
use Rattle.std.specs.Prelude.{ℕ, ◌+◌, Bool, true, false, not, ◌||◌, List, [], ◌∷◌, ◌++◌, map, length, Option, Some, None, is_some}
use Rattle.sx_span.specs.declared.places.Node.{Node}
use Rattle.sx_tree.specs.declared.code.Argument.{Argument, fold-Argument, Argument-F}
use Rattle.sx_tree.specs.declared.code.Block.{Block, fold-Block, Block-F}
use Rattle.sx_tree.specs.declared.code.Closure.{Closure, fold-Closure, Closure-F}
use Rattle.sx_tree.specs.declared.code.Else.{Else, fold-Else, Else-F}
use Rattle.sx_tree.specs.declared.code.Expr.{Expr, fold-Expr, Expr-F}
use Rattle.sx_tree.specs.declared.code.ExprForm.{ExprForm, fold-ExprForm, ExprForm-F}
use Rattle.sx_tree.specs.declared.code.Link.{Link, fold-Link, Link-F}
use Rattle.sx_tree.specs.declared.code.Local.{Local, fold-Local, Local-F}
use Rattle.sx_tree.specs.declared.code.Part.{Part, fold-Part, Part-F}
use Rattle.sx_tree.specs.declared.code.Statement.{Statement, fold-Statement, Statement-F}
use Rattle.sx_tree.specs.declared.code.StatementForm.{StatementForm, fold-StatementForm, StatementForm-F}
use Rattle.sx_tree.specs.declared.written_types.Name.{Name}
use Rattle.sx_types.specs.declared.types.Ty.{Ty}
use Rattle.sx_types.specs.declared.types.Ty.TheVariants as ty
use Rattle.sx_typed.specs.declared.code.Expr.{Expr as TypedExpr}
use Rattle.sx_typed.specs.declared.code.Form.{Form}
use Rattle.sx_typed.specs.declared.code.Form.TheVariants as forms
use Rattle.sx_typed.specs.declared.code.StatementForm.TheVariants as statements
use Rattle.sx_scope.specs.declared.declarations.Declarations.{Declarations}
use Rattle.sx_scope.specs.declared.walk.Asked.{Asked}
use Rattle.sx_scope.specs.declared.walk.Asked.TheVariants as asked
use Rattle.sx_scope.specs.declared.walk.Callee.{Callee}
use Rattle.sx_scope.specs.declared.walk.Place.{Place}
use Rattle.sx_scope.specs.declared.walk.Use.{Use}
use Rattle.sx_scope.specs.declared.walk.Use.TheVariants as uses
use Rattle.sx_scope.specs.Verdict.{Verdict, typed, Judging, ◌▷◌, both}
use Rattle.sx_scope.specs.Walks.{node, numbered, numbered_many}
use Rattle.sx_scope.specs.Names.{callable, called_member, called_name, member_value, name_value, self_value}
use Rattle.sx_scope.specs.Paths.{an_expr}
use Rattle.sx_scope.specs.WrittenTypes.{judged_option}
use Rattle.sx_calls.specs.Parts.{JudgedExpr, JudgedLink, JudgedArgument, JudgedPart, JudgedStatement, JudgedElse, trailing, own_nodes, asked_before}
use Rattle.sx_calls.specs.Operators.{asked_first, given, run_links}
use Rattle.sx_calls.specs.Calls.{call_value, index_value}
use Rattle.sx_bodies.specs.Statements.{any_breaks, assignment, else_breaks, else_passes, expr_statement, if_statement, leaving, local_statement, passes_end, return_statement, while_statement}
use Rattle.sx_bodies.specs.Literals.{judged_signature, literal}

-- an expression that is no name, not the word `self` and not the word `true`
abbrev pub other : (Place → Asked → Use → Judging TypedExpr) → JudgedExpr
other value = record { name = None; is_self = false; is_true = false; value = value }

-- a value of a basic type
abbrev pub constant : ℕ → Ty → Form → Place → Asked → Use → Judging TypedExpr
constant site t f p q u = numbered (λ n. given n q (an_expr n site t f))

-- a bracketed expression asks of what stands in it what is asked of itself
abbrev pub bracketed : Node → ℕ → TypedExpr → Judging TypedExpr
bracketed n site e = typed (an_expr n site e.ty (forms.Bracketed e))

abbrev pub bracketed_value : JudgedExpr → ℕ → Place → Asked → Use → Judging TypedExpr
bracketed_value e site p q u = numbered (λ n w. e.value p q uses.Kept w ▷ bracketed n site)

abbrev pub negated : Node → ℕ → Asked → TypedExpr → Judging TypedExpr
negated n site q e = given n q (an_expr n site ty.Int (forms.Negate e))

abbrev pub negated_value : JudgedExpr → ℕ → Place → Asked → Use → Judging TypedExpr
negated_value e site p q u = numbered (λ n w. e.value p (asked.Type ty.Int) uses.Kept w ▷ negated n site q)

abbrev pub inverted : Node → ℕ → Asked → TypedExpr → Judging TypedExpr
inverted n site q e = given n q (an_expr n site ty.Bool (forms.Not e))

abbrev pub inverted_value : JudgedExpr → ℕ → Place → Asked → Use → Judging TypedExpr
inverted_value e site p q u = numbered (λ n w. e.value p (asked.Type ty.Bool) uses.Kept w ▷ inverted n site q)

-- operators of one level, from left to right
abbrev pub chain_value : JudgedExpr → List JudgedLink → ℕ → Place → Asked → Use → Judging TypedExpr
chain_value e ls site p q u =
    numbered_many (length ls) (λ start w. run_links p start site (e.value p (asked_first ls) uses.Kept w) ls ▷ given (node start) q)

-- the elements of an array are integers
abbrev pub element_added : List TypedExpr × TypedExpr → Judging (List TypedExpr)
element_added (es, e) = typed (es ++ e ∷ [])

abbrev pub run_elements : Place → Verdict (List TypedExpr) → List JudgedExpr → Verdict (List TypedExpr)
run_elements p v [] = v
run_elements p v (e ∷ es) = run_elements p (both v (e.value p (asked.Type ty.Int) uses.Kept) ▷ element_added) es

abbrev pub array_made : Node → ℕ → Asked → List TypedExpr → Judging TypedExpr
array_made n site q es = given n q (an_expr n site ty.Array (forms.Elements es))

abbrev pub array_value : List JudgedExpr → ℕ → Place → Asked → Use → Judging TypedExpr
array_value es site p q u = numbered (λ n w. run_elements p (typed [] w) es ▷ array_made n site q)

-- a value that is called fails at itself where it is no function
abbrev pub called_value : TypedExpr → Judging Callee
called_value e = callable e.node e

-- what stands before the arguments of a call: a name alone is looked up as what is called
abbrev pub callee_by : Declarations → Place → ℕ → JudgedExpr → Option ℕ → Judging Callee
callee_by d p site e (Some x) w = numbered (λ n. called_name d p n site x) w
callee_by d p site e None w = e.value p asked.Nothing uses.Kept w ▷ called_value

abbrev pub callee : Declarations → Place → ℕ → JudgedExpr → Judging Callee
callee d p site e = callee_by d p site e e.name

module _ (d : Declarations) where
  -- a name with a closure literal behind it is called
  abbrev pub named_call : ℕ → JudgedExpr → ℕ → Place → Asked → Use → Judging TypedExpr
  named_call x c site p q u =
      numbered (λ n w. call_value d p q n site (trailing (Some c)) (numbered (λ m. called_name d p m site x) w))

  abbrev pub named : ℕ → Option JudgedExpr → ℕ → JudgedExpr
  named x None site = record { name = Some x; is_self = false; is_true = false; value = λ p q u. numbered (λ n. name_value d p q u n site x) }
  named x (Some c) site = other (named_call x c site)

  -- The parts behind an operand, one after another: each makes its nodes with all that stands to its left, and the whole has
  -- the number `start`. A member before arguments is looked up as what is called. `this` tells that the operand is the word `self`.
  abbrev pub run_parts : Place → Asked → ℕ → ℕ → Bool → Verdict TypedExpr → List JudgedPart → Verdict TypedExpr
  run_parts p q start site this v [] = v
  run_parts p q start site this v (JudgedPart.Member x (Some c) ∷ ps) =
      run_parts p q start site false
      (call_value d p (asked_before ps q) (node (own_nodes ps + start)) site (trailing (Some c)) (v ▷ called_member d p (node (1 + (own_nodes ps + start))) site this x)) ps
  run_parts p q start site this v (JudgedPart.Member x None ∷ JudgedPart.Call as_ c ∷ ps) =
      run_parts p q start site false
      (call_value d p (asked_before ps q) (node (own_nodes ps + start)) site (as_ ++ trailing c) (v ▷ called_member d p (node (1 + (own_nodes ps + start))) site this x)) ps
  run_parts p q start site this v (JudgedPart.Member x None ∷ ps) =
      run_parts p q start site false (v ▷ member_value d p (asked_before ps q) (node (own_nodes ps + start)) site this x) ps
  run_parts p q start site this v (JudgedPart.Index is ∷ ps) =
      run_parts p q start site false (index_value d p (asked_before ps q) (node (own_nodes ps + start)) site is v) ps
  run_parts p q start site this v (JudgedPart.Call as_ c ∷ ps) =
      run_parts p q start site false (call_value d p (asked_before ps q) (node (own_nodes ps + start)) site (as_ ++ trailing c) (v ▷ called_value)) ps

  -- the operand, and the first part behind it where that calls the operand
  abbrev pub run_first : Place → Asked → ℕ → ℕ → JudgedExpr → List JudgedPart → Judging TypedExpr
  run_first p q start site e (JudgedPart.Call as_ c ∷ ps) w =
      run_parts p q start site false (call_value d p (asked_before ps q) (node (own_nodes ps + start)) site (as_ ++ trailing c) (callee d p site e w)) ps
  run_first p q start site e ps w = run_parts p q start site e.is_self (e.value p asked.Nothing uses.Kept w) ps

  abbrev pub postfix_value : JudgedExpr → List JudgedPart → ℕ → Place → Asked → Use → Judging TypedExpr
  postfix_value e ps site p q u = numbered_many (own_nodes ps) (λ start. run_first p q start site e ps)

  -- ---- one level of a tree
  abbrev pub else_step : Else-F JudgedElse (ℕ → JudgedExpr) JudgedPart (ℕ → JudgedStatement) JudgedArgument (List JudgedStatement) JudgedExpr JudgedExpr JudgedLink (ℕ → JudgedStatement) JudgedStatement → JudgedElse
  else_step Else-F.Absent = JudgedElse.Absent
  else_step (Else-F.Block ss) = JudgedElse.Block ss
  else_step (Else-F.ElseIf s) = JudgedElse.ElseIf s

  abbrev pub form_step : ExprForm-F JudgedElse (ℕ → JudgedExpr) JudgedPart (ℕ → JudgedStatement) JudgedArgument (List JudgedStatement) JudgedExpr JudgedExpr JudgedLink (ℕ → JudgedStatement) JudgedStatement → ℕ → JudgedExpr
  form_step (ExprForm-F.Int v) site = other (constant site ty.Int (forms.Int v))
  form_step ExprForm-F.LeastInt site = other (constant site ty.Int forms.LeastInt)
  form_step (ExprForm-F.Bool b) site = record { name = None; is_self = false; is_true = b; value = constant site ty.Bool (forms.Bool b) }
  form_step (ExprForm-F.Named x c) site = named x c site
  form_step ExprForm-F.SelfWord site = record { name = None; is_self = true; is_true = false; value = λ p q u. numbered (λ n. self_value d p q n site) }
  form_step (ExprForm-F.Bracketed e) site = other (bracketed_value e site)
  form_step (ExprForm-F.PrintText t) site = other (constant site ty.Void (forms.PrintText t))
  form_step (ExprForm-F.Negate e) site = other (negated_value e site)
  form_step (ExprForm-F.Not e) site = other (inverted_value e site)
  form_step (ExprForm-F.Chain e ls) site = other (chain_value e ls site)
  form_step (ExprForm-F.Postfix e ps) site = other (postfix_value e ps site)
  form_step (ExprForm-F.Closure c) site = c
  form_step (ExprForm-F.Array es) site = other (array_value es site)

  abbrev pub part_step : Part-F JudgedElse (ℕ → JudgedExpr) JudgedPart (ℕ → JudgedStatement) JudgedArgument (List JudgedStatement) JudgedExpr JudgedExpr JudgedLink (ℕ → JudgedStatement) JudgedStatement → JudgedPart
  part_step (Part-F.Member end x c) = JudgedPart.Member x.number c
  part_step (Part-F.Index end is) = JudgedPart.Index is
  part_step (Part-F.Call end as_ c) = JudgedPart.Call as_ c

  abbrev pub statement_form_step : StatementForm-F JudgedElse (ℕ → JudgedExpr) JudgedPart (ℕ → JudgedStatement) JudgedArgument (List JudgedStatement) JudgedExpr JudgedExpr JudgedLink (ℕ → JudgedStatement) JudgedStatement → ℕ → JudgedStatement
  statement_form_step (StatementForm-F.Expr e) site =
      record { alone = Some e; site = site; passes = true; breaks = false; value = expr_statement e site }
  statement_form_step (StatementForm-F.Assign a l e) site =
      record { alone = None; site = site; passes = true; breaks = false; value = assignment a l e site }
  statement_form_step (StatementForm-F.If c a b) site =
      record { alone = None; site = site; passes = passes_end a || else_passes b; breaks = any_breaks a || else_breaks b; value = if_statement c a b site }
  statement_form_step (StatementForm-F.While c a) site =
      record { alone = None; site = site; passes = not c.is_true || any_breaks a; breaks = false; value = while_statement c a site }
  statement_form_step (StatementForm-F.Return e) site =
      record { alone = None; site = site; passes = false; breaks = false; value = return_statement e site }
  statement_form_step StatementForm-F.Break site =
      record { alone = None; site = site; passes = true; breaks = true; value = leaving statements.Break site }
  statement_form_step StatementForm-F.Continue site =
      record { alone = None; site = site; passes = true; breaks = false; value = leaving statements.Continue site }
  statement_form_step (StatementForm-F.Local l) site = l site

  abbrev pub name_of : Name → ℕ
  name_of x = x.number

  abbrev pub label_of : Option Name → Option ℕ
  label_of None = None
  label_of (Some x) = Some x.number

  abbrev pub argument_step : Argument-F JudgedElse (ℕ → JudgedExpr) JudgedPart (ℕ → JudgedStatement) JudgedArgument (List JudgedStatement) JudgedExpr JudgedExpr JudgedLink (ℕ → JudgedStatement) JudgedStatement → JudgedArgument
  argument_step a = record { shape = record { label = label_of a.label; ampersand = a.ampersand; trailing = false }; value = a.value }

  abbrev pub block_step : Block-F JudgedElse (ℕ → JudgedExpr) JudgedPart (ℕ → JudgedStatement) JudgedArgument (List JudgedStatement) JudgedExpr JudgedExpr JudgedLink (ℕ → JudgedStatement) JudgedStatement → List JudgedStatement
  block_step b = b.statements

  abbrev pub closure_step : Closure-F JudgedElse (ℕ → JudgedExpr) JudgedPart (ℕ → JudgedStatement) JudgedArgument (List JudgedStatement) JudgedExpr JudgedExpr JudgedLink (ℕ → JudgedStatement) JudgedStatement → JudgedExpr
  closure_step c = other (literal d c.span.start (judged_signature d c.signature) c.body)

  abbrev pub expr_step : Expr-F JudgedElse (ℕ → JudgedExpr) JudgedPart (ℕ → JudgedStatement) JudgedArgument (List JudgedStatement) JudgedExpr JudgedExpr JudgedLink (ℕ → JudgedStatement) JudgedStatement → JudgedExpr
  expr_step e = e.form e.span.start

  abbrev pub link_step : Link-F JudgedElse (ℕ → JudgedExpr) JudgedPart (ℕ → JudgedStatement) JudgedArgument (List JudgedStatement) JudgedExpr JudgedExpr JudgedLink (ℕ → JudgedStatement) JudgedStatement → JudgedLink
  link_step l = record { operator = l.operator; operand = l.operand }

  abbrev pub local_step : Local-F JudgedElse (ℕ → JudgedExpr) JudgedPart (ℕ → JudgedStatement) JudgedArgument (List JudgedStatement) JudgedExpr JudgedExpr JudgedLink (ℕ → JudgedStatement) JudgedStatement → ℕ → JudgedStatement
  local_step l site =
      record { alone = None; site = site; passes = true; breaks = false; value = local_statement d l.constant l.name.number site (is_some l.ty) (judged_option d l.ty) l.value }

  abbrev pub statement_step : Statement-F JudgedElse (ℕ → JudgedExpr) JudgedPart (ℕ → JudgedStatement) JudgedArgument (List JudgedStatement) JudgedExpr JudgedExpr JudgedLink (ℕ → JudgedStatement) JudgedStatement → JudgedStatement
  statement_step s = s.form s.span.start

  -- ---- the judgement of a tree
  abbrev pub judged_else : Else → JudgedElse
  judged_else = fold-Else JudgedElse (ℕ → JudgedExpr) JudgedPart (ℕ → JudgedStatement) JudgedArgument (List JudgedStatement) JudgedExpr JudgedExpr JudgedLink (ℕ → JudgedStatement) JudgedStatement else_step form_step part_step statement_form_step argument_step block_step closure_step expr_step link_step local_step statement_step

  abbrev pub judged_form : ExprForm → ℕ → JudgedExpr
  judged_form = fold-ExprForm JudgedElse (ℕ → JudgedExpr) JudgedPart (ℕ → JudgedStatement) JudgedArgument (List JudgedStatement) JudgedExpr JudgedExpr JudgedLink (ℕ → JudgedStatement) JudgedStatement else_step form_step part_step statement_form_step argument_step block_step closure_step expr_step link_step local_step statement_step

  abbrev pub judged_part : Part → JudgedPart
  judged_part = fold-Part JudgedElse (ℕ → JudgedExpr) JudgedPart (ℕ → JudgedStatement) JudgedArgument (List JudgedStatement) JudgedExpr JudgedExpr JudgedLink (ℕ → JudgedStatement) JudgedStatement else_step form_step part_step statement_form_step argument_step block_step closure_step expr_step link_step local_step statement_step

  abbrev pub judged_statement_form : StatementForm → ℕ → JudgedStatement
  judged_statement_form = fold-StatementForm JudgedElse (ℕ → JudgedExpr) JudgedPart (ℕ → JudgedStatement) JudgedArgument (List JudgedStatement) JudgedExpr JudgedExpr JudgedLink (ℕ → JudgedStatement) JudgedStatement else_step form_step part_step statement_form_step argument_step block_step closure_step expr_step link_step local_step statement_step

  abbrev pub judged_argument : Argument → JudgedArgument
  judged_argument = fold-Argument JudgedElse (ℕ → JudgedExpr) JudgedPart (ℕ → JudgedStatement) JudgedArgument (List JudgedStatement) JudgedExpr JudgedExpr JudgedLink (ℕ → JudgedStatement) JudgedStatement else_step form_step part_step statement_form_step argument_step block_step closure_step expr_step link_step local_step statement_step

  abbrev pub judged_block : Block → List JudgedStatement
  judged_block = fold-Block JudgedElse (ℕ → JudgedExpr) JudgedPart (ℕ → JudgedStatement) JudgedArgument (List JudgedStatement) JudgedExpr JudgedExpr JudgedLink (ℕ → JudgedStatement) JudgedStatement else_step form_step part_step statement_form_step argument_step block_step closure_step expr_step link_step local_step statement_step

  abbrev pub judged_closure : Closure → JudgedExpr
  judged_closure = fold-Closure JudgedElse (ℕ → JudgedExpr) JudgedPart (ℕ → JudgedStatement) JudgedArgument (List JudgedStatement) JudgedExpr JudgedExpr JudgedLink (ℕ → JudgedStatement) JudgedStatement else_step form_step part_step statement_form_step argument_step block_step closure_step expr_step link_step local_step statement_step

  abbrev pub judged_expr : Expr → JudgedExpr
  judged_expr = fold-Expr JudgedElse (ℕ → JudgedExpr) JudgedPart (ℕ → JudgedStatement) JudgedArgument (List JudgedStatement) JudgedExpr JudgedExpr JudgedLink (ℕ → JudgedStatement) JudgedStatement else_step form_step part_step statement_form_step argument_step block_step closure_step expr_step link_step local_step statement_step

  abbrev pub judged_link : Link → JudgedLink
  judged_link = fold-Link JudgedElse (ℕ → JudgedExpr) JudgedPart (ℕ → JudgedStatement) JudgedArgument (List JudgedStatement) JudgedExpr JudgedExpr JudgedLink (ℕ → JudgedStatement) JudgedStatement else_step form_step part_step statement_form_step argument_step block_step closure_step expr_step link_step local_step statement_step

  abbrev pub judged_local : Local → ℕ → JudgedStatement
  judged_local = fold-Local JudgedElse (ℕ → JudgedExpr) JudgedPart (ℕ → JudgedStatement) JudgedArgument (List JudgedStatement) JudgedExpr JudgedExpr JudgedLink (ℕ → JudgedStatement) JudgedStatement else_step form_step part_step statement_form_step argument_step block_step closure_step expr_step link_step local_step statement_step

  abbrev pub judged_statement : Statement → JudgedStatement
  judged_statement = fold-Statement JudgedElse (ℕ → JudgedExpr) JudgedPart (ℕ → JudgedStatement) JudgedArgument (List JudgedStatement) JudgedExpr JudgedExpr JudgedLink (ℕ → JudgedStatement) JudgedStatement else_step form_step part_step statement_form_step argument_step block_step closure_step expr_step link_step local_step statement_step

  -- the statements of a body or block
  abbrev pub judged_statements : List Statement → List JudgedStatement
  judged_statements ss = map judged_statement ss
