-- The rules of typing: what is well typed (The Swift Programming Language, "Expressions", "Statements", "Functions").
-- In a rule `w` is where the walk stands before a part, `v` where it stands behind it, and the walks between are numbered. The
-- rules are one family, since expressions, statements and closure literals stand in one another.
use Rattle.std.specs.Prelude.{◌≡◌, ℕ, ◌+◌, Bool, true, false, List, [], ◌∷◌, ◌++◌, length, Option, Some, None, is_some}
use Rattle.sx_span.specs.declared.places.Node.{Node}
use Rattle.sx_tree.specs.declared.code.Argument.{Argument}
use Rattle.sx_tree.specs.declared.code.Block.{Block, out-Block}
use Rattle.sx_tree.specs.declared.code.Closure.{Closure, out-Closure}
use Rattle.sx_tree.specs.declared.code.Else.{Else}
use Rattle.sx_tree.specs.declared.code.Else.TheVariants as otherwises
use Rattle.sx_tree.specs.declared.code.Expr.{Expr}
use Rattle.sx_tree.specs.declared.code.ExprForm.TheVariants as forms
use Rattle.sx_tree.specs.declared.code.Link.{Link}
use Rattle.sx_tree.specs.declared.code.Local.{Local}
use Rattle.sx_tree.specs.declared.code.Part.{Part}
use Rattle.sx_tree.specs.declared.code.Part.TheVariants as parts_
use Rattle.sx_tree.specs.declared.code.Statement.{Statement}
use Rattle.sx_tree.specs.declared.code.StatementForm.TheVariants as statement_forms
use Rattle.sx_tree.specs.declared.operators.Assignment.{Assignment}
use Rattle.sx_tree.specs.declared.written_types.Name.{Name}
use Rattle.sx_types.specs.declared.types.Ty.{Ty}
use Rattle.sx_types.specs.declared.types.Ty.TheVariants as ty
use Rattle.sx_typed.specs.declared.code.Expr.{Expr as TypedExpr}
use Rattle.sx_typed.specs.declared.code.Form.TheVariants as typed_forms
use Rattle.sx_typed.specs.declared.code.Statement.{Statement as TypedStatement}
use Rattle.sx_typed.specs.declared.code.StatementForm.TheVariants as typed_statements
use Rattle.sx_typed.specs.declared.program.Parameter.{Parameter}
use Rattle.sx_scope.specs.declared.declarations.Declarations.{Declarations}
use Rattle.sx_scope.specs.declared.declarations.Known.TheVariants as known
use Rattle.sx_scope.specs.declared.declarations.Subscript.{Subscript}
use Rattle.sx_scope.specs.declared.walk.Asked.{Asked}
use Rattle.sx_scope.specs.declared.walk.Asked.TheVariants as asked
use Rattle.sx_scope.specs.declared.walk.Callee.{Callee}
use Rattle.sx_scope.specs.declared.walk.Gives.{Gives}
use Rattle.sx_scope.specs.declared.walk.Gives.TheVariants as gives
use Rattle.sx_scope.specs.declared.walk.Place.{Place}
use Rattle.sx_scope.specs.declared.walk.Use.{Use}
use Rattle.sx_scope.specs.declared.walk.Use.TheVariants as uses
use Rattle.sx_scope.specs.declared.walk.Walk.{Walk}
use Rattle.sx_scope.specs.Verdict.{typed}
use Rattle.sx_scope.specs.Walks.{node, advanced, with_locals}
use Rattle.sx_scope.specs.Names.{agrees, callable, called_member, called_name, member_value, name_value, self_value}
use Rattle.sx_scope.specs.Paths.{an_expr, modifiable, subscript_of}
use Rattle.sx_scope.specs.WrittenTypes.{is_void, judged_option}
use Rattle.sx_calls.specs.declared.passed.Passed.{Passed}
use Rattle.sx_calls.specs.declared.passed.Slot.{Slot}
use Rattle.sx_calls.specs.Parts.{asked_before, trailing_shape}
use Rattle.sx_calls.specs.Operators.{fits_left, right_asked, result_of, operation}
use Rattle.sx_calls.specs.Calls.{asked_in, use_in, is_loose, is_assignable, broken_in, with_value, nothing_passed, pairing, subscript}
use Rattle.sx_bodies.specs.Statements.{asked_by_written, asked_of_left, asked_of_right, asked_to_give, assigned_form, giving_in, has_value, in_loop, inside, is_fresh, is_void_option, local_form, local_kind_of, local_named, type_by, unless_taken}
use Rattle.sx_bodies.specs.Statements as bodies
use Rattle.sx_bodies.specs.Literals.{closed, escapes, inside_literal, judged_signature, literal_function, literal_type, with_literal}
use Rattle.sx_bodies.specs.Literals as literals
use Rattle.sx_check_expr.specs.Arguments.{shape_of, shapes_of}
use Rattle.sx_well_typed.specs.CallRules.{CallIs}
use Rattle.sx_well_typed.specs.Claims.{Claim}
use Rattle.sx_well_typed.specs.Endings.{Returns}
use Rattle.sx_well_typed.specs.LiteralRules.{LiteralFits, mentioned_since}
use Rattle.sx_well_typed.specs.Trees.{alone_name, alone_value, asked_of_first, calls_first, is_self_word, nodes_of}

-- a `return` alone stands where no value is to be given
abbrev pub may_give_none : Gives → Bool
may_give_none gives.Nothing = false
may_give_none gives.Unknown = true
may_give_none (gives.Type t) = is_void t

pub data Typed (d : Declarations) : Claim → Type 0 where
  -- ---- expressions
  -- An expression is what its form is.
  an_expression : (e : Expr) (p : Place) (q : Asked) (u : Use) (w v : Walk) (t : TypedExpr) →
      Typed d (Claim.form e.form e.span.start p q u w t v) →
      Typed d (Claim.expression e p q u w t v)
  -- An integer literal has the type `Int`.
  integer : (n site : ℕ) (p : Place) (q : Asked) (u : Use) (w : Walk) →
      agrees q ty.Int ≡ true →
      Typed d (Claim.form (forms.Int n) site p q u w (an_expr (node w.next) site ty.Int (typed_forms.Int n)) (advanced 1 w))
  -- So does the least integer.
  least_integer : (site : ℕ) (p : Place) (q : Asked) (u : Use) (w : Walk) →
      agrees q ty.Int ≡ true →
      Typed d (Claim.form forms.LeastInt site p q u w (an_expr (node w.next) site ty.Int typed_forms.LeastInt) (advanced 1 w))
  -- `true` and `false` have the type `Bool`.
  truth : (b : Bool) (site : ℕ) (p : Place) (q : Asked) (u : Use) (w : Walk) →
      agrees q ty.Bool ≡ true →
      Typed d (Claim.form (forms.Bool b) site p q u w (an_expr (node w.next) site ty.Bool (typed_forms.Bool b)) (advanced 1 w))
  -- `print` of a text gives no value.
  printed_text : (n site : ℕ) (p : Place) (q : Asked) (u : Use) (w : Walk) →
      agrees q ty.Void ≡ true →
      Typed d (Claim.form (forms.PrintText n) site p q u w (an_expr (node w.next) site ty.Void (typed_forms.PrintText n)) (advanced 1 w))
  -- A name is what it means here.
  name : (x site : ℕ) (p : Place) (q : Asked) (u : Use) (w v : Walk) (t : TypedExpr) →
      name_value d p q u (node w.next) site x (advanced 1 w) ≡ typed t v →
      Typed d (Claim.form (forms.Named x None) site p q u w t v)
  -- A name with a closure literal behind it is called.
  named_call : (x site : ℕ) (c : Closure) (p : Place) (q : Asked) (u : Use) (w w₁ v : Walk) (f : Callee) (t : TypedExpr) →
      called_name d p (node (advanced 1 w).next) site x (advanced 1 (advanced 1 w)) ≡ typed f w₁ →
      Typed d (Claim.call [] (Some c) p q (node w.next) site f w₁ t v) →
      Typed d (Claim.form (forms.Named x (Some c)) site p q u w t v)
  -- `self` is the value whose member this is.
  self_word : (site : ℕ) (p : Place) (q : Asked) (u : Use) (w v : Walk) (t : TypedExpr) →
      self_value d p q (node w.next) site (advanced 1 w) ≡ typed t v →
      Typed d (Claim.form forms.SelfWord site p q u w t v)
  -- A bracketed expression has the type of what stands in it.
  bracketed : (e : Expr) (site : ℕ) (p : Place) (q : Asked) (u : Use) (w v : Walk) (x : TypedExpr) →
      Typed d (Claim.expression e p q uses.Kept (advanced 1 w) x v) →
      Typed d (Claim.form (forms.Bracketed e) site p q u w (an_expr (node w.next) site x.ty (typed_forms.Bracketed x)) v)
  -- A minus stands before an `Int`, and gives one.
  negate : (e : Expr) (site : ℕ) (p : Place) (q : Asked) (u : Use) (w v : Walk) (x : TypedExpr) →
      Typed d (Claim.expression e p (asked.Type ty.Int) uses.Kept (advanced 1 w) x v) →
      agrees q ty.Int ≡ true →
      Typed d (Claim.form (forms.Negate e) site p q u w (an_expr (node w.next) site ty.Int (typed_forms.Negate x)) v)
  -- `!` stands before a `Bool`, and gives one.
  invert : (e : Expr) (site : ℕ) (p : Place) (q : Asked) (u : Use) (w v : Walk) (x : TypedExpr) →
      Typed d (Claim.expression e p (asked.Type ty.Bool) uses.Kept (advanced 1 w) x v) →
      agrees q ty.Bool ≡ true →
      Typed d (Claim.form (forms.Not e) site p q u w (an_expr (node w.next) site ty.Bool (typed_forms.Not x)) v)
  -- Operators of one level are applied from left to right; the whole has the type that is asked for.
  chain : (e : Expr) (ls : List Link) (site : ℕ) (p : Place) (q : Asked) (u : Use) (w w₁ v : Walk) (x t : TypedExpr) →
      Typed d (Claim.expression e p (asked_of_first ls) uses.Kept (advanced (length ls) w) x w₁) →
      Typed d (Claim.links ls p w.next site x w₁ t v) →
      agrees q t.ty ≡ true →
      Typed d (Claim.form (forms.Chain e ls) site p q u w t v)
  -- Behind the last operator nothing more is applied.
  links_end : (p : Place) (start site : ℕ) (x : TypedExpr) (w : Walk) →
      Typed d (Claim.links [] p start site x w x w)
  -- The left operand fits the operator, and the right one has the type that the operator asks for by it.
  links_more : (l : Link) (ls : List Link) (p : Place) (start site : ℕ) (x y t : TypedExpr) (w w₁ v : Walk) →
      fits_left l.operator x.ty ≡ true →
      Typed d (Claim.expression l.operand p (right_asked l.operator (Some x)) uses.Kept w y w₁) →
      Typed d (Claim.links ls p start site (an_expr (node (start + length ls)) site (result_of l.operator) (operation l.operator x y)) w₁ t v) →
      Typed d (Claim.links (l ∷ ls) p start site x w t v)
  -- An array has elements of the type `Int`.
  array : (es : List Expr) (site : ℕ) (p : Place) (q : Asked) (u : Use) (w v : Walk) (ts : List TypedExpr) →
      Typed d (Claim.elements es p [] (advanced 1 w) ts v) →
      agrees q ty.Array ≡ true →
      Typed d (Claim.form (forms.Array es) site p q u w (an_expr (node w.next) site ty.Array (typed_forms.Elements ts)) v)
  -- No more elements.
  elements_end : (p : Place) (ts : List TypedExpr) (w : Walk) →
      Typed d (Claim.elements [] p ts w ts w)
  -- An element, and the others.
  elements_more : (e : Expr) (es : List Expr) (p : Place) (before ts : List TypedExpr) (t : TypedExpr) (w w₁ v : Walk) →
      Typed d (Claim.expression e p (asked.Type ty.Int) uses.Kept w t w₁) →
      Typed d (Claim.elements es p (before ++ t ∷ []) w₁ ts v) →
      Typed d (Claim.elements (e ∷ es) p before w ts v)
  -- An operand before arguments is called, and then come the other parts.
  operand_called : (e : Expr) (end : ℕ) (as_ : List Argument) (c : Option Closure) (ps : List Part) (site : ℕ) (p : Place) (q : Asked) (u : Use) (w w₁ w₂ v : Walk) (f : Callee) (x t : TypedExpr) →
      Typed d (Claim.called e p site (advanced (nodes_of (parts_.Call end as_ c ∷ ps)) w) f w₁) →
      Typed d (Claim.call as_ c p (asked_before ps q) (node (nodes_of ps + w.next)) site f w₁ x w₂) →
      Typed d (Claim.parts ps p q w.next site false x w₂ t v) →
      Typed d (Claim.form (forms.Postfix e (parts_.Call end as_ c ∷ ps)) site p q u w t v)
  -- Of an operand before other parts nothing is asked.
  operand : (e : Expr) (ps : List Part) (site : ℕ) (p : Place) (q : Asked) (u : Use) (w w₁ v : Walk) (x t : TypedExpr) →
      calls_first ps ≡ false →
      Typed d (Claim.expression e p asked.Nothing uses.Kept (advanced (nodes_of ps) w) x w₁) →
      Typed d (Claim.parts ps p q w.next site (is_self_word e) x w₁ t v) →
      Typed d (Claim.form (forms.Postfix e ps) site p q u w t v)
  -- A closure literal.
  literal : (c : Closure) (site : ℕ) (p : Place) (q : Asked) (u : Use) (w v : Walk) (t : TypedExpr) →
      Typed d (Claim.closure c p q u w t v) →
      Typed d (Claim.form (forms.Closure c) site p q u w t v)
  -- ---- calls
  -- A name alone is looked up as what is called.
  called_by_name : (e : Expr) (x : ℕ) (p : Place) (site : ℕ) (w v : Walk) (f : Callee) →
      alone_name e ≡ Some x →
      called_name d p (node w.next) site x (advanced 1 w) ≡ typed f v →
      Typed d (Claim.called e p site w f v)
  -- Another operand is a value that is called.
  called_value : (e : Expr) (p : Place) (site : ℕ) (w w₁ v : Walk) (x : TypedExpr) (f : Callee) →
      alone_name e ≡ None →
      Typed d (Claim.expression e p asked.Nothing uses.Kept w x w₁) →
      callable x.node x w₁ ≡ typed f v →
      Typed d (Claim.called e p site w f v)
  -- A call has an argument for each parameter, and the type of the result.
  a_call : (as_ : List Argument) (c : Option Closure) (p : Place) (q : Asked) (n : Node) (site : ℕ) (f : Callee) (a : Passed) (w v : Walk) (t : TypedExpr) →
      (pairing d (Some f) (shapes_of as_ c)).counted ≡ true →
      Typed d (Claim.arguments as_ c p (pairing d (Some f) (shapes_of as_ c)).slots nothing_passed w a v) →
      CallIs d q n site f a t →
      Typed d (Claim.call as_ c p q n site f w t v)
  -- No more arguments.
  arguments_end : (p : Place) (ss : List Slot) (a : Passed) (w : Walk) →
      Typed d (Claim.arguments [] None p ss a w a w)
  -- A closure literal behind the call is the last argument: it has the type of its parameter.
  arguments_closure : (c : Closure) (p : Place) (s : Slot) (ss : List Slot) (a : Passed) (w v : Walk) (t : TypedExpr) →
      is_loose s ≡ false →
      Typed d (Claim.closure c p (asked_in s) (use_in s trailing_shape) (advanced 1 w) t v) →
      is_assignable trailing_shape t ≡ true →
      broken_in s trailing_shape ≡ None →
      Typed d (Claim.arguments [] (Some c) p (s ∷ ss) a w (with_value s trailing_shape a t) v)
  -- An argument has the type of its parameter, and the label; behind `&` stands what can be modified, at in-out parameters alone.
  arguments_more : (x : Argument) (as_ : List Argument) (c : Option Closure) (p : Place) (s : Slot) (ss : List Slot) (a b : Passed) (w w₁ v : Walk) (t : TypedExpr) →
      is_loose s ≡ false →
      Typed d (Claim.expression x.value p (asked_in s) (use_in s (shape_of x)) (advanced 1 w) t w₁) →
      is_assignable (shape_of x) t ≡ true →
      broken_in s (shape_of x) ≡ None →
      Typed d (Claim.arguments as_ c p ss (with_value s (shape_of x) a t) w₁ b v) →
      Typed d (Claim.arguments (x ∷ as_) c p (s ∷ ss) a w b v)
  -- ---- parts behind an operand
  -- No more parts.
  parts_end : (p : Place) (q : Asked) (start site : ℕ) (this : Bool) (x : TypedExpr) (w : Walk) →
      Typed d (Claim.parts [] p q start site this x w x w)
  -- A member with a closure literal behind it is called.
  member_closure : (end : ℕ) (m : Name) (c : Closure) (ps : List Part) (p : Place) (q : Asked) (start site : ℕ) (this : Bool) (x y t : TypedExpr) (f : Callee) (w w₁ w₂ v : Walk) →
      called_member d p (node (1 + (nodes_of ps + start))) site this m.number x w ≡ typed f w₁ →
      Typed d (Claim.call [] (Some c) p (asked_before ps q) (node (nodes_of ps + start)) site f w₁ y w₂) →
      Typed d (Claim.parts ps p q start site false y w₂ t v) →
      Typed d (Claim.parts (parts_.Member end m (Some c) ∷ ps) p q start site this x w t v)
  -- A member before arguments is called.
  member_called : (end behind : ℕ) (m : Name) (as_ : List Argument) (c : Option Closure) (ps : List Part) (p : Place) (q : Asked) (start site : ℕ) (this : Bool) (x y t : TypedExpr) (f : Callee) (w w₁ w₂ v : Walk) →
      called_member d p (node (1 + (nodes_of ps + start))) site this m.number x w ≡ typed f w₁ →
      Typed d (Claim.call as_ c p (asked_before ps q) (node (nodes_of ps + start)) site f w₁ y w₂) →
      Typed d (Claim.parts ps p q start site false y w₂ t v) →
      Typed d (Claim.parts (parts_.Member end m None ∷ (parts_.Call behind as_ c ∷ ps)) p q start site this x w t v)
  -- Another member is a value; only of the last one something is asked.
  member : (end : ℕ) (m : Name) (ps : List Part) (p : Place) (q : Asked) (start site : ℕ) (this : Bool) (x y t : TypedExpr) (w w₁ v : Walk) →
      calls_first ps ≡ false →
      member_value d p (asked_before ps q) (node (nodes_of ps + start)) site this m.number x w ≡ typed y w₁ →
      Typed d (Claim.parts ps p q start site false y w₁ t v) →
      Typed d (Claim.parts (parts_.Member end m None ∷ ps) p q start site this x w t v)
  -- A subscript has an index for each of its parameters, and the type of what it gives.
  subscripted : (end : ℕ) (is : List Expr) (ps : List Part) (p : Place) (q : Asked) (start site : ℕ) (this : Bool) (x t : TypedExpr) (o : Subscript) (es : List TypedExpr) (w w₁ v : Walk) →
      subscript d x.ty ≡ Some o →
      o.failed ≡ false →
      length o.parameters ≡ length is →
      Typed d (Claim.indices is p o.parameters [] w es w₁) →
      agrees (asked_before ps q) o.ty ≡ true →
      Typed d (Claim.parts ps p q start site false (subscript_of (node (nodes_of ps + start)) site o.ty x es o.accessors) w₁ t v) →
      Typed d (Claim.parts (parts_.Index end is ∷ ps) p q start site this x w t v)
  -- A value before arguments is called.
  value_called : (end : ℕ) (as_ : List Argument) (c : Option Closure) (ps : List Part) (p : Place) (q : Asked) (start site : ℕ) (this : Bool) (x y t : TypedExpr) (f : Callee) (w w₁ w₂ v : Walk) →
      callable x.node x w ≡ typed f w₁ →
      Typed d (Claim.call as_ c p (asked_before ps q) (node (nodes_of ps + start)) site f w₁ y w₂) →
      Typed d (Claim.parts ps p q start site false y w₂ t v) →
      Typed d (Claim.parts (parts_.Call end as_ c ∷ ps) p q start site this x w t v)
  -- No more indices.
  indices_end : (p : Place) (es : List TypedExpr) (w : Walk) →
      Typed d (Claim.indices [] p [] es w es w)
  -- An index has the type of its parameter.
  indices_more : (i : Expr) (is : List Expr) (p : Place) (t : Ty) (ts : List Ty) (before es : List TypedExpr) (x : TypedExpr) (w w₁ v : Walk) →
      Typed d (Claim.expression i p (asked.Type t) uses.Kept w x w₁) →
      Typed d (Claim.indices is p ts (before ++ x ∷ []) w₁ es v) →
      Typed d (Claim.indices (i ∷ is) p (t ∷ ts) before w es v)
  -- ---- closure literals
  -- The body of a closure literal gives its result wherever it ends, and the literal may stand where this is asked; its captures
  -- are what is mentioned in it and stands outside.
  a_closure : (c : Closure) (p : Place) (q : Asked) (u : Use) (w w₁ w₂ w₃ v : Walk) (ps : List Parameter) (r : Ty) (ss : List TypedStatement) (k : ℕ) →
      literals.parameters d q (judged_signature d (out-Closure c).signature) (advanced 1 w) ≡ typed ps w₁ →
      literals.result d q (judged_signature d (out-Closure c).signature) w₁ ≡ typed r w₂ →
      Typed d (Claim.body (out-Closure c).body (inside_literal p u (length w.locals) (gives.Type r)) w₂ ss w₃) →
      closed (node w.next) (length w.locals) (length w.mentions) w₃ ≡ v →
      Returns r (out-Closure c).body →
      LiteralFits d q (mentioned_since w v) (literal_type (ps, (r, ss))) k →
      Typed d (Claim.closure c p q u w (an_expr (node w.next) (out-Closure c).span.start (ty.Func k) (typed_forms.Closure (node w.next)))
      (with_literal (length w.literals) (literal_function (escapes u) (node w.next) (mentioned_since w v) (ps, (r, ss))) v))
  -- ---- statements
  -- A statement is what its form is.
  a_statement : (s : Statement) (p : Place) (w v : Walk) (t : TypedStatement) →
      Typed d (Claim.statement_form s.form s.span.start p w t v) →
      Typed d (Claim.statement s p w t v)
  -- An expression may stand as a statement, whatever its type.
  expression_statement : (e : Expr) (site : ℕ) (p : Place) (w v : Walk) (x : TypedExpr) →
      Typed d (Claim.expression e p asked.Nothing uses.Kept (advanced 1 w) x v) →
      Typed d (Claim.statement_form (statement_forms.Expr e) site p w (bodies.statement site (typed_statements.Expr x)) v)
  -- What stands left of an assignment can be modified, and what stands right has its type; with an operator both are of type `Int`.
  assign : (a : Assignment) (l e : Expr) (site : ℕ) (p : Place) (w w₁ v : Walk) (x y : TypedExpr) →
      Typed d (Claim.expression l p (asked_of_left a) uses.Modified (advanced 1 w) x w₁) →
      modifiable x ≡ true →
      Typed d (Claim.expression e p (asked_of_right a (Some x)) uses.Kept w₁ y v) →
      Typed d (Claim.statement_form (statement_forms.Assign a l e) site p w (bodies.statement site (assigned_form a x y)) v)
  -- The condition of an `if` is a `Bool`.
  if_ : (c : Expr) (a : Block) (b : Else) (site : ℕ) (p : Place) (w w₁ w₂ v : Walk) (x : TypedExpr) (ss ts : List TypedStatement) →
      Typed d (Claim.expression c p (asked.Type ty.Bool) uses.Kept (advanced 1 w) x w₁) →
      Typed d (Claim.block a p w₁ ss w₂) →
      Typed d (Claim.otherwise b p w₂ ts v) →
      Typed d (Claim.statement_form (statement_forms.If c a b) site p w (bodies.statement site (typed_statements.If x ss ts)) v)
  -- The condition of a `while` is a `Bool`; its block stands in a loop.
  while_ : (c : Expr) (a : Block) (site : ℕ) (p : Place) (w w₁ v : Walk) (x : TypedExpr) (ss : List TypedStatement) →
      Typed d (Claim.expression c p (asked.Type ty.Bool) uses.Kept (advanced 1 w) x w₁) →
      Typed d (Claim.block a (in_loop p) w₁ ss v) →
      Typed d (Claim.statement_form (statement_forms.While c a) site p w (bodies.statement site (typed_statements.While x ss)) v)
  -- A value is given back where one is to be given, of the type that is to be given.
  return_value : (e : Expr) (site : ℕ) (p : Place) (w v : Walk) (x : TypedExpr) →
      has_value p.gives ≡ true →
      Typed d (Claim.expression e p (asked_to_give p.gives) uses.Kept (advanced 1 w) x v) →
      Typed d (Claim.statement_form (statement_forms.Return (Some e)) site p w (bodies.statement site (typed_statements.Return (Some x))) v)
  -- And none where none is to be given.
  return_none : (site : ℕ) (p : Place) (w : Walk) →
      may_give_none p.gives ≡ true →
      Typed d (Claim.statement_form (statement_forms.Return None) site p w (bodies.statement site (typed_statements.Return None)) (advanced 1 w))
  -- `break` stands in a loop.
  break : (site : ℕ) (p : Place) (w : Walk) →
      p.in_loop ≡ true →
      Typed d (Claim.statement_form statement_forms.Break site p w (bodies.statement site typed_statements.Break) (advanced 1 w))
  -- So does `continue`.
  continue : (site : ℕ) (p : Place) (w : Walk) →
      p.in_loop ≡ true →
      Typed d (Claim.statement_form statement_forms.Continue site p w (bodies.statement site typed_statements.Continue) (advanced 1 w))
  -- A local may be declared in a block.
  local_statement : (l : Local) (site : ℕ) (p : Place) (w v : Walk) (t : TypedStatement) →
      Typed d (Claim.local l site p w t v) →
      Typed d (Claim.statement_form (statement_forms.Local l) site p w t v)
  -- The name of a local is new in its block, and its initial value has the written type, if there is one, but not `Void`; its
  -- name comes into scope behind it.
  a_local : (l : Local) (site : ℕ) (p : Place) (w w₁ w₂ : Walk) (o : Option Ty) (x : TypedExpr) →
      is_fresh d p.outside_block l.name.number (advanced 1 w) ≡ true →
      judged_option d l.ty (advanced 1 w) ≡ typed o w₁ →
      is_void_option o ≡ false →
      Typed d (Claim.expression l.value (giving_in p (is_some l.ty) (node w.next)) (asked_by_written (Some o)) uses.Kept w₁ x w₂) →
      is_void (type_by o x) ≡ false →
      Typed d (Claim.local l site p w (bodies.statement site (local_form l.constant (node w.next) l.name.number x))
      (unless_taken p.outside_block (local_named l.name.number (node w.next) (local_kind_of l.constant) false (known.Type x.ty)) w₂))
  -- No more statements.
  statements_end : (p : Place) (ts : List TypedStatement) (w : Walk) →
      Typed d (Claim.statements [] p ts w ts w)
  -- A statement, and those behind it.
  statements_more : (s : Statement) (ss : List Statement) (p : Place) (before ts : List TypedStatement) (t : TypedStatement) (w w₁ v : Walk) →
      Typed d (Claim.statement s p w t w₁) →
      Typed d (Claim.statements ss p (before ++ t ∷ []) w₁ ts v) →
      Typed d (Claim.statements (s ∷ ss) p before w ts v)
  -- The statements of a block have a scope of their own.
  a_block : (b : Block) (p : Place) (w v : Walk) (ts : List TypedStatement) →
      Typed d (Claim.statements (out-Block b).statements (inside p (advanced 1 w)) [] (advanced 1 w) ts v) →
      Typed d (Claim.block b p w ts (with_locals (length w.locals) v))
  -- An `if` may have no `else`.
  no_else : (p : Place) (w : Walk) →
      Typed d (Claim.otherwise otherwises.Absent p w [] w)
  -- Behind `else` stands a block.
  else_block : (b : Block) (p : Place) (w v : Walk) (ts : List TypedStatement) →
      Typed d (Claim.block b p w ts v) →
      Typed d (Claim.otherwise (otherwises.Block b) p w ts v)
  -- Or another `if`.
  else_if : (s : Statement) (p : Place) (w v : Walk) (t : TypedStatement) →
      Typed d (Claim.statement s p w t v) →
      Typed d (Claim.otherwise (otherwises.ElseIf s) p w (t ∷ []) v)
  -- A body of one expression gives its value, where one is to be given.
  body_value : (e : Expr) (s : Statement) (p : Place) (w v : Walk) (x : TypedExpr) →
      s.form ≡ statement_forms.Expr e →
      has_value p.gives ≡ true →
      Typed d (Claim.expression e p (asked_to_give p.gives) uses.Kept (advanced 1 w) x v) →
      Typed d (Claim.body (s ∷ []) p w (bodies.statement s.span.start (typed_statements.Return (Some x)) ∷ []) v)
  -- Another body is its statements, in a scope of their own.
  body_statements : (ss : List Statement) (p : Place) (w v : Walk) (ts : List TypedStatement) →
      alone_value p.gives ss ≡ None →
      Typed d (Claim.statements ss (inside p w) [] w ts v) →
      Typed d (Claim.body ss p w ts (with_locals (length w.locals) v))
