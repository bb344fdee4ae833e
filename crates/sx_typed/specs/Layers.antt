-- One level of a part of the tree.
use Rattle.std.specs.Prelude.{List, map}
use Rattle.sx_typed.specs.declared.code.Argument.{Argument, Argument-F}
use Rattle.sx_typed.specs.declared.code.Component.{Component}
use Rattle.sx_typed.specs.declared.code.ComponentForm.{ComponentForm, ComponentForm-F, out-ComponentForm}
use Rattle.sx_typed.specs.declared.code.Expr.{Expr}
use Rattle.sx_typed.specs.declared.code.Form.{Form, Form-F, out-Form}
use Rattle.sx_typed.specs.declared.code.Given.{Given}
use Rattle.sx_typed.specs.declared.code.GlobalMention.{GlobalMention}
use Rattle.sx_typed.specs.declared.code.Head.{Head}
use Rattle.sx_typed.specs.declared.code.HeadForm.{HeadForm, HeadForm-F, out-HeadForm}
use Rattle.sx_typed.specs.declared.code.Lvalue.{Lvalue, out-Lvalue}
use Rattle.sx_typed.specs.declared.code.Statement.{Statement}
use Rattle.sx_typed.specs.declared.code.StatementForm.{StatementForm, StatementForm-F, out-StatementForm}

abbrev pub ArgumentLayer : Type 0
ArgumentLayer = Argument-F Argument ComponentForm Form HeadForm Component Expr Given GlobalMention Head Lvalue

abbrev pub ComponentLayer : Type 0
ComponentLayer = ComponentForm-F Argument ComponentForm Form HeadForm Component Expr Given GlobalMention Head Lvalue

abbrev pub FormLayer : Type 0
FormLayer = Form-F Argument ComponentForm Form HeadForm Component Expr Given GlobalMention Head Lvalue

abbrev pub HeadLayer : Type 0
HeadLayer = HeadForm-F Argument ComponentForm Form HeadForm Component Expr Given GlobalMention Head Lvalue

abbrev pub StatementLayer : Type 0
StatementLayer = StatementForm-F StatementForm Statement

-- what stands in an expression, a statement and the parts of a path
abbrev pub form_of : Expr → FormLayer
form_of e = out-Form e.form

abbrev pub statement_of : Statement → StatementLayer
statement_of s = out-StatementForm s.form

abbrev pub head_of : Lvalue → HeadLayer
head_of l = out-HeadForm (out-Lvalue l).head.form

abbrev pub component_of : Component → ComponentLayer
component_of c = out-ComponentForm c.form

abbrev pub components_of : Lvalue → List ComponentLayer
components_of l = map component_of (out-Lvalue l).components
