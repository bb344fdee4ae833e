-- What the parts of a program mention, for the rule that no global is reached before it is declared: this project's own.
-- Which getters, setters and observers run where a path is read or modified is Swift's: The Swift Programming Language,
-- "Properties", "Subscripts" and "Memory Safety".
use Rattle.std.specs.Prelude.{List, [], ◌∷◌, ◌++◌, map, slice_get, Option, Some, None}
use Rattle.sx_span.specs.declared.places.Node.{Node}
use Rattle.sx_types.specs.declared.types.Ty.{Ty}
use Rattle.sx_types.specs.declared.types.Ty.TheVariants as ty
use Rattle.sx_typed.specs.Functions.{function_at}
use Rattle.sx_typed.specs.declared.code.Accessors.{Accessors}
use Rattle.sx_typed.specs.declared.code.Argument.{Argument, fold-Argument, Argument-F}
use Rattle.sx_typed.specs.declared.code.Component.{Component, fold-Component, Component-F}
use Rattle.sx_typed.specs.declared.code.ComponentForm.{ComponentForm, fold-ComponentForm, ComponentForm-F}
use Rattle.sx_typed.specs.declared.code.Expr.{Expr, fold-Expr, Expr-F}
use Rattle.sx_typed.specs.declared.code.Form.{Form, fold-Form, Form-F}
use Rattle.sx_typed.specs.declared.code.Given.{Given, fold-Given, Given-F}
use Rattle.sx_typed.specs.declared.code.GlobalMention.{GlobalMention, fold-GlobalMention, GlobalMention-F}
use Rattle.sx_typed.specs.declared.code.Head.{Head, fold-Head, Head-F}
use Rattle.sx_typed.specs.declared.code.HeadForm.{HeadForm, fold-HeadForm, HeadForm-F}
use Rattle.sx_typed.specs.declared.code.Lvalue.{Lvalue, fold-Lvalue, Lvalue-F}
use Rattle.sx_typed.specs.declared.code.Observers.{Observers}
use Rattle.sx_typed.specs.declared.code.Statement.{Statement, fold-Statement, Statement-F}
use Rattle.sx_typed.specs.declared.code.StatementForm.{StatementForm-F}
use Rattle.sx_typed.specs.declared.program.Function.{Function}
use Rattle.sx_typed.specs.declared.program.FunctionKind.{FunctionKind}
use Rattle.sx_typed.specs.declared.program.FunctionKind.TheVariants as kind
use Rattle.sx_typed.specs.declared.program.Property.{Property}
use Rattle.sx_typed.specs.declared.program.TypeDeclaration.{TypeDeclaration}
use Rattle.sx_typed.specs.declared.program.Typed.{Typed}
use Rattle.sx_late.specs.declared.mentions.Mentioned.{Mentioned}
use Rattle.sx_late.specs.declared.mentions.Mentioned.TheVariants as mentioned
use Rattle.sx_late.specs.declared.mentions.Purpose.{Purpose}
use Rattle.sx_late.specs.declared.mentions.Purpose.TheVariants.{Read, Store, Modify}

abbrev pub Mentions : Type 0
Mentions = List Mentioned

-- what is mentioned by a part of a path, which depends on what it is evaluated for
abbrev pub ByPurpose : Type 0
ByPurpose = Purpose → Mentions

-- one behind the other
abbrev pub all : List Mentions → Mentions
all [] = []
all (m ∷ ms) = m ++ all ms

abbrev pub if_there : {X : Type 0} → (X → Mentions) → Option X → Mentions
if_there f None = []
if_there f (Some x) = f x

abbrev pub function_mention : Node → Mentions
function_mention n = mentioned.Function n ∷ []

-- ---- what a part of a path uses
-- a part that has others behind it is read, or else modified
abbrev pub before_last : Purpose → Purpose
before_last Read = Read
before_last Store = Modify
before_last Modify = Modify

abbrev pub purpose_before : {X : Type 0} → List X → Purpose → Purpose
purpose_before [] p = p
purpose_before (x ∷ xs) p = before_last p

abbrev pub parts_mention : List ByPurpose → ByPurpose
parts_mention [] p = []
parts_mention (m ∷ ms) p = m (purpose_before ms p) ++ parts_mention ms p

abbrev pub accessor_mentions : Accessors → ByPurpose
accessor_mentions a Read = function_mention a.getter
accessor_mentions a Store = if_there function_mention a.setter
accessor_mentions a Modify = function_mention a.getter ++ if_there function_mention a.setter

abbrev pub observer_mentions : Observers → ByPurpose
observer_mentions o Read = []
observer_mentions o Store = if_there function_mention o.will_set ++ if_there function_mention o.did_set
observer_mentions o Modify = if_there function_mention o.will_set ++ if_there function_mention o.did_set

-- ---- initialisers
abbrev pub declaration_of : Typed → Ty → Option TypeDeclaration
declaration_of typed (ty.Struct k) = slice_get typed.structures k
declaration_of typed (ty.Class k) = slice_get typed.classes k
declaration_of typed ty.Int = None
declaration_of typed ty.Bool = None
declaration_of typed ty.Void = None
declaration_of typed ty.Array = None
declaration_of typed (ty.Func k) = None

-- the initialiser of a type has the node of the type
abbrev pub initialiser_mentions : Typed → Ty → Mentions
initialiser_mentions typed ty = if_there (λ (d : TypeDeclaration). function_mention d.node) (declaration_of typed ty)

-- ---- expressions and paths
-- the function that is called, and what its arguments mention
abbrev pub call_mentions : Node → List Mentions → Mentions
call_mentions n arguments = function_mention n ++ all arguments

abbrev pub argument_step : Argument-F Mentions ByPurpose Mentions ByPurpose ByPurpose Mentions Mentions Mentions ByPurpose ByPurpose → Mentions
argument_step (Argument-F.Value e) = e
argument_step (Argument-F.InOut at path) = path Modify
argument_step (Argument-F.Borrowed at path) = path Read
argument_step (Argument-F.Literal n) = function_mention n

abbrev pub component_form_step : ComponentForm-F Mentions ByPurpose Mentions ByPurpose ByPurpose Mentions Mentions Mentions ByPurpose ByPurpose → ByPurpose
component_form_step (ComponentForm-F.Field k) p = []
component_form_step (ComponentForm-F.Observed k o) p = observer_mentions o p
component_form_step (ComponentForm-F.Computed a) p = accessor_mentions a p
component_form_step (ComponentForm-F.Subscript es a) p = all es ++ accessor_mentions a p
component_form_step (ComponentForm-F.Element e) p = e

abbrev pub form_step : Typed → Form-F Mentions ByPurpose Mentions ByPurpose ByPurpose Mentions Mentions Mentions ByPurpose ByPurpose → Mentions
form_step typed (Form-F.Int n) = []
form_step typed Form-F.LeastInt = []
form_step typed (Form-F.Bool b) = []
form_step typed (Form-F.Elements es) = all es
form_step typed (Form-F.Constant n) = []
form_step typed (Form-F.GlobalConstant g) = g
form_step typed (Form-F.Function n) = function_mention n
form_step typed (Form-F.Closure n) = function_mention n
form_step typed (Form-F.Bracketed e) = e
form_step typed (Form-F.Read path) = path Read
form_step typed (Form-F.Negate e) = e
form_step typed (Form-F.Not e) = e
form_step typed (Form-F.Operation o a b) = a ++ b
form_step typed (Form-F.And a b) = a ++ b
form_step typed (Form-F.Or a b) = a ++ b
form_step typed (Form-F.Call n arguments) = call_mentions n arguments
form_step typed (Form-F.CallMethod n base arguments) = base ++ call_mentions n arguments
form_step typed (Form-F.CallMutating n path arguments) = path Modify ++ call_mentions n arguments
form_step typed (Form-F.CallValue f arguments) = f ++ all arguments
form_step typed (Form-F.Initialise ty given) = initialiser_mentions typed ty ++ all given
form_step typed (Form-F.Print e) = e
form_step typed (Form-F.PrintText n) = []

abbrev pub head_form_step : HeadForm-F Mentions ByPurpose Mentions ByPurpose ByPurpose Mentions Mentions Mentions ByPurpose ByPurpose → ByPurpose
head_form_step (HeadForm-F.Variable n) p = []
head_form_step (HeadForm-F.Global g) p = g
head_form_step (HeadForm-F.GlobalObserved g o) p = g ++ observer_mentions o p
head_form_step (HeadForm-F.GlobalComputed a) p = accessor_mentions a p
head_form_step (HeadForm-F.Property e k) p = e
head_form_step (HeadForm-F.PropertyObserved e k o) p = e ++ observer_mentions o p
head_form_step (HeadForm-F.PropertyComputed e a) p = e ++ accessor_mentions a p
head_form_step (HeadForm-F.PropertySubscript e es a) p = e ++ (all es ++ accessor_mentions a p)
head_form_step (HeadForm-F.Evaluated e) p = e

abbrev pub component_step : Component-F Mentions ByPurpose Mentions ByPurpose ByPurpose Mentions Mentions Mentions ByPurpose ByPurpose → ByPurpose
component_step c = c.form

abbrev pub expr_step : Expr-F Mentions ByPurpose Mentions ByPurpose ByPurpose Mentions Mentions Mentions ByPurpose ByPurpose → Mentions
expr_step e = e.form

abbrev pub given_step : Given-F Mentions ByPurpose Mentions ByPurpose ByPurpose Mentions Mentions Mentions ByPurpose ByPurpose → Mentions
given_step g = g.value

abbrev pub global_step : GlobalMention-F Mentions ByPurpose Mentions ByPurpose ByPurpose Mentions Mentions Mentions ByPurpose ByPurpose → Mentions
global_step g = if_there (λ ms. ms) g.before ++ mentioned.Global g.global ∷ []

abbrev pub head_step : Head-F Mentions ByPurpose Mentions ByPurpose ByPurpose Mentions Mentions Mentions ByPurpose ByPurpose → ByPurpose
head_step h = h.form

abbrev pub path_step : Lvalue-F Mentions ByPurpose Mentions ByPurpose ByPurpose Mentions Mentions Mentions ByPurpose ByPurpose → ByPurpose
path_step l = parts_mention (l.head ∷ l.components)

abbrev pub argument_mentions : Typed → Argument → Mentions
argument_mentions typed = fold-Argument Mentions ByPurpose Mentions ByPurpose ByPurpose Mentions Mentions Mentions ByPurpose ByPurpose argument_step component_form_step (form_step typed) head_form_step component_step expr_step given_step global_step head_step path_step

abbrev pub component_form_mentions : Typed → ComponentForm → ByPurpose
component_form_mentions typed = fold-ComponentForm Mentions ByPurpose Mentions ByPurpose ByPurpose Mentions Mentions Mentions ByPurpose ByPurpose argument_step component_form_step (form_step typed) head_form_step component_step expr_step given_step global_step head_step path_step

abbrev pub form_mentions : Typed → Form → Mentions
form_mentions typed = fold-Form Mentions ByPurpose Mentions ByPurpose ByPurpose Mentions Mentions Mentions ByPurpose ByPurpose argument_step component_form_step (form_step typed) head_form_step component_step expr_step given_step global_step head_step path_step

abbrev pub head_form_mentions : Typed → HeadForm → ByPurpose
head_form_mentions typed = fold-HeadForm Mentions ByPurpose Mentions ByPurpose ByPurpose Mentions Mentions Mentions ByPurpose ByPurpose argument_step component_form_step (form_step typed) head_form_step component_step expr_step given_step global_step head_step path_step

abbrev pub component_mentions : Typed → Component → ByPurpose
component_mentions typed = fold-Component Mentions ByPurpose Mentions ByPurpose ByPurpose Mentions Mentions Mentions ByPurpose ByPurpose argument_step component_form_step (form_step typed) head_form_step component_step expr_step given_step global_step head_step path_step

abbrev pub expr_mentions : Typed → Expr → Mentions
expr_mentions typed = fold-Expr Mentions ByPurpose Mentions ByPurpose ByPurpose Mentions Mentions Mentions ByPurpose ByPurpose argument_step component_form_step (form_step typed) head_form_step component_step expr_step given_step global_step head_step path_step

abbrev pub given_mentions : Typed → Given → Mentions
given_mentions typed = fold-Given Mentions ByPurpose Mentions ByPurpose ByPurpose Mentions Mentions Mentions ByPurpose ByPurpose argument_step component_form_step (form_step typed) head_form_step component_step expr_step given_step global_step head_step path_step

abbrev pub global_mentions : Typed → GlobalMention → Mentions
global_mentions typed = fold-GlobalMention Mentions ByPurpose Mentions ByPurpose ByPurpose Mentions Mentions Mentions ByPurpose ByPurpose argument_step component_form_step (form_step typed) head_form_step component_step expr_step given_step global_step head_step path_step

abbrev pub head_mentions : Typed → Head → ByPurpose
head_mentions typed = fold-Head Mentions ByPurpose Mentions ByPurpose ByPurpose Mentions Mentions Mentions ByPurpose ByPurpose argument_step component_form_step (form_step typed) head_form_step component_step expr_step given_step global_step head_step path_step

abbrev pub path_mentions : Typed → Lvalue → ByPurpose
path_mentions typed = fold-Lvalue Mentions ByPurpose Mentions ByPurpose ByPurpose Mentions Mentions Mentions ByPurpose ByPurpose argument_step component_form_step (form_step typed) head_form_step component_step expr_step given_step global_step head_step path_step

-- ---- statements
abbrev pub statement_form_step : Typed → StatementForm-F Mentions Mentions → Mentions
statement_form_step typed (StatementForm-F.Expr e) = expr_mentions typed e
statement_form_step typed (StatementForm-F.Constant n e) = expr_mentions typed e
statement_form_step typed (StatementForm-F.Local l e) = expr_mentions typed e
statement_form_step typed (StatementForm-F.Global g e) = expr_mentions typed e
statement_form_step typed (StatementForm-F.Assign path e) = path_mentions typed path Store ++ expr_mentions typed e
statement_form_step typed (StatementForm-F.Compound o path e) = path_mentions typed path Modify ++ expr_mentions typed e
statement_form_step typed (StatementForm-F.If e block otherwise) = expr_mentions typed e ++ (all block ++ all otherwise)
statement_form_step typed (StatementForm-F.While e block) = expr_mentions typed e ++ all block
statement_form_step typed (StatementForm-F.Return e) = if_there (expr_mentions typed) e
statement_form_step typed StatementForm-F.Break = []
statement_form_step typed StatementForm-F.Continue = []

abbrev pub statement_step : Statement-F Mentions Mentions → Mentions
statement_step s = s.form

abbrev pub statement_mentions : Typed → Statement → Mentions
statement_mentions typed = fold-Statement Mentions Mentions (statement_form_step typed) statement_step

abbrev pub block_mentions : Typed → List Statement → Mentions
block_mentions typed block = all (map (statement_mentions typed) block)

-- ---- functions
-- what the initial values of the stored properties mention
abbrev pub property_mentions : Typed → Property → Mentions
property_mentions typed p = if_there (expr_mentions typed) p.default

abbrev pub declaration_mentions : Typed → TypeDeclaration → Mentions
declaration_mentions typed d = all (map (property_mentions typed) d.stored)

abbrev pub default_mentions : Typed → Ty → Mentions
default_mentions typed ty = if_there (declaration_mentions typed) (declaration_of typed ty)

-- a synthesised initialiser mentions what the defaults of its type mention, and others what their bodies mention
abbrev pub mentions_by_kind : Typed → Function → FunctionKind → Mentions
mentions_by_kind typed f kind.Initialiser = if_there (default_mentions typed) f.owner
mentions_by_kind typed f kind.Function = block_mentions typed f.body
mentions_by_kind typed f kind.Method = block_mentions typed f.body
mentions_by_kind typed f kind.MutatingMethod = block_mentions typed f.body
mentions_by_kind typed f kind.Getter = block_mentions typed f.body
mentions_by_kind typed f kind.Setter = block_mentions typed f.body
mentions_by_kind typed f kind.WillSet = block_mentions typed f.body
mentions_by_kind typed f kind.DidSet = block_mentions typed f.body
mentions_by_kind typed f kind.WrittenInitialiser = block_mentions typed f.body
mentions_by_kind typed f (kind.Closure escaping) = block_mentions typed f.body

abbrev pub body_mentions : Typed → Function → Mentions
body_mentions typed f = mentions_by_kind typed f f.kind

-- the function with this node
abbrev pub function_mentions : Typed → Node → Mentions
function_mentions typed n = if_there (body_mentions typed) (function_at typed.functions n)
