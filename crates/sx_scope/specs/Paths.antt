-- Expressions and paths of the typed tree.
use Rattle.std.specs.Prelude.{ℕ, Bool, true, false, ◌&&◌, List, [], ◌∷◌, ◌++◌, None, is_some}
use Rattle.sx_span.specs.declared.places.Node.{Node}
use Rattle.sx_types.specs.declared.types.Ty.{Ty}
use Rattle.sx_types.specs.declared.types.Ty.TheVariants as ty
use Rattle.sx_typed.specs.declared.code.Accessors.{Accessors}
use Rattle.sx_typed.specs.declared.code.Component.{Component}
use Rattle.sx_typed.specs.declared.code.ComponentForm.{ComponentForm, ComponentForm-F}
use Rattle.sx_typed.specs.declared.code.ComponentForm.TheVariants as components
use Rattle.sx_typed.specs.declared.code.Expr.{Expr}
use Rattle.sx_typed.specs.declared.code.Form.{Form, Form-F}
use Rattle.sx_typed.specs.declared.code.Form.TheVariants as forms
use Rattle.sx_typed.specs.declared.code.GlobalMention.{GlobalMention, roll-GlobalMention}
use Rattle.sx_typed.specs.declared.code.Head.{Head}
use Rattle.sx_typed.specs.declared.code.HeadForm.{HeadForm, HeadForm-F}
use Rattle.sx_typed.specs.declared.code.HeadForm.TheVariants as heads
use Rattle.sx_typed.specs.declared.code.Lvalue.{Lvalue, out-Lvalue, roll-Lvalue}
use Rattle.sx_typed.specs.Layers.{FormLayer, HeadLayer, ComponentLayer, form_of, head_of, components_of}
use Rattle.sx_scope.specs.declared.declarations.Storage.{Storage}
use Rattle.sx_scope.specs.declared.declarations.Storage.TheVariants as storage

abbrev pub an_expr : Node → ℕ → Ty → Form → Expr
an_expr n site t f = record { node = n; site = site; ty = t; form = f }

abbrev pub a_head : Node → Ty → HeadForm → Head
a_head n t h = record { node = n; ty = t; form = h }

abbrev pub a_path : Node → ℕ → Head → List Component → Lvalue
a_path n site h cs = roll-Lvalue (record { node = n; site = site; head = h; components = cs })

-- what is read where the path is a head alone
abbrev pub read_head : Node → ℕ → Ty → HeadForm → Expr
read_head n site t h = an_expr n site t (forms.Read (a_path n site (a_head n t h) []))

-- an expression as a path: its own, or that of a value that is no variable
abbrev pub path_by : Expr → FormLayer → Lvalue
path_by e (Form-F.Read l) = l
path_by e f = a_path e.node e.site (a_head e.node e.ty (heads.Evaluated e)) []

abbrev pub path_of : Expr → Lvalue
path_of e = path_by e (form_of e)

-- the path of the base, and one component behind it
abbrev pub extended : Node → ℕ → Ty → Lvalue → ComponentForm → Lvalue
extended n site t l c = a_path n site (out-Lvalue l).head ((out-Lvalue l).components ++ record { node = n; ty = t; form = c } ∷ [])

abbrev pub read_component : Node → ℕ → Ty → Expr → ComponentForm → Expr
read_component n site t base c = an_expr n site t (forms.Read (extended n site t (path_of base) c))

-- a property of a structure; in its own observers it is plainly stored
abbrev pub component_form : Bool → Storage → ComponentForm
component_form plain (storage.Constant k) = components.Field k
component_form plain (storage.Stored k) = components.Field k
component_form true (storage.Observed k o) = components.Field k
component_form false (storage.Observed k o) = components.Observed k o
component_form plain (storage.Computed a) = components.Computed a

-- a property of an object
abbrev pub object_form : Bool → Expr → Storage → HeadForm
object_form plain base (storage.Constant k) = heads.Property base k
object_form plain base (storage.Stored k) = heads.Property base k
object_form true base (storage.Observed k o) = heads.Property base k
object_form false base (storage.Observed k o) = heads.PropertyObserved base k o
object_form plain base (storage.Computed a) = heads.PropertyComputed base a

-- a property of the base, by the type of the base
abbrev pub property_by : Ty → Node → ℕ → Ty → Bool → Expr → Storage → Expr
property_by (ty.Class k) n site t plain base s = read_head n site t (object_form plain base s)
property_by b n site t plain base s = read_component n site t base (component_form plain s)

abbrev pub property_of : Node → ℕ → Ty → Bool → Expr → Storage → Expr
property_of n site t plain base s = property_by base.ty n site t plain base s

abbrev pub subscript_by : Ty → Node → ℕ → Ty → Expr → List Expr → Accessors → Expr
subscript_by (ty.Class k) n site t base is a = read_head n site t (heads.PropertySubscript base is a)
subscript_by b n site t base is a = read_component n site t base (components.Subscript is a)

abbrev pub subscript_of : Node → ℕ → Ty → Expr → List Expr → Accessors → Expr
subscript_of n site t base is a = subscript_by base.ty n site t base is a

abbrev pub mention_of_global : ℕ → GlobalMention
mention_of_global g = roll-GlobalMention (record { global = g; before = None })

abbrev pub global_of : Node → ℕ → Ty → Bool → Storage → Expr
global_of n site t plain (storage.Constant g) = an_expr n site t (forms.GlobalConstant (mention_of_global g))
global_of n site t plain (storage.Stored g) = read_head n site t (heads.Global (mention_of_global g))
global_of n site t true (storage.Observed g o) = read_head n site t (heads.Global (mention_of_global g))
global_of n site t false (storage.Observed g o) = read_head n site t (heads.GlobalObserved (mention_of_global g) o)
global_of n site t plain (storage.Computed a) = read_head n site t (heads.GlobalComputed a)

-- What can be modified: a variable, or what has a setter, and then stored properties and what has a setter.
abbrev pub settable : Accessors → Bool
settable a = is_some a.setter

abbrev pub modifiable_head : HeadLayer → Bool
modifiable_head (HeadForm-F.Variable n) = true
modifiable_head (HeadForm-F.Global g) = true
modifiable_head (HeadForm-F.GlobalObserved g o) = true
modifiable_head (HeadForm-F.GlobalComputed a) = settable a
modifiable_head (HeadForm-F.Property e k) = true
modifiable_head (HeadForm-F.PropertyObserved e k o) = true
modifiable_head (HeadForm-F.PropertyComputed e a) = settable a
modifiable_head (HeadForm-F.PropertySubscript e is a) = settable a
modifiable_head (HeadForm-F.Evaluated e) = false

abbrev pub modifiable_component : ComponentLayer → Bool
modifiable_component (ComponentForm-F.Field k) = true
modifiable_component (ComponentForm-F.Observed k o) = true
modifiable_component (ComponentForm-F.Computed a) = settable a
modifiable_component (ComponentForm-F.Subscript is a) = settable a
modifiable_component (ComponentForm-F.Element e) = true

abbrev pub all_modifiable : List ComponentLayer → Bool
all_modifiable [] = true
all_modifiable (c ∷ cs) = modifiable_component c && all_modifiable cs

abbrev pub modifiable_path : Lvalue → Bool
modifiable_path l = modifiable_head (head_of l) && all_modifiable (components_of l)

abbrev pub modifiable_by : FormLayer → Bool
modifiable_by (Form-F.Read l) = modifiable_path l
modifiable_by f = false

abbrev pub modifiable : Expr → Bool
modifiable e = modifiable_by (form_of e)
