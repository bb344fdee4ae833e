-- Calls and subscripts (The Swift Programming Language, "Functions", "Subscripts"; SE-0242 for the initialisers of structures).
use Rattle.std.specs.Prelude.{ℕ, suc, ◌+◌, Bool, true, false, not, ◌&&◌, ◌||◌, ◌==◌, nat_le, List, [], ◌∷◌, ◌++◌, count_by, position, map, take, drop, length, slice_get, Option, Some, None, is_none, is_some, cond}
use Rattle.std.specs.List.{list_any}
use Rattle.sx_span.specs.declared.places.Node.{Node}
use Rattle.sx_types.specs.declared.types.FunctionParameter.{FunctionParameter}
use Rattle.sx_types.specs.declared.types.FunctionType.{FunctionType}
use Rattle.sx_types.specs.declared.types.Ty.{Ty}
use Rattle.sx_types.specs.declared.types.Ty.TheVariants as ty
use Rattle.sx_typed.specs.declared.code.Argument.{Argument}
use Rattle.sx_typed.specs.declared.code.Argument.TheVariants as argument
use Rattle.sx_typed.specs.declared.code.Expr.{Expr}
use Rattle.sx_typed.specs.declared.code.Form.{Form, Form-F}
use Rattle.sx_typed.specs.declared.code.Form.TheVariants as forms
use Rattle.sx_typed.specs.declared.code.Given.{Given}
use Rattle.sx_typed.specs.declared.program.Marker.{Marker}
use Rattle.sx_typed.specs.declared.program.Marker.TheVariants as marker
use Rattle.sx_typed.specs.Layers.{FormLayer, form_of}
use Rattle.sx_scope.specs.declared.stop.TypeKind.{TypeKind}
use Rattle.sx_scope.specs.declared.stop.TypeKind.TheVariants as kind
use Rattle.sx_scope.specs.declared.declarations.Declarations.{Declarations}
use Rattle.sx_scope.specs.declared.declarations.DeclaredType.{DeclaredType}
use Rattle.sx_scope.specs.declared.declarations.Known.{Known}
use Rattle.sx_scope.specs.declared.declarations.Known.TheVariants as known
use Rattle.sx_scope.specs.declared.declarations.Signature.{Signature}
use Rattle.sx_scope.specs.declared.declarations.SignatureParameter.{SignatureParameter}
use Rattle.sx_scope.specs.declared.declarations.StoredProperty.{StoredProperty}
use Rattle.sx_scope.specs.declared.declarations.Subscript.{Subscript}
use Rattle.sx_scope.specs.declared.walk.Asked.{Asked}
use Rattle.sx_scope.specs.declared.walk.Asked.TheVariants as asked
use Rattle.sx_scope.specs.declared.walk.Callee.{Callee}
use Rattle.sx_scope.specs.declared.walk.Callee.TheVariants as callee
use Rattle.sx_scope.specs.declared.walk.Place.{Place}
use Rattle.sx_scope.specs.declared.walk.Use.{Use}
use Rattle.sx_scope.specs.declared.walk.Use.TheVariants as uses
use Rattle.sx_scope.specs.Verdict.{Verdict, typed, untold, depends, Judging, ◌▷◌, both, both_by, need, fault, loosely, unless_broken}
use Rattle.sx_scope.specs.Walks.{numbered}
use Rattle.sx_scope.specs.Names.{agrees, is_function, declared_type, function, known_in}
use Rattle.sx_scope.specs.Paths.{an_expr, path_of, modifiable, subscript_of}
use Rattle.sx_calls.specs.declared.passed.Passed.{Passed}
use Rattle.sx_calls.specs.declared.passed.Pairing.{Pairing}
use Rattle.sx_calls.specs.declared.passed.Slot.{Slot}
use Rattle.sx_calls.specs.declared.passed.Slot.TheVariants as slots
use Rattle.sx_calls.specs.declared.passed.Shape.{Shape}
use Rattle.sx_calls.specs.declared.passed.Wanted.{Wanted}
use Rattle.sx_calls.specs.Parts.{JudgedExpr, JudgedArgument}

-- ---- what parameters want
abbrev pub is_inout : Marker → Bool
is_inout marker.InOut = true
is_inout m = false

abbrev pub is_plain : Marker → Bool
is_plain marker.Plain = true
is_plain m = false

abbrev pub wanted_by : SignatureParameter → Wanted
wanted_by p = record { label = p.label; inout = is_inout p.marker; ty = p.ty; lent = is_plain p.marker && is_function p.ty }

abbrev pub wanted_of : FunctionParameter → Wanted
wanted_of p = record { label = None; inout = p.inout; ty = p.ty; lent = not p.inout && is_function p.ty }

-- ---- how an argument meets its parameter
abbrev pub same_label : Option ℕ → Option ℕ → Bool
same_label None None = true
same_label (Some x) (Some y) = x == y
same_label a b = false

abbrev pub use_of : Shape → Bool → Use
use_of a lent = cond (is_some a.ampersand) uses.Modified (cond lent uses.Lent uses.Kept)

-- `&` stands at in-out parameters
abbrev pub is_passed_rightly : Shape → Bool → Bool
is_passed_rightly a inout = cond inout (is_some a.ampersand) (is_none a.ampersand)

-- the first condition that is broken by how an argument for a parameter is written: it has the label of the parameter, and `&`
-- stands at in-out parameters
abbrev pub broken_for : Shape → Wanted → Option TypeKind
broken_for a p = cond (a.trailing || same_label a.label p.label) (cond (is_passed_rightly a p.inout) None (Some kind.Ampersand)) (Some kind.ArgumentLabel)

-- the argument of `print` has no label and no `&`
abbrev pub broken_printed : Shape → Option TypeKind
broken_printed a = cond (is_none a.label) (cond (is_none a.ampersand) None (Some kind.Ampersand)) (Some kind.ArgumentLabel)

abbrev pub broken_in : Slot → Shape → Option TypeKind
broken_in (slots.For t) a = broken_for a t
broken_in (slots.Property k t) a = broken_for a t
broken_in slots.Printed a = broken_printed a
broken_in s a = None

-- an operand behind `&` can be modified
abbrev pub is_assignable : Shape → Expr → Bool
is_assignable a e = is_none a.ampersand || modifiable e

abbrev pub met : Bool → Option TypeKind → Node → Expr → Judging Expr
met assignable broken n e = need assignable kind.NotAssignable e.node (unless_broken broken n (typed e))

abbrev pub met_in : Slot → Node → Shape → Expr → Judging Expr
met_in s n a e = met (is_assignable a e) (broken_in s a) n e

-- ---- what becomes of an argument that is judged by itself: its value doesn't count
abbrev pub loose : Slot → Node → Unit {0} → Judging (Option Expr)
loose (slots.Failing k) n u = fault k n
loose slots.Unknown n u = untold
loose s n u = typed None

abbrev pub some_value : Expr → Judging (Option Expr)
some_value e = typed (Some e)

abbrev pub is_loose : Slot → Bool
is_loose slots.Loose = true
is_loose (slots.Failing k) = true
is_loose slots.Unknown = true
is_loose s = false

abbrev pub asked_in : Slot → Asked
asked_in (slots.For t) = asked.Type t.ty
asked_in (slots.Property k t) = asked.Type t.ty
asked_in slots.Printed = asked.Printable
asked_in s = asked.Unknown

abbrev pub use_in : Slot → Shape → Use
use_in (slots.For t) a = use_of a t.lent
use_in (slots.Property k t) a = use_of a false
use_in slots.Printed a = use_of a false
use_in s a = uses.Unpaired

abbrev pub settled : Slot → Node → Verdict Expr → Verdict (Option Expr)
settled s n v = cond (is_loose s) (loosely v ▷ loose s n) (v ▷ some_value)

abbrev pub met_found : Slot → Node → Shape → Verdict Expr → Verdict Expr
met_found s n a v = v ▷ met_in s n a

-- an argument, which is a node
abbrev pub argument_value : Place → Slot → JudgedArgument → Node → Judging (Option Expr)
argument_value p s a n w = settled s n (met_found s n a.shape (a.value.value p (asked_in s) (use_in s a.shape) w))

-- ---- how arguments are passed
abbrev pub passed_by : Bool → Expr → FormLayer → Argument
passed_by true e (Form-F.Closure n) = argument.Literal n
passed_by lent e f = argument.Value e

abbrev pub passed_as : Option ℕ → Bool → Expr → Argument
passed_as (Some place) lent e = argument.InOut place (path_of e)
passed_as None lent e = passed_by lent e (form_of e)

abbrev pub with_value : Slot → Shape → Passed → Expr → Passed
with_value (slots.For t) a ps e = record ps { arguments = ps.arguments ++ passed_as a.ampersand t.lent e ∷ [] }
with_value (slots.Property k t) a ps e = record ps { given = ps.given ++ record { property = k; value = e } ∷ [] }
with_value s a ps e = record ps { printed = Some e }

abbrev pub with_argument : Slot → Shape → Passed → Option Expr → Passed
with_argument s a ps None = ps
with_argument s a ps (Some e) = with_value s a ps e

abbrev pub argument_added : Slot → Shape → Passed × Option Expr → Judging Passed
argument_added s a (ps, o) = typed (with_argument s a ps o)

abbrev pub nothing_passed : Passed
nothing_passed = record { arguments = []; given = []; printed = None }

abbrev pub first_slot : List Slot → Slot
first_slot [] = slots.Loose
first_slot (s ∷ ss) = s

abbrev pub other_slots : List Slot → List Slot
other_slots [] = []
other_slots (s ∷ ss) = ss

abbrev pub run_argument : Place → Verdict Passed → Slot → JudgedArgument → Verdict Passed
run_argument p v s a = both v (numbered (argument_value p s a)) ▷ argument_added s a.shape

-- arguments one after another, behind those that were passed
abbrev pub run_arguments : Place → Verdict Passed → List Slot → List JudgedArgument → Verdict Passed
run_arguments p v ss [] = v
run_arguments p v ss (a ∷ as_) = run_arguments p (run_argument p v (first_slot ss) a) (other_slots ss) as_

-- ---- what the arguments of a call are for, by what is called: one for each parameter, and else each by itself
abbrev pub all_loose : List Shape → List Slot
all_loose as_ = map (λ _. slots.Loose) as_

abbrev pub unpaired : List Shape → Pairing
unpaired as_ = record { slots = all_loose as_; counted = false }

abbrev pub paired : List Slot → Pairing
paired ss = record { slots = ss; counted = true }

abbrev pub for_parameter : SignatureParameter → Slot
for_parameter p = slots.For (wanted_by p)

abbrev pub for_function_parameter : FunctionParameter → Slot
for_function_parameter p = slots.For (wanted_of p)

-- ---- the arguments of an initialiser: each for the next property with its label; those with a default may be left out
-- whether a property has this label, or may not be left out
abbrev pub ends : ℕ → StoredProperty → Bool
ends x q = (q.name == x) || not q.has_default

abbrev pub has_label : ℕ → Option StoredProperty → Bool
has_label x None = false
has_label x (Some q) = q.name == x

abbrev pub if_labelled : ℕ → List StoredProperty → Option ℕ → Option ℕ
if_labelled x qs None = None
if_labelled x qs (Some k) = cond (has_label x (slice_get qs k)) (Some k) None

-- how many properties are left out before the one with this label, where none behind one without a default is
abbrev pub labelled : ℕ → List StoredProperty → Option ℕ
labelled x qs = if_labelled x qs (position (ends x) qs)

-- a closure literal behind the call is for the last property
abbrev pub before_last : List StoredProperty → Option ℕ
before_last [] = None
before_last (q ∷ qs) = Some (length qs)

abbrev pub by_label : Option ℕ → List StoredProperty → Option ℕ
by_label None qs = None
by_label (Some x) qs = labelled x qs

-- how many of the properties that may still come are left out before the one that an argument is for
abbrev pub left_out : Shape → List StoredProperty → Option ℕ
left_out a qs = cond a.trailing (before_last qs) (by_label a.label qs)

abbrev pub is_needed : StoredProperty → Bool
is_needed q = not q.has_default

abbrev pub lacks_one : List StoredProperty → Bool
lacks_one qs = list_any is_needed qs

abbrev pub property_wanted : StoredProperty → Ty → Wanted
property_wanted q t = record { label = Some q.name; inout = false; ty = t; lent = false }

abbrev pub property_slot : ℕ → StoredProperty → Known → Slot
property_slot k q (known.Type t) = slots.Property k (property_wanted q t)
property_slot k q known.Circular = slots.Failing kind.NeedsType
property_slot k q known.Untold = slots.Unknown
property_slot k q known.Failed = slots.Unknown

abbrev pub slot_at : Declarations → ℕ → Option StoredProperty → Slot
slot_at d k None = slots.Failing kind.ArgumentLabel
slot_at d k (Some q) = property_slot k q (known_in d q.ty)

abbrev pub slot_for : Declarations → ℕ → List StoredProperty → Option ℕ → Slot
slot_for d i qs None = slots.Failing kind.ArgumentLabel
slot_for d i qs (Some k) = slot_at d (k + i) (slice_get qs k)

-- no property without a default is left out
abbrev pub fits : List StoredProperty → Option ℕ → Bool
fits qs None = true
fits qs (Some k) = not (lacks_one (take k qs))

abbrev pub coming : List StoredProperty → Option ℕ → List StoredProperty
coming qs None = qs
coming qs (Some k) = drop (suc k) qs

abbrev pub number_behind : ℕ → Option ℕ → ℕ
number_behind i None = i
number_behind i (Some k) = suc k + i

-- where the properties from number i on may still come
abbrev pub with_slot : Slot → Bool → Pairing → Pairing
with_slot s fits p = record { slots = s ∷ p.slots; counted = fits && p.counted }

abbrev pub given_from : Declarations → ℕ → List StoredProperty → List Shape → Pairing
given_from d i qs [] = record { slots = []; counted = not (lacks_one qs) }
given_from d i qs (a ∷ as_) =
    with_slot (slot_for d i qs (left_out a qs)) (fits qs (left_out a qs)) (given_from d (number_behind i (left_out a qs)) (coming qs (left_out a qs)) as_)

abbrev pub stored_in : Ty → DeclaredType → List StoredProperty
stored_in (ty.Struct k) s = s.stored
stored_in t s = []

-- an initialiser takes any number of arguments from those without a default to all; that of a class takes none
abbrev pub as_many : List StoredProperty → ℕ → Bool
as_many qs n = nat_le (count_by is_needed qs) n && nat_le n (length qs)

abbrev pub is_failed : Known → Bool
is_failed known.Failed = true
is_failed k = false

abbrev pub property_failed : Declarations → StoredProperty → Bool
property_failed d q = is_failed (known_in d q.ty)

-- it hasn't failed itself, nor has a stored property
abbrev pub has_failed : Declarations → DeclaredType → Bool
has_failed d s = s.failed || s.lacks_property || list_any (property_failed d) s.stored

abbrev pub given_to : Declarations → List StoredProperty → List Shape → Pairing
given_to d qs as_ = cond (as_many qs (length as_)) (given_from d 0 qs as_) (unpaired as_)

abbrev pub given_to_type : Declarations → Ty → List Shape → Option DeclaredType → Pairing
given_to_type d t as_ None = unpaired as_
given_to_type d t as_ (Some s) = cond (has_failed d s) (unpaired as_) (given_to d (stored_in t s) as_)

abbrev pub print_pairing : List Shape → Pairing
print_pairing (a ∷ []) = record { slots = slots.Printed ∷ []; counted = true }
print_pairing as_ = unpaired as_

abbrev pub function_parameters_of : Option FunctionType → List FunctionParameter
function_parameters_of None = []
function_parameters_of (Some f) = f.parameters

abbrev pub for_function : Option FunctionType → List Shape → Pairing
for_function f as_ =
    cond (length (function_parameters_of f) == length as_) (paired (map for_function_parameter (function_parameters_of f))) (unpaired as_)

abbrev pub parameters_of : Option Signature → List SignatureParameter
parameters_of None = []
parameters_of (Some s) = s.parameters

abbrev pub for_signature : Option Signature → List Shape → Pairing
for_signature s as_ = cond (length (parameters_of s) == length as_) (paired (map for_parameter (parameters_of s))) (unpaired as_)

-- ---- what a call is
-- the first condition that a call of this type breaks: its type is the one that is asked for, and it has as many arguments as parameters
abbrev pub broken_call : Asked → Bool → Ty → Option TypeKind
broken_call q counted t = cond (agrees q t) (cond counted None (Some kind.ArgumentCount)) (Some kind.Mismatch)

abbrev pub call_expr : Asked → Node → ℕ → Bool → Ty → Form → Judging Expr
call_expr q n site counted t f = unless_broken (broken_call q counted t) n (typed (an_expr n site t f))

abbrev pub function_called : Asked → Node → ℕ → Bool → List Argument → Option Signature → Judging Expr
function_called q n site counted as_ None = depends
function_called q n site counted as_ (Some s) = call_expr q n site counted s.result (forms.Call s.node as_)

abbrev pub method_form : Bool → Node → Expr → List Argument → Form
method_form true n base as_ = forms.CallMutating n (path_of base) as_
method_form false n base as_ = forms.CallMethod n base as_

abbrev pub first_broken : Option TypeKind → Option TypeKind → Option TypeKind
first_broken None o = o
first_broken (Some k) o = Some k

-- a method that mutates is called on what can be modified
abbrev pub broken_method : Asked → Bool → Expr → Signature → Option TypeKind
broken_method q counted base s = first_broken (broken_call q counted s.result) (cond (not s.mutating || modifiable base) None (Some kind.MutatingOnValue))

abbrev pub method_expr : Node → ℕ → Expr → List Argument → Signature → Expr
method_expr n site base as_ s = an_expr n site s.result (method_form s.mutating s.node base as_)

abbrev pub method_called : Asked → Node → ℕ → Bool → Expr → List Argument → Option Signature → Judging Expr
method_called q n site counted base as_ None = depends
method_called q n site counted base as_ (Some s) = unless_broken (broken_method q counted base s) n (typed (method_expr n site base as_ s))

abbrev pub value_called : Asked → Node → ℕ → Bool → Expr → List Argument → Option FunctionType → Judging Expr
value_called q n site counted e as_ None = depends
value_called q n site counted e as_ (Some f) = call_expr q n site counted f.result (forms.CallValue e as_)

abbrev pub initialised : Declarations → Asked → Node → ℕ → Bool → Ty → List Given → Option DeclaredType → Judging Expr
initialised d q n site counted t gs None = depends
initialised d q n site counted t gs (Some s) = cond (has_failed d s) depends (call_expr q n site counted t (forms.Initialise t gs))

abbrev pub print_called : Asked → Node → ℕ → Bool → Option Expr → Judging Expr
print_called q n site counted None = need (agrees q ty.Void) kind.Mismatch n (fault kind.ArgumentCount n)
print_called q n site counted (Some e) = call_expr q n site counted ty.Void (forms.Print e)

-- ---- what a subscript is
abbrev pub subscript_by : Option DeclaredType → Option Subscript
subscript_by None = None
subscript_by (Some s) = s.subscript

-- the types of the parameters, where there are as many as indices
abbrev pub types_of : ℕ → Option Subscript → List Ty
types_of count None = []
types_of count (Some s) = cond (not s.failed && (length s.parameters == count)) s.parameters []

abbrev pub indexed : Asked → Node → ℕ → ℕ → Expr → List Expr → Option Subscript → Judging Expr
indexed q n site count base es None = fault kind.UnknownName n
indexed q n site count base es (Some s) =
    cond s.failed depends
    (unless_broken (broken_call q (length s.parameters == count) s.ty) n (typed (subscript_of n site s.ty base es s.accessors)))

module _ (d : Declarations) where
  abbrev pub pairing : Option Callee → List Shape → Pairing
  pairing None as_ = unpaired as_
  pairing (Some (callee.Function k)) as_ = for_signature (function d k) as_
  pairing (Some (callee.Method k base)) as_ = for_signature (function d k) as_
  pairing (Some (callee.Value e f)) as_ = for_function (slice_get d.types.functions f) as_
  pairing (Some (callee.Initialiser t)) as_ = given_to_type d t as_ (declared_type d t)
  pairing (Some callee.Print) as_ = print_pairing as_

  abbrev pub called : Asked → Node → ℕ → Bool → Callee × Passed → Judging Expr
  called q n site counted (callee.Function k, a) = function_called q n site counted a.arguments (function d k)
  called q n site counted (callee.Method k base, a) = method_called q n site counted base a.arguments (function d k)
  called q n site counted (callee.Value e f, a) = value_called q n site counted e a.arguments (slice_get d.types.functions f)
  called q n site counted (callee.Initialiser t, a) = initialised d q n site counted t a.given (declared_type d t)
  called q n site counted (callee.Print, a) = print_called q n site counted a.printed

  abbrev pub shapes : List JudgedArgument → List Shape
  shapes args = map (λ (a : JudgedArgument). a.shape) args

  abbrev pub run_call : Place → Asked → Node → ℕ → List JudgedArgument → Verdict Callee → Pairing → Verdict Expr
  run_call p q n site args v pairs = both v (λ w. run_arguments p (typed nothing_passed w) pairs.slots args) ▷ called q n site pairs.counted

  abbrev pub callee_in : Verdict Callee → Option Callee
  callee_in (typed c w) = Some c
  callee_in v = None

  abbrev pub call_value : Place → Asked → Node → ℕ → List JudgedArgument → Verdict Callee → Verdict Expr
  call_value p q n site args v = run_call p q n site args v (pairing (callee_in v) (shapes args))

  -- ---- subscripts
  abbrev pub subscript : Ty → Option Subscript
  subscript t = subscript_by (declared_type d t)

  abbrev pub types_by : ℕ → Option Expr → List Ty
  types_by count None = []
  types_by count (Some e) = types_of count (subscript e.ty)

  abbrev pub first_type : List Ty → Option Ty
  first_type [] = None
  first_type (t ∷ ts) = Some t

  abbrev pub other_types : List Ty → List Ty
  other_types [] = []
  other_types (t ∷ ts) = ts

  abbrev pub no_value : Unit {0} → Judging (Option Expr)
  no_value u = typed None

  -- an index for a parameter, or by itself
  abbrev pub index_for : Place → Option Ty → JudgedExpr → Judging (Option Expr)
  index_for p None i w = loosely (i.value p asked.Unknown uses.Kept w) ▷ no_value
  index_for p (Some t) i w = i.value p (asked.Type t) uses.Kept w ▷ some_value

  abbrev pub with_index : List Expr → Option Expr → List Expr
  with_index es None = es
  with_index es (Some e) = es ++ e ∷ []

  abbrev pub index_added : List Expr × Option Expr → Judging (List Expr)
  index_added (es, o) = typed (with_index es o)

  abbrev pub run_indices : Place → Verdict (List Expr) → List Ty → List JudgedExpr → Verdict (List Expr)
  run_indices p v ts [] = v
  run_indices p v ts (i ∷ is) = run_indices p (both v (index_for p (first_type ts) i) ▷ index_added) (other_types ts) is

  abbrev pub indexed_value : Asked → Node → ℕ → ℕ → Expr × List Expr → Judging Expr
  indexed_value q n site count (base, es) = indexed q n site count base es (subscript base.ty)

  abbrev pub index_value : Place → Asked → Node → ℕ → List JudgedExpr → Verdict Expr → Verdict Expr
  index_value p q n site is v = both_by v (λ o w. run_indices p (typed [] w) (types_by (length is) o) is) ▷ indexed_value q n site (length is)
