-- Accessors and observers (The Swift Programming Language, "Properties", "Subscripts"; SE-0268 for the old value of `didSet`).
use Rattle.std.specs.Prelude.{ℕ, ◌+◌, Bool, true, false, not, ◌&&◌, ◌||◌, ◌==◌, nat_le, List, [], ◌∷◌, ◌++◌, map, drop, length, Option, Some, None, is_some, cond}
use Rattle.std.specs.List.{list_any}
use Rattle.sx_span.specs.declared.places.Node.{Node}
use Rattle.sx_tree.specs.declared.declarations.Accessor.{Accessor}
use Rattle.sx_tree.specs.declared.declarations.AccessorKind.{AccessorKind}
use Rattle.sx_tree.specs.declared.declarations.AccessorKind.TheVariants as accessor_kind
use Rattle.sx_tree.specs.declared.written_types.Name.{Name}
use Rattle.sx_types.specs.declared.types.Ty.{Ty}
use Rattle.sx_types.specs.declared.types.Ty.TheVariants as ty
use Rattle.sx_types.specs.declared.types.Types.{Types}
use Rattle.sx_types.specs.Words.{most_words}
use Rattle.sx_typed.specs.declared.code.Statement.{Statement}
use Rattle.sx_typed.specs.declared.program.Function.{Function as TypedFunction}
use Rattle.sx_typed.specs.declared.program.FunctionKind.{FunctionKind}
use Rattle.sx_typed.specs.declared.program.FunctionKind.TheVariants as function_kind
use Rattle.sx_typed.specs.declared.program.Marker.TheVariants as passing
use Rattle.sx_typed.specs.declared.program.Mention.{Mention}
use Rattle.sx_typed.specs.declared.program.Parameter.{Parameter}
use Rattle.sx_scope.specs.declared.stop.TypeKind.TheVariants as kind
use Rattle.sx_scope.specs.declared.declarations.Declarations.{Declarations}
use Rattle.sx_scope.specs.declared.declarations.Known.{Known}
use Rattle.sx_scope.specs.declared.declarations.Known.TheVariants as known
use Rattle.sx_scope.specs.declared.walk.Gives.{Gives}
use Rattle.sx_scope.specs.declared.walk.Gives.TheVariants as gives
use Rattle.sx_scope.specs.declared.walk.LocalKind.TheVariants as local_kind
use Rattle.sx_scope.specs.Verdict.{Verdict, typed, Judging, ◌▷◌, both, need, need_narrow, moved}
use Rattle.sx_scope.specs.Walks.{numbered}
use Rattle.sx_bodies.specs.Statements.{fresh, unless_taken, local_named, lacks_return}
use Rattle.sx_bodies.specs.Literals.{number_of_mention, total, with_literal, words_in}
use Rattle.sx_check_expr.specs.Judge.{judged_block}
use Rattle.sx_heads.specs.Widths.{parameter_words, self_words}
use Rattle.sx_functions.specs.declared.accessing.Accessed.{Accessed}
use Rattle.sx_functions.specs.declared.accessing.OwnNames.{OwnNames}
use Rattle.sx_functions.specs.Functions.{parameter_of}
use Rattle.sx_functions.specs.Places.{body_place, body_value, left}

-- a getter reads, and every other accessor or observer modifies
abbrev pub modifies : AccessorKind → Bool
modifies accessor_kind.Get = false
modifies k = true

abbrev pub observes : AccessorKind → Bool
observes accessor_kind.WillSet = true
observes accessor_kind.DidSet = true
observes k = false

-- ---- its own parameter
abbrev pub unwritten_name : OwnNames → AccessorKind → Option ℕ
unwritten_name names accessor_kind.Get = None
unwritten_name names accessor_kind.Set = names.new_value
unwritten_name names accessor_kind.WillSet = names.new_value
unwritten_name names accessor_kind.DidSet = names.old_value

abbrev pub written_name : Option Name → Option ℕ → Option ℕ
written_name None x = x
written_name (Some y) x = Some y.number

-- the name of its parameter, if the text has it
abbrev pub own_name : OwnNames → Accessor → Option ℕ
own_name names a = written_name a.parameter (unwritten_name names a.kind)

-- it comes into scope, and may be kept
abbrev pub own_declared : Declarations → Accessed → Node → Option ℕ → Judging (Unit {0})
own_declared d c m None w = typed tt w
own_declared d c m (Some x) w = moved (unless_taken c.from (local_named x m local_kind.Constant false c.ty)) (fresh d c.from x m w)

abbrev pub own_parameter : Declarations → OwnNames → Accessed → Accessor → Node → Judging (Unit {0})
own_parameter d names c a m = cond (modifies a.kind) (own_declared d c m (own_name names a)) (typed tt)

-- whether it has a parameter, whatever its body mentions: a `didSet` takes the old value where it names it
abbrev pub takes_named : AccessorKind → Bool → Bool
takes_named accessor_kind.Get named = false
takes_named accessor_kind.DidSet named = named
takes_named k named = true

abbrev pub takes_surely : Accessor → Bool
takes_surely a = takes_named a.kind (is_some a.parameter)

-- or mentions it; its parameter has the node of the accessor
abbrev pub is_own : Node → Mention → Bool
is_own m x = number_of_mention x == m.0

abbrev pub takes : Accessor → Node → List Mention → Bool
takes a m ms = takes_surely a || (modifies a.kind && list_any (is_own m) ms)

-- ---- what its head has too many words for
abbrev pub known_words : Types → Known → ℕ
known_words types (known.Type t) = words_in types t
known_words types k = 0

abbrev pub accessor_words : Types → Accessed → Accessor → Bool → ℕ
accessor_words types c a takes =
    self_words types (modifies a.kind) c.owner + (total (parameter_words types) c.parameters + cond takes (known_words types c.ty) 0)

abbrev pub narrow_accessor : Declarations → Accessed → Accessor → Node → Bool → Judging (Unit {0})
narrow_accessor d c a m takes = need_narrow (nat_le (accessor_words d.types c a takes) most_words) m (typed tt)

-- ---- its body
abbrev pub gives_known : Known → Gives
gives_known (known.Type t) = gives.Type t
gives_known k = gives.Unknown

-- a getter gives the value, and every other accessor or observer nothing
abbrev pub gives_in : Known → AccessorKind → Gives
gives_in k accessor_kind.Get = gives_known k
gives_in k a = gives.Type ty.Void

abbrev pub observed_in : Node → AccessorKind → Option Node
observed_in n a = cond (observes a) (Some n) None

abbrev pub accessor_body : Declarations → Accessed → Accessor → Judging (List Statement)
accessor_body d c a = body_value d (body_place c.owner (modifies a.kind) (observed_in c.node a.kind) (gives_in c.ty a.kind)) a.body

-- whether it takes a parameter, and the statements of its body
abbrev pub AccessorParts : Type 0
AccessorParts = Bool × List Statement

abbrev pub parts_of : Bool → List Statement → Unit {0} → Judging AccessorParts
parts_of takes ss u = typed (takes, ss)

abbrev pub took : Declarations → Accessed → Accessor → Node → ℕ → Unit {0} × List Statement → Judging AccessorParts
took d c a m before (u, ss) w =
    narrow_accessor d c a m (takes a m (drop before w.mentions)) w ▷ parts_of (takes a m (drop before w.mentions)) ss

abbrev pub own_narrow : Declarations → Accessed → Accessor → Node → Unit {0} → Judging (Unit {0})
own_narrow d c a m u = narrow_accessor d c a m (takes_surely a)

abbrev pub accessor_parts : Declarations → OwnNames → Accessed → Accessor → Node → Judging AccessorParts
accessor_parts d names c a m w =
    both (own_parameter d names c a m w ▷ own_narrow d c a m) (accessor_body d c a) ▷ took d c a m (length w.mentions)

abbrev pub returning : Declarations → Accessed → Accessor → Node → AccessorParts → Judging AccessorParts
returning d c a m x = need (not (lacks_return (gives_in c.ty a.kind) (judged_block d a.body))) kind.MissingReturn m (typed x)

-- ---- what it is
abbrev pub kind_of : AccessorKind → FunctionKind
kind_of accessor_kind.Get = function_kind.Getter
kind_of accessor_kind.Set = function_kind.Setter
kind_of accessor_kind.WillSet = function_kind.WillSet
kind_of accessor_kind.DidSet = function_kind.DidSet

abbrev pub type_known : Known → Ty
type_known (known.Type t) = t
type_known k = ty.Void

abbrev pub result_in : Known → AccessorKind → Ty
result_in k accessor_kind.Get = type_known k
result_in k a = ty.Void

abbrev pub own_parameters : OwnNames → Accessed → Accessor → Node → Bool → List Parameter
own_parameters names c a m takes =
    cond takes (record { node = m; name = own_name names a; marker = passing.Escaping; ty = type_known c.ty } ∷ []) []

abbrev pub typed_accessor : OwnNames → Accessed → Accessor → Node → AccessorParts → TypedFunction
typed_accessor names c a m (takes, ss) = record {
  kind = kind_of a.kind;
  node = m;
  owner = c.owner;
  parameters = map parameter_of c.parameters ++ own_parameters names c a m takes;
  result = result_in c.ty a.kind;
  body = ss;
  mentions = [];
}

abbrev pub accessor_added : OwnNames → Accessed → Accessor → Node → ℕ → AccessorParts → Judging (Unit {0})
accessor_added names c a m before x w = typed tt (with_literal before (typed_accessor names c a m x) w)

-- an accessor or observer
abbrev pub accessor : Declarations → OwnNames → Accessed → Accessor → Judging (Unit {0})
accessor d names c a =
    numbered (λ m w. moved (left w) (accessor_parts d names c a m w ▷ returning d c a m) ▷ accessor_added names c a m (length w.literals))

-- accessors and observers one after another
abbrev pub nothing_more : Unit {0} × Unit {0} → Judging (Unit {0})
nothing_more x = typed tt

abbrev pub run_accessors : Declarations → OwnNames → Accessed → Verdict (Unit {0}) → List Accessor → Verdict (Unit {0})
run_accessors d names c v [] = v
run_accessors d names c v (a ∷ as_) = run_accessors d names c (both v (accessor d names c a) ▷ nothing_more) as_
