-- Globals and properties, with their initial values (The Swift Programming Language, "Declarations", variables and constants).
use Rattle.std.specs.Prelude.{ℕ, Bool, true, false, not, nat_le, List, [], ◌∷◌, length, slice_get, Option, Some, None, option_and_then, cond}
use Rattle.sx_span.specs.declared.places.Node.{Node}
use Rattle.sx_tree.specs.declared.code.Expr.{Expr}
use Rattle.sx_tree.specs.declared.declarations.Variable.{Variable}
use Rattle.sx_tree.specs.declared.written_types.WrittenType.{WrittenType}
use Rattle.sx_types.specs.declared.types.Ty.{Ty}
use Rattle.sx_types.specs.declared.types.Types.{Types}
use Rattle.sx_typed.specs.declared.code.Expr.{Expr as TypedExpr}
use Rattle.sx_scope.specs.declared.stop.TypeKind.{TypeKind}
use Rattle.sx_scope.specs.declared.stop.TypeKind.TheVariants as kind
use Rattle.sx_scope.specs.declared.stop.TypeStop.{TypeStop}
use Rattle.sx_scope.specs.declared.stop.TypeStop.TheVariants.{Typing, TooWide, Late, NoMemory}
use Rattle.sx_scope.specs.declared.declarations.Declarations.{Declarations}
use Rattle.sx_scope.specs.declared.declarations.Known.{Known}
use Rattle.sx_scope.specs.declared.declarations.Known.TheVariants as known
use Rattle.sx_scope.specs.declared.walk.Asked.{Asked}
use Rattle.sx_scope.specs.declared.walk.Asked.TheVariants as asked
use Rattle.sx_scope.specs.declared.walk.Gives.TheVariants as gives
use Rattle.sx_scope.specs.declared.walk.Place.{Place}
use Rattle.sx_scope.specs.declared.walk.Use.TheVariants as uses
use Rattle.sx_scope.specs.declared.walk.Walk.{Walk}
use Rattle.sx_scope.specs.Verdict.{Verdict, typed, depends, fails, Judging, ◌▷◌, both, both_by, need, need_narrow, unless_broken, failing, behind}
use Rattle.sx_scope.specs.Walks.{numbered}
use Rattle.sx_scope.specs.Names.{given_known}
use Rattle.sx_scope.specs.WrittenTypes.{is_void, judged_type}
use Rattle.sx_bodies.specs.Literals.{words_in}
use Rattle.sx_check_expr.specs.Judge.{judged_expr}
use Rattle.sx_heads.specs.declared.parameters.HeadParameter.{HeadParameter}
use Rattle.sx_heads.specs.Variables.{lacks_value}
use Rattle.sx_functions.specs.declared.accessing.Accessed.{Accessed}
use Rattle.sx_functions.specs.declared.accessing.OwnNames.{OwnNames}
use Rattle.sx_functions.specs.Accessors.{run_accessors}
use Rattle.sx_functions.specs.Places.{new_name}
use Rattle.sx_members.specs.declared.variables.TypedVariable.{TypedVariable}

-- where initial values and the statements of the outermost level stand: there is no `self`, and no members are named alone
abbrev pub outer_place : Place
outer_place = record {
  members_of = None;
  this = None;
  observed = None;
  gives = gives.Nothing;
  in_loop = false;
  giving = None;
  outside_block = 0;
  outside_kept = 0;
  in_kept = false;
}

-- where the initial value stands that gives a type to the declaration at this node
abbrev pub giving_place : Node → Place
giving_place n = record outer_place { giving = Some n }

-- a type, and the initial value if there is one
abbrev pub VariableParts : Type 0
VariableParts = Ty × Option TypedExpr

-- ---- with a written type
abbrev pub asked_of : Option Ty → Asked
asked_of None = asked.Unknown
asked_of (Some t) = asked.Type t

abbrev pub some_value : TypedExpr → Judging (Option TypedExpr)
some_value e = typed (Some e)

abbrev pub kept_value : Declarations → Asked → Expr → Judging (Option TypedExpr)
kept_value d q e w = (judged_expr d e).value outer_place q uses.Kept w ▷ some_value

abbrev pub initial_value : Declarations → Asked → Option Expr → Judging (Option TypedExpr)
initial_value d q None w = typed None w
initial_value d q (Some e) w = kept_value d q e w

-- no declaration has the type `Void`, and a stored property of a class has an initial value
abbrev pub broken_type : Option Ty → Variable → Ty → Option TypeKind
broken_type owner v t = cond (is_void t) (Some kind.Mismatch) (cond (lacks_value owner v) (Some kind.MissingDefault) None)

abbrev pub type_fits : Option Ty → Node → Variable → Ty → Judging Ty
type_fits owner n v t = unless_broken (broken_type owner v t) n (typed t)

abbrev pub written_parts : Declarations → Option Ty → Node → Variable → WrittenType → Judging VariableParts
written_parts d owner n v t w = both_by (judged_type d t w ▷ type_fits owner n v) (λ o. initial_value d (asked_of o) v.value)

-- ---- with a type that the initial value gives
abbrev pub given_fits : Node → TypedExpr → Judging VariableParts
given_fits n e = need (not (is_void e.ty)) kind.Mismatch n (typed (e.ty, Some e))

abbrev pub given_value : Declarations → Node → Expr → Judging VariableParts
given_value d n e w = (judged_expr d e).value (giving_place n) asked.Nothing uses.Kept w ▷ given_fits n

abbrev pub depending : VariableParts → Judging VariableParts
depending x = depends

-- ---- a declaration that has failed
-- the number of the node at which something fails
abbrev pub number_of : TypeStop → ℕ
number_of (Typing kind n) = n.0
number_of (TooWide n) = n.0
number_of (Late at global) = at.0
number_of NoMemory = 0

-- these faults, and this one among them by its number
abbrev pub with_stop : TypeStop → List TypeStop → List TypeStop
with_stop f [] = f ∷ []
with_stop f (g ∷ gs) = cond (nat_le (number_of g) (number_of f)) (g ∷ with_stop f gs) (f ∷ g ∷ gs)

abbrev pub failed_with : TypeStop → List TypeStop → Walk → Verdict VariableParts
failed_with f [] w = fails f [] w
failed_with f (g ∷ gs) w = cond (nat_le (number_of g) (number_of f)) (fails g (with_stop f gs) w) (fails f (g ∷ gs) w)

-- Where a declaration has failed, what it failed by first is among its faults.
abbrev pub kept : Known → Option TypeStop → Verdict VariableParts → Verdict VariableParts
kept known.Failed (Some f) v = failed_with f (failing v) (behind v)
kept known.Failed None v = v ▷ depending
kept k o v = v

abbrev pub stop_of : List (Option TypeStop) → ℕ → Option TypeStop
stop_of stops k = option_and_then (λ (o : Option TypeStop). o) (slice_get stops k)

abbrev pub given_parts : Declarations → List (Option TypeStop) → Node → ℕ → Option Expr → Judging VariableParts
given_parts d stops n k None w = depends w
given_parts d stops n k (Some e) w = kept (given_known (slice_get d.given k)) (stop_of stops k) (given_value d n e w)

-- ---- both
abbrev pub parts_by : Declarations → List (Option TypeStop) → Option Ty → Node → ℕ → Variable → Option WrittenType → Judging VariableParts
parts_by d stops owner n k v None = given_parts d stops n k v.value
parts_by d stops owner n k v (Some t) = written_parts d owner n v t

-- a value of the type takes at most so many words, where that is told
abbrev pub has_room : Types → Option ℕ → Ty → Bool
has_room types None t = true
has_room types (Some room) t = nat_le (words_in types t) room

abbrev pub narrow_parts : Declarations → Option ℕ → Node → Unit {0} × VariableParts → Judging (Unit {0} × VariableParts)
narrow_parts d room n (u, (t, o)) = need_narrow (has_room d.types room t) n (typed (u, (t, o)))

abbrev pub checked_parts : Declarations → List (Option TypeStop) → Option Ty → List ℕ → Option ℕ → Node → ℕ → Variable → Judging (Unit {0} × VariableParts)
checked_parts d stops owner seen room n k v w = both (new_name d seen v.name.number n w) (parts_by d stops owner n k v v.ty) ▷ narrow_parts d room n

abbrev pub accessed : Option Ty → Node → Known → List HeadParameter → ℕ → Accessed
accessed owner n k ps from = record { owner = owner; node = n; ty = k; parameters = ps; from = from }

abbrev pub known_of_parts : Option (Unit {0} × VariableParts) → Known
known_of_parts None = known.Failed
known_of_parts (Some (u, (t, o))) = known.Type t

abbrev pub typed_variable : Node → Unit {0} × VariableParts → TypedVariable
typed_variable n (u, (t, o)) = record { node = n; ty = t; value = o }

abbrev pub variable_made : Node → (Unit {0} × VariableParts) × Unit {0} → Judging TypedVariable
variable_made n (x, a) = typed (typed_variable n x)

abbrev pub accessed_parts : Declarations → OwnNames → List (Option TypeStop) → Option Ty → List ℕ → Option ℕ → Node → ℕ → Variable → Judging ((Unit {0} × VariableParts) × Unit {0})
accessed_parts d names stops owner seen room n k v w =
    both_by (checked_parts d stops owner seen room n k v w)
    (λ o w. run_accessors d names (accessed owner n (known_of_parts o) [] (length w.locals)) (typed tt w) v.accessors)

-- A global, or a property of the owner, beside what has these names; it has the number k among the declarations whose initial
-- values give their types, and there is room for so many words.
abbrev pub variable : Declarations → OwnNames → List (Option TypeStop) → Option Ty → List ℕ → Option ℕ → ℕ → Variable → Judging TypedVariable
variable d names stops owner seen room k v = numbered (λ n w. accessed_parts d names stops owner seen room n k v w ▷ variable_made n)
