-- Where bodies and initial values stand, and what is in scope behind them.
use Rattle.std.specs.Prelude.{ℕ, Bool, true, false, not, ◌&&◌, ◌||◌, nat_eq, List, take, length, Option, Some, None}
use Rattle.std.specs.List.{list_any}
use Rattle.sx_span.specs.declared.places.Node.{Node}
use Rattle.sx_tree.specs.declared.code.Block.{Block}
use Rattle.sx_types.specs.declared.types.Ty.{Ty}
use Rattle.sx_types.specs.declared.types.Ty.TheVariants as ty
use Rattle.sx_typed.specs.declared.code.Statement.{Statement}
use Rattle.sx_scope.specs.declared.stop.TypeKind.TheVariants as kind
use Rattle.sx_scope.specs.declared.declarations.Declarations.{Declarations}
use Rattle.sx_scope.specs.declared.walk.Gives.{Gives}
use Rattle.sx_scope.specs.declared.walk.Place.{Place}
use Rattle.sx_scope.specs.declared.walk.SelfValue.{SelfValue}
use Rattle.sx_scope.specs.declared.walk.Walk.{Walk}
use Rattle.sx_scope.specs.Verdict.{typed, Judging, need}
use Rattle.sx_scope.specs.Walks.{numbered}
use Rattle.sx_bodies.specs.Statements.{body, is_reserved}
use Rattle.sx_check_expr.specs.Judge.{judged_block}

abbrev pub is_structure : Ty → Bool
is_structure (ty.Struct k) = true
is_structure t = false

-- the `self` of a member: a structure may be modified where the member mutates it
abbrev pub self_of : Bool → Option Ty → Option SelfValue
self_of mutating None = None
self_of mutating (Some t) = Some (record { ty = t; mutable = mutating && is_structure t })

-- the body of a function or accessor, a member of the owner if there is one
abbrev pub body_place : Option Ty → Bool → Option Node → Gives → Place
body_place owner mutating observed g = record {
  members_of = owner;
  this = self_of mutating owner;
  observed = observed;
  gives = g;
  in_loop = false;
  giving = None;
  outside_block = 0;
  outside_kept = 0;
  in_kept = false;
}

-- a body is a node
abbrev pub body_value : Declarations → Place → Block → Judging (List Statement)
body_value d p b = numbered (λ n. body p (judged_block d b))

-- so many locals stay in scope, and so many mentions count
abbrev pub shortened : ℕ → ℕ → Walk → Walk
shortened locals mentions w = record w { locals = take locals w.locals; mentions = take mentions w.mentions }

-- behind a function, what it has declared is out of scope, and what it has mentioned counts no more
abbrev pub left : Walk → Walk → Walk
left before w = shortened (length before.locals) (length before.mentions) w

-- a name that is declared beside these may not be reserved, nor one of them
abbrev pub is_new : Declarations → List ℕ → ℕ → Bool
is_new d seen x = not (is_reserved d x || list_any (nat_eq x) seen)

abbrev pub new_name : Declarations → List ℕ → ℕ → Node → Judging (Unit {0})
new_name d seen x n = need (is_new d seen x) kind.Duplicate n (typed tt)
