-- What one judging of an initial value tells.
use Rattle.std.specs.Prelude.{ℕ, suc, Bool, true, false, List, [], Option, Some, None, Result, Ok, Err, option_copied, cond}
use Rattle.sx_span.specs.declared.places.Node.{Node}
use Rattle.sx_tree.specs.declared.code.Expr.{Expr}
use Rattle.sx_tree.specs.declared.declarations.Item.{Item}
use Rattle.sx_tree.specs.declared.declarations.Item.TheVariants as items
use Rattle.sx_tree.specs.declared.declarations.Member.{Member}
use Rattle.sx_tree.specs.declared.declarations.Member.TheVariants as members
use Rattle.sx_outline.specs.declared.outline.ItemNodes.{ItemNodes}
use Rattle.sx_scope.specs.declared.stop.TypeStop.{TypeStop}
use Rattle.sx_scope.specs.declared.declarations.Declarations.{Declarations}
use Rattle.sx_scope.specs.declared.declarations.Known.{Known}
use Rattle.sx_scope.specs.declared.declarations.Known.TheVariants as known
use Rattle.sx_scope.specs.declared.walk.Found.{Found}
use Rattle.sx_scope.specs.declared.walk.Found.TheVariants as founds
use Rattle.sx_scope.specs.Verdict.{Verdict, typed, untold, depends, fails}
use Rattle.sx_heads.specs.Heads.{at}
use Rattle.sx_members.specs.Variables.{VariableParts, given_value}
use Rattle.sx_settle.specs.declared.givings.Giving.{Giving as Held}
use Rattle.sx_settle.specs.declared.taking.Taking.{Taking}
use Rattle.sx_settle.specs.declared.taking.Taking.TheVariants as takings
use Rattle.sx_settle.specs.Settled.{Giving, Settling, giving_by, giving_members, settled_as, stays}

-- a declaration that is held by reference
abbrev pub given : Held → Giving
given g = record { node = g.node; value = option_copied g.value }

-- what an item and a member give
abbrev pub giving_member : Member → Node → List Giving
giving_member (members.Property v) n = giving_by v.ty n v.value []
giving_member m n = []

abbrev pub giving_item : Item → ItemNodes → List Giving
giving_item (items.Global v) n = giving_by v.ty n.node v.value []
giving_item (items.Type t) n = giving_members t.members n.members []
giving_item i n = []

-- what is known from then on, and by what the declaration has failed first
abbrev pub Told : Type 0
Told = Known × Option TypeStop

abbrev pub told : Verdict VariableParts → Option Told
told (typed x w) = Some (known.Type x.0, None)
told (untold w) = None
told (depends w) = Some (known.Failed, None)
told (fails f fs w) = Some (known.Failed, Some f)

-- the same, by what a call answers
abbrev pub told_found : Found VariableParts → Option Told
told_found (founds.Typed x) = Some (known.Type x.0, None)
told_found founds.Untold = None
told_found founds.Depends = Some (known.Failed, None)

abbrev pub told_answer : Result (Found VariableParts) TypeStop → Option Told
told_answer (Ok f) = told_found f
told_answer (Err e) = Some (known.Failed, Some e)

abbrev pub told_again : Declarations → Node → Option Expr → Option Told
told_again d n None = None
told_again d n (Some e) = told (given_value d n e (at (suc n.0)))

-- what is taken of what is told
abbrev pub is_taken : Taking → Known → Option TypeStop → Bool
is_taken takings.Certain known.Failed None = false
is_taken takings.Depending known.Failed (Some f) = false
is_taken q k o = true

abbrev pub taken : Taking → Option Told → Option Told
taken q None = None
taken q (Some (k, o)) = cond (is_taken q k o) (Some (k, o)) None

abbrev pub told_of : Taking → Declarations → Known → Option TypeStop → Giving → Option Told
told_of q d k o g = cond (stays q k o) None (taken q (told_again d g.node g.value))

abbrev pub settled_so : ℕ → Option Told → Settling → Settling
settled_so i None s = s
settled_so i (Some (k, o)) s = settled_as i k o s
