-- The types that initial values give: judged in the order of the text, again and again, until nothing more is known.
use Rattle.std.specs.Prelude.{ℕ, zero, suc, ◌*◌, Bool, true, false, List, [], ◌∷◌, map, length, slice_get, slice_set, Option, Some, None, is_some, cond}
use Rattle.sx_span.specs.declared.places.Node.{Node}
use Rattle.sx_tree.specs.declared.code.Expr.{Expr}
use Rattle.sx_tree.specs.declared.declarations.Item.{Item}
use Rattle.sx_tree.specs.declared.declarations.Item.TheVariants as items
use Rattle.sx_tree.specs.declared.declarations.Member.{Member}
use Rattle.sx_tree.specs.declared.declarations.Member.TheVariants as members
use Rattle.sx_tree.specs.declared.written_types.WrittenType.{WrittenType}
use Rattle.sx_scope.specs.declared.stop.TypeStop.{TypeStop}
use Rattle.sx_scope.specs.declared.declarations.Declarations.{Declarations}
use Rattle.sx_scope.specs.declared.declarations.Known.{Known}
use Rattle.sx_scope.specs.declared.declarations.Known.TheVariants as known
use Rattle.sx_scope.specs.Verdict.{Verdict, typed, untold, depends, fails}
use Rattle.sx_scope.specs.Names.{given_known}
use Rattle.sx_heads.specs.Heads.{at}
use Rattle.sx_members.specs.Variables.{VariableParts, given_value, stop_of}
use Rattle.sx_outline.specs.declared.outline.ItemNodes.{ItemNodes}
use Rattle.sx_outline.specs.declared.outline.MemberNodes.{MemberNodes}
use Rattle.sx_settle.specs.declared.taking.Taking.{Taking}
use Rattle.sx_settle.specs.declared.taking.Taking.TheVariants as takings

-- a declaration whose initial value gives its type, at its node
pub record Giving : Type 0 where
  pub node : Node
  pub value : Option Expr

abbrev pub giving_by : Option WrittenType → Node → Option Expr → List Giving → List Giving
giving_by None n e gs = record { node = n; value = e } ∷ gs
giving_by (Some t) n e gs = gs

abbrev pub giving_members : List Member → List MemberNodes → List Giving → List Giving
giving_members [] ns gs = gs
giving_members (m ∷ ms) [] gs = gs
giving_members (members.Property v ∷ ms) (n ∷ ns) gs = giving_by v.ty n.node v.value (giving_members ms ns gs)
giving_members (m ∷ ms) (n ∷ ns) gs = giving_members ms ns gs

-- in the order of the text
abbrev pub giving_items : List Item → List ItemNodes → List Giving
giving_items [] ns = []
giving_items (i ∷ is) [] = []
giving_items (items.Global v ∷ is) (n ∷ ns) = giving_by v.ty n.node v.value (giving_items is ns)
giving_items (items.Type t ∷ is) (n ∷ ns) = giving_members t.members n.members (giving_items is ns)
giving_items (i ∷ is) (n ∷ ns) = giving_items is ns

-- what is known, and by what those that have failed did so first
pub record Settling : Type 0 where
  pub declarations : Declarations
  pub stops : List (Option TypeStop)

abbrev pub with_known : ℕ → Known → Declarations → Declarations
with_known i k d = record d { given = slice_set d.given i k }

abbrev pub settled_as : ℕ → Known → Option TypeStop → Settling → Settling
settled_as i k o s = record { declarations = with_known i k s.declarations; stops = slice_set s.stops i o }

-- ---- rounds
-- what nothing tells stays as it is, and so does what isn't taken
abbrev pub told_by : Taking → ℕ → Verdict VariableParts → Settling → Settling
told_by q i (typed x w) s = settled_as i (known.Type x.0) None s
told_by q i (untold w) s = s
told_by takings.Certain i (depends w) s = s
told_by takings.Certain i (fails f fs w) s = settled_as i known.Failed (Some f) s
told_by takings.Depending i (depends w) s = settled_as i known.Failed None s
told_by takings.Depending i (fails f fs w) s = s
told_by takings.Everything i (depends w) s = settled_as i known.Failed None s
told_by takings.Everything i (fails f fs w) s = settled_as i known.Failed (Some f) s

abbrev pub judged_again : Taking → ℕ → Node → Option Expr → Settling → Settling
judged_again q i n None s = s
judged_again q i n (Some e) s = told_by q i (given_value s.declarations n e (at (suc n.0))) s

abbrev pub is_failed : Known → Bool
is_failed known.Failed = true
is_failed k = false

-- one that has failed stays so; where each counts as failed of which nothing is known, one that has failed by something
abbrev pub stays : Taking → Known → Option TypeStop → Bool
stays takings.Certain k o = is_some o
stays takings.Depending k o = is_failed k
stays takings.Everything k o = is_failed k

abbrev pub settled_one : Taking → ℕ → Giving → Settling → Settling
settled_one q i g s = cond (stays q (given_known (slice_get s.declarations.given i)) (stop_of s.stops i)) s (judged_again q i g.node g.value s)

abbrev pub round_from : Taking → ℕ → List Giving → Settling → Settling
round_from q i [] s = s
round_from q i (g ∷ gs) s = round_from q (suc i) gs (settled_one q i g s)

-- so many rounds
unfoldable pub rounds : Taking → ℕ → List Giving → Settling → Settling
rounds q zero gs s = s
rounds q (suc n) gs s = rounds q n gs (round_from q 0 gs s)

-- each round but the last tells a type or a failure more, of which there are at most two for each
abbrev pub enough : List Giving → ℕ
enough gs = suc (2 * length gs)

-- ---- from where nothing is known to where no more will be told
abbrev pub with_given : List Known → Settling → Settling
with_given ks s = record s { declarations = record s.declarations { given = ks } }

-- what nothing tells then stands in a circle
abbrev pub in_circle : Known → Known
in_circle known.Untold = known.Circular
in_circle k = k

abbrev pub with_circles : Settling → Settling
with_circles s = with_given (map in_circle s.declarations.given) s

abbrev pub failed : Known → Known
failed k = known.Failed

abbrev pub with_failed : Settling → Settling
with_failed s = with_given (map failed s.declarations.given) s

-- what has failed by nothing isn't known
abbrev pub open_again : Known → Option TypeStop → Known
open_again known.Failed None = known.Untold
open_again k o = k

abbrev pub opened : ℕ → List Known → List (Option TypeStop) → List Known
opened i [] os = []
opened i (k ∷ ks) os = open_again k (stop_of os i) ∷ opened (suc i) ks os

abbrev pub with_opened : Settling → Settling
with_opened s = with_given (opened 0 s.declarations.given s.stops) s

-- First what is certain, where each counts as failed of which nothing is known; then what depends on that; then what stands in
-- circles, and behind them.
abbrev pub settled_certainly : List Giving → Settling → Settling
settled_certainly gs s = with_opened (rounds takings.Certain (enough gs) gs (with_failed s))

abbrev pub settled : List Giving → Settling → Settling
settled gs s = with_circles (rounds takings.Everything (enough gs) gs (rounds takings.Depending (enough gs) gs (settled_certainly gs s)))

abbrev pub settling : Declarations → List (Option TypeStop) → Settling
settling d os = record { declarations = d; stops = os }

abbrev pub unsettled : Declarations → Settling
unsettled d = settling d (map (λ _. None) d.given)
