-- The looks at a program: where no declaration depends on itself, the first tells all.
use Rattle.std.specs.Prelude.{List, [], map}
use Rattle.sx_tree.specs.declared.declarations.Item.{Item}
use Rattle.sx_functions.specs.declared.accessing.OwnNames.{OwnNames}
use Rattle.sx_scope.specs.declared.declarations.Known.{Known}
use Rattle.sx_scope.specs.declared.declarations.Known.TheVariants as known
use Rattle.sx_scope.specs.Verdict.{Verdict, typed, untold, depends, fails}
use Rattle.sx_check_decl.specs.declared.items.Blame.TheVariants as blames
use Rattle.sx_check_decl.specs.declared.items.Program.{Program}
use Rattle.sx_check_decl.specs.declared.items.Settled.{Settled}
use Rattle.sx_check_decl.specs.Items.{program}

-- what stands in a circle has failed too
abbrev pub without_circle : Known → Known
without_circle known.Circular = known.Failed
without_circle k = k

-- each declaration that has failed counts as failed, whatever it failed by
abbrev pub plain : Settled → Settled
plain x = record x { declarations = record x.declarations { given = map without_circle x.declarations.given }; stops = [] }

abbrev pub unless_told : Verdict Program → Verdict Program → Verdict Program
unless_told (typed p w) again = typed p w
unless_told (untold w) again = again
unless_told (depends w) again = again
unless_told (fails f fs w) again = fails f fs w

-- What depends on a declaration that has failed doesn't fail. Where so no node fails, and yet the items aren't typed, declarations
-- depend on themselves: then they fail by what they failed by when they were first judged. Where even so nothing is told, the first
-- item that isn't typed fails at its own node, since it has no type to be given: each program is typed or has a node that fails.
abbrev pub judged_again : Settled → OwnNames → List Item → Verdict Program
judged_again x names is = unless_told (program x names blames.Others is) (program x names blames.Itself is)

abbrev pub judged : Settled → OwnNames → List Item → Verdict Program
judged x names is = unless_told (program (plain x) names blames.Others is) (judged_again x names is)

-- it is typed, or a node in it fails
abbrev pub IsDecided : {A : Type 0} → Verdict A → Type 0
IsDecided (typed a w) = Unit {0}
IsDecided (untold w) = ⊥
IsDecided (depends w) = ⊥
IsDecided (fails f fs w) = Unit {0}
