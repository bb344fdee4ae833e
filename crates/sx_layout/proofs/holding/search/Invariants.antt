use Rattle.std.proofs.Common.{◌≡◌, ◌++◌, ◌∷◌, [], ℕ, ◌<◌, slice_get, Some}
use Rattle.sx_types.specs.declared.types.Field.{Field}
use Rattle.sx_layout.specs.Searching.{IsSearch, IsPartMarked, left_to_search}
use Rattle.sx_layout.proofs.holding.search.Given as goal

abbrev pub invariant-loop-number : goal.invariant-loop-number
invariant-loop-number l = IsSearch l.structures l.widths l.root l.marks l.opened.items

abbrev pub decreases-loop-number : goal.decreases-loop-number
decreases-loop-number l = left_to_search l.marks l.opened.items

abbrev pub invariant-loop-field : goal.invariant-loop-field
invariant-loop-field l =
    IsSearch l.structures l.widths l.root l.marks (l.opened.items ++ l.number ∷ [])
    × ((n : ℕ) (f : Field) → n < l.field-index → slice_get l.stored n ≡ Some f → IsPartMarked l.widths l.marks f.ty)
    × (left_to_search l.marks l.opened.items ≡ left_to_search l.initial.marks l.initial.opened.items)
