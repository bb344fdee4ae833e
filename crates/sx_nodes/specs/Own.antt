-- What a number stands for among the nodes that a piece makes itself.
use Rattle.std.specs.Prelude.{◌≡◌, ℕ, ◌+◌, List, length, slice_get, Option, Some}
use Rattle.sx_nodes.specs.declared.code.Code.{Code}
use Rattle.sx_nodes.specs.declared.own.Own.{Own}
use Rattle.sx_nodes.specs.declared.own.Own.TheVariants.{Is, Past}

abbrev pub Stands : List (Option Code) → ℕ → Own → Type 0
Stands cs n (Is c) = slice_get cs n ≡ Some c
Stands cs n (Past m) = n ≡ length cs + m
