-- Names with a meaning of their own, by their numbers among the names of a tree.
use Rattle.std.specs.Prelude.{ℕ, Bool, List, position, Option, codes, Vec}
use Rattle.std.specs.Str.{bytes_eq}
use Rattle.std.specs.Global.{Global}
use Rattle.sx_functions.specs.declared.accessing.OwnNames.{OwnNames}
use Rattle.sx_tables.specs.declared.names.SpecialNames.{SpecialNames}

-- a name of these bytes
abbrev pub is_name : List ℕ → Vec ℕ Global → Bool
is_name x name = bytes_eq x name.items

-- the position of the name among the names, if it is one
abbrev pub number_of_name : List (Vec ℕ Global) → List ℕ → Option ℕ
number_of_name names x = position (is_name x) names

abbrev pub special_names : List (Vec ℕ Global) → SpecialNames
special_names names = record {
  int = number_of_name names (codes "Int");
  bool = number_of_name names (codes "Bool");
  void = number_of_name names (codes "Void");
  print = number_of_name names (codes "print");
}

abbrev pub own_names : List (Vec ℕ Global) → OwnNames
own_names names = record { new_value = number_of_name names (codes "newValue"); old_value = number_of_name names (codes "oldValue") }
