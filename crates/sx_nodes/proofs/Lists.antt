-- What stands in lists of parts, one behind the other.
use Rattle.std.proofs.Common.{◌≡◌, List, [], ◌∷◌, ◌++◌, refl, ap, sym, ◌∙◌, append_assoc}
use Rattle.sx_tree.specs.declared.code.Part.{Part}
use Rattle.sx_nodes.specs.Pieces.{in_part, in_parts}

pub in_parts_append : (ps qs : List Part) → in_parts (ps ++ qs) ≡ in_parts ps ++ in_parts qs
in_parts_append [] qs = refl
in_parts_append (p ∷ ps) qs = ap (λ rest. in_part p ++ rest) (in_parts_append ps qs) ∙ sym (append_assoc (in_part p) (in_parts ps) (in_parts qs))
