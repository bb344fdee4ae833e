-- What the judgement tells of parts behind an operand beside their types.
use Rattle.std.proofs.Common.{ℕ, Bool, List, map}
use Rattle.sx_tree.specs.declared.code.Part.{Part}
use Rattle.sx_scope.specs.declared.declarations.Declarations.{Declarations}
use Rattle.sx_calls.specs.Parts.{own_nodes}
use Rattle.sx_check_expr.specs.Judge.{judged_part}
use Rattle.sx_check_expr.specs.Steps.{starts_call}

-- how many nodes they make that start at the operand
abbrev pub judged_nodes : Declarations → List Part → ℕ
judged_nodes d ps = own_nodes (map (judged_part d) ps)

-- whether the arguments of a call stand first
abbrev pub judged_calls : Declarations → List Part → Bool
judged_calls d ps = starts_call (map (judged_part d) ps)
