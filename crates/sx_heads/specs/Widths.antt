-- How many words parameters take, with `self` and without.
use Rattle.std.specs.Prelude.{ℕ, ◌+◌, Bool, nat_le, List, Option, Some, None, cond}
use Rattle.sx_types.specs.declared.types.Ty.{Ty}
use Rattle.sx_types.specs.declared.types.Ty.TheVariants as ty
use Rattle.sx_types.specs.declared.types.Types.{Types}
use Rattle.sx_types.specs.Words.{most_words}
use Rattle.sx_typed.specs.declared.program.Marker.{Marker}
use Rattle.sx_typed.specs.declared.program.Marker.TheVariants as passing
use Rattle.sx_bodies.specs.Literals.{total, words_in}
use Rattle.sx_heads.specs.declared.parameters.HeadParameter.{HeadParameter}

abbrev pub passed_words : Types → Marker → Ty → ℕ
passed_words types passing.Plain t = words_in types t
passed_words types passing.Escaping t = words_in types t
passed_words types passing.InOut t = 1
passed_words types passing.Borrowing t = 1

abbrev pub parameter_words : Types → HeadParameter → ℕ
parameter_words types p = passed_words types p.parameter.marker p.parameter.ty

-- the `self` of a member: a reference, the structure that it may modify, or a copy of it
abbrev pub self_words : Types → Bool → Option Ty → ℕ
self_words types mutating None = 0
self_words types mutating (Some (ty.Struct k)) = cond mutating 1 (words_in types (ty.Struct k))
self_words types mutating (Some t) = 1

abbrev pub head_words : Types → Bool → Option Ty → List HeadParameter → ℕ
head_words types mutating owner ps = self_words types mutating owner + total (parameter_words types) ps

abbrev pub is_narrow_head : Types → Bool → Option Ty → List HeadParameter → Bool
is_narrow_head types mutating owner ps = nat_le (head_words types mutating owner ps) most_words
