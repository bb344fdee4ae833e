-- Where a closure literal may stand (The Swift Programming Language, "Closures").
use Rattle.std.specs.Prelude.{◌≡◌, ℕ, Bool, true, false, List, Some, drop, length}
use Rattle.sx_types.specs.declared.types.FunctionType.{FunctionType}
use Rattle.sx_types.specs.declared.types.Ty.TheVariants as ty
use Rattle.sx_typed.specs.declared.program.Mention.{Mention}
use Rattle.sx_scope.specs.declared.declarations.Declarations.{Declarations}
use Rattle.sx_scope.specs.declared.walk.Asked.{Asked}
use Rattle.sx_scope.specs.declared.walk.Asked.TheVariants as asked
use Rattle.sx_scope.specs.declared.walk.Walk.{Walk}
use Rattle.sx_scope.specs.Names.{agrees}
use Rattle.sx_scope.specs.WrittenTypes.{number_of}
use Rattle.sx_bodies.specs.Literals.{are_narrow, has_function, mention_words, parameter_words}

-- it is known what is asked
abbrev pub is_told : Asked → Bool
is_told asked.Unknown = false
is_told q = true

-- what is mentioned from one walk to another
abbrev pub mentioned_since : Walk → Walk → List Mention
mentioned_since w v = drop (length w.mentions) v.mentions

-- A literal of this type, which has number `k`, with these captures, may stand where this is asked.
pub record LiteralFits (d : Declarations) (q : Asked) (ms : List Mention) (f : FunctionType) (k : ℕ) : Type 0 where
  -- it is known what is asked, and this is it
  pub told : is_told q ≡ true
  pub numbered : number_of d.types.functions f ≡ Some k
  pub agreed : agrees q (ty.Func k) ≡ true
  -- no parameter is a function
  pub plain : has_function f ≡ false
  -- its parameters and its captures have few enough words
  pub narrow_parameters : are_narrow (parameter_words d.types) f.parameters ≡ true
  pub narrow_captures : are_narrow (mention_words d.types) ms ≡ true
