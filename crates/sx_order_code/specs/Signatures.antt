-- How many nodes the signature of a closure literal takes.
use Rattle.std.specs.Prelude.{◌≡◌, ℕ, suc, ◌+◌, List, [], ◌∷◌, length, Option, Some, None}
use Rattle.sx_types.specs.declared.types.Ty.{Ty}
use Rattle.sx_scope.specs.Verdict.{Judging}
use Rattle.sx_bodies.specs.Literals.{TypedName, JudgedSignature}
use Rattle.sx_order.specs.Order.{Takes, Anywhere}

-- a parameter with its type is a node, and has those of the type
abbrev pub SpanTypedNames : ℕ → List TypedName → Type 0
SpanTypedNames n [] = n ≡ 0
SpanTypedNames n (p ∷ ps) = (k : ℕ) × (j : ℕ) × (n ≡ suc k + j) × Takes k Anywhere p.ty × SpanTypedNames j ps

-- a name without a type is a node
abbrev pub SpansParameters : ℕ → JudgedSignature → Type 0
SpansParameters n JudgedSignature.Absent = n ≡ 0
SpansParameters n (JudgedSignature.Names xs) = n ≡ length xs
SpansParameters n (JudgedSignature.Typed ps r) = SpanTypedNames n ps

abbrev pub SpansWritten : ℕ → Option (Judging Ty) → Type 0
SpansWritten n None = n ≡ 0
SpansWritten n (Some r) = Takes n Anywhere r

abbrev pub SpansResult : ℕ → JudgedSignature → Type 0
SpansResult n JudgedSignature.Absent = n ≡ 0
SpansResult n (JudgedSignature.Names xs) = n ≡ 0
SpansResult n (JudgedSignature.Typed ps r) = SpansWritten n r

abbrev pub SpansSignature : ℕ → JudgedSignature → Type 0
SpansSignature n g = (k : ℕ) × (j : ℕ) × (n ≡ k + j) × SpansParameters k g × SpansResult j g
