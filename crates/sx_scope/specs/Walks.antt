-- How a walk goes on.
use Rattle.std.specs.Prelude.{ℕ, ◌+◌, [], ◌∷◌, ◌++◌, take}
use Rattle.sx_scope.specs.declared.walk.Walk.{Walk}
use Rattle.sx_scope.specs.declared.walk.Local.{Local}
use Rattle.sx_typed.specs.declared.program.Mention.{Mention}
use Rattle.sx_span.specs.declared.places.Node.{Node}
use Rattle.sx_scope.specs.Verdict.{Judging}

abbrev pub node : ℕ → Node
node n = record { 0 = n }

-- so many nodes are passed
abbrev pub advanced : ℕ → Walk → Walk
advanced n w = record w { next = n + w.next }

-- a local comes into scope
abbrev pub with_local : Local → Walk → Walk
with_local l w = record w { locals = w.locals ++ l ∷ [] }

-- so many locals stay in scope
abbrev pub with_locals : ℕ → Walk → Walk
with_locals n w = record w { locals = take n w.locals }

-- a local or `self` is mentioned
abbrev pub with_mention : Mention → Walk → Walk
with_mention m w = record w { mentions = w.mentions ++ m ∷ [] }

-- the next node is taken
abbrev pub numbered : {A : Type 0} → (Node → Judging A) → Judging A
numbered f w = f (node w.next) (advanced 1 w)

-- so many nodes are taken
abbrev pub numbered_many : {A : Type 0} → ℕ → (ℕ → Judging A) → Judging A
numbered_many n f w = f w.next (advanced n w)
