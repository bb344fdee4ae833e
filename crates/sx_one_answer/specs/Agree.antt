-- A tree has one answer.
use Rattle.std.specs.Prelude.{◌≡◌, ◌⊎◌, Result, Ok, Err}
use Rattle.sx_tree.specs.declared.tree.Tree.{Tree}
use Rattle.sx_typed.specs.declared.program.Typed.{Typed}
use Rattle.sx_scope.specs.declared.stop.TypeStop.{TypeStop}
use Rattle.sx_scope.specs.declared.stop.TypeStop.TheVariants.{Typing, TooWide, Late, NoMemory}
use Rattle.sx_check_decl.specs.Program.{Checked}
use Rattle.sx_one_answer.specs.Same.{SameTyped}

-- want of memory
abbrev pub IsNoMemory : TypeStop → Type 0
IsNoMemory (Typing kind n) = ⊥
IsNoMemory (TooWide n) = ⊥
IsNoMemory (Late at global) = ⊥
IsNoMemory NoMemory = Unit {0}

-- the same answer, or want of memory in one of them
abbrev pub Agree : Result Typed TypeStop → Result Typed TypeStop → Type 0
Agree (Ok t) (Ok u) = SameTyped t u
Agree (Ok t) (Err e) = IsNoMemory e
Agree (Err e) (Ok u) = IsNoMemory e
Agree (Err e) (Err f) = IsNoMemory e ⊎ (IsNoMemory f ⊎ (e ≡ f))

-- Whatever is answered of a tree, but for want of memory, is the same answer.
abbrev pub AnswersAgree : Type 0
AnswersAgree = (tree : Tree) (r s : Result Typed TypeStop) → Checked tree r → Checked tree s → Agree r s
