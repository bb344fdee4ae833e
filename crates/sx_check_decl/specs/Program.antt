-- The typed tree of a program.
use Rattle.std.specs.Prelude.{◌≡◌, ◌⊎◌, ℕ, List, [], map, slice_get, Some, None, option_map, Result, Ok, Err, Vec}
use Rattle.std.specs.Global.{Global}
use Rattle.sx_span.specs.declared.places.Node.{Node}
use Rattle.sx_tree.specs.declared.tree.Tree.{Tree}
use Rattle.sx_types.specs.declared.types.Types.{Types}
use Rattle.sx_typed.specs.declared.program.Function.{Function}
use Rattle.sx_typed.specs.declared.program.Global.{Global as StoredGlobal}
use Rattle.sx_typed.specs.declared.program.Typed.{Typed}
use Rattle.sx_scope.specs.declared.declarations.Declarations.{Declarations}
use Rattle.sx_scope.specs.declared.stop.TypeStop.{TypeStop}
use Rattle.sx_scope.specs.declared.stop.TypeStop.TheVariants.{Typing, TooWide, Late, NoMemory}
use Rattle.sx_scope.specs.declared.walk.Walk.{Walk}
use Rattle.sx_scope.specs.Verdict.{Verdict, typed, fails}
use Rattle.sx_late.specs.declared.reaching.LateReach.{LateReach}
use Rattle.sx_late.specs.Reaching.{IsFirstLate, NoneLate}
use Rattle.sx_check_decl.specs.declared.items.Program.{Program}
use Rattle.sx_check_decl.specs.declared.items.Settled.{Settled}
use Rattle.sx_check_decl.specs.Captures.{crowded}
use Rattle.sx_check_decl.specs.Checked.{IsSettled}
use Rattle.sx_check_decl.specs.Locals.{AreInOrder, variables_of}
use Rattle.sx_check_decl.specs.Looks.{judged, plain}
use Rattle.sx_check_decl.specs.Special.{own_names, special_names}

-- ---- the typed tree
-- the lists in a list of vectors
abbrev pub bytes_of : Vec ℕ Global → List ℕ
bytes_of v = v.items

abbrev pub contents : Vec (Vec ℕ Global) Global → List (List ℕ)
contents vs = map bytes_of vs.items

abbrev pub node_of_global : StoredGlobal → Node
node_of_global g = g.node

pub record IsTyped (tree : Tree) (types : Types) (p : Program) (w : Walk) (t : Typed) : Type 0 where
  pub types_are : t.types ≡ types
  pub structures : t.structures ≡ p.structures
  pub classes : t.classes ≡ p.classes
  pub globals : t.globals ≡ p.globals
  pub functions : t.functions ≡ w.literals
  pub top : t.top ≡ p.top
  pub initialisers : t.initialisers ≡ []
  pub locals : AreInOrder (variables_of p.top w.literals) t.locals
  pub texts : contents t.texts ≡ contents tree.texts
  pub names : contents t.names ≡ contents tree.names
  pub lines : t.lines.items ≡ tree.lines.items
  pub places : t.places.items ≡ tree.places.items

-- ---- the judgement of a tree
-- The statement that is the first to reach a global too late starts at this node, where these are the nodes at which statements
-- start, and the global is declared at that one.
pub record IsLateAt (starts : List Node) (t : Typed) (at global : Node) : Type 0 where
  pub reach : LateReach
  pub first : IsFirstLate t reach
  pub starts_at : slice_get starts reach.statement ≡ Some at
  pub declared_at : option_map node_of_global (slice_get t.globals reach.global) ≡ Some global

-- what is told of a typed tree, by the globals that are reached too late
abbrev pub TellsLate : List Node → Typed → Result Typed TypeStop → Type 0
TellsLate starts t (Ok u) = (u ≡ t) × NoneLate t
TellsLate starts t (Err (Typing kind n)) = ⊥
TellsLate starts t (Err (TooWide n)) = ⊥
TellsLate starts t (Err (Late at global)) = IsLateAt starts t at global
TellsLate starts t (Err NoMemory) = Unit {0}

-- and by what its closure literals capture
abbrev pub TellsCrowded : Types → List Function → Result (Unit {0}) TypeStop → Type 0
TellsCrowded types fs (Ok u) = crowded types fs ≡ None
TellsCrowded types fs (Err (Typing kind n)) = ⊥
TellsCrowded types fs (Err (TooWide n)) = crowded types fs ≡ Some n
TellsCrowded types fs (Err (Late at global)) = ⊥
TellsCrowded types fs (Err NoMemory) = Unit {0}

-- What the answer tells, by what is found of the items. After want of memory nothing is told.
module _ (tree : Tree) (types : Types) where
  pub record IsTypedBy (t : Typed) (v : Verdict Program) : Type 0 where
    pub program : Program
    pub walk : Walk
    pub found : v ≡ typed program walk
    pub narrow : crowded types walk.literals ≡ None
    pub is_typed : IsTyped tree types program walk t
    pub none_late : NoneLate t

  pub record IsLateBy (at global : Node) (v : Verdict Program) : Type 0 where
    pub program : Program
    pub walk : Walk
    pub typed_tree : Typed
    pub found : v ≡ typed program walk
    pub narrow : crowded types walk.literals ≡ None
    pub is_typed : IsTyped tree types program walk typed_tree
    pub late : IsLateAt program.starts typed_tree at global

  abbrev pub IsCrowdedBy : Node → Verdict Program → Type 0
  IsCrowdedBy n v = (p : Program) × (w : Walk) × (v ≡ typed p w) × (crowded types w.literals ≡ Some n)

  abbrev pub Tells : Result Typed TypeStop → Verdict Program → Type 0
  Tells (Ok t) v = IsTypedBy t v
  Tells (Err (Typing kind n)) v = (fs : List TypeStop) × (w : Walk) × (v ≡ fails (Typing kind n) fs w)
  Tells (Err (TooWide n)) v = ((fs : List TypeStop) × (w : Walk) × (v ≡ fails (TooWide n) fs w)) ⊎ IsCrowdedBy n v
  Tells (Err (Late at global)) v = IsLateBy at global v
  Tells (Err NoMemory) v = Unit {0}

-- what a tree declares, where each declaration that has failed counts so
abbrev pub AreDeclared : Tree → Declarations → Type 0
AreDeclared tree d = (x : Settled) × IsSettled (special_names tree.names.items) tree.items x × (d ≡ (plain x).declarations)

-- some declarations that are settled by the tree judge its items so
abbrev pub Judges : Tree → Result Typed TypeStop → Type 0
Judges tree r =
    (x : Settled)
    × IsSettled (special_names tree.names.items) tree.items x
    × Tells tree x.declarations.types r (judged x (own_names tree.names.items) tree.items)

abbrev pub Checked : Tree → Result Typed TypeStop → Type 0
Checked tree (Ok t) = Judges tree (Ok t)
Checked tree (Err (Typing kind n)) = Judges tree (Err (Typing kind n))
Checked tree (Err (TooWide n)) = Judges tree (Err (TooWide n))
Checked tree (Err (Late at global)) = Judges tree (Err (Late at global))
Checked tree (Err NoMemory) = Unit {0}
