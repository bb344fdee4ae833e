-- What accessors and observers are well typed (The Swift Programming Language, "Properties", "Subscripts").
use Rattle.std.specs.Prelude.{◌≡◌, ℕ, Bool, true, false, nat_le, List, [], ◌∷◌, length, Some, None}
use Rattle.sx_span.specs.declared.places.Node.{Node}
use Rattle.sx_tree.specs.declared.declarations.Accessor.{Accessor}
use Rattle.sx_types.specs.Words.{most_words}
use Rattle.sx_typed.specs.declared.code.Statement.{Statement as TypedStatement}
use Rattle.sx_scope.specs.declared.declarations.Declarations.{Declarations}
use Rattle.sx_scope.specs.declared.walk.LocalKind.TheVariants as local_kind
use Rattle.sx_scope.specs.declared.walk.Place.{Place}
use Rattle.sx_scope.specs.declared.walk.Walk.{Walk}
use Rattle.sx_scope.specs.Walks.{node, advanced, with_local}
use Rattle.sx_bodies.specs.Statements.{is_fresh, local_named}
use Rattle.sx_bodies.specs.Literals.{with_literal}
use Rattle.sx_functions.specs.declared.accessing.Accessed.{Accessed}
use Rattle.sx_functions.specs.declared.accessing.OwnNames.{OwnNames}
use Rattle.sx_functions.specs.Accessors.{accessor_words, gives_in, modifies, observed_in, own_name, takes, typed_accessor}
use Rattle.sx_functions.specs.Places.{body_place, left}
use Rattle.sx_well_typed.specs.LiteralRules.{mentioned_since}
use Rattle.sx_well_declared.specs.Bodies.{BodyTyped}

-- where the body of an accessor stands
abbrev pub accessor_place : Accessed → Accessor → Place
accessor_place c a = body_place c.owner (modifies a.kind) (observed_in c.node a.kind) (gives_in c.ty a.kind)

-- its parameters have few enough words, its own among them where it takes one
abbrev pub is_narrow_accessor : Declarations → Accessed → Accessor → Bool → Bool
is_narrow_accessor d c a own = nat_le (accessor_words d.types c a own) most_words

-- the parameter of its own that an accessor has at this node, in scope
pub data OwnParameter (d : Declarations) (names : OwnNames) (c : Accessed) (a : Accessor) (n : Node) : Walk → Walk → Type 0 where
  -- A getter has none.
  of_getter : (w : Walk) →
      modifies a.kind ≡ false →
      OwnParameter d names c a n w w
  -- That of another accessor or observer has no name that is in scope where the text doesn't have it.
  unnamed : (w : Walk) →
      modifies a.kind ≡ true →
      own_name names a ≡ None →
      OwnParameter d names c a n w w
  -- And where it has it, the name is new, and the parameter is a constant of the type of what is accessed.
  named : (x : ℕ) (w : Walk) →
      modifies a.kind ≡ true →
      own_name names a ≡ Some x →
      is_fresh d c.from x w ≡ true →
      OwnParameter d names c a n w (with_local (local_named x n local_kind.Constant false c.ty) w)

-- an accessor or observer of what is accessed
pub data AccessorDeclared (d : Declarations) (names : OwnNames) (c : Accessed) (a : Accessor) : Walk → Walk → Type 0 where
  -- The body of an accessor, where its own parameter is in scope, gives the value of what is accessed where it is a getter, and
  -- else nothing; its parameters have few enough words, its own among them where it takes one.
  an_accessor : (ss : List TypedStatement) (w w₁ v : Walk) →
      OwnParameter d names c a (node w.next) (advanced 1 w) w₁ →
      BodyTyped d a.body (accessor_place c a) w₁ ss v →
      is_narrow_accessor d c a (takes a (node w.next) (mentioned_since w v)) ≡ true →
      AccessorDeclared d names c a w (with_literal (length w.literals) (typed_accessor names c a (node w.next) (takes a (node w.next) (mentioned_since w v), ss)) (left w v))

-- accessors and observers one after another
pub data AccessorsDeclared (d : Declarations) (names : OwnNames) (c : Accessed) : List Accessor → Walk → Walk → Type 0 where
  -- No more accessors.
  accessors_end : (w : Walk) →
      AccessorsDeclared d names c [] w w
  -- An accessor, and those behind it.
  accessors_more : (a : Accessor) (as_ : List Accessor) (w w₁ v : Walk) →
      AccessorDeclared d names c a w w₁ →
      AccessorsDeclared d names c as_ w₁ v →
      AccessorsDeclared d names c (a ∷ as_) w v
