-- What names mean: the locals from inside out, then the members of the enclosing type, then what is declared at the outermost
-- level (The Swift Programming Language, "Declarations", scope).
use Rattle.std.specs.Prelude.{ℕ, suc, ◌+◌, Bool, true, false, not, ◌&&◌, ◌||◌, ◌==◌, nat_lt, List, [], ◌∷◌, Option, Some, None, slice_get, cond}
use Rattle.sx_scope.specs.Tables.{entry}
use Rattle.sx_span.specs.declared.places.Node.{Node}
pub use Rattle.sx_types.specs.Same.{same}
use Rattle.sx_types.specs.declared.types.Ty.{Ty}
use Rattle.sx_types.specs.declared.types.Ty.TheVariants as ty
use Rattle.sx_typed.specs.declared.code.Expr.{Expr}
use Rattle.sx_typed.specs.declared.code.Form.TheVariants as forms
use Rattle.sx_typed.specs.declared.code.HeadForm.TheVariants as heads
use Rattle.sx_typed.specs.declared.program.Mention.{Mention}
use Rattle.sx_typed.specs.declared.program.Mention.TheVariants as mentions
use Rattle.sx_scope.specs.declared.stop.TypeKind.{TypeKind}
use Rattle.sx_scope.specs.declared.stop.TypeKind.TheVariants as kind
use Rattle.sx_scope.specs.declared.declarations.Declarations.{Declarations}
use Rattle.sx_scope.specs.declared.declarations.DeclaredType.{DeclaredType}
use Rattle.sx_scope.specs.declared.declarations.Known.{Known}
use Rattle.sx_scope.specs.declared.declarations.Known.TheVariants as known
use Rattle.sx_scope.specs.declared.declarations.Member.{Member}
use Rattle.sx_scope.specs.declared.declarations.Member.TheVariants as members
use Rattle.sx_scope.specs.declared.declarations.Signature.{Signature}
use Rattle.sx_scope.specs.declared.declarations.Symbol.{Symbol}
use Rattle.sx_scope.specs.declared.declarations.Symbol.TheVariants as symbol
use Rattle.sx_scope.specs.declared.declarations.Variable.{Variable}
use Rattle.sx_scope.specs.declared.declarations.VariableType.{VariableType}
use Rattle.sx_scope.specs.declared.declarations.VariableType.TheVariants as source
use Rattle.sx_scope.specs.declared.walk.Asked.{Asked}
use Rattle.sx_scope.specs.declared.walk.Asked.TheVariants as asked
use Rattle.sx_scope.specs.declared.walk.Callee.{Callee}
use Rattle.sx_scope.specs.declared.walk.Callee.TheVariants as callee
use Rattle.sx_scope.specs.declared.walk.Local.{Local}
use Rattle.sx_scope.specs.declared.walk.LocalKind.{LocalKind}
use Rattle.sx_scope.specs.declared.walk.LocalKind.TheVariants as local_kind
use Rattle.sx_scope.specs.declared.walk.Place.{Place}
use Rattle.sx_scope.specs.declared.walk.SelfValue.{SelfValue}
use Rattle.sx_scope.specs.declared.walk.Use.{Use}
use Rattle.sx_scope.specs.declared.walk.Use.TheVariants as uses
use Rattle.sx_scope.specs.Verdict.{typed, untold, depends, Judging, ◌▷◌, need, fault, broken_unless, unless_broken}
use Rattle.sx_scope.specs.Walks.{node, with_mention}
use Rattle.sx_scope.specs.Paths.{an_expr, read_head, property_of, global_of}

-- ---- types
abbrev pub agrees : Asked → Ty → Bool
agrees asked.Nothing t = true
agrees asked.Unknown t = true
agrees asked.Printable t = same t ty.Int || same t ty.Bool
agrees (asked.Type u) t = same t u

abbrev pub is_function : Ty → Bool
is_function (ty.Func k) = true
is_function t = false

abbrev pub same_node : Option Node → Node → Bool
same_node None n = false
same_node (Some m) n = m.0 == n.0

-- ---- locals
-- the innermost local with the name, and its index
abbrev pub found_from : ℕ → List Local → ℕ → Option (ℕ × Local) → Option (ℕ × Local)
found_from i [] x best = best
found_from i (l ∷ ls) x best = found_from (suc i) ls x (cond (l.name == x) (Some (i, l)) best)

abbrev pub local_of : List Local → ℕ → Option (ℕ × Local)
local_of ls x = found_from 0 ls x None

abbrev pub mention_by : LocalKind → Node → Ty → Mention
mention_by local_kind.Constant n t = mentions.Constant n t
mention_by local_kind.Variable n t = mentions.Variable n
mention_by local_kind.InOut n t = mentions.InOut n

abbrev pub local_expr : LocalKind → Node → ℕ → Ty → Node → Expr
local_expr local_kind.Constant n site t d = an_expr n site t (forms.Constant d)
local_expr local_kind.Variable n site t d = read_head n site t (heads.Variable d)
local_expr local_kind.InOut n site t d = read_head n site t (heads.Variable d)

abbrev pub is_inout : LocalKind → Bool
is_inout local_kind.InOut = true
is_inout k = false

-- where a function that doesn't escape may stand
abbrev pub lends : Use → Bool
lends uses.Kept = false
lends uses.Called = true
lends uses.Lent = true
lends uses.Unpaired = true
lends uses.Modified = false

abbrev pub modifies : Use → Bool
modifies uses.Modified = true
modifies u = false

abbrev pub local_broken : Asked → Use → Bool → Local → Ty → Option TypeKind
local_broken q u crossed l t =
    broken_unless (agrees q t) kind.Mismatch
    (broken_unless (not (l.lent && modifies u)) kind.NotAssignable
    (broken_unless (not l.lent || (lends u && not crossed)) kind.EscapingUse
    (broken_unless (not (crossed && is_inout l.kind)) kind.InoutCaptured None)))

abbrev pub local_typed : Asked → Use → Node → ℕ → Bool → Local → Ty → Judging Expr
local_typed q u n site crossed l t =
    unless_broken (local_broken q u crossed l t) n
    (λ w. typed (local_expr l.kind n site t l.node) (with_mention (mention_by l.kind l.node t) w))

abbrev pub local_known : Asked → Use → Node → ℕ → Bool → Local → Known → Judging Expr
local_known q u n site crossed l (known.Type t) = local_typed q u n site crossed l t
local_known q u n site crossed l known.Failed = depends
local_known q u n site crossed l known.Untold = untold
local_known q u n site crossed l known.Circular = depends

abbrev pub local_value : Place → Asked → Use → Node → ℕ → ℕ × Local → Judging Expr
local_value p q u n site (i, l) = local_known q u n site (nat_lt i p.outside_kept) l l.known

-- ---- globals and properties
-- a declaration whose initial value gives its type, mentioned where one that isn't behind it is given a type
abbrev pub comes_late_for : Node → Option Node → Bool
comes_late_for n None = false
comes_late_for n (Some g) = not (nat_lt n.0 g.0)

abbrev pub is_given : VariableType → Bool
is_given (source.Written k) = false
is_given (source.Given n) = true

abbrev pub comes_late : Place → Variable → Bool
comes_late p v = is_given v.ty && comes_late_for v.node p.giving

abbrev pub given_known : Option Known → Known
given_known None = known.Untold
given_known (Some k) = k

abbrev pub known_in : Declarations → VariableType → Known
known_in d (source.Written k) = k
known_in d (source.Given n) = given_known (slice_get d.given n)

abbrev pub known_type : Asked → Node → Known → Judging Ty
known_type q n (known.Type t) = need (agrees q t) kind.Mismatch n (typed t)
known_type q n known.Failed = depends
known_type q n known.Untold = untold
known_type q n known.Circular = depends

abbrev pub variable_type : Declarations → Place → Asked → Node → Variable → Judging Ty
variable_type d p q n v = need (not (comes_late p v)) kind.NeedsType n (known_type q n (known_in d v.ty))

abbrev pub variable_value : Declarations → Place → Asked → Node → Variable → (Ty → Expr) → Judging Expr
variable_value d p q n v expr w = variable_type d p q n v w ▷ (λ t. typed (expr t))

-- in its own observers a property or global is plainly stored
abbrev pub is_plain : Place → Variable → Bool
is_plain p v = same_node p.observed v.node

abbrev pub property_value : Declarations → Place → Asked → Node → ℕ → Bool → Expr → Variable → Judging Expr
property_value d p q n site plain base v = variable_value d p q n v (λ t. property_of n site t plain base v.storage)

abbrev pub global_variable : Declarations → Place → Asked → Node → ℕ → Variable → Judging Expr
global_variable d p q n site v = variable_value d p q n v (λ t. global_of n site t (is_plain p v) v.storage)

-- ---- a function as a value, by the node of its declaration and the number of its type
abbrev pub function_typed : Asked → Node → ℕ → Node → Option ℕ → Judging Expr
function_typed q n site declared None = fault kind.NotAValue n
function_typed q n site declared (Some f) = need (agrees q (ty.Func f)) kind.Mismatch n (typed (an_expr n site (ty.Func f) (forms.Function declared)))

-- ---- `self`, where a value stands
abbrev pub self_broken : Place → Asked → SelfValue → Option TypeKind
self_broken p q s =
    broken_unless (agrees q s.ty) kind.Mismatch
    (broken_unless (not (p.in_kept && s.mutable)) kind.InoutCaptured None)

-- ---- a value that is called
abbrev pub callable_as : Node → Expr → Ty → Judging Callee
callable_as n e (ty.Func f) = typed (callee.Value e f)
callable_as n e t = fault kind.NotCallable n

abbrev pub callable : Node → Expr → Judging Callee
callable n e = callable_as n e e.ty

module _ (d : Declarations) where
  abbrev pub declared_type : Ty → Option DeclaredType
  declared_type (ty.Struct k) = slice_get d.structures k
  declared_type (ty.Class k) = slice_get d.classes k
  declared_type t = None

  abbrev pub failed_by : Option DeclaredType → Bool
  failed_by None = false
  failed_by (Some s) = s.failed

  abbrev pub type_failed : Ty → Bool
  type_failed t = failed_by (declared_type t)

  abbrev pub type_node_by : Option DeclaredType → Node
  type_node_by None = node 0
  type_node_by (Some s) = s.node

  abbrev pub type_node : Ty → Node
  type_node t = type_node_by (declared_type t)

  abbrev pub member_by : Option DeclaredType → ℕ → Option Member
  member_by None x = None
  member_by (Some s) x = entry s.members x

  abbrev pub member : Ty → ℕ → Option Member
  member t x = member_by (declared_type t) x

  abbrev pub member_here : Option Ty → ℕ → Option Member
  member_here None x = None
  member_here (Some t) x = member t x

  -- ---- `self`
  abbrev pub self_mention : SelfValue → Mention
  self_mention s = cond s.mutable (mentions.InOut (type_node s.ty)) (mentions.Constant (type_node s.ty) s.ty)

  abbrev pub self_expr : Node → ℕ → SelfValue → Expr
  self_expr n site s = cond s.mutable (read_head n site s.ty (heads.Variable (type_node s.ty))) (an_expr n site s.ty (forms.Constant (type_node s.ty)))

  -- at node n, where `self` stands for the node m
  abbrev pub self_unless : Place → Asked → Node → Node → ℕ → SelfValue → Judging Expr
  self_unless p q n m site s =
      unless_broken (self_broken p q s) n
      (λ w. typed (self_expr m site s) (with_mention (self_mention s) w))

  abbrev pub self_typed : Place → Asked → Node → Node → ℕ → SelfValue → Judging Expr
  self_typed p q n m site s = cond (type_failed s.ty) depends (self_unless p q n m site s)

  abbrev pub self_by : Place → Asked → Node → Node → ℕ → Option SelfValue → Judging Expr
  self_by p q n m site None = fault kind.UnknownName n
  self_by p q n m site (Some s) = self_typed p q n m site s

  abbrev pub self_value : Place → Asked → Node → ℕ → Judging Expr
  self_value p q n site = self_by p q n n site p.this

  -- the `self` of a member that is named without a base, which is no node of the tree
  abbrev pub implied_node : Node → Node
  implied_node n = node (d.nodes + n.0)

  abbrev pub implied_self : Place → Node → ℕ → Judging Expr
  implied_self p n site = self_by p asked.Nothing n (implied_node n) site p.this

  -- ---- functions
  abbrev pub function : ℕ → Option Signature
  function k = slice_get d.functions k

  abbrev pub function_value : Asked → Node → ℕ → Option Signature → Judging Expr
  function_value q n site None = depends
  function_value q n site (Some s) = cond s.failed depends (function_typed q n site s.node s.value)

  abbrev pub method_value : Node → Option Signature → Judging Expr
  method_value n None = depends
  method_value n (Some s) = cond s.failed depends (fault kind.NotAValue n)

  -- ---- a name where a value stands
  abbrev pub symbol_value : Place → Asked → Node → ℕ → Symbol → Judging Expr
  symbol_value p q n site symbol.BasicType = fault kind.NotAValue n
  symbol_value p q n site symbol.Print = fault kind.NotAValue n
  symbol_value p q n site (symbol.Function k) = function_value q n site (function k)
  symbol_value p q n site (symbol.Type t) = cond (type_failed t) depends (fault kind.NotAValue n)
  symbol_value p q n site (symbol.Variable v) = global_variable d p q n site v

  abbrev pub global_value : Place → Asked → Node → ℕ → Option Symbol → Judging Expr
  global_value p q n site None = fault kind.UnknownName n
  global_value p q n site (Some s) = symbol_value p q n site s

  abbrev pub implied_property : Place → Asked → Node → ℕ → Variable → Expr → Judging Expr
  implied_property p q n site v this = property_value d p q n site (is_plain p v) this v

  abbrev pub implied_member : Place → Asked → Node → ℕ → Member → Judging Expr
  implied_member p q n site (members.Property v) w = implied_self p n site w ▷ implied_property p q n site v
  implied_member p q n site (members.Method k) w = method_value n (function k) w

  abbrev pub outer_value : Place → Asked → Node → ℕ → ℕ → Option Member → Judging Expr
  outer_value p q n site x (Some m) = implied_member p q n site m
  outer_value p q n site x None = global_value p q n site (entry d.symbols x)

  abbrev pub name_by : Place → Asked → Use → Node → ℕ → ℕ → Option (ℕ × Local) → Judging Expr
  name_by p q u n site x (Some l) = local_value p q u n site l
  name_by p q u n site x None = outer_value p q n site x (member_here p.members_of x)

  abbrev pub name_value : Place → Asked → Use → Node → ℕ → ℕ → Judging Expr
  name_value p q u n site x w = name_by p q u n site x (local_of w.locals x) w

  -- ---- a member of a value; `written_self` tells that the value is the word `self`
  abbrev pub member_found : Place → Asked → Node → ℕ → Bool → Expr → Option Member → Judging Expr
  member_found p q n site written_self base None = fault kind.UnknownName n
  member_found p q n site written_self base (Some (members.Property v)) = property_value d p q n site (written_self && is_plain p v) base v
  member_found p q n site written_self base (Some (members.Method k)) = method_value n (function k)

  abbrev pub member_value : Place → Asked → Node → ℕ → Bool → ℕ → Expr → Judging Expr
  member_value p q n site written_self x base = member_found p q n site written_self base (member base.ty x)

  -- ---- what is called
  abbrev pub called_function : ℕ → Option Signature → Judging Callee
  called_function k None = depends
  called_function k (Some s) = cond s.failed depends (typed (callee.Function k))

  abbrev pub called_method : ℕ → Option Signature → Expr → Judging Callee
  called_method k None base = depends
  called_method k (Some s) base = cond s.failed depends (typed (callee.Method k base))

  abbrev pub called_symbol : Place → Node → ℕ → Symbol → Judging Callee
  called_symbol p n site symbol.BasicType w = fault kind.NotCallable n w
  called_symbol p n site symbol.Print w = typed callee.Print w
  called_symbol p n site (symbol.Function k) w = called_function k (function k) w
  called_symbol p n site (symbol.Type t) w = typed (callee.Initialiser t) w
  called_symbol p n site (symbol.Variable v) w = global_variable d p asked.Nothing n site v w ▷ callable n

  abbrev pub called_global : Place → Node → ℕ → Option Symbol → Judging Callee
  called_global p n site None = fault kind.UnknownName n
  called_global p n site (Some s) = called_symbol p n site s

  abbrev pub called_implied : Place → Node → ℕ → Member → Judging Callee
  called_implied p n site (members.Property v) w = implied_self p n site w ▷ implied_property p asked.Nothing n site v ▷ callable n
  called_implied p n site (members.Method k) w = implied_self p n site w ▷ called_method k (function k)

  abbrev pub called_outer : Place → Node → ℕ → ℕ → Option Member → Judging Callee
  called_outer p n site x (Some m) = called_implied p n site m
  called_outer p n site x None = called_global p n site (entry d.symbols x)

  abbrev pub called_by : Place → Node → ℕ → ℕ → Option (ℕ × Local) → Judging Callee
  called_by p n site x (Some l) w = local_value p asked.Nothing uses.Called n site l w ▷ callable n
  called_by p n site x None w = called_outer p n site x (member_here p.members_of x) w

  abbrev pub called_name : Place → Node → ℕ → ℕ → Judging Callee
  called_name p n site x w = called_by p n site x (local_of w.locals x) w

  abbrev pub called_found : Place → Node → ℕ → Bool → Expr → Option Member → Judging Callee
  called_found p n site written_self base None w = fault kind.UnknownName n w
  called_found p n site written_self base (Some (members.Property v)) w = property_value d p asked.Nothing n site (written_self && is_plain p v) base v w ▷ callable n
  called_found p n site written_self base (Some (members.Method k)) w = called_method k (function k) base w

  abbrev pub called_member : Place → Node → ℕ → Bool → ℕ → Expr → Judging Callee
  called_member p n site written_self x base = called_found p n site written_self base (member base.ty x)
