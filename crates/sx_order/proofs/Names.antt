-- A name or a member where a value stands takes no node, and fails only where it stands.
use Rattle.std.proofs.Common.{ℕ, Bool, not, ◌&&◌, Option, Some, None, refl}
use Rattle.std.specs.Prelude.{nat_lt}
use Rattle.sx_span.specs.declared.places.Node.{Node}
use Rattle.sx_types.specs.declared.types.Ty.{Ty}
use Rattle.sx_types.specs.declared.types.Ty.TheVariants as ty
use Rattle.sx_typed.specs.declared.code.Expr.{Expr}
use Rattle.sx_typed.specs.declared.code.Form.TheVariants as forms
use Rattle.sx_scope.specs.declared.stop.TypeKind.TheVariants as kind
use Rattle.sx_scope.specs.declared.declarations.Declarations.{Declarations}
use Rattle.sx_scope.specs.declared.declarations.Known.{Known}
use Rattle.sx_scope.specs.declared.declarations.Known.TheVariants as known
use Rattle.sx_scope.specs.declared.declarations.Member.{Member}
use Rattle.sx_scope.specs.declared.declarations.Member.TheVariants as members
use Rattle.sx_scope.specs.declared.declarations.Signature.{Signature}
use Rattle.sx_scope.specs.declared.declarations.Symbol.{Symbol}
use Rattle.sx_scope.specs.declared.declarations.Symbol.TheVariants as symbol
use Rattle.sx_scope.specs.declared.declarations.Variable.{Variable}
use Rattle.sx_scope.specs.declared.walk.Asked.{Asked}
use Rattle.sx_scope.specs.declared.walk.Asked.TheVariants as asked
use Rattle.sx_scope.specs.declared.walk.Local.{Local}
use Rattle.sx_scope.specs.declared.walk.Place.{Place}
use Rattle.sx_scope.specs.declared.walk.SelfValue.{SelfValue}
use Rattle.sx_scope.specs.declared.walk.Use.{Use}
use Rattle.sx_scope.specs.Tables.{entry}
use Rattle.sx_scope.specs.Verdict.{typed, depends, fault}
use Rattle.sx_scope.specs.Walks.{with_mention}
use Rattle.sx_scope.specs.Paths.{an_expr, property_of, global_of}
use Rattle.sx_scope.specs.Names.{agrees, local_broken, mention_by, local_expr, local_typed, local_known, local_value, local_of, comes_late, known_in, known_type, variable_type, variable_value, is_plain, property_value, global_variable, function_typed, self_broken, type_failed, self_mention, self_expr, self_unless, self_typed, self_by, self_value, implied_node, implied_self, function, function_value, method_value, symbol_value, global_value, implied_property, implied_member, outer_value, member_here, member, name_by, name_value, member_found, member_value}
use Rattle.sx_order.specs.Order.{Lies, Stays, Anything, IsAt}
use Rattle.sx_order.proofs.Growing.{stands-same}
use Rattle.sx_order.proofs.Spans.{▷-spans, fault-stays, typed-stays, untold-stays, depends-stays, need-stays, unless_broken-stays, cond-stays}
use Rattle.sx_order.proofs.Values.{local_expr-at, self_expr-at, property_of-at, global_of-at}

-- ---- locals
pub local_typed-stays : {lo hi : ℕ} (q : Asked) (u : Use) (n : Node) (site : ℕ) (crossed : Bool) (l : Local) (t : Ty) → Lies lo hi n → Stays lo hi (IsAt n) (local_typed q u n site crossed l t)
local_typed-stays q u n site crossed l t i =
    unless_broken-stays (local_broken q u crossed l t) n (λ w. typed (local_expr l.kind n site t l.node) (with_mention (mention_by l.kind l.node t) w)) i
    (λ w e. record { holds = (stands-same w (with_mention (mention_by l.kind l.node t) w) refl refl e.stands, local_expr-at l.kind n site t l.node) })

pub local_known-stays : {lo hi : ℕ} (q : Asked) (u : Use) (n : Node) (site : ℕ) (crossed : Bool) (l : Local) (k : Known) → Lies lo hi n → Stays lo hi (IsAt n) (local_known q u n site crossed l k)
local_known-stays q u n site crossed l (known.Type t) i = local_typed-stays q u n site crossed l t i
local_known-stays q u n site crossed l known.Failed i = depends-stays
local_known-stays q u n site crossed l known.Untold i = untold-stays
local_known-stays q u n site crossed l known.Circular i = depends-stays

pub local_value-stays : {lo hi : ℕ} (p : Place) (q : Asked) (u : Use) (n : Node) (site : ℕ) (x : ℕ × Local) → Lies lo hi n → Stays lo hi (IsAt n) (local_value p q u n site x)
local_value-stays p q u n site x i = local_known-stays q u n site (nat_lt x.0 p.outside_kept) x.1 x.1.known i

-- ---- globals and properties
pub known_type-stays : {lo hi : ℕ} (q : Asked) (n : Node) (k : Known) → Lies lo hi n → Stays lo hi Anything (known_type q n k)
known_type-stays q n (known.Type t) i = need-stays (agrees q t) kind.Mismatch n (typed t) i (typed-stays t tt)
known_type-stays q n known.Failed i = depends-stays
known_type-stays q n known.Untold i = untold-stays
known_type-stays q n known.Circular i = depends-stays

pub variable_type-stays : {lo hi : ℕ} (d : Declarations) (p : Place) (q : Asked) (n : Node) (v : Variable) → Lies lo hi n → Stays lo hi Anything (variable_type d p q n v)
variable_type-stays d p q n v i =
    need-stays (not (comes_late p v)) kind.NeedsType n (known_type q n (known_in d v.ty)) i (known_type-stays q n (known_in d v.ty) i)

pub variable_value-stays : {lo hi : ℕ} (d : Declarations) (p : Place) (q : Asked) (n : Node) (v : Variable) (expr : Ty → Expr) → ((t : Ty) → IsAt n (expr t)) → Lies lo hi n → Stays lo hi (IsAt n) (variable_value d p q n v expr)
variable_value-stays d p q n v expr at i w e =
    ▷-spans (variable_type d p q n v w) (λ t. typed (expr t)) (variable_type-stays d p q n v i w e) (λ t _. typed-stays (expr t) (at t))

pub property_value-stays : {lo hi : ℕ} (d : Declarations) (p : Place) (q : Asked) (n : Node) (site : ℕ) (plain : Bool) (base : Expr) (v : Variable) → Lies lo hi n → Stays lo hi (IsAt n) (property_value d p q n site plain base v)
property_value-stays d p q n site plain base v i =
    variable_value-stays d p q n v (λ t. property_of n site t plain base v.storage) (λ t. property_of-at n site t plain base v.storage) i

pub global_variable-stays : {lo hi : ℕ} (d : Declarations) (p : Place) (q : Asked) (n : Node) (site : ℕ) (v : Variable) → Lies lo hi n → Stays lo hi (IsAt n) (global_variable d p q n site v)
global_variable-stays d p q n site v i =
    variable_value-stays d p q n v (λ t. global_of n site t (is_plain p v) v.storage) (λ t. global_of-at n site t (is_plain p v) v.storage) i

-- ---- functions as values
pub function_typed-stays : {lo hi : ℕ} (q : Asked) (n : Node) (site : ℕ) (m : Node) (o : Option ℕ) → Lies lo hi n → Stays lo hi (IsAt n) (function_typed q n site m o)
function_typed-stays q n site m None i = fault-stays kind.NotAValue n i
function_typed-stays q n site m (Some f) i =
    let e : Expr = an_expr n site (ty.Func f) (forms.Function m) in
    need-stays (agrees q (ty.Func f)) kind.Mismatch n (typed e) i (typed-stays e refl)

module _ (d : Declarations) where
  -- ---- `self`, at node n for node m
  pub self_unless-stays : {lo hi : ℕ} (p : Place) (q : Asked) (n m : Node) (site : ℕ) (s : SelfValue) → Lies lo hi n → Stays lo hi (IsAt m) (self_unless d p q n m site s)
  self_unless-stays p q n m site s i =
      unless_broken-stays (self_broken p q s) n (λ w. typed (self_expr d m site s) (with_mention (self_mention d s) w)) i
      (λ w e. record { holds = (stands-same w (with_mention (self_mention d s) w) refl refl e.stands, self_expr-at d m site s) })

  pub self_typed-stays : {lo hi : ℕ} (p : Place) (q : Asked) (n m : Node) (site : ℕ) (s : SelfValue) → Lies lo hi n → Stays lo hi (IsAt m) (self_typed d p q n m site s)
  self_typed-stays p q n m site s i = cond-stays (type_failed d s.ty) depends (self_unless d p q n m site s) depends-stays (self_unless-stays p q n m site s i)

  pub self_by-stays : {lo hi : ℕ} (p : Place) (q : Asked) (n m : Node) (site : ℕ) (o : Option SelfValue) → Lies lo hi n → Stays lo hi (IsAt m) (self_by d p q n m site o)
  self_by-stays p q n m site None i = fault-stays kind.UnknownName n i
  self_by-stays p q n m site (Some s) i = self_typed-stays p q n m site s i

  pub self_value-stays : {lo hi : ℕ} (p : Place) (q : Asked) (n : Node) (site : ℕ) → Lies lo hi n → Stays lo hi (IsAt n) (self_value d p q n site)
  self_value-stays p q n site i = self_by-stays p q n n site p.this i

  pub implied_self-stays : {lo hi : ℕ} (p : Place) (n : Node) (site : ℕ) → Lies lo hi n → Stays lo hi (IsAt (implied_node d n)) (implied_self d p n site)
  implied_self-stays p n site i = self_by-stays p asked.Nothing n (implied_node d n) site p.this i

  -- ---- functions
  pub function_value-stays : {lo hi : ℕ} (q : Asked) (n : Node) (site : ℕ) (o : Option Signature) → Lies lo hi n → Stays lo hi (IsAt n) (function_value d q n site o)
  function_value-stays q n site None i = depends-stays
  function_value-stays q n site (Some s) i = cond-stays s.failed depends (function_typed q n site s.node s.value) depends-stays (function_typed-stays q n site s.node s.value i)

  pub method_value-stays : {lo hi : ℕ} (n : Node) (o : Option Signature) → Lies lo hi n → Stays lo hi (IsAt n) (method_value d n o)
  method_value-stays n None i = depends-stays
  method_value-stays n (Some s) i = cond-stays s.failed depends (fault kind.NotAValue n) depends-stays (fault-stays kind.NotAValue n i)

  -- ---- a name
  pub symbol_value-stays : {lo hi : ℕ} (p : Place) (q : Asked) (n : Node) (site : ℕ) (s : Symbol) → Lies lo hi n → Stays lo hi (IsAt n) (symbol_value d p q n site s)
  symbol_value-stays p q n site symbol.BasicType i = fault-stays kind.NotAValue n i
  symbol_value-stays p q n site symbol.Print i = fault-stays kind.NotAValue n i
  symbol_value-stays p q n site (symbol.Function k) i = function_value-stays q n site (function d k) i
  symbol_value-stays p q n site (symbol.Type t) i = cond-stays (type_failed d t) depends (fault kind.NotAValue n) depends-stays (fault-stays kind.NotAValue n i)
  symbol_value-stays p q n site (symbol.Variable v) i = global_variable-stays d p q n site v i

  pub global_value-stays : {lo hi : ℕ} (p : Place) (q : Asked) (n : Node) (site : ℕ) (o : Option Symbol) → Lies lo hi n → Stays lo hi (IsAt n) (global_value d p q n site o)
  global_value-stays p q n site None i = fault-stays kind.UnknownName n i
  global_value-stays p q n site (Some s) i = symbol_value-stays p q n site s i

  pub implied_member-stays : {lo hi : ℕ} (p : Place) (q : Asked) (n : Node) (site : ℕ) (m : Member) → Lies lo hi n → Stays lo hi (IsAt n) (implied_member d p q n site m)
  implied_member-stays p q n site (members.Property v) i w e =
      ▷-spans (implied_self d p n site w) (implied_property d p q n site v) (implied_self-stays p n site i w e) (λ this _. property_value-stays d p q n site (is_plain p v) this v i)
  implied_member-stays p q n site (members.Method k) i w e = method_value-stays n (function d k) i w e

  pub outer_value-stays : {lo hi : ℕ} (p : Place) (q : Asked) (n : Node) (site x : ℕ) (o : Option Member) → Lies lo hi n → Stays lo hi (IsAt n) (outer_value d p q n site x o)
  outer_value-stays p q n site x (Some m) i = implied_member-stays p q n site m i
  outer_value-stays p q n site x None i = global_value-stays p q n site (entry d.symbols x) i

  pub name_by-stays : {lo hi : ℕ} (p : Place) (q : Asked) (u : Use) (n : Node) (site x : ℕ) (o : Option (ℕ × Local)) → Lies lo hi n → Stays lo hi (IsAt n) (name_by d p q u n site x o)
  name_by-stays p q u n site x (Some l) i = local_value-stays p q u n site l i
  name_by-stays p q u n site x None i = outer_value-stays p q n site x (member_here d p.members_of x) i

  pub name_value-stays : {lo hi : ℕ} (p : Place) (q : Asked) (u : Use) (n : Node) (site x : ℕ) → Lies lo hi n → Stays lo hi (IsAt n) (name_value d p q u n site x)
  name_value-stays p q u n site x i w e = name_by-stays p q u n site x (local_of w.locals x) i w e

  -- ---- a member
  pub member_found-stays : {lo hi : ℕ} (p : Place) (q : Asked) (n : Node) (site : ℕ) (written_self : Bool) (base : Expr) (o : Option Member) → Lies lo hi n → Stays lo hi (IsAt n) (member_found d p q n site written_self base o)
  member_found-stays p q n site written_self base None i = fault-stays kind.UnknownName n i
  member_found-stays p q n site written_self base (Some (members.Property v)) i = property_value-stays d p q n site (written_self && is_plain p v) base v i
  member_found-stays p q n site written_self base (Some (members.Method k)) i = method_value-stays n (function d k) i

  pub member_value-stays : {lo hi : ℕ} (p : Place) (q : Asked) (n : Node) (site : ℕ) (written_self : Bool) (x : ℕ) (base : Expr) → Lies lo hi n → Stays lo hi (IsAt n) (member_value d p q n site written_self x base)
  member_value-stays p q n site written_self x base i = member_found-stays p q n site written_self base (member d base.ty x) i
