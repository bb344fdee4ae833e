-- What is called takes no node, and fails only where it stands.
use Rattle.std.proofs.Common.{ℕ, Bool, ◌&&◌, Option, Some, None}
use Rattle.sx_span.specs.declared.places.Node.{Node}
use Rattle.sx_types.specs.declared.types.Ty.{Ty}
use Rattle.sx_types.specs.declared.types.Ty.TheVariants as ty
use Rattle.sx_typed.specs.declared.code.Expr.{Expr}
use Rattle.sx_scope.specs.declared.stop.TypeKind.TheVariants as kind
use Rattle.sx_scope.specs.declared.declarations.Declarations.{Declarations}
use Rattle.sx_scope.specs.declared.declarations.Member.{Member}
use Rattle.sx_scope.specs.declared.declarations.Member.TheVariants as members
use Rattle.sx_scope.specs.declared.declarations.Signature.{Signature}
use Rattle.sx_scope.specs.declared.declarations.Symbol.{Symbol}
use Rattle.sx_scope.specs.declared.declarations.Symbol.TheVariants as symbol
use Rattle.sx_scope.specs.declared.walk.Asked.TheVariants as asked
use Rattle.sx_scope.specs.declared.walk.Callee.TheVariants as callee
use Rattle.sx_scope.specs.declared.walk.Local.{Local}
use Rattle.sx_scope.specs.declared.walk.Place.{Place}
use Rattle.sx_scope.specs.declared.walk.Use.TheVariants as uses
use Rattle.sx_scope.specs.Tables.{entry}
use Rattle.sx_scope.specs.Verdict.{typed, depends, ◌▷◌}
use Rattle.sx_scope.specs.Names.{local_value, local_of, is_plain, property_value, global_variable, callable_as, callable, implied_self, implied_property, function, member_here, member, called_function, called_method, called_symbol, called_global, called_implied, called_outer, called_by, called_name, called_found, called_member}
use Rattle.sx_order.specs.Order.{Lies, Stays, Anything, IsAt}
use Rattle.sx_order.proofs.Spans.{▷-spans, fault-stays, typed-stays, depends-stays, cond-stays}
use Rattle.sx_order.proofs.Names.{local_value-stays, property_value-stays, global_variable-stays, implied_self-stays}

pub callable_as-stays : {lo hi : ℕ} (n : Node) (e : Expr) (t : Ty) → Lies lo hi n → Stays lo hi Anything (callable_as n e t)
callable_as-stays n e (ty.Func f) i = typed-stays (callee.Value e f) tt
callable_as-stays n e ty.Int i = fault-stays kind.NotCallable n i
callable_as-stays n e ty.Bool i = fault-stays kind.NotCallable n i
callable_as-stays n e ty.Void i = fault-stays kind.NotCallable n i
callable_as-stays n e ty.Array i = fault-stays kind.NotCallable n i
callable_as-stays n e (ty.Struct k) i = fault-stays kind.NotCallable n i
callable_as-stays n e (ty.Class k) i = fault-stays kind.NotCallable n i

pub callable-stays : {lo hi : ℕ} (n : Node) (e : Expr) → Lies lo hi n → Stays lo hi Anything (callable n e)
callable-stays n e i = callable_as-stays n e e.ty i

module _ (d : Declarations) where
  pub called_function-stays : {lo hi : ℕ} (k : ℕ) (o : Option Signature) → Stays lo hi Anything (called_function d k o)
  called_function-stays k None = depends-stays
  called_function-stays k (Some s) = cond-stays s.failed depends (typed (callee.Function k)) depends-stays (typed-stays (callee.Function k) tt)

  pub called_method-stays : {lo hi : ℕ} (k : ℕ) (o : Option Signature) (base : Expr) → Stays lo hi Anything (called_method d k o base)
  called_method-stays k None base = depends-stays
  called_method-stays k (Some s) base = cond-stays s.failed depends (typed (callee.Method k base)) depends-stays (typed-stays (callee.Method k base) tt)

  pub called_symbol-stays : {lo hi : ℕ} (p : Place) (n : Node) (site : ℕ) (s : Symbol) → Lies lo hi n → Stays lo hi Anything (called_symbol d p n site s)
  called_symbol-stays p n site symbol.BasicType i w e = fault-stays kind.NotCallable n i w e
  called_symbol-stays p n site symbol.Print i w e = typed-stays callee.Print tt w e
  called_symbol-stays p n site (symbol.Function k) i w e = called_function-stays k (function d k) w e
  called_symbol-stays p n site (symbol.Type t) i w e = typed-stays (callee.Initialiser t) tt w e
  called_symbol-stays p n site (symbol.Variable v) i w e =
      ▷-spans (global_variable d p asked.Nothing n site v w) (callable n) (global_variable-stays d p asked.Nothing n site v i w e) (λ x _. callable-stays n x i)

  pub called_global-stays : {lo hi : ℕ} (p : Place) (n : Node) (site : ℕ) (o : Option Symbol) → Lies lo hi n → Stays lo hi Anything (called_global d p n site o)
  called_global-stays p n site None i = fault-stays kind.UnknownName n i
  called_global-stays p n site (Some s) i = called_symbol-stays p n site s i

  pub called_implied-stays : {lo hi : ℕ} (p : Place) (n : Node) (site : ℕ) (m : Member) → Lies lo hi n → Stays lo hi Anything (called_implied d p n site m)
  called_implied-stays p n site (members.Property v) i w e =
      ▷-spans (implied_self d p n site w ▷ implied_property d p asked.Nothing n site v) (callable n)
      (▷-spans {R = IsAt n} (implied_self d p n site w) (implied_property d p asked.Nothing n site v) (implied_self-stays d p n site i w e) (λ this _. property_value-stays d p asked.Nothing n site (is_plain p v) this v i))
      (λ x _. callable-stays n x i)
  called_implied-stays p n site (members.Method k) i w e =
      ▷-spans (implied_self d p n site w) (called_method d k (function d k)) (implied_self-stays d p n site i w e) (λ base _. called_method-stays k (function d k) base)

  pub called_outer-stays : {lo hi : ℕ} (p : Place) (n : Node) (site x : ℕ) (o : Option Member) → Lies lo hi n → Stays lo hi Anything (called_outer d p n site x o)
  called_outer-stays p n site x (Some m) i = called_implied-stays p n site m i
  called_outer-stays p n site x None i = called_global-stays p n site (entry d.symbols x) i

  pub called_by-stays : {lo hi : ℕ} (p : Place) (n : Node) (site x : ℕ) (o : Option (ℕ × Local)) → Lies lo hi n → Stays lo hi Anything (called_by d p n site x o)
  called_by-stays p n site x (Some l) i w e =
      ▷-spans (local_value p asked.Nothing uses.Called n site l w) (callable n) (local_value-stays p asked.Nothing uses.Called n site l i w e) (λ y _. callable-stays n y i)
  called_by-stays p n site x None i w e = called_outer-stays p n site x (member_here d p.members_of x) i w e

  pub called_name-stays : {lo hi : ℕ} (p : Place) (n : Node) (site x : ℕ) → Lies lo hi n → Stays lo hi Anything (called_name d p n site x)
  called_name-stays p n site x i w e = called_by-stays p n site x (local_of w.locals x) i w e

  pub called_found-stays : {lo hi : ℕ} (p : Place) (n : Node) (site : ℕ) (written_self : Bool) (base : Expr) (o : Option Member) → Lies lo hi n → Stays lo hi Anything (called_found d p n site written_self base o)
  called_found-stays p n site written_self base None i w e = fault-stays kind.UnknownName n i w e
  called_found-stays p n site written_self base (Some (members.Property v)) i w e =
      ▷-spans (property_value d p asked.Nothing n site (written_self && is_plain p v) base v w) (callable n)
      (property_value-stays d p asked.Nothing n site (written_self && is_plain p v) base v i w e) (λ x _. callable-stays n x i)
  called_found-stays p n site written_self base (Some (members.Method k)) i w e = called_method-stays k (function d k) base w e

  pub called_member-stays : {lo hi : ℕ} (p : Place) (n : Node) (site : ℕ) (written_self : Bool) (x : ℕ) (base : Expr) → Lies lo hi n → Stays lo hi Anything (called_member d p n site written_self x base)
  called_member-stays p n site written_self x base i = called_found-stays p n site written_self base (member d base.ty x) i
