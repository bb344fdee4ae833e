-- The declaration of a local: a node, and those of its type and its value.
use Rattle.std.proofs.Common.{◌≡◌, ℕ, suc, ◌+◌, Bool, true, false, not, cond, Option, refl, arith}
use Rattle.sx_span.specs.declared.places.Node.{Node}
use Rattle.sx_types.specs.declared.types.Ty.{Ty}
use Rattle.sx_typed.specs.declared.code.Expr.{Expr}
use Rattle.sx_scope.specs.declared.declarations.Declarations.{Declarations}
use Rattle.sx_scope.specs.declared.stop.TypeKind.TheVariants as kind
use Rattle.sx_scope.specs.declared.walk.Local.{Local}
use Rattle.sx_scope.specs.declared.walk.Place.{Place}
use Rattle.sx_scope.specs.declared.walk.Use.TheVariants as uses
use Rattle.sx_scope.specs.declared.walk.Walk.{Walk}
use Rattle.sx_scope.specs.Verdict.{Verdict, typed, Judging, ◌▷◌, both, both_by}
use Rattle.sx_scope.specs.Walks.{with_local}
use Rattle.sx_scope.specs.WrittenTypes.{is_void}
use Rattle.sx_calls.specs.Parts.{JudgedExpr}
use Rattle.sx_bodies.specs.Statements.{statement, is_taken, local_named, unless_taken, is_fresh, fresh, asked_by_written, giving_in, type_by, declared_with, known_local, local_kind_of, local_form, declared_local, is_void_option, not_void_written, local_stated, local_value, declares, local_statement}
use Rattle.sx_order.specs.Order.{Lies, since, Keeps, Spans, Stays, Takes, Anything, Anywhere}
use Rattle.sx_order.specs.Parts.{SpansExpr}
use Rattle.sx_order.proofs.Growing.{reaches-first}
use Rattle.sx_order.proofs.Spans.{▷-spans, both_by-spans, moved-spans, typed-stays, need-stays, numbered-takes, spans-to, anything}
use Rattle.sx_order.proofs.Own.{own_both-spans, first-spans}

pub either-next : (b : Bool) (w u : Walk) → (u.next ≡ w.next) × (u.literals ≡ w.literals) → ((cond b w u).next ≡ w.next) × ((cond b w u).literals ≡ w.literals)
either-next true w u h = (refl, refl)
either-next false w u h = h

-- what comes into scope is no node and no function
pub unless_taken-next : (from : ℕ) (l : Local) → Keeps (unless_taken from l)
unless_taken-next from l w = either-next (is_taken from l.name w) w (with_local l w) (refl, refl)

pub fresh-stays : {lo hi : ℕ} (d : Declarations) (from x : ℕ) (n : Node) → Lies lo hi n → Stays lo hi Anything (fresh d from x n)
fresh-stays d from x n l w e = need-stays (is_fresh d from x w) kind.Duplicate n (typed tt) l (typed-stays tt tt) w e

pub not_void_written-stays : {lo hi : ℕ} (n : Node) (t : Option Ty) → Lies lo hi n → Stays lo hi Anything (not_void_written n t)
not_void_written-stays n t l = need-stays (not (is_void_option t)) kind.Mismatch n (typed t) l (typed-stays t tt)

pub declared_with-stays : {lo hi : ℕ} (n : Node) (x : Unit {0} × (Option Ty × Expr)) → Lies lo hi n → Stays lo hi Anything (declared_with n x)
declared_with-stays n x l = need-stays (not (is_void (type_by x.1.0 x.1.1))) kind.Mismatch n (typed x.1.1) l (typed-stays x.1.1 tt)

pub declared_local-stays : {lo hi : ℕ} (constant : Bool) (n : Node) (x site : ℕ) (e : Expr) → Stays lo hi Anything (declared_local constant n x site e)
declared_local-stays constant n x site e = typed-stays (statement site (local_form constant n x e)) tt

module _ (d : Declarations) where
  pub local_value-spans : (p : Place) (x : ℕ) (written : Bool) (ty : Judging (Option Ty)) (e : JudgedExpr) (k j lo hi : ℕ) (n : Node) (w : Walk) → n.0 ≡ lo → hi ≡ k + j + suc lo → w.next ≡ suc lo →
      Takes k Anywhere ty → SpansExpr j e → Spans (since w) lo hi Anything (local_value d p x written ty e n w)
  local_value-spans p x written ty e k j lo hi n w at sum f t h =
      let mid : ℕ = k + suc lo in
      let value : (o : Option (Option Ty)) (u : Walk) → u.next ≡ mid → Spans (since u) mid hi Anything (e.value (giving_in p written n) (asked_by_written o) uses.Kept u) =
      λ o u i. anything (e.value (giving_in p written n) (asked_by_written o) uses.Kept u) (spans-to (e.value (giving_in p written n) (asked_by_written o) uses.Kept u) (omega (arith, sum)) (h.takes (giving_in p written n) (asked_by_written o) uses.Kept mid u i)) in
      let parts : (u : Walk) → u.next ≡ suc lo → Spans (since u) lo hi _ (both_by (ty u ▷ not_void_written n) (λ o. e.value (giving_in p written n) (asked_by_written o) uses.Kept)) =
      λ u i. both_by-spans {R = Anything} (ty u ▷ not_void_written n) (λ o. e.value (giving_in p written n) (asked_by_written o) uses.Kept) (omega arith) (omega (arith, sum))
      (▷-spans (ty u) (not_void_written n) (first-spans ty k lo mid u refl i t) (λ o _. not_void_written-stays n o (omega (arith, at), omega (arith, at)))) value in
      ▷-spans (both (fresh d p.outside_block x n w) (λ u. both_by (ty u ▷ not_void_written n) (λ o. e.value (giving_in p written n) (asked_by_written o) uses.Kept))) (declared_with n)
      (own_both-spans (fresh d p.outside_block x n w) (λ u. both_by (ty u ▷ not_void_written n) (λ o. e.value (giving_in p written n) (asked_by_written o) uses.Kept)) (omega (arith, sum)) (fresh-stays d p.outside_block x n (omega (arith, at), omega (arith, at)) w (reaches-first w f)) parts)
      (λ y _. declared_with-stays n y (omega (arith, at), omega (arith, at, sum)))

  pub local_statement-takes : (constant : Bool) (x site : ℕ) (written : Bool) (ty : Judging (Option Ty)) (e : JudgedExpr) (k j : ℕ) (p : Place) → Takes k Anywhere ty → SpansExpr j e → Takes (suc (k + j)) Anywhere (local_statement d constant x site written ty e p)
  local_statement-takes constant x site written ty e k j p t h =
      numbered-takes Anywhere (k + j) (λ n w. declares p x constant n (local_stated d p x ty n w) (local_value d p x written ty e n w) ▷ declared_local constant n x site)
      (λ lo hi n at sum w f.
      let v : Verdict Expr = local_value d p x written ty e n w in
      let s : Option Ty = local_stated d p x ty n w in
      ▷-spans (declares p x constant n s v) (declared_local constant n x site)
      (moved-spans (unless_taken p.outside_block (local_named x n (local_kind_of constant) false (known_local s v))) v (λ u. unless_taken-next p.outside_block (local_named x n (local_kind_of constant) false (known_local s v)) u)
      (local_value-spans p x written ty e k j lo hi n w at sum f t h))
      (λ y _. declared_local-stays constant n x site y))
