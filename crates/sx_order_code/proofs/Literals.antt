-- A closure literal: a node, and those of its signature and of its statements.
use Rattle.std.proofs.Common.{◌≡◌, ℕ, suc, ◌+◌, ◌&&◌, Bool, not, drop, length, Option, List, Result, Ok, Err, refl, subst, arith}
use Rattle.sx_span.specs.declared.places.Node.{Node}
use Rattle.sx_types.specs.declared.types.FunctionType.{FunctionType}
use Rattle.sx_types.specs.declared.types.Ty.{Ty}
use Rattle.sx_typed.specs.declared.code.Expr.{Expr}
use Rattle.sx_typed.specs.declared.program.Function.{Function}
use Rattle.sx_typed.specs.declared.program.Mention.{Mention}
use Rattle.sx_scope.specs.declared.declarations.Declarations.{Declarations}
use Rattle.sx_scope.specs.declared.stop.TypeKind.{TypeKind}
use Rattle.sx_scope.specs.declared.stop.TypeKind.TheVariants as kind
use Rattle.sx_scope.specs.declared.walk.Asked.{Asked}
use Rattle.sx_scope.specs.declared.walk.Asked.TheVariants as asked
use Rattle.sx_scope.specs.declared.walk.Gives.TheVariants as gives
use Rattle.sx_scope.specs.declared.walk.Place.{Place}
use Rattle.sx_scope.specs.declared.walk.Use.{Use}
use Rattle.sx_scope.specs.declared.walk.Walk.{Walk}
use Rattle.sx_scope.specs.Verdict.{Verdict, typed, untold, depends, fails, Judging, ◌▷◌, both_by, moved}
use Rattle.sx_scope.specs.WrittenTypes.{number_of}
use Rattle.sx_calls.specs.Parts.{JudgedStatement}
use Rattle.sx_bodies.specs.Statements.{body, lacks_return}
use Rattle.sx_bodies.specs.Literals.{JudgedSignature, closed, LiteralParts, inside_literal, gives_by, escapes, literal_function, literal_type, literal_numbered, are_narrow, parameter_words, mention_words, where_it_fits, unknown_literal, number_fitting, untold_breaks, untold_literal, narrow_number, literal_number, literal_made, literal_by, parameters, result, literal_parts, literal}
use Rattle.sx_order.specs.Order.{Lies, starting, since, Stands, Spans, Stays, Takes, Anything, Anywhere, Within, IsAt, Each}
use Rattle.sx_order.specs.Parts.{SpanStatements}
use Rattle.sx_order.proofs.Growing.{stands-added, stands-before}
use Rattle.sx_order.proofs.Spans.{▷-adds, sooner, both-spans, both_by-spans, moved-spans, fault-stays, typed-stays, untold-stays, need-stays, need_narrow-stays, unless_broken-stays, numbered-adds, at-within, anything}
use Rattle.sx_order_code.specs.Signatures.{SpansSignature}
use Rattle.sx_order.proofs.Own.{first-spans, later-spans}
use Rattle.sx_order_code.proofs.Parameters.{parameters-takes, result-takes}
use Rattle.sx_order_code.proofs.Statements.{body-takes}

pub where_it_fits-stays : {A B : Type 0} {lo hi : ℕ} {Q : B → Type 0} (r : Result A TypeKind) (n : Node) (m : A → Judging B) → Lies lo hi n → ((a : A) → Stays lo hi Q (m a)) → Stays lo hi Q (where_it_fits r n m)
where_it_fits-stays (Ok a) n m l h w e = h a w e
where_it_fits-stays (Err k) n m l h w e = fault-stays k n l w e

pub unknown_literal-stays : {lo hi : ℕ} {Q : Expr → Type 0} (n : Node) (lacking : Bool) → Lies lo hi n → Stays lo hi Q (unknown_literal n lacking)
unknown_literal-stays n lacking l = need-stays (not lacking) kind.MissingReturn n untold l untold-stays

-- the literal comes before those that stand in it
pub literal_numbered-adds : {lo hi : ℕ} (u : Use) (n : Node) (site literals : ℕ) (ms : List Mention) (x : LiteralParts) (k : ℕ) (fs : List Function) (w : Walk) → literals ≡ length fs →
    Stands (starting fs (suc n.0)) hi w → Spans (starting fs n.0) lo hi (IsAt n) (literal_numbered u n site literals ms x k w)
literal_numbered-adds u n site literals ms x k fs w e h = record { holds = (stands-added n.0 literals (literal_function (escapes u) n ms x) w refl e h, refl) }

module _ (d : Declarations) where
  pub untold_literal-stays : {lo hi : ℕ} {Q : Expr → Type 0} (q : Asked) (n : Node) (g : JudgedSignature) → Lies lo hi n → Stays lo hi Q (untold_literal d q n g)
  untold_literal-stays q n g l = unless_broken-stays (untold_breaks d q g) n untold l untold-stays

  pub narrow_number-stays : {lo hi : ℕ} (n : Node) (ms : List Mention) (f : FunctionType) (k : ℕ) → Lies lo hi n → Stays lo hi Anything (narrow_number d n ms f k)
  narrow_number-stays n ms f k l =
      need_narrow-stays (are_narrow (parameter_words d.types) f.parameters && are_narrow (mention_words d.types) ms) n (typed k) l (typed-stays k tt)

  pub literal_number-stays : {lo hi : ℕ} (q : Asked) (n : Node) (lacking : Bool) (ms : List Mention) (f : FunctionType) → Lies lo hi n → Stays lo hi Anything (literal_number d q n lacking ms f)
  literal_number-stays q n lacking ms f l =
      where_it_fits-stays (number_fitting q lacking f (number_of d.types.functions f)) n (narrow_number d n ms f) l (λ k. narrow_number-stays n ms f k l)

  -- behind the parts of the literal, which begin behind its node
  pub numbered_literal-adds : {lo hi : ℕ} (q : Asked) (u : Use) (n : Node) (site mentions literals : ℕ) (lacking : Bool) (x : LiteralParts) (fs : List Function) (w : Walk) → Lies lo hi n → literals ≡ length fs →
      Stands (starting fs (suc n.0)) hi w →
      Spans (starting fs n.0) lo hi (IsAt n) (literal_number d q n lacking (drop mentions w.mentions) (literal_type x) w ▷ literal_numbered u n site literals (drop mentions w.mentions) x)
  numbered_literal-adds q u n site mentions literals lacking x fs w l e h =
      ▷-adds fs n.0 (literal_number d q n lacking (drop mentions w.mentions) (literal_type x) w) (literal_numbered u n site literals (drop mentions w.mentions) x)
      (literal_number-stays q n lacking (drop mentions w.mentions) (literal_type x) l w (record { start = starting fs (suc n.0); stands = h }))
      (λ k _ v g. literal_numbered-adds u n site literals (drop mentions w.mentions) x k fs v e g)

  pub literal_made-adds : {lo hi : ℕ} (q : Asked) (u : Use) (n : Node) (site mentions literals : ℕ) (lacking : Bool) (x : LiteralParts) (fs : List Function) (w : Walk) → Lies lo hi n → literals ≡ length fs →
      Stands (starting fs (suc n.0)) hi w → Spans (starting fs n.0) lo hi (IsAt n) (literal_made d q u n site mentions literals lacking x w)
  literal_made-adds asked.Unknown u n site mentions literals lacking x fs w l e h =
      sooner fs (suc n.0) n.0 (unknown_literal n lacking w) (omega arith) (unknown_literal-stays n lacking l w (record { start = starting fs (suc n.0); stands = h }))
  literal_made-adds asked.Nothing u n site mentions literals lacking x fs w l e h = numbered_literal-adds asked.Nothing u n site mentions literals lacking x fs w l e h
  literal_made-adds asked.Printable u n site mentions literals lacking x fs w l e h = numbered_literal-adds asked.Printable u n site mentions literals lacking x fs w l e h
  literal_made-adds (asked.Type t) u n site mentions literals lacking x fs w l e h = numbered_literal-adds (asked.Type t) u n site mentions literals lacking x fs w l e h

  pub literal_by-spans : {lo hi : ℕ} (q : Asked) (u : Use) (n : Node) (site mentions literals : ℕ) (g : JudgedSignature) (ss : List JudgedStatement) (fs : List Function) (v : Verdict LiteralParts) → Lies lo hi n →
      literals ≡ length fs → Spans (starting fs (suc n.0)) lo hi Anything v → Spans (starting fs n.0) lo hi (IsAt n) (literal_by d q u n site mentions literals g ss v)
  literal_by-spans q u n site mentions literals g ss fs (typed x w) l e h = literal_made-adds q u n site mentions literals (lacks_return (gives.Type x.1.0) ss) x fs w l e h.holds.0
  literal_by-spans q u n site mentions literals g ss fs (untold w) l e h =
      sooner fs (suc n.0) n.0 (untold_literal d q n g w) (omega arith) (untold_literal-stays q n g l w (record { start = starting fs (suc n.0); stands = h.holds }))
  literal_by-spans q u n site mentions literals g ss fs (depends w) l e h = record { holds = stands-before fs (suc n.0) n.0 w (omega arith) h.holds }
  literal_by-spans q u n site mentions literals g ss fs (fails f others w) l e h = record { holds = (stands-before fs (suc n.0) n.0 w (omega arith) h.holds.0, h.holds.1) }

  pub literal_parts-takes : (p : Place) (q : Asked) (u : Use) (g : JudgedSignature) (ss : List JudgedStatement) (outside n m : ℕ) → SpansSignature n g → SpanStatements m ss → Takes (n + m) Anywhere (literal_parts d p q u g ss outside)
  literal_parts-takes p q u g ss outside n m s t lo w e =
      let (k, j, sum, ps, r) = s in
      let hi : ℕ = n + m + lo in
      let one : ℕ = k + lo in
      let two : ℕ = j + one in
      let inner : Option Ty → Place = λ o. inside_literal p u outside (gives_by o) in
      let statements : (o : Option Ty) (v : Walk) → v.next ≡ two → Spans (since v) two hi Anything (body (inner o) ss v) = λ o v i. later-spans (body (inner o) ss) m two hi v (omega (arith, sum)) i (body-takes (inner o) ss m t) in
      let behind : (v : Walk) → v.next ≡ one → Spans (since v) one hi (Each Anything Anything) (both_by (result d q g v) (λ o. body (inner o) ss)) =
      λ v i. both_by-spans {Q = Anything} {R = Anything} (result d q g v) (λ o. body (inner o) ss) (omega arith) (omega (arith, sum)) (result-takes d q g j r one v i) statements in
      anything (literal_parts d p q u g ss outside w)
      (both-spans {Q = Anything} {R = Each Anything Anything} (parameters d q g w) (λ v. both_by (result d q g v) (λ o. body (inner o) ss)) (omega arith) (omega (arith, sum)) (parameters-takes d q g k ps lo w e) behind)

  pub literal-takes : (site : ℕ) (g : JudgedSignature) (ss : List JudgedStatement) (n m : ℕ) (p : Place) (q : Asked) (u : Use) → SpansSignature n g → SpanStatements m ss → Takes (suc (n + m)) Within (literal d site g ss p q u)
  literal-takes site g ss n m p q u s t =
      numbered-adds Within (n + m)
      (λ a w. literal_by d q u a site (length w.mentions) (length w.literals) g ss (moved (closed a (length w.locals) (length w.mentions)) (literal_parts d p q u g ss (length w.locals) w)))
      (λ lo hi a at sum w e.
      let l : Lies lo hi a = (omega (arith, at), omega (arith, at, sum)) in
      let parts : Verdict LiteralParts = literal_parts d p q u g ss (length w.locals) w in
      let v : Verdict LiteralParts = moved (closed a (length w.locals) (length w.mentions)) parts in
      let first : Spans (since w) lo hi Anything v = moved-spans (closed a (length w.locals) (length w.mentions)) parts (λ x. (refl, refl)) (first-spans (literal_parts d p q u g ss (length w.locals)) (n + m) lo hi w sum e (literal_parts-takes p q u g ss (length w.locals) n m s t)) in
      let begins : w.next ≡ suc a.0 = omega (arith, at, e) in
      let inner : Spans (starting w.literals (suc a.0)) lo hi Anything v = subst (λ (k : ℕ). Spans (starting w.literals k) lo hi Anything v) begins first in
      let whole : Verdict Expr = literal_by d q u a site (length w.mentions) (length w.literals) g ss v in
      subst (λ (k : ℕ). Spans (starting w.literals k) lo hi (Within lo hi) whole) at
      (at-within a whole l (literal_by-spans q u a site (length w.mentions) (length w.literals) g ss w.literals v l refl inner)))
