-- The signature of a closure literal: each parameter is a node, and has those of its type.
use Rattle.std.proofs.Common.{◌≡◌, ℕ, suc, ◌+◌, ◌≤◌, Bool, not, List, [], ◌∷◌, ◌++◌, map, length, Option, Some, None, refl, sym, arith}
use Rattle.sx_span.specs.declared.places.Node.{Node}
use Rattle.sx_types.specs.declared.types.FunctionParameter.{FunctionParameter}
use Rattle.sx_types.specs.declared.types.FunctionType.{FunctionType}
use Rattle.sx_types.specs.declared.types.Ty.{Ty}
use Rattle.sx_types.specs.declared.types.Ty.TheVariants as ty
use Rattle.sx_typed.specs.declared.program.Parameter.{Parameter}
use Rattle.sx_scope.specs.declared.declarations.Declarations.{Declarations}
use Rattle.sx_scope.specs.declared.stop.TypeKind.TheVariants as kind
use Rattle.sx_scope.specs.declared.walk.Asked.{Asked}
use Rattle.sx_scope.specs.declared.walk.Asked.TheVariants as asked
use Rattle.sx_scope.specs.Verdict.{Verdict, typed, Judging, ◌▷◌, both}
use Rattle.sx_scope.specs.WrittenTypes.{is_void}
use Rattle.sx_bodies.specs.Statements.{unless_taken, local_named, fresh}
use Rattle.sx_bodies.specs.Literals.{TypedName, JudgedSignature, parameter, parameter_kind, is_lent, known_parameter, declares_parameter, parameter_added, run_parameters, parameters_by, first_parameter, other_parameters, inout_by, parameter_by, not_void, result_by, named_parameter, named_parameters, typed_parameter, function_asked, parameters, result_unwritten, result}
use Rattle.sx_order.specs.Order.{Lies, Start, Spans, Stays, Takes, Anything, Anywhere, AllTake}
use Rattle.sx_order.proofs.Growing.{reaches-first}
use Rattle.sx_order.proofs.Spans.{▷-spans, both-spans, spans-to, moved-spans, typed-first, typed-stays, untold-stays, need-stays, numbered-takes, leaf-takes, stays-takes, takes-as}
use Rattle.sx_order_code.specs.Signatures.{SpanTypedNames, SpansParameters, SpansResult}
use Rattle.sx_order.proofs.Own.{later-spans}
use Rattle.sx_order_code.proofs.Locals.{unless_taken-next, fresh-stays}

pub declares_parameter-spans : {old : Start} {lo hi : ℕ} (from x : ℕ) (n : Node) (inout : Bool) (v : Verdict Parameter) → Spans old lo hi Anything v → Spans old lo hi Anything (declares_parameter from x n inout v)
declares_parameter-spans from x n inout v h =
    moved-spans (unless_taken from (local_named x n (parameter_kind inout) (is_lent inout (known_parameter v)) (known_parameter v))) v
    (λ u. unless_taken-next from (local_named x n (parameter_kind inout) (is_lent inout (known_parameter v)) (known_parameter v)) u) h

pub parameter_by-stays : {lo hi : ℕ} (n : Node) (x : ℕ) (o : Option FunctionParameter) → Stays lo hi Anything (parameter_by n x o)
parameter_by-stays n x None = untold-stays
parameter_by-stays n x (Some p) = typed-stays (parameter n x p.inout p.ty) tt

pub not_void-stays : {lo hi : ℕ} (n : Node) (x : ℕ) (inout : Bool) (y : Unit {0} × Ty) → Lies lo hi n → Stays lo hi Anything (not_void n x inout y)
not_void-stays n x inout y l = need-stays (not (is_void y.1)) kind.Mismatch n (typed (parameter n x inout y.1)) l (typed-stays (parameter n x inout y.1) tt)

-- parameters one after another
pub run_parameters-spans : {old : Start} (ps : List (Judging Parameter)) (n lo mid hi : ℕ) (v : Verdict (List Parameter)) → lo ≤ mid → hi ≡ n + mid → Spans old lo mid Anything v → AllTake n ps → Spans old lo hi Anything (run_parameters v ps)
run_parameters-spans [] n lo mid hi v l s h t = spans-to v (omega (arith, s, t)) h
run_parameters-spans {old = old} (p ∷ ps) n lo mid hi v l s h t =
    let (k, j, e, first, others) = t in
    let here : Spans old lo (k + mid) Anything (both v p ▷ parameter_added) =
    ▷-spans (both v p) parameter_added (both-spans {R = Anything} v p l (omega arith) h (first mid)) (λ x _. typed-stays (x.0 ++ x.1 ∷ []) tt) in
    run_parameters-spans ps j lo (k + mid) hi (both v p ▷ parameter_added) (omega arith) (omega (arith, s, e)) here others

-- from where no parameter is found yet
pub no_parameters-takes : (ps : List (Judging Parameter)) (n : ℕ) → AllTake n ps → Takes n Anywhere (λ w. run_parameters (typed [] w) ps)
no_parameters-takes ps n t lo w e = run_parameters-spans ps n lo lo (n + lo) (typed [] w) (omega arith) refl (typed-first [] w e tt) t

pub result_by-stays : {lo hi : ℕ} (o : Option FunctionType) → Stays lo hi Anything (result_by o)
result_by-stays None = untold-stays
result_by-stays (Some f) = typed-stays f.result tt

module _ (d : Declarations) where
  pub named_parameter-takes : (from x : ℕ) (o : Option FunctionParameter) → Takes 1 Anywhere (named_parameter d from x o)
  named_parameter-takes from x o =
      leaf-takes Anywhere (λ n w. declares_parameter from x n (inout_by o) (fresh d from x n w ▷ (λ u. parameter_by n x o)))
      (λ lo n at w e.
      declares_parameter-spans from x n (inout_by o) (fresh d from x n w ▷ (λ u. parameter_by n x o))
      (▷-spans (fresh d from x n w) (λ u. parameter_by n x o) (fresh-stays d from x n (omega (arith, at), omega (arith, at)) w e) (λ u _. parameter_by-stays n x o)))

  pub named_parameters-take : (from : ℕ) (xs : List ℕ) (ps : List FunctionParameter) → AllTake (length xs) (named_parameters d from ps xs)
  named_parameters-take from [] ps = refl
  named_parameters-take from (x ∷ xs) ps =
      (1, length xs, omega arith, named_parameter-takes from x (first_parameter ps), named_parameters-take from xs (other_parameters ps))

  pub typed_parameter-takes : (from : ℕ) (p : TypedName) (k : ℕ) → Takes k Anywhere p.ty → Takes (suc k) Anywhere (typed_parameter d from p)
  typed_parameter-takes from p k t =
      numbered-takes Anywhere k (λ n w. declares_parameter from p.name n p.inout (both (fresh d from p.name n w) p.ty ▷ not_void n p.name p.inout))
      (λ lo hi n at sum w e.
      declares_parameter-spans from p.name n p.inout (both (fresh d from p.name n w) p.ty ▷ not_void n p.name p.inout)
      (▷-spans (both (fresh d from p.name n w) p.ty) (not_void n p.name p.inout)
      (both-spans {R = Anything} (fresh d from p.name n w) p.ty (omega arith) (omega (arith, sum)) (fresh-stays d from p.name n (omega (arith, at), omega (arith, at)) w (reaches-first w e))
      (λ u i. later-spans p.ty k (suc lo) hi u sum i t))
      (λ y _. not_void-stays n p.name p.inout y (omega (arith, at), omega (arith, at, sum)))))

  pub typed_parameters-take : (from : ℕ) (ps : List TypedName) (n : ℕ) → SpanTypedNames n ps → AllTake n (map (typed_parameter d from) ps)
  typed_parameters-take from [] n t = t
  typed_parameters-take from (p ∷ ps) n t =
      let (k, j, e, first, others) = t in
      (suc k, j, e, typed_parameter-takes from p k first, typed_parameters-take from ps j others)

  pub parameters-takes : (q : Asked) (g : JudgedSignature) (n : ℕ) → SpansParameters n g → Takes n Anywhere (parameters d q g)
  parameters-takes q JudgedSignature.Absent n t lo w e = typed-first [] w (omega (arith, e, t)) tt
  parameters-takes q (JudgedSignature.Names xs) n t lo w e =
      takes-as Anywhere (λ u. run_parameters (typed [] u) (named_parameters d (length w.locals) (parameters_by (function_asked d q)) xs)) (sym t)
      (no_parameters-takes (named_parameters d (length w.locals) (parameters_by (function_asked d q)) xs) (length xs) (named_parameters-take (length w.locals) xs (parameters_by (function_asked d q)))) lo w e
  parameters-takes q (JudgedSignature.Typed ps r) n t lo w e =
      no_parameters-takes (map (typed_parameter d (length w.locals)) ps) n (typed_parameters-take (length w.locals) ps n t) lo w e

  -- ---- the result
  pub result_unwritten-stays : {lo hi : ℕ} (q : Asked) → Stays lo hi Anything (result_unwritten d q)
  result_unwritten-stays asked.Nothing = typed-stays ty.Void tt
  result_unwritten-stays asked.Printable = typed-stays ty.Void tt
  result_unwritten-stays asked.Unknown = untold-stays
  result_unwritten-stays (asked.Type t) = result_by-stays (function_asked d (asked.Type t))

  pub stays-take : (m : Judging Ty) (n : ℕ) → n ≡ 0 → ((lo : ℕ) → Stays lo lo Anything m) → Takes n Anywhere m
  stays-take m n e h = takes-as Anywhere m (sym e) (stays-takes Anywhere m h)

  pub result-takes : (q : Asked) (g : JudgedSignature) (n : ℕ) → SpansResult n g → Takes n Anywhere (result d q g)
  result-takes q JudgedSignature.Absent n t = stays-take (result_by (function_asked d q)) n t (λ lo. result_by-stays (function_asked d q))
  result-takes q (JudgedSignature.Names xs) n t = stays-take (result_by (function_asked d q)) n t (λ lo. result_by-stays (function_asked d q))
  result-takes q (JudgedSignature.Typed ps None) n t = stays-take (result_unwritten d q) n t (λ lo. result_unwritten-stays q)
  result-takes q (JudgedSignature.Typed ps (Some r)) n t = t
