-- The heads of functions and subscripts: each parameter is a node, and takes those of its type.
use Rattle.std.proofs.Common.{◌≡◌, ℕ, suc, ◌+◌, ◌≤◌, List, [], ◌∷◌, ◌++◌, Option, Some, None, length, length-append, map, map-id, refl, sym, subst, arith}
use Rattle.sx_span.specs.declared.places.Node.{Node}
use Rattle.sx_types.specs.declared.types.Ty.{Ty}
use Rattle.sx_types.specs.declared.types.Ty.TheVariants as ty
use Rattle.sx_tree.specs.declared.declarations.Parameter.{Parameter}
use Rattle.sx_tree.specs.declared.written_types.WrittenType.{WrittenType}
use Rattle.sx_tree.specs.Nodes.{all, option_places, parameter_places, type_places}
use Rattle.sx_scope.specs.declared.declarations.Declarations.{Declarations}
use Rattle.sx_scope.specs.declared.walk.Walk.{Walk}
use Rattle.sx_scope.specs.Verdict.{Verdict, typed, Judging, ◌▷◌, both}
use Rattle.sx_scope.specs.WrittenTypes.{judged_type}
use Rattle.sx_bodies.specs.Statements.{fresh, unless_taken}
use Rattle.sx_heads.specs.declared.parameters.HeadParameter.{HeadParameter}
use Rattle.sx_heads.specs.declared.parameters.ParameterList.{ParameterList}
use Rattle.sx_heads.specs.Heads.{head_parameter, typed_as, parameter_added, run_parameters, broken_parameter, fitting, known_parameter, parameter_local, declares_parameter, result_type, typed_parameter, typed_head, checked_parameter, checked_head}
use Rattle.sx_order.specs.Order.{Lies, Start, since, Spans, Stays, Takes, Anything, Anywhere, AllTake}
use Rattle.sx_order.proofs.Growing.{reaches-first}
use Rattle.sx_order.proofs.Lists.{list-spans}
use Rattle.sx_order.proofs.Spans.{▷-spans, both-spans, spans-to, anything, typed-first, typed-stays, unless_broken-stays, moved-spans, numbered-takes, earlier}
use Rattle.sx_order.proofs.WrittenTypes.{judged_type-takes}
use Rattle.sx_order_code.proofs.Locals.{fresh-stays, unless_taken-next}
use Rattle.sx_order_items.proofs.Places.{all-take}

-- ---- parameters
-- one after another
pub run_parameters-spans : {old : Start} (ps : List (Judging HeadParameter)) (n lo mid hi : ℕ) (v : Verdict (List HeadParameter)) → lo ≤ mid → hi ≡ n + mid → Spans old lo mid Anything v → AllTake n ps → Spans old lo hi Anything (run_parameters v ps)
run_parameters-spans ps n lo mid hi v l s h t =
    list-spans run_parameters (λ p. p) parameter_added (λ v. refl) (λ v p ps. refl) (λ lo hi q. typed-stays (q.0 ++ q.1 ∷ []) tt) ps n lo mid hi v l s h (subst (AllTake n) (sym (map-id ps)) t)

pub fitting-stays : {lo hi : ℕ} (l : ParameterList) (n : Node) (p : Parameter) (x : Unit {0} × Ty) → Lies lo hi n → Stays lo hi Anything (fitting l n p x)
fitting-stays l n p (u, t) i = unless_broken-stays (broken_parameter l p.marker t) n (typed (head_parameter n p t)) i (typed-stays (head_parameter n p t) tt)

pub declares_parameter-spans : {old : Start} {lo hi : ℕ} (from : ℕ) (n : Node) (p : Parameter) (v : Verdict HeadParameter) → Spans old lo hi Anything v → Spans old lo hi Anything (declares_parameter from n p v)
declares_parameter-spans from n p v h =
    moved-spans (unless_taken from (parameter_local n p (known_parameter v))) v (unless_taken-next from (parameter_local n p (known_parameter v))) h

module _ (d : Declarations) where
  pub result_type-takes : (o : Option WrittenType) → Takes (length (option_places type_places o)) Anywhere (result_type d o)
  result_type-takes None lo w e = typed-first ty.Void w (omega (arith, e)) tt
  result_type-takes (Some t) lo w e = judged_type-takes d t lo w e

  pub typed_parameter-takes : (p : Parameter) → Takes (length (parameter_places p)) Anywhere (typed_parameter d p)
  typed_parameter-takes p =
      numbered-takes Anywhere (length (type_places p.ty)) (λ n w. judged_type d p.ty w ▷ typed_as n p)
      (λ lo hi n at sum w e. ▷-spans (judged_type d p.ty w) (typed_as n p)
      (earlier lo (judged_type d p.ty w) (omega arith) (spans-to (judged_type d p.ty w) (sym sum) (judged_type-takes d p.ty (suc lo) w e)))
      (λ t _. typed-stays (head_parameter n p t) tt))

  pub checked_parameter-spans : (l : ParameterList) (from : ℕ) (p : Parameter) (n : Node) (lo hi : ℕ) (w : Walk) → n.0 ≡ lo → hi ≡ length (type_places p.ty) + suc lo → w.next ≡ suc lo →
      Spans (since w) lo hi Anything (declares_parameter from n p (both (fresh d from p.name.number n w) (judged_type d p.ty) ▷ fitting l n p))
  checked_parameter-spans l from p n lo hi w at sum e =
      let name : Spans (since w) lo (suc lo) Anything (fresh d from p.name.number n w) = fresh-stays d from p.name.number n (omega (arith, at), omega (arith, at)) w (reaches-first w e) in
      let written : (v : Walk) → v.next ≡ suc lo → Spans (since v) (suc lo) hi Anything (judged_type d p.ty v) = λ v f. spans-to (judged_type d p.ty v) (sym sum) (judged_type-takes d p.ty (suc lo) v f) in
      let v : Verdict (Unit {0} × Ty) = both (fresh d from p.name.number n w) (judged_type d p.ty) in
      declares_parameter-spans from n p (v ▷ fitting l n p)
      (▷-spans v (fitting l n p) (both-spans (fresh d from p.name.number n w) (judged_type d p.ty) (omega arith) (omega (arith, sum)) name written)
      (λ x _. fitting-stays l n p x (omega (arith, at), omega (arith, at, sum))))

  pub checked_parameter-takes : (l : ParameterList) (from : ℕ) (p : Parameter) → Takes (length (parameter_places p)) Anywhere (checked_parameter d l from p)
  checked_parameter-takes l from p =
      numbered-takes Anywhere (length (type_places p.ty)) (λ n w. declares_parameter from n p (both (fresh d from p.name.number n w) (judged_type d p.ty) ▷ fitting l n p))
      (λ lo hi n at sum w e. checked_parameter-spans l from p n lo hi w at sum e)

  -- ---- heads
  pub head-spans : (r : Option WrittenType) (k lo hi : ℕ) (w : Walk) (ps : List (Judging HeadParameter)) → w.next ≡ lo → hi ≡ length (option_places type_places r) + (k + lo) → AllTake k ps →
      Spans (since w) lo hi Anything (both (run_parameters (typed [] w) ps) (result_type d r))
  head-spans r k lo hi w ps e s t =
      let parameters : Spans (since w) lo (k + lo) Anything (run_parameters (typed [] w) ps) = run_parameters-spans ps k lo lo (k + lo) (typed [] w) (omega arith) refl (typed-first [] w e tt) t in
      let result : (v : Walk) → v.next ≡ k + lo → Spans (since v) (k + lo) hi Anything (result_type d r v) = λ v f. spans-to (result_type d r v) (sym s) (result_type-takes r (k + lo) v f) in
      anything (both (run_parameters (typed [] w) ps) (result_type d r)) (both-spans (run_parameters (typed [] w) ps) (result_type d r) (omega arith) (omega (arith, s)) parameters result)

  pub typed_head-takes : (ps : List Parameter) (r : Option WrittenType) → Takes (length (all (map parameter_places ps) ++ option_places type_places r)) Anywhere (typed_head d ps r)
  typed_head-takes ps r lo w e =
      let before : List ℕ = all (map parameter_places ps) in
      let behind : List ℕ = option_places type_places r in
      let parts : length (before ++ behind) ≡ length before + length behind = length-append before behind in
      head-spans r (length before) lo (length (before ++ behind) + lo) w (map (typed_parameter d) ps) e (omega (arith, parts)) (all-take parameter_places (typed_parameter d) typed_parameter-takes ps)

  pub checked_head-takes : (l : ParameterList) (ps : List Parameter) (r : Option WrittenType) → Takes (length (all (map parameter_places ps) ++ option_places type_places r)) Anywhere (checked_head d l ps r)
  checked_head-takes l ps r lo w e =
      let before : List ℕ = all (map parameter_places ps) in
      let behind : List ℕ = option_places type_places r in
      let parts : length (before ++ behind) ≡ length before + length behind = length-append before behind in
      head-spans r (length before) lo (length (before ++ behind) + lo) w (map (checked_parameter d l (length w.locals)) ps) e (omega (arith, parts))
      (all-take parameter_places (checked_parameter d l (length w.locals)) (checked_parameter-takes l (length w.locals)) ps)
