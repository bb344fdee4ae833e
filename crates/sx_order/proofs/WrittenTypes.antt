-- A written type takes as many nodes as it has places.
use Rattle.std.proofs.Common.{◌≡◌, ℕ, suc, ◌+◌, ◌≤◌, List, [], ◌∷◌, ◌++◌, Option, Some, None, length, length-append, map, refl, sym, subst, arith, map-id}
use Rattle.sx_span.specs.declared.places.Node.{Node}
use Rattle.sx_types.specs.declared.types.FunctionParameter.{FunctionParameter}
use Rattle.sx_types.specs.declared.types.Ty.{Ty}
use Rattle.sx_types.specs.declared.types.Ty.TheVariants as ty
use Rattle.sx_tree.specs.declared.written_types.TypeForm.{TypeForm, TypeForm-F, fold-TypeForm, fold-roll-TypeForm, map-TypeForm, roll-TypeForm}
use Rattle.sx_tree.specs.declared.written_types.TypeForm.TheOpen as layer
use Rattle.sx_tree.specs.declared.written_types.TypeParameter.{TypeParameter, TypeParameter-F, fold-TypeParameter, fold-roll-TypeParameter, map-TypeParameter, roll-TypeParameter}
use Rattle.sx_tree.specs.declared.written_types.WrittenType.{WrittenType, WrittenType-F, fold-roll-WrittenType, ind-WrittenType, map-WrittenType, roll-WrittenType}
use Rattle.sx_tree.specs.Nodes as nodes
use Rattle.sx_scope.specs.declared.declarations.Declarations.{Declarations}
use Rattle.sx_scope.specs.declared.declarations.TypeName.{TypeName}
use Rattle.sx_scope.specs.declared.declarations.TypeName.TheVariants as type_name
use Rattle.sx_scope.specs.declared.stop.TypeKind.TheVariants as kind
use Rattle.sx_scope.specs.declared.walk.Walk.{Walk}
use Rattle.sx_scope.specs.Tables.{entry}
use Rattle.sx_scope.specs.Verdict.{Verdict, typed, depends, Judging, both}
use Rattle.sx_scope.specs.Walks.{numbered}
use Rattle.sx_scope.specs.Names.{type_failed}
use Rattle.sx_scope.specs.WrittenTypes.{JudgedParameter, may_be_parameters, func_by, number_of, function_type, parameter_added, run_parameters, type_parameter_step, named_type, type_named, function_made, function_step, type_form_step, type_step, judged_type, judged_parameter, judged_option}
use Rattle.sx_order.specs.Order.{Lies, Start, since, Spans, Stays, Takes, Anything, Anywhere, AllTake}
use Rattle.sx_order.proofs.Lists.{list-spans}
use Rattle.sx_order.proofs.Spans.{▷-spans, both-spans, spans-to, fault-stays, typed-first, typed-stays, depends-stays, need-stays, cond-stays, numbered-takes, leaf-takes, earlier}

pub func_by-stays : {lo hi : ℕ} (o : Option ℕ) → Stays lo hi Anything (func_by o)
func_by-stays None = depends-stays
func_by-stays (Some f) = typed-stays (ty.Func f) tt

-- parameters one after another
pub run_parameters-spans : {old : Start} (ps : List JudgedParameter) (n lo mid hi : ℕ) (v : Verdict (List FunctionParameter)) → lo ≤ mid → hi ≡ n + mid → Spans old lo mid Anything v → AllTake n ps → Spans old lo hi Anything (run_parameters v ps)
run_parameters-spans ps n lo mid hi v l s h t =
    list-spans run_parameters (λ p. p) parameter_added (λ v. refl) (λ v p ps. refl) (λ lo hi q. typed-stays (q.0 ++ q.1 ∷ []) tt) ps n lo mid hi v l s h (subst (AllTake n) (sym (map-id ps)) t)

module _ (d : Declarations) where
  pub named_type-stays : {lo hi : ℕ} (n : Node) (o : Option TypeName) → Lies lo hi n → Stays lo hi Anything (named_type d n o)
  named_type-stays n None l = fault-stays kind.UnknownName n l
  named_type-stays n (Some type_name.Failed) l = depends-stays
  named_type-stays n (Some (type_name.Type t)) l = cond-stays (type_failed d t) depends (typed t) depends-stays (typed-stays t tt)

  pub type_named-stays : {lo hi : ℕ} (n : Node) (x : ℕ) → Lies lo hi n → Stays lo hi Anything (type_named d n x)
  type_named-stays n x l = named_type-stays n (entry d.type_names x) l

  pub function_made-stays : {lo hi : ℕ} (n : Node) (p : List FunctionParameter × Ty) → Lies lo hi n → Stays lo hi Anything (function_made d n p)
  function_made-stays n p l =
      let f : Option ℕ = number_of d.types.functions (function_type p.0 p.1) in
      need-stays (may_be_parameters p.0) kind.Mismatch n (func_by f) l (func_by-stays f)

  pub function_step-spans : (n : Node) (ps : List JudgedParameter) (r : Judging Ty) (k m lo mid hi : ℕ) (w : Walk) → w.next ≡ mid → lo ≤ mid → hi ≡ m + (k + mid) → Lies lo hi n →
      AllTake k ps → Takes m Anywhere r → Spans (since w) lo hi Anything (function_step d n ps r w)
  function_step-spans n ps r k m lo mid hi w e l s i a t =
      let parameters : Spans (since w) lo (k + mid) Anything (run_parameters (typed [] w) ps) = run_parameters-spans ps k lo mid (k + mid) (typed [] w) l refl (typed-first [] w e tt) a in
      let result : (v : Walk) → v.next ≡ k + mid → Spans (since v) (k + mid) hi Anything (r v) = λ v f. spans-to (r v) (sym s) (t (k + mid) v f) in
      ▷-spans (both (run_parameters (typed [] w) ps) r) (function_made d n) (both-spans (run_parameters (typed [] w) ps) r (omega arith) (omega (arith, s)) parameters result) (λ p _. function_made-stays n p i)

  -- ---- by induction over the type: the judgements and the places of its parts
  abbrev pub type_form : TypeForm → Judging Ty
  type_form = fold-TypeForm (Judging Ty) JudgedParameter (Judging Ty) (type_form_step d) type_parameter_step (type_step d)

  abbrev pub type_parameter : TypeParameter → JudgedParameter
  type_parameter = fold-TypeParameter (Judging Ty) JudgedParameter (Judging Ty) (type_form_step d) type_parameter_step (type_step d)

  abbrev pub FormTakes : TypeForm → Type 0
  FormTakes f = (start : ℕ) → Takes (length (nodes.type_form_places f start)) Anywhere (type_form f)

  abbrev pub ParameterTakes : TypeParameter → Type 0
  ParameterTakes p = Takes (length (nodes.type_parameter_places p)) Anywhere (type_parameter p)

  abbrev pub TypeTakes : WrittenType → Type 0
  TypeTakes t = Takes (length (nodes.type_places t)) Anywhere (judged_type d t)

  pub at_form : (x : TypeForm-F TypeForm TypeParameter WrittenType) →
      ((start : ℕ) → Takes (length (nodes.type_form_step (map-TypeForm TypeForm TypeParameter WrittenType (ℕ → nodes.Places) nodes.Places nodes.Places nodes.type_form_places nodes.type_parameter_places nodes.type_places x) start)) Anywhere (type_form_step d (map-TypeForm TypeForm TypeParameter WrittenType (Judging Ty) JudgedParameter (Judging Ty) type_form type_parameter (judged_type d) x))) → FormTakes (roll-TypeForm x)
  at_form x h start =
      let a = fold-roll-TypeForm (Judging Ty) JudgedParameter (Judging Ty) (type_form_step d) type_parameter_step (type_step d) x in
      let b = fold-roll-TypeForm (ℕ → nodes.Places) nodes.Places nodes.Places nodes.type_form_step nodes.type_parameter_step nodes.type_step x in
      subst (λ m. Takes (length (nodes.type_form_places (roll-TypeForm x) start)) Anywhere m) (sym a)
      (subst (λ (f : ℕ → nodes.Places). Takes (length (f start)) Anywhere (type_form_step d (map-TypeForm TypeForm TypeParameter WrittenType (Judging Ty) JudgedParameter (Judging Ty) type_form type_parameter (judged_type d) x))) (sym b) (h start))

  pub named-takes : (start x : ℕ) → Takes (length (nodes.type_form_step (TypeForm-F.Named x) start)) Anywhere (type_form_step d (TypeForm-F.Named x))
  named-takes start x = leaf-takes Anywhere (λ n. type_named d n x) (λ lo n at. type_named-stays n x (omega (arith, at), omega (arith, at)))

  pub bracketed-takes : (start : ℕ) (t : WrittenType) → TypeTakes t → Takes (suc (length (nodes.type_places t))) Anywhere (numbered (λ n. judged_type d t))
  bracketed-takes start t h =
      numbered-takes Anywhere (length (nodes.type_places t)) (λ n. judged_type d t)
      (λ lo hi n at sum w e. earlier lo (judged_type d t w) (omega arith) (spans-to (judged_type d t w) (sym sum) (h (suc lo) w e)))

  pub all_take : (ps : List ((p : TypeParameter) × ParameterTakes p)) → AllTake (length (nodes.all (map nodes.type_parameter_places (map (λ p. p.0) ps)))) (map type_parameter (map (λ p. p.0) ps))
  all_take [] = refl
  all_take (p ∷ ps) =
      let k : ℕ = length (nodes.type_parameter_places p.0) in
      let j : ℕ = length (nodes.all (map nodes.type_parameter_places (map (λ q. q.0) ps))) in
      (k, j, length-append (nodes.type_parameter_places p.0) (nodes.all (map nodes.type_parameter_places (map (λ q. q.0) ps))), p.1, all_take ps)

  pub function-takes : (start : ℕ) (ps : List ((p : TypeParameter) × ParameterTakes p)) (r : WrittenType) → TypeTakes r →
      Takes (suc (length (nodes.all (map nodes.type_parameter_places (map (λ p. p.0) ps)) ++ nodes.type_places r))) Anywhere (numbered (λ n. function_step d n (map type_parameter (map (λ p. p.0) ps)) (judged_type d r)))
  function-takes start ps r h =
      let before : List ℕ = nodes.all (map nodes.type_parameter_places (map (λ p. p.0) ps)) in
      let behind : List ℕ = nodes.type_places r in
      let parts : length (before ++ behind) ≡ length before + length behind = length-append before behind in
      numbered-takes Anywhere (length (before ++ behind)) (λ n. function_step d n (map type_parameter (map (λ p. p.0) ps)) (judged_type d r))
      (λ lo hi n at sum w e. function_step-spans n (map type_parameter (map (λ p. p.0) ps)) (judged_type d r) (length before) (length behind) lo (suc lo) hi w e (omega arith) (omega (arith, sum, parts)) (omega (arith, at), omega (arith, at, sum)) (all_take ps) h)

  pub form_takes : (y : TypeForm-F ((f : TypeForm) × FormTakes f) ((p : TypeParameter) × ParameterTakes p) ((t : WrittenType) × TypeTakes t)) (x : TypeForm-F TypeForm TypeParameter WrittenType) →
      map-TypeForm ((f : TypeForm) × FormTakes f) ((p : TypeParameter) × ParameterTakes p) ((t : WrittenType) × TypeTakes t) TypeForm TypeParameter WrittenType (λ f. f.0) (λ p. p.0) (λ t. t.0) y ≡ x → FormTakes (roll-TypeForm x)
  form_takes (layer.Named n) x p = subst (λ z. FormTakes (roll-TypeForm z)) p (at_form (layer.Named n) (λ start. named-takes start n))
  form_takes layer.Unit x p = subst (λ z. FormTakes (roll-TypeForm z)) p (at_form layer.Unit (λ start. leaf-takes Anywhere (λ n. typed ty.Void) (λ lo n at. typed-stays ty.Void tt)))
  form_takes (layer.Bracketed t) x p = subst (λ z. FormTakes (roll-TypeForm z)) p (at_form (layer.Bracketed t.0) (λ start. bracketed-takes start t.0 t.1))
  form_takes (layer.Function ps r) x p = subst (λ z. FormTakes (roll-TypeForm z)) p (at_form (layer.Function (map (λ q. q.0) ps) r.0) (λ start. function-takes start ps r.0 r.1))
  form_takes (layer.Array n) x p = subst (λ z. FormTakes (roll-TypeForm z)) p (at_form (layer.Array n) (λ start. leaf-takes Anywhere (λ n. typed ty.Array) (λ lo n at. typed-stays ty.Array tt)))

  pub at_parameter : (x : TypeParameter-F TypeForm TypeParameter WrittenType) → TypeTakes x.ty → ParameterTakes (roll-TypeParameter x)
  at_parameter x h =
      let a = fold-roll-TypeParameter (Judging Ty) JudgedParameter (Judging Ty) (type_form_step d) type_parameter_step (type_step d) x in
      let b = fold-roll-TypeParameter (ℕ → nodes.Places) nodes.Places nodes.Places nodes.type_form_step nodes.type_parameter_step nodes.type_step x in
      let here : Takes (length (nodes.type_places x.ty)) Anywhere (type_parameter_step (map-TypeParameter TypeForm TypeParameter WrittenType (Judging Ty) JudgedParameter (Judging Ty) type_form type_parameter (judged_type d) x)) =
      λ lo w e. ▷-spans (judged_type d x.ty w) (λ t. typed (record { inout = x.inout; ty = t })) (h lo w e) (λ t _. typed-stays (record { inout = x.inout; ty = t }) tt) in
      subst (λ m. Takes (length (nodes.type_parameter_places (roll-TypeParameter x))) Anywhere m) (sym a)
      (subst (λ (q : nodes.Places). Takes (length q) Anywhere (type_parameter_step (map-TypeParameter TypeForm TypeParameter WrittenType (Judging Ty) JudgedParameter (Judging Ty) type_form type_parameter (judged_type d) x))) (sym b) here)

  pub parameter_takes : (y : TypeParameter-F ((f : TypeForm) × FormTakes f) ((p : TypeParameter) × ParameterTakes p) ((t : WrittenType) × TypeTakes t)) (x : TypeParameter-F TypeForm TypeParameter WrittenType) →
      map-TypeParameter ((f : TypeForm) × FormTakes f) ((p : TypeParameter) × ParameterTakes p) ((t : WrittenType) × TypeTakes t) TypeForm TypeParameter WrittenType (λ f. f.0) (λ p. p.0) (λ t. t.0) y ≡ x → ParameterTakes (roll-TypeParameter x)
  parameter_takes y x p =
      subst (λ z. ParameterTakes (roll-TypeParameter z)) p
      (at_parameter (map-TypeParameter ((f : TypeForm) × FormTakes f) ((p : TypeParameter) × ParameterTakes p) ((t : WrittenType) × TypeTakes t) TypeForm TypeParameter WrittenType (λ f. f.0) (λ p. p.0) (λ t. t.0) y) y.ty.1)

  pub at_type : (x : WrittenType-F TypeForm TypeParameter WrittenType) → FormTakes x.form → TypeTakes (roll-WrittenType x)
  at_type x h =
      let a = fold-roll-WrittenType (Judging Ty) JudgedParameter (Judging Ty) (type_form_step d) type_parameter_step (type_step d) x in
      let b = fold-roll-WrittenType (ℕ → nodes.Places) nodes.Places nodes.Places nodes.type_form_step nodes.type_parameter_step nodes.type_step x in
      subst (λ m. Takes (length (nodes.type_places (roll-WrittenType x))) Anywhere m) (sym a)
      (subst (λ (q : nodes.Places). Takes (length q) Anywhere (type_form x.form)) (sym b) (h x.span.start))

  pub type_takes : (y : WrittenType-F ((f : TypeForm) × FormTakes f) ((p : TypeParameter) × ParameterTakes p) ((t : WrittenType) × TypeTakes t)) (x : WrittenType-F TypeForm TypeParameter WrittenType) →
      map-WrittenType ((f : TypeForm) × FormTakes f) ((p : TypeParameter) × ParameterTakes p) ((t : WrittenType) × TypeTakes t) TypeForm TypeParameter WrittenType (λ f. f.0) (λ p. p.0) (λ t. t.0) y ≡ x → TypeTakes (roll-WrittenType x)
  type_takes y x p =
      subst (λ z. TypeTakes (roll-WrittenType z)) p
      (at_type (map-WrittenType ((f : TypeForm) × FormTakes f) ((p : TypeParameter) × ParameterTakes p) ((t : WrittenType) × TypeTakes t) TypeForm TypeParameter WrittenType (λ f. f.0) (λ p. p.0) (λ t. t.0) y) y.form.1)

  pub judged_type-takes : (t : WrittenType) → Takes (length (nodes.type_places t)) Anywhere (judged_type d t)
  judged_type-takes = ind-WrittenType FormTakes ParameterTakes TypeTakes (λ x y p. form_takes y x p) (λ x y p. parameter_takes y x p) (λ x y p. type_takes y x p)

  -- the type of a parameter, and one that may be written
  pub judged_parameter-takes : (p : TypeParameter) → Takes (length (nodes.type_places p.ty)) Anywhere (judged_parameter d p)
  judged_parameter-takes p lo w e =
      ▷-spans (judged_type d p.ty w) (λ t. typed (record { inout = p.inout; ty = t })) (judged_type-takes p.ty lo w e) (λ t _. typed-stays (record { inout = p.inout; ty = t }) tt)

  pub judged_option-takes : (o : Option WrittenType) → Takes (length (nodes.option_places nodes.type_places o)) Anywhere (judged_option d o)
  judged_option-takes None lo w e = typed-first None w (omega (arith, e)) tt
  judged_option-takes (Some t) lo w e = ▷-spans (judged_type d t w) (λ u. typed (Some u)) (judged_type-takes t lo w e) (λ u _. typed-stays (Some u) tt)
