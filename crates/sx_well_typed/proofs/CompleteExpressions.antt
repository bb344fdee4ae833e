-- Expressions by themselves: what is judged typed is derived, where this is so of their parts.
use Rattle.std.proofs.Common.{◌≡◌, ◌∙◌, ℕ, ◌+◌, Bool, List, [], ◌∷◌, ◌++◌, map, length, Option, Some, None, sym, ap, subst}
use Rattle.sx_tree.specs.declared.code.Expr.{Expr}
use Rattle.sx_tree.specs.declared.code.ExprForm.{ExprForm, ExprForm-F, roll-ExprForm}
use Rattle.sx_tree.specs.declared.code.ExprForm.TheVariants as forms
use Rattle.sx_tree.specs.declared.code.Link.{Link}
use Rattle.sx_types.specs.declared.types.Ty.TheVariants as ty
use Rattle.sx_typed.specs.declared.code.Expr.{Expr as TypedExpr}
use Rattle.sx_typed.specs.declared.code.Form.TheVariants as typed_forms
use Rattle.sx_scope.specs.declared.declarations.Declarations.{Declarations}
use Rattle.sx_scope.specs.declared.stop.TypeKind.TheVariants as kind
use Rattle.sx_scope.specs.declared.walk.Asked.{Asked}
use Rattle.sx_scope.specs.declared.walk.Asked.TheVariants as asked
use Rattle.sx_scope.specs.declared.walk.Place.{Place}
use Rattle.sx_scope.specs.declared.walk.Use.{Use}
use Rattle.sx_scope.specs.declared.walk.Use.TheVariants as uses
use Rattle.sx_scope.specs.declared.walk.Walk.{Walk}
use Rattle.sx_scope.specs.Verdict.{Verdict, typed, Judging, ◌▷◌, both, both_by}
use Rattle.sx_scope.specs.Walks.{node, advanced}
use Rattle.sx_scope.specs.Paths.{an_expr}
use Rattle.sx_calls.specs.Operators.{asked_first, fits_left, given, left_fitting, linked, operated, operation, result_of, right_asked, run_links}
use Rattle.sx_calls.specs.Parts.{JudgedLink, JudgedExpr}
use Rattle.sx_check_expr.specs.Judge.{array_made, bracketed, element_added, form_step, inverted, judged_expr, judged_link, negated, run_elements}
use Rattle.sx_check_expr.proofs.Equations.{link_is}
use Rattle.sx_well_typed.specs.Claims.{Claim}
use Rattle.sx_well_typed.specs.Rules.{Typed}
use Rattle.sx_well_typed.specs.Trees.{asked_of_first}
use Rattle.sx_well_typed.proofs.Derives.{Each, ExprDerives, FormDerives, LinkDerives}
use Rattle.sx_well_typed.proofs.Holds.{Holds}
use Rattle.sx_well_typed.proofs.Levels.{OfParts, judged_in_form, form-rolled}
use Rattle.sx_well_typed.proofs.SoundExpressions.{asked_first-is, links-length}
use Rattle.sx_well_typed.proofs.Verdicts.{First, typed-as, then-inverted, need-inverted, given-inverted, added-first, asked-first, then-first, asked-inverted, added-inverted}

module _ (d : Declarations) where
  -- what is derived where the form is judged so by its parts
  abbrev pub FormFrom : OfParts ExprForm-F → ExprForm → Type 0
  FormFrom x f = (site : ℕ) (p : Place) (q : Asked) (u : Use) (w : Walk) (t : TypedExpr) (v : Walk) → (form_step d (judged_in_form d x) site).value p q u w ≡ typed t v → Typed d (Claim.form f site p q u w t v)

  pub form-from : (x : OfParts ExprForm-F) (f : ExprForm) → roll-ExprForm x ≡ f → FormFrom x f → FormDerives d (roll-ExprForm x)
  form-from x f e k site p q u w t v h =
      subst (λ g. Typed d (Claim.form g site p q u w t v)) (sym e) (k site p q u w t v (ap (λ (j : ℕ → JudgedExpr). (j site).value p q u w) (sym (form-rolled d x)) ∙ h))

  pub integer-complete : (n : ℕ) → FormFrom (ExprForm-F.Int n) (forms.Int n)
  integer-complete n site p q u w t v h =
      let x : TypedExpr = an_expr (node w.next) site ty.Int (typed_forms.Int n) in
      let g = given-inverted (node w.next) q x (advanced 1 w) t v h in
      typed-as (λ t v. Typed d (Claim.form (forms.Int n) site p q u w t v)) x t (advanced 1 w) v g.1 (Typed.integer n site p q u w g.0)

  pub least_integer-complete : FormFrom ExprForm-F.LeastInt forms.LeastInt
  least_integer-complete site p q u w t v h =
      let x : TypedExpr = an_expr (node w.next) site ty.Int typed_forms.LeastInt in
      let g = given-inverted (node w.next) q x (advanced 1 w) t v h in
      typed-as (λ t v. Typed d (Claim.form forms.LeastInt site p q u w t v)) x t (advanced 1 w) v g.1 (Typed.least_integer site p q u w g.0)

  pub truth-complete : (b : Bool) → FormFrom (ExprForm-F.Bool b) (forms.Bool b)
  truth-complete b site p q u w t v h =
      let x : TypedExpr = an_expr (node w.next) site ty.Bool (typed_forms.Bool b) in
      let g = given-inverted (node w.next) q x (advanced 1 w) t v h in
      typed-as (λ t v. Typed d (Claim.form (forms.Bool b) site p q u w t v)) x t (advanced 1 w) v g.1 (Typed.truth b site p q u w g.0)

  pub printed_text-complete : (n : ℕ) → FormFrom (ExprForm-F.PrintText n) (forms.PrintText n)
  printed_text-complete n site p q u w t v h =
      let x : TypedExpr = an_expr (node w.next) site ty.Void (typed_forms.PrintText n) in
      let g = given-inverted (node w.next) q x (advanced 1 w) t v h in
      typed-as (λ t v. Typed d (Claim.form (forms.PrintText n) site p q u w t v)) x t (advanced 1 w) v g.1 (Typed.printed_text n site p q u w g.0)

  pub name-complete : (x : ℕ) → FormFrom (ExprForm-F.Named x None) (forms.Named x None)
  name-complete x site p q u w t v h = Typed.name x site p q u w v t h

  pub self_word-complete : FormFrom ExprForm-F.SelfWord forms.SelfWord
  self_word-complete site p q u w t v h = Typed.self_word site p q u w v t h

  pub bracketed-complete : (e : Expr) → ExprDerives d e → FormFrom (ExprForm-F.Bracketed e) (forms.Bracketed e)
  bracketed-complete e k site p q u w t v h =
      let (x, w₁, first, made) = then-inverted ((judged_expr d e).value p q uses.Kept (advanced 1 w)) (bracketed (node w.next) site) t v h in
      typed-as (λ t v. Typed d (Claim.form (forms.Bracketed e) site p q u w t v)) (an_expr (node w.next) site x.ty (typed_forms.Bracketed x)) t w₁ v made
      (Typed.bracketed e site p q u w w₁ x (k p q uses.Kept (advanced 1 w) x w₁ first))

  pub negate-complete : (e : Expr) → ExprDerives d e → FormFrom (ExprForm-F.Negate e) (forms.Negate e)
  negate-complete e k site p q u w t v h =
      let (x, w₁, first, made) = then-inverted ((judged_expr d e).value p (asked.Type ty.Int) uses.Kept (advanced 1 w)) (negated (node w.next) site q) t v h in
      let y : TypedExpr = an_expr (node w.next) site ty.Int (typed_forms.Negate x) in
      let g = given-inverted (node w.next) q y w₁ t v made in
      typed-as (λ t v. Typed d (Claim.form (forms.Negate e) site p q u w t v)) y t w₁ v g.1 (Typed.negate e site p q u w w₁ x (k p (asked.Type ty.Int) uses.Kept (advanced 1 w) x w₁ first) g.0)

  pub invert-complete : (e : Expr) → ExprDerives d e → FormFrom (ExprForm-F.Not e) (forms.Not e)
  invert-complete e k site p q u w t v h =
      let (x, w₁, first, made) = then-inverted ((judged_expr d e).value p (asked.Type ty.Bool) uses.Kept (advanced 1 w)) (inverted (node w.next) site q) t v h in
      let y : TypedExpr = an_expr (node w.next) site ty.Bool (typed_forms.Not x) in
      let g = given-inverted (node w.next) q y w₁ t v made in
      typed-as (λ t v. Typed d (Claim.form (forms.Not e) site p q u w t v)) y t w₁ v g.1 (Typed.invert e site p q u w w₁ x (k p (asked.Type ty.Bool) uses.Kept (advanced 1 w) x w₁ first) g.0)

  -- ---- chains
  -- what stands left of links that are typed is typed
  run_links-first : (p : Place) (start site : ℕ) (r : Verdict TypedExpr) (js : List JudgedLink) (t : TypedExpr) (v : Walk) → run_links p start site r js ≡ typed t v → First r
  run_links-first p start site r [] t v h = (t, v, h)
  run_links-first p start site r (j ∷ js) t v h =
      let n = node (start + length js) in
      let (y, w₁, one) = run_links-first p start site (linked p n site j r) js t v h in
      let (x, w₀, left) = asked-first (r ▷ left_fitting j.operator) (λ o. j.operand.value p (right_asked j.operator o) uses.Kept) (operated j.operator n site) y w₁ one in
      then-first r (left_fitting j.operator) x w₀ left

  pub links-complete : (ls : List Link) → Each (LinkDerives d) ls → (p : Place) (start site : ℕ) (x : TypedExpr) (w : Walk) (t : TypedExpr) (v : Walk) →
      Holds d (Claim.links ls p start site x w t v) → Typed d (Claim.links ls p start site x w t v)
  links-complete [] k p start site x w t v h = typed-as (λ t v. Typed d (Claim.links [] p start site x w t v)) x t w v h (Typed.links_end p start site x w)
  links-complete (l ∷ ls) k p start site x w t v h =
      let js : List JudgedLink = map (judged_link d) ls in
      let n : ℕ = start + length ls in
      let j : JudgedLink = record { operator = l.operator; operand = judged_expr d l.operand } in
      let right : Option TypedExpr → Judging TypedExpr = λ o. (judged_expr d l.operand).value p (right_asked l.operator o) uses.Kept in
      let run : run_links p start site (linked p (node n) site j (typed x w)) js ≡ typed t v =
      ap (λ m. run_links p start site (linked p (node (start + m)) site j (typed x w)) js) (sym (links-length d ls))
      ∙ ap (λ (i : JudgedLink). run_links p start site (linked p (node (start + length js)) site i (typed x w)) js) (sym (link_is d l)) ∙ h in
      let (z, w₂, one) = run_links-first p start site (linked p (node n) site j (typed x w)) js t v run in
      let (x', w₀, left) = asked-first (left_fitting l.operator x w) right (operated l.operator (node n) site) z w₂ one in
      let fits = need-inverted (fits_left l.operator x.ty) kind.Mismatch x.node (typed x) w x' w₀ left in
      let same : left_fitting l.operator x w ≡ typed x w = left ∙ sym fits.1 in
      let (y, w₁, second, made) = asked-inverted x w right (operated l.operator (node n) site) z w₂ (ap (λ r. both_by r right ▷ operated l.operator (node n) site) (sym same) ∙ one) in
      let whole : TypedExpr = an_expr (node n) site (result_of l.operator) (operation l.operator x y) in
      Typed.links_more l ls p start site x y t w w₁ v fits.0 (k.0 p (right_asked l.operator (Some x)) uses.Kept w y w₁ second)
      (links-complete ls k.1 p start site whole w₁ t v (ap (λ r. run_links p start site r js) (made ∙ sym one) ∙ run))

  pub chain-complete : (e : Expr) (ls : List Link) → ExprDerives d e → Each (LinkDerives d) ls → FormFrom (ExprForm-F.Chain e ls) (forms.Chain e ls)
  chain-complete e ls k ks site p q u w t v h =
      let js : List JudgedLink = map (judged_link d) ls in
      let start : ℕ → Asked → Verdict TypedExpr = λ n a. (judged_expr d e).value p a uses.Kept (advanced n w) in
      let before : Verdict TypedExpr = start (length js) (asked_first js) in
      let now : start (length ls) (asked_of_first ls) ≡ before = ap (λ n. start n (asked_of_first ls)) (sym (links-length d ls)) ∙ ap (start (length js)) (sym (asked_first-is d ls)) in
      let (y, w₂, all, made) = then-inverted (run_links p w.next site before js) (given (node w.next) q) t v h in
      let g = given-inverted (node w.next) q y w₂ t v made in
      let (x, w₁, first) = run_links-first p w.next site before js y w₂ all in
      typed-as (λ t v. Typed d (Claim.form (forms.Chain e ls) site p q u w t v)) y t w₂ v g.1
      (Typed.chain e ls site p q u w w₁ w₂ x y (k p (asked_of_first ls) uses.Kept (advanced (length ls) w) x w₁ (now ∙ first))
      (links-complete ls ks p w.next site x w₁ y w₂ (ap (λ r. run_links p w.next site r js) (sym first) ∙ all)) g.0)

  -- ---- arrays
  run_elements-first : (p : Place) (r : Verdict (List TypedExpr)) (js : List JudgedExpr) (ts : List TypedExpr) (v : Walk) → run_elements p r js ≡ typed ts v → First r
  run_elements-first p r [] ts v h = (ts, v, h)
  run_elements-first p r (j ∷ js) ts v h =
      let m : Judging TypedExpr = j.value p (asked.Type ty.Int) uses.Kept in
      let (a, w, one) = run_elements-first p (both r m ▷ element_added) js ts v h in
      added-first r m element_added a w one

  pub elements-complete : (es : List Expr) → Each (ExprDerives d) es → (p : Place) (before : List TypedExpr) (w : Walk) (ts : List TypedExpr) (v : Walk) →
      Holds d (Claim.elements es p before w ts v) → Typed d (Claim.elements es p before w ts v)
  elements-complete [] k p before w ts v h = typed-as (λ ts v. Typed d (Claim.elements [] p before w ts v)) before ts w v h (Typed.elements_end p before w)
  elements-complete (e ∷ es) k p before w ts v h =
      let js : List JudgedExpr = map (judged_expr d) es in
      let m : Judging TypedExpr = (judged_expr d e).value p (asked.Type ty.Int) uses.Kept in
      let (a, w₂, one) = run_elements-first p (both (typed before w) m ▷ element_added) js ts v h in
      let (t, w₁, first, made) = added-inverted before w m element_added a w₂ one in
      Typed.elements_more e es p before ts t w w₁ v (k.0 p (asked.Type ty.Int) uses.Kept w t w₁ first)
      (elements-complete es k.1 p (before ++ t ∷ []) w₁ ts v (ap (λ r. run_elements p r js) (made ∙ sym one) ∙ h))

  pub array-complete : (es : List Expr) → Each (ExprDerives d) es → FormFrom (ExprForm-F.Array es) (forms.Array es)
  array-complete es k site p q u w t v h =
      let (ts, w₁, all, made) = then-inverted (run_elements p (typed [] (advanced 1 w)) (map (judged_expr d) es)) (array_made (node w.next) site q) t v h in
      let y : TypedExpr = an_expr (node w.next) site ty.Array (typed_forms.Elements ts) in
      let g = given-inverted (node w.next) q y w₁ t v made in
      typed-as (λ t v. Typed d (Claim.form (forms.Array es) site p q u w t v)) y t w₁ v g.1 (Typed.array es site p q u w w₁ ts (elements-complete es k p [] (advanced 1 w) ts w₁ all) g.0)
