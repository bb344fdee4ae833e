-- Expressions by themselves: what a rule derives is judged so, where its parts are.
use Rattle.std.proofs.Common.{◌≡◌, ◌∙◌, ℕ, ◌+◌, Bool, true, List, [], ◌∷◌, ◌++◌, map, length, Some, None, refl, sym, ap}
use Rattle.std.proofs.Common as common
use Rattle.sx_tree.specs.declared.code.Closure.{Closure}
use Rattle.sx_tree.specs.declared.code.Expr.{Expr}
use Rattle.sx_tree.specs.declared.code.ExprForm.{ExprForm, ExprForm-F, roll-ExprForm}
use Rattle.sx_tree.specs.declared.code.ExprForm.TheVariants as forms
use Rattle.sx_tree.specs.declared.code.Link.{Link}
use Rattle.sx_types.specs.declared.types.Ty.TheVariants as ty
use Rattle.sx_typed.specs.declared.code.Expr.{Expr as TypedExpr}
use Rattle.sx_typed.specs.declared.code.Form.TheVariants as typed_forms
use Rattle.sx_scope.specs.declared.declarations.Declarations.{Declarations}
use Rattle.sx_scope.specs.declared.walk.Asked.{Asked}
use Rattle.sx_scope.specs.declared.walk.Asked.TheVariants as asked
use Rattle.sx_scope.specs.declared.walk.Callee.{Callee}
use Rattle.sx_scope.specs.declared.walk.Place.{Place}
use Rattle.sx_scope.specs.declared.walk.Use.{Use}
use Rattle.sx_scope.specs.declared.walk.Use.TheVariants as uses
use Rattle.sx_scope.specs.declared.walk.Walk.{Walk}
use Rattle.sx_scope.specs.Verdict.{typed, both, both_by}
use Rattle.sx_scope.specs.Walks.{node, advanced}
use Rattle.sx_scope.specs.Names.{agrees, called_name, name_value, self_value}
use Rattle.sx_scope.specs.Paths.{an_expr}
use Rattle.sx_calls.specs.Operators.{asked_first, fits_left, given, left_fitting, linked, operated, operation, result_of, right_asked, run_links}
use Rattle.sx_calls.specs.Calls.{call_value}
use Rattle.sx_calls.specs.Parts.{JudgedLink, JudgedExpr, trailing}
use Rattle.sx_check_expr.specs.Judge.{array_made, bracketed, element_added, form_step, inverted, judged_closure, judged_expr, judged_form, judged_link, negated, run_elements}
use Rattle.sx_check_expr.proofs.Equations.{link_is}
use Rattle.sx_well_typed.specs.Claims.{Claim}
use Rattle.sx_well_typed.specs.Trees.{asked_of_first}
use Rattle.sx_well_typed.proofs.Holds.{Holds}
use Rattle.sx_well_typed.proofs.Levels.{OfParts, judged_in_form, form-rolled}
use Rattle.sx_well_typed.proofs.Verdicts.{then-typed, both-typed, both_by-typed, need-typed, given-typed}

module _ (d : Declarations) where
  -- a form is judged as it is made of its parts
  pub form-at : (x : OfParts ExprForm-F) (f : ExprForm) → roll-ExprForm x ≡ f → judged_form d f ≡ form_step d (judged_in_form d x)
  form-at x f h = ap (judged_form d) (sym h) ∙ form-rolled d x

  -- so it is this where that is this
  pub form-by : (x : OfParts ExprForm-F) (f : ExprForm) (site : ℕ) (p : Place) (q : Asked) (u : Use) (w v : Walk) (t : TypedExpr) →
      roll-ExprForm x ≡ f → (form_step d (judged_in_form d x) site).value p q u w ≡ typed t v → Holds d (Claim.form f site p q u w t v)
  form-by x f site p q u w v t h k = ap (λ (j : ℕ → JudgedExpr). (j site).value p q u w) (form-at x f h) ∙ k

  pub integer-sound : (n site : ℕ) (p : Place) (q : Asked) (u : Use) (w : Walk) → agrees q ty.Int ≡ true →
      Holds d (Claim.form (forms.Int n) site p q u w (an_expr (node w.next) site ty.Int (typed_forms.Int n)) (advanced 1 w))
  integer-sound n site p q u w h =
      let t : TypedExpr = an_expr (node w.next) site ty.Int (typed_forms.Int n) in
      form-by (ExprForm-F.Int n) (forms.Int n) site p q u w (advanced 1 w) t (forms.rolls-Int n) (given-typed (node w.next) q t (advanced 1 w) h)

  pub least_integer-sound : (site : ℕ) (p : Place) (q : Asked) (u : Use) (w : Walk) → agrees q ty.Int ≡ true →
      Holds d (Claim.form forms.LeastInt site p q u w (an_expr (node w.next) site ty.Int typed_forms.LeastInt) (advanced 1 w))
  least_integer-sound site p q u w h =
      let t : TypedExpr = an_expr (node w.next) site ty.Int typed_forms.LeastInt in
      form-by ExprForm-F.LeastInt forms.LeastInt site p q u w (advanced 1 w) t forms.rolls-LeastInt (given-typed (node w.next) q t (advanced 1 w) h)

  pub truth-sound : (b : Bool) (site : ℕ) (p : Place) (q : Asked) (u : Use) (w : Walk) → agrees q ty.Bool ≡ true →
      Holds d (Claim.form (forms.Bool b) site p q u w (an_expr (node w.next) site ty.Bool (typed_forms.Bool b)) (advanced 1 w))
  truth-sound b site p q u w h =
      let t : TypedExpr = an_expr (node w.next) site ty.Bool (typed_forms.Bool b) in
      form-by (ExprForm-F.Bool b) (forms.Bool b) site p q u w (advanced 1 w) t (forms.rolls-Bool b) (given-typed (node w.next) q t (advanced 1 w) h)

  pub printed_text-sound : (n site : ℕ) (p : Place) (q : Asked) (u : Use) (w : Walk) → agrees q ty.Void ≡ true →
      Holds d (Claim.form (forms.PrintText n) site p q u w (an_expr (node w.next) site ty.Void (typed_forms.PrintText n)) (advanced 1 w))
  printed_text-sound n site p q u w h =
      let t : TypedExpr = an_expr (node w.next) site ty.Void (typed_forms.PrintText n) in
      form-by (ExprForm-F.PrintText n) (forms.PrintText n) site p q u w (advanced 1 w) t (forms.rolls-PrintText n) (given-typed (node w.next) q t (advanced 1 w) h)

  pub name-sound : (x site : ℕ) (p : Place) (q : Asked) (u : Use) (w v : Walk) (t : TypedExpr) → name_value d p q u (node w.next) site x (advanced 1 w) ≡ typed t v →
      Holds d (Claim.form (forms.Named x None) site p q u w t v)
  name-sound x site p q u w v t h = form-by (ExprForm-F.Named x None) (forms.Named x None) site p q u w v t (forms.rolls-Named x None) h

  pub named_call-sound : (x site : ℕ) (c : Closure) (p : Place) (q : Asked) (u : Use) (w w₁ v : Walk) (f : Callee) (t : TypedExpr) →
      called_name d p (node (advanced 1 w).next) site x (advanced 1 (advanced 1 w)) ≡ typed f w₁ →
      Holds d (Claim.call [] (Some c) p q (node w.next) site f w₁ t v) →
      Holds d (Claim.form (forms.Named x (Some c)) site p q u w t v)
  named_call-sound x site c p q u w w₁ v f t h k =
      form-by (ExprForm-F.Named x (Some c)) (forms.Named x (Some c)) site p q u w v t (forms.rolls-Named x (Some c))
      (ap (call_value d p q (node w.next) site (trailing (Some (judged_closure d c)))) h ∙ k)

  pub self_word-sound : (site : ℕ) (p : Place) (q : Asked) (u : Use) (w v : Walk) (t : TypedExpr) → self_value d p q (node w.next) site (advanced 1 w) ≡ typed t v →
      Holds d (Claim.form forms.SelfWord site p q u w t v)
  self_word-sound site p q u w v t h = form-by ExprForm-F.SelfWord forms.SelfWord site p q u w v t forms.rolls-SelfWord h

  pub bracketed-sound : (e : Expr) (site : ℕ) (p : Place) (q : Asked) (u : Use) (w v : Walk) (x : TypedExpr) →
      Holds d (Claim.expression e p q uses.Kept (advanced 1 w) x v) →
      Holds d (Claim.form (forms.Bracketed e) site p q u w (an_expr (node w.next) site x.ty (typed_forms.Bracketed x)) v)
  bracketed-sound e site p q u w v x h =
      let t : TypedExpr = an_expr (node w.next) site x.ty (typed_forms.Bracketed x) in
      form-by (ExprForm-F.Bracketed e) (forms.Bracketed e) site p q u w v t (forms.rolls-Bracketed e)
      (then-typed ((judged_expr d e).value p q uses.Kept (advanced 1 w)) (bracketed (node w.next) site) x v (typed t v) h refl)

  pub negate-sound : (e : Expr) (site : ℕ) (p : Place) (q : Asked) (u : Use) (w v : Walk) (x : TypedExpr) →
      Holds d (Claim.expression e p (asked.Type ty.Int) uses.Kept (advanced 1 w) x v) → agrees q ty.Int ≡ true →
      Holds d (Claim.form (forms.Negate e) site p q u w (an_expr (node w.next) site ty.Int (typed_forms.Negate x)) v)
  negate-sound e site p q u w v x h k =
      let t : TypedExpr = an_expr (node w.next) site ty.Int (typed_forms.Negate x) in
      form-by (ExprForm-F.Negate e) (forms.Negate e) site p q u w v t (forms.rolls-Negate e)
      (then-typed ((judged_expr d e).value p (asked.Type ty.Int) uses.Kept (advanced 1 w)) (negated (node w.next) site q) x v (typed t v) h (given-typed (node w.next) q t v k))

  pub invert-sound : (e : Expr) (site : ℕ) (p : Place) (q : Asked) (u : Use) (w v : Walk) (x : TypedExpr) →
      Holds d (Claim.expression e p (asked.Type ty.Bool) uses.Kept (advanced 1 w) x v) → agrees q ty.Bool ≡ true →
      Holds d (Claim.form (forms.Not e) site p q u w (an_expr (node w.next) site ty.Bool (typed_forms.Not x)) v)
  invert-sound e site p q u w v x h k =
      let t : TypedExpr = an_expr (node w.next) site ty.Bool (typed_forms.Not x) in
      form-by (ExprForm-F.Not e) (forms.Not e) site p q u w v t (forms.rolls-Not e)
      (then-typed ((judged_expr d e).value p (asked.Type ty.Bool) uses.Kept (advanced 1 w)) (inverted (node w.next) site q) x v (typed t v) h (given-typed (node w.next) q t v k))

  -- ---- chains
  pub asked_first-is : (ls : List Link) → asked_first (map (judged_link d) ls) ≡ asked_of_first ls
  asked_first-is [] = refl
  asked_first-is (l ∷ ls) = ap (λ (j : JudgedLink). asked_first (j ∷ map (judged_link d) ls)) (link_is d l)

  pub links-length : (ls : List Link) → length (map (judged_link d) ls) ≡ length ls
  links-length [] = refl
  links-length (l ∷ ls) = ap common.suc (links-length ls)

  pub chain-sound : (e : Expr) (ls : List Link) (site : ℕ) (p : Place) (q : Asked) (u : Use) (w w₁ v : Walk) (x t : TypedExpr) →
      Holds d (Claim.expression e p (asked_of_first ls) uses.Kept (advanced (length ls) w) x w₁) →
      Holds d (Claim.links ls p w.next site x w₁ t v) → agrees q t.ty ≡ true →
      Holds d (Claim.form (forms.Chain e ls) site p q u w t v)
  chain-sound e ls site p q u w w₁ v x t h k a =
      let first : (judged_expr d e).value p (asked_first (map (judged_link d) ls)) uses.Kept (advanced (length (map (judged_link d) ls)) w) ≡ typed x w₁ =
      ap (λ y. (judged_expr d e).value p y uses.Kept (advanced (length (map (judged_link d) ls)) w)) (asked_first-is ls) ∙ ap (λ n. (judged_expr d e).value p (asked_of_first ls) uses.Kept (advanced n w)) (links-length ls) ∙ h in
      form-by (ExprForm-F.Chain e ls) (forms.Chain e ls) site p q u w v t (forms.rolls-Chain e ls)
      (then-typed (run_links p w.next site ((judged_expr d e).value p (asked_first (map (judged_link d) ls)) uses.Kept (advanced (length (map (judged_link d) ls)) w)) (map (judged_link d) ls)) (given (node w.next) q) t v (typed t v)
      (ap (λ y. run_links p w.next site y (map (judged_link d) ls)) first ∙ k) (given-typed (node w.next) q t v a))

  linked-sound : (l : Link) (p : Place) (n : ℕ) (site : ℕ) (x y : TypedExpr) (w w₁ : Walk) → fits_left l.operator x.ty ≡ true →
      Holds d (Claim.expression l.operand p (right_asked l.operator (Some x)) uses.Kept w y w₁) →
      linked p (node n) site (record { operator = l.operator; operand = judged_expr d l.operand }) (typed x w) ≡ typed (an_expr (node n) site (result_of l.operator) (operation l.operator x y)) w₁
  linked-sound l p n site x y w w₁ f h =
      let t : TypedExpr = an_expr (node n) site (result_of l.operator) (operation l.operator x y) in
      let left : left_fitting l.operator x w ≡ typed x w = need-typed (fits_left l.operator x.ty) _ x.node (typed x) w (typed x w) f refl in
      then-typed (both_by (left_fitting l.operator x w) (λ o. (judged_expr d l.operand).value p (right_asked l.operator o) uses.Kept)) (operated l.operator (node n) site) (x, y) w₁ (typed t w₁)
      (both_by-typed (left_fitting l.operator x w) (λ o. (judged_expr d l.operand).value p (right_asked l.operator o) uses.Kept) x w y w₁ left h) refl

  pub links_more-sound : (l : Link) (ls : List Link) (p : Place) (start site : ℕ) (x y t : TypedExpr) (w w₁ v : Walk) → fits_left l.operator x.ty ≡ true →
      Holds d (Claim.expression l.operand p (right_asked l.operator (Some x)) uses.Kept w y w₁) →
      Holds d (Claim.links ls p start site (an_expr (node (start + length ls)) site (result_of l.operator) (operation l.operator x y)) w₁ t v) →
      Holds d (Claim.links (l ∷ ls) p start site x w t v)
  links_more-sound l ls p start site x y t w w₁ v f h k =
      ap (λ (j : JudgedLink). run_links p start site (linked p (node (start + length (map (judged_link d) ls))) site j (typed x w)) (map (judged_link d) ls)) (link_is d l)
      ∙ ap (λ n. run_links p start site (linked p (node (start + n)) site (record { operator = l.operator; operand = judged_expr d l.operand }) (typed x w)) (map (judged_link d) ls)) (links-length ls)
      ∙ ap (λ r. run_links p start site r (map (judged_link d) ls)) (linked-sound l p (start + length ls) site x y w w₁ f h)
      ∙ k

  -- ---- arrays
  pub array-sound : (es : List Expr) (site : ℕ) (p : Place) (q : Asked) (u : Use) (w v : Walk) (ts : List TypedExpr) →
      Holds d (Claim.elements es p [] (advanced 1 w) ts v) → agrees q ty.Array ≡ true →
      Holds d (Claim.form (forms.Array es) site p q u w (an_expr (node w.next) site ty.Array (typed_forms.Elements ts)) v)
  array-sound es site p q u w v ts h k =
      let t : TypedExpr = an_expr (node w.next) site ty.Array (typed_forms.Elements ts) in
      form-by (ExprForm-F.Array es) (forms.Array es) site p q u w v t (forms.rolls-Array es)
      (then-typed (run_elements p (typed [] (advanced 1 w)) (map (judged_expr d) es)) (array_made (node w.next) site q) ts v (typed t v) h (given-typed (node w.next) q t v k))

  pub elements_more-sound : (e : Expr) (es : List Expr) (p : Place) (before ts : List TypedExpr) (t : TypedExpr) (w w₁ v : Walk) →
      Holds d (Claim.expression e p (asked.Type ty.Int) uses.Kept w t w₁) →
      Holds d (Claim.elements es p (before ++ t ∷ []) w₁ ts v) →
      Holds d (Claim.elements (e ∷ es) p before w ts v)
  elements_more-sound e es p before ts t w w₁ v h k =
      let m = (judged_expr d e).value p (asked.Type ty.Int) uses.Kept in
      ap (λ r. run_elements p r (map (judged_expr d) es)) (then-typed (both (typed before w) m) element_added (before, t) w₁ (typed (before ++ t ∷ []) w₁) (both-typed (typed before w) m before w t w₁ refl h) refl) ∙ k
