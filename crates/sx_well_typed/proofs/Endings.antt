-- The judgement tells that the end of statements isn't reached exactly where the rules of endings say so.
use Rattle.std.proofs.Common.{◌≡◌, ◌∙◌, ℕ, Bool, true, false, not, ◌||◌, List, [], ◌∷◌, Some, None, refl, sym, ap, true≢false}
use Rattle.sx_tree.specs.declared.code.Block.{Block, out-Block}
use Rattle.sx_tree.specs.declared.code.Else.{Else, Else-F, roll-Else}
use Rattle.sx_tree.specs.declared.code.Else.TheVariants as otherwises
use Rattle.sx_tree.specs.declared.code.Expr.{Expr}
use Rattle.sx_tree.specs.declared.code.ExprForm.{ExprForm-F, out-ExprForm}
use Rattle.sx_tree.specs.declared.code.Statement.{Statement}
use Rattle.sx_tree.specs.declared.code.StatementForm.{StatementForm, StatementForm-F, roll-StatementForm, out-StatementForm, out-roll-StatementForm, roll-out-StatementForm}
use Rattle.sx_tree.specs.declared.code.StatementForm.TheVariants as statement_forms
use Rattle.sx_scope.specs.declared.declarations.Declarations.{Declarations}
use Rattle.sx_calls.specs.Parts.{JudgedExpr, JudgedStatement}
use Rattle.sx_bodies.specs.Statements.{any_breaks, else_breaks, else_passes, passes_end}
use Rattle.sx_check_expr.specs.Judge.{else_step, form_step, judged_block, judged_else, judged_expr, judged_statement, judged_statements, statement_form_step}
use Rattle.sx_check_expr.proofs.StatementEquations.{block_is}
use Rattle.sx_well_typed.specs.Endings.{Ending, Ends, is_true_word, may_break_in, true_in}
use Rattle.sx_well_typed.specs.Trees.{OfParts}
use Rattle.sx_well_typed.proofs.Derives.{Each}
use Rattle.sx_well_typed.proofs.Levels.{judged_in_else, judged_in_form, judged_in_statement_form, else-rolled}
use Rattle.sx_well_typed.proofs.SoundBodies.{closure_is, statement_is}
use Rattle.sx_well_typed.proofs.SoundStatements.{local_is}
use Rattle.sx_well_typed.proofs.Trees.{expr_is}

neither : (a b : Bool) → (a || b) ≡ false → (a ≡ false) × (b ≡ false)
neither true b h = absurd (true≢false h)
neither false b h = (refl, h)

nor : (a b : Bool) → a ≡ false → b ≡ false → (a || b) ≡ false
nor a b h k = ap (λ c. c || b) h ∙ k

is-so : (b : Bool) → not b ≡ false → b ≡ true
is-so true h = refl
is-so false h = absurd (true≢false h)

module _ (d : Declarations) where
  true_in-is : (y : OfParts ExprForm-F) (site : ℕ) → (form_step d (judged_in_form d y) site).is_true ≡ true_in y
  true_in-is (ExprForm-F.Int n) site = refl
  true_in-is ExprForm-F.LeastInt site = refl
  true_in-is (ExprForm-F.Bool b) site = refl
  true_in-is (ExprForm-F.Named x None) site = refl
  true_in-is (ExprForm-F.Named x (Some c)) site = refl
  true_in-is ExprForm-F.SelfWord site = refl
  true_in-is (ExprForm-F.Bracketed e) site = refl
  true_in-is (ExprForm-F.PrintText t) site = refl
  true_in-is (ExprForm-F.Negate e) site = refl
  true_in-is (ExprForm-F.Not e) site = refl
  true_in-is (ExprForm-F.Chain e ls) site = refl
  true_in-is (ExprForm-F.Postfix e ps) site = refl
  true_in-is (ExprForm-F.Closure c) site = ap (λ (j : JudgedExpr). j.is_true) (closure_is d c)
  true_in-is (ExprForm-F.Array es) site = refl

  true-is : (e : Expr) → (judged_expr d e).is_true ≡ is_true_word e
  true-is e = ap (λ (j : JudgedExpr). j.is_true) (expr_is d e) ∙ true_in-is (out-ExprForm e.form) e.span.start

  -- ---- what the rules say is told
  abbrev pub Told : Ending → Type 0
  Told (Ending.stops s) = (judged_statement d s).passes ≡ false
  Told (Ending.stop ss) = passes_end (judged_statements d ss) ≡ false
  Told (Ending.stops_else e) = else_passes (judged_else d e) ≡ false
  Told (Ending.stays s) = (judged_statement d s).breaks ≡ false
  Told (Ending.stay ss) = any_breaks (judged_statements d ss) ≡ false
  Told (Ending.stays_else e) = else_breaks (judged_else d e) ≡ false

  form-of : (s : Statement) (y : OfParts StatementForm-F) (f : StatementForm) → s.form ≡ f → roll-StatementForm y ≡ f → judged_statement d s ≡ statement_form_step d (judged_in_statement_form d y) s.span.start
  form-of s y f h e = statement_is d s y (h ∙ sym e)

  pub else-of : (y : OfParts Else-F) (e : Else) → roll-Else y ≡ e → judged_else d e ≡ else_step d (judged_in_else d y)
  else-of y e h = ap (judged_else d) (sym h) ∙ else-rolled d y

  -- a statement that is no `if` and no `break`
  other-stays : (y : OfParts StatementForm-F) (site : ℕ) → may_break_in y ≡ false → (statement_form_step d (judged_in_statement_form d y) site).breaks ≡ false
  other-stays (StatementForm-F.Expr e) site h = refl
  other-stays (StatementForm-F.Assign a l e) site h = refl
  other-stays (StatementForm-F.If c a b) site h = absurd (true≢false h)
  other-stays (StatementForm-F.While c a) site h = refl
  other-stays (StatementForm-F.Return e) site h = refl
  other-stays StatementForm-F.Break site h = absurd (true≢false h)
  other-stays StatementForm-F.Continue site h = refl
  other-stays (StatementForm-F.Local l) site h = ap (λ (j : ℕ → JudgedStatement). (j site).breaks) (local_is d l)

  pub ending-told : (c : Ending) → Ends c → Told c
  ending-told _ (Ends.stop_last s h) = ending-told _ h
  ending-told _ (Ends.stop_later s t ss h) = ending-told _ h
  ending-told _ (Ends.returned s e h) = ap (λ (j : JudgedStatement). j.passes) (form-of s (StatementForm-F.Return e) (statement_forms.Return e) h (statement_forms.rolls-Return e))
  ending-told _ (Ends.branched s c a b h k l) =
      ap (λ (j : JudgedStatement). j.passes) (form-of s (StatementForm-F.If c a b) (statement_forms.If c a b) h (statement_forms.rolls-If c a b))
      ∙ nor (passes_end (judged_block d a)) (else_passes (judged_else d b)) (ap passes_end (block_is d a) ∙ ending-told _ k) (ending-told _ l)
  ending-told _ (Ends.looped s c a h t k) =
      ap (λ (j : JudgedStatement). j.passes) (form-of s (StatementForm-F.While c a) (statement_forms.While c a) h (statement_forms.rolls-While c a))
      ∙ nor (not (judged_expr d c).is_true) (any_breaks (judged_block d a)) (ap not (true-is c ∙ t)) (ap any_breaks (block_is d a) ∙ ending-told _ k)
  ending-told _ (Ends.stops_block b h) = ap else_passes (else-of (Else-F.Block b) (otherwises.Block b) (otherwises.rolls-Block b)) ∙ ap passes_end (block_is d b) ∙ ending-told _ h
  ending-told _ (Ends.stops_if s h) = ap else_passes (else-of (Else-F.ElseIf s) (otherwises.ElseIf s) (otherwises.rolls-ElseIf s)) ∙ ending-told _ h
  ending-told _ Ends.stay_none = refl
  ending-told _ (Ends.stay_more s ss h k) = nor (judged_statement d s).breaks (any_breaks (judged_statements d ss)) (ending-told _ h) (ending-told _ k)
  ending-told _ (Ends.stays_branched s c a b h k l) =
      ap (λ (j : JudgedStatement). j.breaks) (form-of s (StatementForm-F.If c a b) (statement_forms.If c a b) h (statement_forms.rolls-If c a b))
      ∙ nor (any_breaks (judged_block d a)) (else_breaks (judged_else d b)) (ap any_breaks (block_is d a) ∙ ending-told _ k) (ending-told _ l)
  ending-told _ (Ends.stays_other s h) =
      ap (λ (j : JudgedStatement). j.breaks) (statement_is d s (out-StatementForm s.form) (sym (roll-out-StatementForm s.form))) ∙ other-stays (out-StatementForm s.form) s.span.start h
  ending-told _ Ends.stays_none = ap else_breaks (else-of Else-F.Absent otherwises.Absent otherwises.rolls-Absent)
  ending-told _ (Ends.stays_block b h) = ap else_breaks (else-of (Else-F.Block b) (otherwises.Block b) (otherwises.rolls-Block b)) ∙ ap any_breaks (block_is d b) ∙ ending-told _ h
  ending-told _ (Ends.stays_if s h) = ap else_breaks (else-of (Else-F.ElseIf s) (otherwises.ElseIf s) (otherwises.rolls-ElseIf s)) ∙ ending-told _ h

  -- ---- and what is told they say
  abbrev pub StatementEnds : Statement → Type 0
  StatementEnds s = (Told (Ending.stops s) → Ends (Ending.stops s)) × (Told (Ending.stays s) → Ends (Ending.stays s))

  abbrev pub BlockEnds : Block → Type 0
  BlockEnds b = (passes_end (judged_block d b) ≡ false → Ends (Ending.stop (out-Block b).statements)) × (any_breaks (judged_block d b) ≡ false → Ends (Ending.stay (out-Block b).statements))

  abbrev pub ElseEnds : Else → Type 0
  ElseEnds e = (Told (Ending.stops_else e) → Ends (Ending.stops_else e)) × (Told (Ending.stays_else e) → Ends (Ending.stays_else e))

  abbrev pub EndsIn : OfParts StatementForm-F → Type 0
  EndsIn (StatementForm-F.If c a b) = BlockEnds a × ElseEnds b
  EndsIn (StatementForm-F.While c a) = BlockEnds a
  EndsIn f = Unit {0}

  abbrev pub FormEnds : StatementForm → Type 0
  FormEnds f = (y : OfParts StatementForm-F) × (roll-StatementForm y ≡ f) × EndsIn y

  -- a statement of this form
  stops-by : (s : Statement) (y : OfParts StatementForm-F) → roll-StatementForm y ≡ s.form → EndsIn y → (statement_form_step d (judged_in_statement_form d y) s.span.start).passes ≡ false → Ends (Ending.stops s)
  stops-by s (StatementForm-F.Expr e) i k h = absurd (true≢false h)
  stops-by s (StatementForm-F.Assign a l e) i k h = absurd (true≢false h)
  stops-by s (StatementForm-F.If c a b) i k h =
      let r = neither (passes_end (judged_block d a)) (else_passes (judged_else d b)) h in
      Ends.branched s c a b (sym i ∙ statement_forms.rolls-If c a b) (k.0.0 r.0) (k.1.0 r.1)
  stops-by s (StatementForm-F.While c a) i k h =
      let r = neither (not (judged_expr d c).is_true) (any_breaks (judged_block d a)) h in
      Ends.looped s c a (sym i ∙ statement_forms.rolls-While c a) (sym (true-is c) ∙ is-so (judged_expr d c).is_true r.0) (k.1 r.1)
  stops-by s (StatementForm-F.Return e) i k h = Ends.returned s e (sym i ∙ statement_forms.rolls-Return e)
  stops-by s StatementForm-F.Break i k h = absurd (true≢false h)
  stops-by s StatementForm-F.Continue i k h = absurd (true≢false h)
  stops-by s (StatementForm-F.Local l) i k h = absurd (true≢false (sym (ap (λ (j : ℕ → JudgedStatement). (j s.span.start).passes) (local_is d l)) ∙ h))

  other-by : (s : Statement) (y : OfParts StatementForm-F) → roll-StatementForm y ≡ s.form → may_break_in y ≡ false → Ends (Ending.stays s)
  other-by s y i h = Ends.stays_other s (ap (λ f. may_break_in (out-StatementForm f)) (sym i) ∙ ap may_break_in (out-roll-StatementForm y) ∙ h)

  stays-by : (s : Statement) (y : OfParts StatementForm-F) → roll-StatementForm y ≡ s.form → EndsIn y → (statement_form_step d (judged_in_statement_form d y) s.span.start).breaks ≡ false → Ends (Ending.stays s)
  stays-by s (StatementForm-F.Expr e) i k h = other-by s (StatementForm-F.Expr e) i refl
  stays-by s (StatementForm-F.Assign a l e) i k h = other-by s (StatementForm-F.Assign a l e) i refl
  stays-by s (StatementForm-F.If c a b) i k h =
      let r = neither (any_breaks (judged_block d a)) (else_breaks (judged_else d b)) h in
      Ends.stays_branched s c a b (sym i ∙ statement_forms.rolls-If c a b) (k.0.1 r.0) (k.1.1 r.1)
  stays-by s (StatementForm-F.While c a) i k h = other-by s (StatementForm-F.While c a) i refl
  stays-by s (StatementForm-F.Return e) i k h = other-by s (StatementForm-F.Return e) i refl
  stays-by s StatementForm-F.Break i k h = absurd (true≢false h)
  stays-by s StatementForm-F.Continue i k h = other-by s StatementForm-F.Continue i refl
  stays-by s (StatementForm-F.Local l) i k h = other-by s (StatementForm-F.Local l) i refl

  pub statement-by : (s : Statement) → FormEnds s.form → StatementEnds s
  statement-by s (y, i, k) =
      (λ h. stops-by s y i k (ap (λ (j : JudgedStatement). j.passes) (sym (statement_is d s y (sym i))) ∙ h), λ h. stays-by s y i k (ap (λ (j : JudgedStatement). j.breaks) (sym (statement_is d s y (sym i))) ∙ h))

  -- statements in a row
  pub stop-by : (ss : List Statement) → Each StatementEnds ss → Told (Ending.stop ss) → Ends (Ending.stop ss)
  stop-by [] k h = absurd (true≢false h)
  stop-by (s ∷ []) k h = Ends.stop_last s (k.0.0 h)
  stop-by (s ∷ (t ∷ ss)) k h = Ends.stop_later s t ss (stop-by (t ∷ ss) k.1 h)

  stay-by : (ss : List Statement) → Each StatementEnds ss → Told (Ending.stay ss) → Ends (Ending.stay ss)
  stay-by [] k h = Ends.stay_none
  stay-by (s ∷ ss) k h =
      let r = neither (judged_statement d s).breaks (any_breaks (judged_statements d ss)) h in
      Ends.stay_more s ss (k.0.1 r.0) (stay-by ss k.1 r.1)

  pub block-by : (b : Block) → Each StatementEnds (out-Block b).statements → BlockEnds b
  block-by b k = (λ h. stop-by (out-Block b).statements k (ap passes_end (sym (block_is d b)) ∙ h), λ h. stay-by (out-Block b).statements k (ap any_breaks (sym (block_is d b)) ∙ h))
