-- Statements in a row, bodies and closure literals: what is judged typed is derived, where this is so of their parts.
use Rattle.std.proofs.Common.{◌≡◌, ◌∙◌, ℕ, Bool, true, false, List, [], ◌∷◌, ◌++◌, map, length, Option, Some, None, cond, refl, sym, ap, subst}
use Rattle.sx_span.specs.declared.places.Node.{Node}
use Rattle.sx_tree.specs.declared.code.Block.{Block, out-Block}
use Rattle.sx_tree.specs.declared.code.Closure.{Closure, out-Closure}
use Rattle.sx_tree.specs.declared.code.Expr.{Expr}
use Rattle.sx_tree.specs.declared.code.Statement.{Statement}
use Rattle.sx_tree.specs.declared.code.StatementForm.{StatementForm-F, roll-StatementForm}
use Rattle.sx_tree.specs.declared.code.StatementForm.TheVariants as statement_forms
use Rattle.sx_types.specs.declared.types.Ty.{Ty}
use Rattle.sx_typed.specs.declared.code.Expr.{Expr as TypedExpr}
use Rattle.sx_typed.specs.declared.code.Statement.{Statement as TypedStatement}
use Rattle.sx_typed.specs.declared.code.StatementForm.TheVariants as typed_statements
use Rattle.sx_scope.specs.declared.declarations.Declarations.{Declarations}
use Rattle.sx_scope.specs.declared.stop.TypeKind.{TypeKind}
use Rattle.sx_scope.specs.declared.walk.Asked.{Asked}
use Rattle.sx_scope.specs.declared.walk.Gives.{Gives}
use Rattle.sx_scope.specs.declared.walk.Gives.TheVariants as gives
use Rattle.sx_scope.specs.declared.walk.Place.{Place}
use Rattle.sx_scope.specs.declared.walk.Use.{Use}
use Rattle.sx_scope.specs.declared.walk.Use.TheVariants as uses
use Rattle.sx_scope.specs.declared.walk.Walk.{Walk}
use Rattle.sx_scope.specs.Verdict.{Verdict, typed, untold, depends, fails, is_typed, Judging, ◌▷◌, both, both_by, moved, unless_broken}
use Rattle.sx_scope.specs.Walks.{node, advanced, with_locals}
use Rattle.sx_calls.specs.Parts.{JudgedExpr, JudgedStatement}
use Rattle.sx_bodies.specs.Statements as bodies
use Rattle.sx_bodies.specs.Statements.{asked_to_give, body_by, given_back, has_value, inside, lacks_return, run_statements, scoped, single, statement_added}
use Rattle.sx_bodies.specs.Literals as literals
use Rattle.sx_bodies.specs.Literals.{closed, escapes, inside_literal, judged_signature, JudgedSignature, gives_by, literal_by, literal_function, literal_made, literal_parts, LiteralParts, untold_breaks, untold_literal, with_literal}
use Rattle.sx_check_expr.specs.Judge.{judged_expr, judged_statement, judged_statements, statement_form_step}
use Rattle.sx_check_expr.proofs.StatementEquations.{block_is}
use Rattle.sx_well_typed.specs.Claims.{Claim}
use Rattle.sx_well_typed.specs.LiteralRules.{mentioned_since}
use Rattle.sx_well_typed.specs.Rules.{Typed}
use Rattle.sx_well_typed.proofs.Derives.{Each, BlockDerives, ClosureDerives, ExprDerives, StatementDerives, AloneIn}
use Rattle.sx_well_typed.proofs.EndingTree.{returns-derived}
use Rattle.sx_well_typed.proofs.Holds.{Holds}
use Rattle.sx_well_typed.proofs.Levels.{OfParts, judged_in_statement_form}
use Rattle.sx_well_typed.proofs.LiteralRules.{literal_expr, made-inverted}
use Rattle.sx_well_typed.proofs.SoundBodies.{closure_is, statement_is}
use Rattle.sx_well_typed.proofs.SoundStatements.{local_is}
use Rattle.sx_well_typed.proofs.Trees.{none-in}
use Rattle.sx_well_typed.proofs.Verdicts.{First, typed-as, not-typed, then-inverted, both_by-inverted, moved-inverted, added-first, added-inverted}

module _ (d : Declarations) where
  -- ---- statements in a row
  run_statements-first : (p : Place) (r : Verdict (List TypedStatement)) (js : List JudgedStatement) (ts : List TypedStatement) (v : Walk) → run_statements p r js ≡ typed ts v → First r
  run_statements-first p r [] ts v h = (ts, v, h)
  run_statements-first p r (j ∷ js) ts v h =
      let (a, w, one) = run_statements-first p (both r (j.value p) ▷ statement_added) js ts v h in
      added-first r (j.value p) statement_added a w one

  pub statements-complete : (ss : List Statement) → Each (StatementDerives d) ss → (p : Place) (before : List TypedStatement) (w : Walk) (ts : List TypedStatement) (v : Walk) →
      Holds d (Claim.statements ss p before w ts v) → Typed d (Claim.statements ss p before w ts v)
  statements-complete [] k p before w ts v h = typed-as (λ ts v. Typed d (Claim.statements [] p before w ts v)) before ts w v h (Typed.statements_end p before w)
  statements-complete (s ∷ ss) k p before w ts v h =
      let js : List JudgedStatement = map (judged_statement d) ss in
      let m : Judging TypedStatement = (judged_statement d s).value p in
      let (a, w₂, one) = run_statements-first p (both (typed before w) m ▷ statement_added) js ts v h in
      let (t, w₁, first, made) = added-inverted before w m statement_added a w₂ one in
      Typed.statements_more s ss p before ts t w w₁ v (k.0.0 p w t w₁ first)
      (statements-complete ss k.1 p (before ++ t ∷ []) w₁ ts v (ap (λ r. run_statements p r js) (made ∙ sym one) ∙ h))

  -- a scope of its own
  abbrev pub Scopes : List Statement → Place → Walk → List TypedStatement → Walk → Type 0
  Scopes ss p w ts v = (u : Walk) × Typed d (Claim.statements ss (inside p w) [] w ts u) × (with_locals (length w.locals) u ≡ v)

  scoped-complete : (ss : List Statement) → Each (StatementDerives d) ss → (p : Place) (w : Walk) (ts : List TypedStatement) (v : Walk) → scoped p (judged_statements d ss) w ≡ typed ts v → Scopes ss p w ts v
  scoped-complete ss k p w ts v h =
      let (u, all, behind) = moved-inverted (with_locals (length w.locals)) (run_statements (inside p w) (typed [] w) (judged_statements d ss)) ts v h in
      (u, statements-complete ss k (inside p w) [] w ts u all, behind)

  pub block-complete : (b : Block) → Each (StatementDerives d) (out-Block b).statements → BlockDerives d b
  block-complete b k p w ts v h =
      let (u, all, behind) = scoped-complete (out-Block b).statements k p (advanced 1 w) ts v (ap (λ js. bodies.block p js w) (sym (block_is d b)) ∙ h) in
      subst (λ v. Typed d (Claim.block b p w ts v)) behind (Typed.a_block b p w u ts all)

  -- ---- bodies
  several-complete : (ss : List Statement) → Each (StatementDerives d) ss → (p : Place) (w : Walk) (ts : List TypedStatement) (v : Walk) → single p.gives (judged_statements d ss) ≡ None → Holds d (Claim.body ss p w ts v) → Typed d (Claim.body ss p w ts v)
  several-complete ss k p w ts v n h =
      let (u, all, behind) = scoped-complete ss k p w ts v (ap (λ o. body_by p (judged_statements d ss) o w) (sym n) ∙ h) in
      subst (λ v. Typed d (Claim.body ss p w ts v)) behind (Typed.body_statements ss p w u ts (none-in d p.gives ss n) all)

  -- a body of one statement, which may be an expression alone
  one-complete : (s : Statement) (e : Expr) → roll-StatementForm (StatementForm-F.Expr e) ≡ s.form → ExprDerives d e → Each (StatementDerives d) (s ∷ []) → (p : Place) (w : Walk) (ts : List TypedStatement) (v : Walk) (b : Bool) → has_value p.gives ≡ b →
      Holds d (Claim.body (s ∷ []) p w ts v) → Typed d (Claim.body (s ∷ []) p w ts v)
  one-complete s e i k l p w ts v true g h =
      let j : JudgedStatement = statement_form_step d (StatementForm-F.Expr (judged_expr d e)) s.span.start in
      let same : judged_statement d s ≡ j = statement_is d s (StatementForm-F.Expr e) (sym i) in
      let value : Verdict TypedExpr = (judged_expr d e).value p (asked_to_give p.gives) uses.Kept (advanced 1 w) in
      let given : value ▷ given_back s.span.start ≡ typed ts v =
      ap (λ b. body_by p (j ∷ []) (cond b (Some (judged_expr d e)) None) w) (sym g) ∙ ap (λ (j : JudgedStatement). bodies.body p (j ∷ []) w) (sym same) ∙ h in
      let (x, w₁, first, made) = then-inverted value (given_back s.span.start) ts v given in
      typed-as (λ ts v. Typed d (Claim.body (s ∷ []) p w ts v)) (bodies.statement s.span.start (typed_statements.Return (Some x)) ∷ []) ts w₁ v made
      (Typed.body_value e s p w w₁ x (sym i ∙ statement_forms.rolls-Expr e) g (k p (asked_to_give p.gives) uses.Kept (advanced 1 w) x w₁ first))
  one-complete s e i k l p w ts v false g h =
      several-complete (s ∷ []) l p w ts v
      (ap (λ (j : JudgedStatement). single p.gives (j ∷ [])) (statement_is d s (StatementForm-F.Expr e) (sym i)) ∙ ap (λ b. cond b (Some (judged_expr d e)) None) g) h

  single-none : (g : Gives) (j : JudgedStatement) → j.alone ≡ None → single g (j ∷ []) ≡ None
  single-none g j h = ap (λ o. cond (has_value g) o None) h ∙ neither (has_value g)
    where
      neither : (b : Bool) → cond {A = Option JudgedExpr} b None None ≡ None
      neither true = refl
      neither false = refl

  other-complete : (s : Statement) (y : OfParts StatementForm-F) → roll-StatementForm y ≡ s.form → (statement_form_step d (judged_in_statement_form d y) s.span.start).alone ≡ None → Each (StatementDerives d) (s ∷ []) → (p : Place) (w : Walk) (ts : List TypedStatement) (v : Walk) →
      Holds d (Claim.body (s ∷ []) p w ts v) → Typed d (Claim.body (s ∷ []) p w ts v)
  other-complete s y i n l p w ts v h =
      several-complete (s ∷ []) l p w ts v (single-none p.gives (judged_statement d s) (ap (λ (j : JudgedStatement). j.alone) (statement_is d s y (sym i)) ∙ n)) h

  single-complete : (s : Statement) (y : OfParts StatementForm-F) → roll-StatementForm y ≡ s.form → AloneIn d y → Each (StatementDerives d) (s ∷ []) → (p : Place) (w : Walk) (ts : List TypedStatement) (v : Walk) →
      Holds d (Claim.body (s ∷ []) p w ts v) → Typed d (Claim.body (s ∷ []) p w ts v)
  single-complete s (StatementForm-F.Expr e) i k l p w ts v h = one-complete s e i k l p w ts v (has_value p.gives) refl h
  single-complete s (StatementForm-F.Assign a x e) i k l p w ts v h = other-complete s (StatementForm-F.Assign a x e) i refl l p w ts v h
  single-complete s (StatementForm-F.If c a b) i k l p w ts v h = other-complete s (StatementForm-F.If c a b) i refl l p w ts v h
  single-complete s (StatementForm-F.While c a) i k l p w ts v h = other-complete s (StatementForm-F.While c a) i refl l p w ts v h
  single-complete s (StatementForm-F.Return None) i k l p w ts v h = other-complete s (StatementForm-F.Return None) i refl l p w ts v h
  single-complete s (StatementForm-F.Return (Some e)) i k l p w ts v h = other-complete s (StatementForm-F.Return (Some e)) i refl l p w ts v h
  single-complete s StatementForm-F.Break i k l p w ts v h = other-complete s StatementForm-F.Break i refl l p w ts v h
  single-complete s StatementForm-F.Continue i k l p w ts v h = other-complete s StatementForm-F.Continue i refl l p w ts v h
  single-complete s (StatementForm-F.Local x) i k l p w ts v h =
      other-complete s (StatementForm-F.Local x) i (ap (λ (j : ℕ → JudgedStatement). (j s.span.start).alone) (local_is d x)) l p w ts v h

  pub body-complete : (ss : List Statement) → Each (StatementDerives d) ss → (p : Place) (w : Walk) (ts : List TypedStatement) (v : Walk) → Holds d (Claim.body ss p w ts v) → Typed d (Claim.body ss p w ts v)
  body-complete [] k p w ts v h = several-complete [] k p w ts v refl h
  body-complete (s ∷ []) k p w ts v h =
      let (y, i, a) = k.0.1 in
      single-complete s y i a k p w ts v h
  body-complete (s ∷ (z ∷ ss)) k p w ts v h = several-complete (s ∷ (z ∷ ss)) k p w ts v refl h

  -- ---- closure literals
  abbrev pub Made : Asked → Use → Node → ℕ → ℕ → ℕ → List JudgedStatement → Verdict LiteralParts → TypedExpr → Walk → Type 0
  Made q u n site mentions literals js r t v = (x : LiteralParts) × (w : Walk) × (r ≡ typed x w) × (literal_made d q u n site mentions literals (lacks_return (gives.Type x.1.0) js) x w ≡ typed t v)

  -- a literal of which something isn't told is not typed
  untold_literal-not : (o : Option TypeKind) (n : Node) (w : Walk) → is_typed (unless_broken {A = TypedExpr} o n untold w) ≡ false
  untold_literal-not None n w = refl
  untold_literal-not (Some k) n w = refl

  literal_by-inverted : (q : Asked) (u : Use) (n : Node) (site mentions literals : ℕ) (g : JudgedSignature) (js : List JudgedStatement) (r : Verdict LiteralParts) (t : TypedExpr) (v : Walk) →
      literal_by d q u n site mentions literals g js r ≡ typed t v → Made q u n site mentions literals js r t v
  literal_by-inverted q u n site mentions literals g js (typed x w) t v h = (x, w, refl, h)
  literal_by-inverted q u n site mentions literals g js (untold w) t v h =
      not-typed (Made q u n site mentions literals js (untold w) t v) (untold_literal d q n g w) t v (untold_literal-not (untold_breaks d q g) n w) h
  literal_by-inverted q u n site mentions literals g js (depends w) t v h = not-typed (Made q u n site mentions literals js (depends w) t v) (depends w) t v refl h
  literal_by-inverted q u n site mentions literals g js (fails f fs w) t v h = not-typed (Made q u n site mentions literals js (fails f fs w) t v) (fails f fs w) t v refl h

  pub closure-complete : (c : Closure) → Each (StatementDerives d) (out-Closure c).body → ClosureDerives d c
  closure-complete c k p q u w t v h =
      let n : Node = node w.next in
      let site : ℕ = (out-Closure c).span.start in
      let g : JudgedSignature = judged_signature d (out-Closure c).signature in
      let js : List JudgedStatement = judged_statements d (out-Closure c).body in
      let inner : Option Ty → Judging (List TypedStatement) = λ o. bodies.body (inside_literal p u (length w.locals) (gives_by o)) js in
      let parts : Verdict LiteralParts = literal_parts d p q u g js (length w.locals) (advanced 1 w) in
      let behind : Walk → Walk = closed n (length w.locals) (length w.mentions) in
      let whole : literal_by d q u n site (length w.mentions) (length w.literals) g js (moved behind parts) ≡ typed t v = ap (λ (j : JudgedExpr). j.value p q u w) (sym (closure_is d c)) ∙ h in
      let (x, w₄, all, made) = literal_by-inverted q u n site (length w.mentions) (length w.literals) g js (moved behind parts) t v whole in
      let (w₃, within, left) = moved-inverted behind parts x w₄ all in
      let (w₁, one, others) = both_by-inverted (literals.parameters d q g (advanced 1 w)) (λ _ w. both_by (literals.result d q g w) inner) x w₃ within in
      let (w₂, two, three) = both_by-inverted (literals.result d q g w₁) inner x.1 w₃ others in
      let lacking : Bool = lacks_return (gives.Type x.1.0) js in
      let (number, returns, fits, is) = made-inverted d q u n site (length w.mentions) (length w.literals) lacking x w₄ t v made in
      typed-as (λ t v. Typed d (Claim.closure c p q u w t v)) (literal_expr d n site number) t (with_literal (length w.literals) (literal_function (escapes u) n (mentioned_since w w₄) x) w₄) v is
      (Typed.a_closure c p q u w w₁ w₂ w₃ w₄ x.0 x.1.0 x.1.1 number one two (body-complete (out-Closure c).body k (inside_literal p u (length w.locals) (gives.Type x.1.0)) w₂ x.1.1 w₃ three) left (returns-derived d x.1.0 (out-Closure c).body returns) fits)
