-- By induction over trees: where the judgement tells that the end of a body isn't reached, the rules of endings say so.
use Rattle.std.proofs.Common.{◌≡◌, ◌∙◌, Bool, true, false, not, ◌&&◌, List, [], ◌∷◌, Option, Some, None, option_map, is_none, refl, sym, ap, subst, true≢false}
use Rattle.sx_tree.specs.declared.code.Argument.{Argument}
use Rattle.sx_tree.specs.declared.code.Block.{Block, Block-F, map-Block, roll-Block, out-roll-Block}
use Rattle.sx_tree.specs.declared.code.Closure.{Closure}
use Rattle.sx_tree.specs.declared.code.Else.{Else, Else-F, map-Else, roll-Else}
use Rattle.sx_tree.specs.declared.code.Else.TheVariants as otherwises
use Rattle.sx_tree.specs.declared.code.Expr.{Expr}
use Rattle.sx_tree.specs.declared.code.ExprForm.{ExprForm}
use Rattle.sx_tree.specs.declared.code.Link.{Link}
use Rattle.sx_tree.specs.declared.code.Local.{Local}
use Rattle.sx_tree.specs.declared.code.Part.{Part}
use Rattle.sx_tree.specs.declared.code.Statement.{Statement, Statement-F, map-Statement, roll-Statement, ind-Statement}
use Rattle.sx_tree.specs.declared.code.StatementForm.{StatementForm, StatementForm-F, map-StatementForm, roll-StatementForm}
use Rattle.sx_types.specs.declared.types.Ty.{Ty}
use Rattle.sx_scope.specs.declared.declarations.Declarations.{Declarations}
use Rattle.sx_scope.specs.declared.walk.Gives.TheVariants as gives
use Rattle.sx_scope.specs.WrittenTypes.{is_void}
use Rattle.sx_bodies.specs.Statements.{else_breaks, else_passes, lacks_return, passes_end, single}
use Rattle.sx_check_expr.specs.Judge.{judged_expr, judged_statements}
use Rattle.sx_well_typed.specs.Endings.{Ending, Ends, Returns}
use Rattle.sx_well_typed.specs.Trees.{OfParts, alone_value}
use Rattle.sx_well_typed.proofs.Derives.{Each}
use Rattle.sx_well_typed.proofs.Known.{each-known}
use Rattle.sx_well_typed.proofs.Trees.{single-is}
use Rattle.sx_well_typed.proofs.Endings.{BlockEnds, ElseEnds, FormEnds, StatementEnds, block-by, else-of, ending-told, statement-by, stop-by}

module _ (d : Declarations) where
  -- ---- by induction over trees
  abbrev pub OfEnding : (Type 0 → Type 0 → Type 0 → Type 0 → Type 0 → Type 0 → Type 0 → Type 0 → Type 0 → Type 0 → Type 0 → Type 0) → Type 0
  OfEnding F = F ((x : Else) × ElseEnds d x) ((x : ExprForm) × Unit {0}) ((x : Part) × Unit {0}) ((x : StatementForm) × FormEnds d x) ((x : Argument) × Unit {0}) ((x : Block) × BlockEnds d x) ((x : Closure) × Unit {0}) ((x : Expr) × Unit {0}) ((x : Link) × Unit {0}) ((x : Local) × Unit {0}) ((x : Statement) × StatementEnds d x)

  abbrev pub ending_else : OfEnding Else-F → OfParts Else-F
  ending_else = map-Else ((x : Else) × ElseEnds d x) ((x : ExprForm) × Unit {0}) ((x : Part) × Unit {0}) ((x : StatementForm) × FormEnds d x) ((x : Argument) × Unit {0}) ((x : Block) × BlockEnds d x) ((x : Closure) × Unit {0}) ((x : Expr) × Unit {0}) ((x : Link) × Unit {0}) ((x : Local) × Unit {0}) ((x : Statement) × StatementEnds d x) Else ExprForm Part StatementForm Argument Block Closure Expr Link Local Statement (λ x. x.0) (λ x. x.0) (λ x. x.0) (λ x. x.0) (λ x. x.0) (λ x. x.0) (λ x. x.0) (λ x. x.0) (λ x. x.0) (λ x. x.0) (λ x. x.0)

  abbrev pub ending_statement_form : OfEnding StatementForm-F → OfParts StatementForm-F
  ending_statement_form = map-StatementForm ((x : Else) × ElseEnds d x) ((x : ExprForm) × Unit {0}) ((x : Part) × Unit {0}) ((x : StatementForm) × FormEnds d x) ((x : Argument) × Unit {0}) ((x : Block) × BlockEnds d x) ((x : Closure) × Unit {0}) ((x : Expr) × Unit {0}) ((x : Link) × Unit {0}) ((x : Local) × Unit {0}) ((x : Statement) × StatementEnds d x) Else ExprForm Part StatementForm Argument Block Closure Expr Link Local Statement (λ x. x.0) (λ x. x.0) (λ x. x.0) (λ x. x.0) (λ x. x.0) (λ x. x.0) (λ x. x.0) (λ x. x.0) (λ x. x.0) (λ x. x.0) (λ x. x.0)

  abbrev pub ending_block : OfEnding Block-F → OfParts Block-F
  ending_block = map-Block ((x : Else) × ElseEnds d x) ((x : ExprForm) × Unit {0}) ((x : Part) × Unit {0}) ((x : StatementForm) × FormEnds d x) ((x : Argument) × Unit {0}) ((x : Block) × BlockEnds d x) ((x : Closure) × Unit {0}) ((x : Expr) × Unit {0}) ((x : Link) × Unit {0}) ((x : Local) × Unit {0}) ((x : Statement) × StatementEnds d x) Else ExprForm Part StatementForm Argument Block Closure Expr Link Local Statement (λ x. x.0) (λ x. x.0) (λ x. x.0) (λ x. x.0) (λ x. x.0) (λ x. x.0) (λ x. x.0) (λ x. x.0) (λ x. x.0) (λ x. x.0) (λ x. x.0)

  abbrev pub ending_statement : OfEnding Statement-F → OfParts Statement-F
  ending_statement = map-Statement ((x : Else) × ElseEnds d x) ((x : ExprForm) × Unit {0}) ((x : Part) × Unit {0}) ((x : StatementForm) × FormEnds d x) ((x : Argument) × Unit {0}) ((x : Block) × BlockEnds d x) ((x : Closure) × Unit {0}) ((x : Expr) × Unit {0}) ((x : Link) × Unit {0}) ((x : Local) × Unit {0}) ((x : Statement) × StatementEnds d x) Else ExprForm Part StatementForm Argument Block Closure Expr Link Local Statement (λ x. x.0) (λ x. x.0) (λ x. x.0) (λ x. x.0) (λ x. x.0) (λ x. x.0) (λ x. x.0) (λ x. x.0) (λ x. x.0) (λ x. x.0) (λ x. x.0)

  else-as : (y : OfParts Else-F) (e : Else) → roll-Else y ≡ e → ElseEnds d e → ElseEnds d (roll-Else y)
  else-as y e i k = subst (ElseEnds d) (sym i) k

  else_level : (y : OfEnding Else-F) → ElseEnds d (roll-Else (ending_else y))
  else_level Else-F.Absent =
      let e = else-of d Else-F.Absent otherwises.Absent otherwises.rolls-Absent in
      else-as Else-F.Absent otherwises.Absent otherwises.rolls-Absent (λ h. absurd (true≢false (sym (ap else_passes e) ∙ h)), λ h. Ends.stays_none)
  else_level (Else-F.Block b) =
      let e = else-of d (Else-F.Block b.0) (otherwises.Block b.0) (otherwises.rolls-Block b.0) in
      else-as (Else-F.Block b.0) (otherwises.Block b.0) (otherwises.rolls-Block b.0)
      (λ h. Ends.stops_block b.0 (b.1.0 (sym (ap else_passes e) ∙ h)), λ h. Ends.stays_block b.0 (b.1.1 (sym (ap else_breaks e) ∙ h)))
  else_level (Else-F.ElseIf s) =
      let e = else-of d (Else-F.ElseIf s.0) (otherwises.ElseIf s.0) (otherwises.rolls-ElseIf s.0) in
      else-as (Else-F.ElseIf s.0) (otherwises.ElseIf s.0) (otherwises.rolls-ElseIf s.0)
      (λ h. Ends.stops_if s.0 (s.1.0 (sym (ap else_passes e) ∙ h)), λ h. Ends.stays_if s.0 (s.1.1 (sym (ap else_breaks e) ∙ h)))

  statement_form_level : (y : OfEnding StatementForm-F) → FormEnds d (roll-StatementForm (ending_statement_form y))
  statement_form_level (StatementForm-F.Expr e) = (StatementForm-F.Expr e.0, refl, tt)
  statement_form_level (StatementForm-F.Assign a l e) = (StatementForm-F.Assign a l.0 e.0, refl, tt)
  statement_form_level (StatementForm-F.If c a b) = (StatementForm-F.If c.0 a.0 b.0, refl, (a.1, b.1))
  statement_form_level (StatementForm-F.While c a) = (StatementForm-F.While c.0 a.0, refl, a.1)
  statement_form_level (StatementForm-F.Return None) = (StatementForm-F.Return None, refl, tt)
  statement_form_level (StatementForm-F.Return (Some e)) = (StatementForm-F.Return (Some e.0), refl, tt)
  statement_form_level StatementForm-F.Break = (StatementForm-F.Break, refl, tt)
  statement_form_level StatementForm-F.Continue = (StatementForm-F.Continue, refl, tt)
  statement_form_level (StatementForm-F.Local l) = (StatementForm-F.Local l.0, refl, tt)

  block_level : (y : OfEnding Block-F) → BlockEnds d (roll-Block (ending_block y))
  block_level y =
      let x : OfParts Block-F = ending_block y in
      block-by d (roll-Block x) (subst (λ (z : OfParts Block-F). Each (StatementEnds d) z.statements) (sym (out-roll-Block x)) (each-known (StatementEnds d) y.statements))

  statement_level : (y : OfEnding Statement-F) → StatementEnds d (roll-Statement (ending_statement y))
  statement_level y = statement-by d (roll-Statement (ending_statement y)) y.form.1

  else_known : (x : OfParts Else-F) (y : OfEnding Else-F) → ending_else y ≡ x → ElseEnds d (roll-Else x)
  else_known x y e = subst (λ z. ElseEnds d (roll-Else z)) e (else_level y)

  statement_form_known : (x : OfParts StatementForm-F) (y : OfEnding StatementForm-F) → ending_statement_form y ≡ x → FormEnds d (roll-StatementForm x)
  statement_form_known x y e = subst (λ z. FormEnds d (roll-StatementForm z)) e (statement_form_level y)

  block_known : (x : OfParts Block-F) (y : OfEnding Block-F) → ending_block y ≡ x → BlockEnds d (roll-Block x)
  block_known x y e = subst (λ z. BlockEnds d (roll-Block z)) e (block_level y)

  statement_known : (x : OfParts Statement-F) (y : OfEnding Statement-F) → ending_statement y ≡ x → StatementEnds d (roll-Statement x)
  statement_known x y e = subst (λ z. StatementEnds d (roll-Statement z)) e (statement_level y)

  pub statement-ends : (s : Statement) → StatementEnds d s
  statement-ends = ind-Statement (ElseEnds d) (λ _. Unit {0}) (λ _. Unit {0}) (FormEnds d) (λ _. Unit {0}) (BlockEnds d) (λ _. Unit {0}) (λ _. Unit {0}) (λ _. Unit {0}) (λ _. Unit {0}) (StatementEnds d) (λ x y e. else_known x y e) (λ x y e. tt) (λ x y e. tt) (λ x y e. statement_form_known x y e) (λ x y e. tt) (λ x y e. block_known x y e) (λ x y e. tt) (λ x y e. tt) (λ x y e. tt) (λ x y e. tt) (λ x y e. statement_known x y e)

  pub statements-end : (ss : List Statement) → Each (StatementEnds d) ss
  statements-end [] = tt
  statements-end (s ∷ ss) = (statement-ends s, statements-end ss)

  -- ---- bodies
  nothing-lacks : (a b c : Bool) → b ≡ false → (a && b && c) ≡ false
  nothing-lacks true b c h = ap (λ x. x && c) h
  nothing-lacks false b c h = refl

  alone-lacks : (a b c : Bool) → c ≡ false → (a && b && c) ≡ false
  alone-lacks true true c h = h
  alone-lacks true false c h = refl
  alone-lacks false b c h = refl

  void-lacks : (a b c : Bool) → a ≡ true → (not a && b && c) ≡ false
  void-lacks a b c h = ap (λ x. not x && b && c) h

  pub returns-told : (r : Ty) (ss : List Statement) → Returns r ss → lacks_return (gives.Type r) (judged_statements d ss) ≡ false
  returns-told r ss (Returns.gives_none h) = void-lacks (is_void r) (passes_end (judged_statements d ss)) (is_none (single (gives.Type r) (judged_statements d ss))) h
  returns-told r ss (Returns.gives_alone e h) =
      alone-lacks (not (is_void r)) (passes_end (judged_statements d ss)) (is_none (single (gives.Type r) (judged_statements d ss))) (ap is_none (single-is d (gives.Type r) ss ∙ ap (option_map (judged_expr d)) h))
  returns-told r ss (Returns.gives_before h) = nothing-lacks (not (is_void r)) (passes_end (judged_statements d ss)) (is_none (single (gives.Type r) (judged_statements d ss))) (ending-told d (Ending.stop ss) h)

  returns-by : (r : Ty) (ss : List Statement) (a b : Bool) (o : Option Expr) → is_void r ≡ a → passes_end (judged_statements d ss) ≡ b → alone_value (gives.Type r) ss ≡ o → (not a && b && is_none (option_map (judged_expr d) o)) ≡ false → Returns r ss
  returns-by r ss true b o x y z h = Returns.gives_none x
  returns-by r ss false false o x y z h = Returns.gives_before (stop-by d ss (statements-end ss) y)
  returns-by r ss false true (Some e) x y z h = Returns.gives_alone e z
  returns-by r ss false true None x y z h = absurd (true≢false h)

  pub returns-derived : (r : Ty) (ss : List Statement) → lacks_return (gives.Type r) (judged_statements d ss) ≡ false → Returns r ss
  returns-derived r ss h =
      returns-by r ss (is_void r) (passes_end (judged_statements d ss)) (alone_value (gives.Type r) ss) refl refl refl
      (ap (λ o. not (is_void r) && passes_end (judged_statements d ss) && is_none o) (sym (single-is d (gives.Type r) ss)) ∙ h)
