-- Parts of a tree of which each judgement that they are typed is derived.
use Rattle.std.proofs.Common.{◌≡◌, ℕ, Bool, List, [], ◌∷◌, Option, Some, None}
use Rattle.sx_tree.specs.declared.code.Argument.{Argument}
use Rattle.sx_tree.specs.declared.code.Block.{Block}
use Rattle.sx_tree.specs.declared.code.Closure.{Closure}
use Rattle.sx_tree.specs.declared.code.Else.{Else}
use Rattle.sx_tree.specs.declared.code.Expr.{Expr}
use Rattle.sx_tree.specs.declared.code.ExprForm.{ExprForm}
use Rattle.sx_tree.specs.declared.code.Link.{Link}
use Rattle.sx_tree.specs.declared.code.Local.{Local}
use Rattle.sx_tree.specs.declared.code.Part.{Part, Part-F, roll-Part}
use Rattle.sx_tree.specs.declared.code.Statement.{Statement}
use Rattle.sx_tree.specs.declared.code.StatementForm.{StatementForm, StatementForm-F, roll-StatementForm}
use Rattle.sx_typed.specs.declared.code.Expr.{Expr as TypedExpr}
use Rattle.sx_typed.specs.declared.code.Statement.{Statement as TypedStatement}
use Rattle.sx_scope.specs.declared.declarations.Declarations.{Declarations}
use Rattle.sx_scope.specs.declared.walk.Asked.{Asked}
use Rattle.sx_scope.specs.declared.walk.Place.{Place}
use Rattle.sx_scope.specs.declared.walk.Use.{Use}
use Rattle.sx_scope.specs.declared.walk.Walk.{Walk}
use Rattle.sx_well_typed.specs.Claims.{Claim}
use Rattle.sx_well_typed.specs.Rules.{Typed}
use Rattle.sx_well_typed.proofs.Holds.{Holds}
use Rattle.sx_well_typed.proofs.Levels.{OfParts}

abbrev pub Each : {X : Type 0} → (X → Type 0) → List X → Type 0
Each P [] = Unit {0}
Each P (x ∷ xs) = P x × Each P xs

abbrev pub Any : {X : Type 0} → (X → Type 0) → Option X → Type 0
Any P None = Unit {0}
Any P (Some x) = P x

module _ (d : Declarations) where
  -- a claim is derived where it holds
  abbrev pub Derives : Claim → Type 0
  Derives c = Holds d c → Typed d c

  abbrev pub ExprDerives : Expr → Type 0
  ExprDerives e = (p : Place) (q : Asked) (u : Use) (w : Walk) (t : TypedExpr) (v : Walk) → Derives (Claim.expression e p q u w t v)

  abbrev pub FormDerives : ExprForm → Type 0
  FormDerives f = (site : ℕ) (p : Place) (q : Asked) (u : Use) (w : Walk) (t : TypedExpr) (v : Walk) → Derives (Claim.form f site p q u w t v)

  abbrev pub ClosureDerives : Closure → Type 0
  ClosureDerives c = (p : Place) (q : Asked) (u : Use) (w : Walk) (t : TypedExpr) (v : Walk) → Derives (Claim.closure c p q u w t v)

  abbrev pub LinkDerives : Link → Type 0
  LinkDerives l = ExprDerives l.operand

  abbrev pub ArgumentDerives : Argument → Type 0
  ArgumentDerives a = ExprDerives a.value

  -- the parts of a part behind an operand
  abbrev pub PartIn : OfParts Part-F → Type 0
  PartIn (Part-F.Member end x c) = Any ClosureDerives c
  PartIn (Part-F.Index end is) = Each ExprDerives is
  PartIn (Part-F.Call end as_ c) = Each ArgumentDerives as_ × Any ClosureDerives c

  abbrev pub PartDerives : Part → Type 0
  PartDerives x = (y : OfParts Part-F) × (roll-Part y ≡ x) × PartIn y

  abbrev pub PartsDerive : List Part → Type 0
  PartsDerive ps = (p : Place) (q : Asked) (start site : ℕ) (this : Bool) (x : TypedExpr) (w : Walk) (t : TypedExpr) (v : Walk) → Derives (Claim.parts ps p q start site this x w t v)

  -- the expression that a statement is alone
  abbrev pub AloneIn : OfParts StatementForm-F → Type 0
  AloneIn (StatementForm-F.Expr e) = ExprDerives e
  AloneIn f = Unit {0}

  abbrev pub AloneDerives : StatementForm → Type 0
  AloneDerives f = (y : OfParts StatementForm-F) × (roll-StatementForm y ≡ f) × AloneIn y

  abbrev pub StatementFormDerives : StatementForm → Type 0
  StatementFormDerives f = ((site : ℕ) (p : Place) (w : Walk) (t : TypedStatement) (v : Walk) → Derives (Claim.statement_form f site p w t v)) × AloneDerives f

  abbrev pub StatementDerives : Statement → Type 0
  StatementDerives s = ((p : Place) (w : Walk) (t : TypedStatement) (v : Walk) → Derives (Claim.statement s p w t v)) × AloneDerives s.form

  abbrev pub LocalDerives : Local → Type 0
  LocalDerives l = (site : ℕ) (p : Place) (w : Walk) (t : TypedStatement) (v : Walk) → Derives (Claim.local l site p w t v)

  abbrev pub BlockDerives : Block → Type 0
  BlockDerives b = (p : Place) (w : Walk) (ts : List TypedStatement) (v : Walk) → Derives (Claim.block b p w ts v)

  abbrev pub ElseDerives : Else → Type 0
  ElseDerives e = (p : Place) (w : Walk) (ts : List TypedStatement) (v : Walk) → Derives (Claim.otherwise e p w ts v)
