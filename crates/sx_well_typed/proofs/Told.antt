-- Rules that tell how many nodes parts make, or what an operand is, where the judgement tells it.
use Rattle.std.specs.Prelude.{◌≡◌, ℕ, ◌+◌, Bool, true, false, List, [], ◌∷◌, length, Option, Some, None}
use Rattle.sx_tree.specs.declared.code.Argument.{Argument}
use Rattle.sx_tree.specs.declared.code.Closure.{Closure}
use Rattle.sx_tree.specs.declared.code.Expr.{Expr}
use Rattle.sx_tree.specs.declared.code.ExprForm.TheVariants as forms
use Rattle.sx_tree.specs.declared.code.Part.{Part}
use Rattle.sx_tree.specs.declared.code.Part.TheVariants as parts_
use Rattle.sx_tree.specs.declared.written_types.Name.{Name}
use Rattle.sx_typed.specs.declared.code.Expr.{Expr as TypedExpr}
use Rattle.sx_scope.specs.declared.declarations.Declarations.{Declarations}
use Rattle.sx_scope.specs.declared.declarations.Subscript.{Subscript}
use Rattle.sx_scope.specs.declared.walk.Asked.{Asked}
use Rattle.sx_scope.specs.declared.walk.Asked.TheVariants as asked
use Rattle.sx_scope.specs.declared.walk.Callee.{Callee}
use Rattle.sx_scope.specs.declared.walk.Place.{Place}
use Rattle.sx_scope.specs.declared.walk.Use.{Use}
use Rattle.sx_scope.specs.declared.walk.Use.TheVariants as uses
use Rattle.sx_scope.specs.declared.walk.Walk.{Walk}
use Rattle.sx_scope.specs.Verdict.{typed}
use Rattle.sx_scope.specs.Walks.{node, advanced}
use Rattle.sx_scope.specs.Names.{agrees, callable, called_member, member_value}
use Rattle.sx_scope.specs.Paths.{subscript_of}
use Rattle.sx_calls.specs.Parts.{asked_before}
use Rattle.sx_calls.specs.Calls.{subscript}
use Rattle.sx_well_typed.specs.Claims.{Claim}
use Rattle.sx_well_typed.specs.Trees.{calls_first, is_self_word, nodes_of}
use Rattle.std.proofs.Common.{sym, subst}
use Rattle.sx_check_expr.specs.Judge.{judged_expr}
use Rattle.sx_well_typed.specs.Rules.{Typed}
use Rattle.sx_well_typed.proofs.Holds.{Holds}
use Rattle.sx_well_typed.proofs.Judged.{judged_calls, judged_nodes}
use Rattle.sx_well_typed.proofs.SoundCalls.{member_closure-sound, member_called-sound, member-sound, subscripted-sound, value_called-sound, operand_called-sound, operand-sound}
use Rattle.sx_well_typed.proofs.Trees.{calls-are, nodes-are, self-is}

module _ (d : Declarations) where
  pub member_closure-told : (end : ℕ) (m : Name) (c : Closure) (ps : List Part) (p : Place) (q : Asked) (start site : ℕ) (this : Bool) (x y t : TypedExpr) (f : Callee) (w w₁ w₂ v : Walk) → called_member d p (node (1 + (nodes_of ps + start))) site this m.number x w ≡ typed f w₁ → Holds d (Claim.call [] (Some c) p (asked_before ps q) (node (nodes_of ps + start)) site f w₁ y w₂) → Holds d (Claim.parts ps p q start site false y w₂ t v) → Holds d (Claim.parts (parts_.Member end m (Some c) ∷ ps) p q start site this x w t v)
  member_closure-told end m c ps p q start site this x y t f w w₁ w₂ v =
      subst (λ (n : ℕ). called_member d p (node (1 + (n + start))) site this m.number x w ≡ typed f w₁ → Holds d (Claim.call [] (Some c) p (asked_before ps q) (node (n + start)) site f w₁ y w₂) → Holds d (Claim.parts ps p q start site false y w₂ t v) → Holds d (Claim.parts (parts_.Member end m (Some c) ∷ ps) p q start site this x w t v))
      (nodes-are d ps) (member_closure-sound d end m c ps p q start site this x y t f w w₁ w₂ v)

  pub member_closure-judged : (end : ℕ) (m : Name) (c : Closure) (ps : List Part) (p : Place) (q : Asked) (start site : ℕ) (this : Bool) (x y t : TypedExpr) (f : Callee) (w w₁ w₂ v : Walk) → called_member d p (node (1 + (judged_nodes d ps + start))) site this m.number x w ≡ typed f w₁ → Typed d (Claim.call [] (Some c) p (asked_before ps q) (node (judged_nodes d ps + start)) site f w₁ y w₂) → Typed d (Claim.parts ps p q start site false y w₂ t v) → Typed d (Claim.parts (parts_.Member end m (Some c) ∷ ps) p q start site this x w t v)
  member_closure-judged end m c ps p q start site this x y t f w w₁ w₂ v =
      subst (λ (n : ℕ). called_member d p (node (1 + (n + start))) site this m.number x w ≡ typed f w₁ → Typed d (Claim.call [] (Some c) p (asked_before ps q) (node (n + start)) site f w₁ y w₂) → Typed d (Claim.parts ps p q start site false y w₂ t v) → Typed d (Claim.parts (parts_.Member end m (Some c) ∷ ps) p q start site this x w t v))
      (sym (nodes-are d ps)) (Typed.member_closure end m c ps p q start site this x y t f w w₁ w₂ v)

  pub member_called-told : (end behind : ℕ) (m : Name) (as_ : List Argument) (c : Option Closure) (ps : List Part) (p : Place) (q : Asked) (start site : ℕ) (this : Bool) (x y t : TypedExpr) (f : Callee) (w w₁ w₂ v : Walk) → called_member d p (node (1 + (nodes_of ps + start))) site this m.number x w ≡ typed f w₁ → Holds d (Claim.call as_ c p (asked_before ps q) (node (nodes_of ps + start)) site f w₁ y w₂) → Holds d (Claim.parts ps p q start site false y w₂ t v) → Holds d (Claim.parts (parts_.Member end m None ∷ (parts_.Call behind as_ c ∷ ps)) p q start site this x w t v)
  member_called-told end behind m as_ c ps p q start site this x y t f w w₁ w₂ v =
      subst (λ (n : ℕ). called_member d p (node (1 + (n + start))) site this m.number x w ≡ typed f w₁ → Holds d (Claim.call as_ c p (asked_before ps q) (node (n + start)) site f w₁ y w₂) → Holds d (Claim.parts ps p q start site false y w₂ t v) → Holds d (Claim.parts (parts_.Member end m None ∷ (parts_.Call behind as_ c ∷ ps)) p q start site this x w t v))
      (nodes-are d ps) (member_called-sound d end behind m as_ c ps p q start site this x y t f w w₁ w₂ v)

  pub member_called-judged : (end behind : ℕ) (m : Name) (as_ : List Argument) (c : Option Closure) (ps : List Part) (p : Place) (q : Asked) (start site : ℕ) (this : Bool) (x y t : TypedExpr) (f : Callee) (w w₁ w₂ v : Walk) → called_member d p (node (1 + (judged_nodes d ps + start))) site this m.number x w ≡ typed f w₁ → Typed d (Claim.call as_ c p (asked_before ps q) (node (judged_nodes d ps + start)) site f w₁ y w₂) → Typed d (Claim.parts ps p q start site false y w₂ t v) → Typed d (Claim.parts (parts_.Member end m None ∷ (parts_.Call behind as_ c ∷ ps)) p q start site this x w t v)
  member_called-judged end behind m as_ c ps p q start site this x y t f w w₁ w₂ v =
      subst (λ (n : ℕ). called_member d p (node (1 + (n + start))) site this m.number x w ≡ typed f w₁ → Typed d (Claim.call as_ c p (asked_before ps q) (node (n + start)) site f w₁ y w₂) → Typed d (Claim.parts ps p q start site false y w₂ t v) → Typed d (Claim.parts (parts_.Member end m None ∷ (parts_.Call behind as_ c ∷ ps)) p q start site this x w t v))
      (sym (nodes-are d ps)) (Typed.member_called end behind m as_ c ps p q start site this x y t f w w₁ w₂ v)

  pub member-told : (end : ℕ) (m : Name) (ps : List Part) (p : Place) (q : Asked) (start site : ℕ) (this : Bool) (x y t : TypedExpr) (w w₁ v : Walk) → calls_first ps ≡ false → member_value d p (asked_before ps q) (node (nodes_of ps + start)) site this m.number x w ≡ typed y w₁ → Holds d (Claim.parts ps p q start site false y w₁ t v) → Holds d (Claim.parts (parts_.Member end m None ∷ ps) p q start site this x w t v)
  member-told end m ps p q start site this x y t w w₁ v =
      subst (λ (n : ℕ). calls_first ps ≡ false → member_value d p (asked_before ps q) (node (n + start)) site this m.number x w ≡ typed y w₁ → Holds d (Claim.parts ps p q start site false y w₁ t v) → Holds d (Claim.parts (parts_.Member end m None ∷ ps) p q start site this x w t v))
      (nodes-are d ps) (subst (λ (b : Bool). b ≡ false → member_value d p (asked_before ps q) (node (judged_nodes d ps + start)) site this m.number x w ≡ typed y w₁ → Holds d (Claim.parts ps p q start site false y w₁ t v) → Holds d (Claim.parts (parts_.Member end m None ∷ ps) p q start site this x w t v))
      (calls-are d ps) (member-sound d end m ps p q start site this x y t w w₁ v))

  pub member-judged : (end : ℕ) (m : Name) (ps : List Part) (p : Place) (q : Asked) (start site : ℕ) (this : Bool) (x y t : TypedExpr) (w w₁ v : Walk) → judged_calls d ps ≡ false → member_value d p (asked_before ps q) (node (judged_nodes d ps + start)) site this m.number x w ≡ typed y w₁ → Typed d (Claim.parts ps p q start site false y w₁ t v) → Typed d (Claim.parts (parts_.Member end m None ∷ ps) p q start site this x w t v)
  member-judged end m ps p q start site this x y t w w₁ v =
      subst (λ (n : ℕ). judged_calls d ps ≡ false → member_value d p (asked_before ps q) (node (n + start)) site this m.number x w ≡ typed y w₁ → Typed d (Claim.parts ps p q start site false y w₁ t v) → Typed d (Claim.parts (parts_.Member end m None ∷ ps) p q start site this x w t v))
      (sym (nodes-are d ps)) (subst (λ (b : Bool). b ≡ false → member_value d p (asked_before ps q) (node (nodes_of ps + start)) site this m.number x w ≡ typed y w₁ → Typed d (Claim.parts ps p q start site false y w₁ t v) → Typed d (Claim.parts (parts_.Member end m None ∷ ps) p q start site this x w t v))
      (sym (calls-are d ps)) (Typed.member end m ps p q start site this x y t w w₁ v))

  pub subscripted-told : (end : ℕ) (is : List Expr) (ps : List Part) (p : Place) (q : Asked) (start site : ℕ) (this : Bool) (x t : TypedExpr) (o : Subscript) (es : List TypedExpr) (w w₁ v : Walk) → subscript d x.ty ≡ Some o → o.failed ≡ false → length o.parameters ≡ length is → Holds d (Claim.indices is p o.parameters [] w es w₁) → agrees (asked_before ps q) o.ty ≡ true → Holds d (Claim.parts ps p q start site false (subscript_of (node (nodes_of ps + start)) site o.ty x es o.accessors) w₁ t v) → Holds d (Claim.parts (parts_.Index end is ∷ ps) p q start site this x w t v)
  subscripted-told end is ps p q start site this x t o es w w₁ v =
      subst (λ (n : ℕ). subscript d x.ty ≡ Some o → o.failed ≡ false → length o.parameters ≡ length is → Holds d (Claim.indices is p o.parameters [] w es w₁) → agrees (asked_before ps q) o.ty ≡ true → Holds d (Claim.parts ps p q start site false (subscript_of (node (n + start)) site o.ty x es o.accessors) w₁ t v) → Holds d (Claim.parts (parts_.Index end is ∷ ps) p q start site this x w t v))
      (nodes-are d ps) (subscripted-sound d end is ps p q start site this x t o es w w₁ v)

  pub subscripted-judged : (end : ℕ) (is : List Expr) (ps : List Part) (p : Place) (q : Asked) (start site : ℕ) (this : Bool) (x t : TypedExpr) (o : Subscript) (es : List TypedExpr) (w w₁ v : Walk) → subscript d x.ty ≡ Some o → o.failed ≡ false → length o.parameters ≡ length is → Typed d (Claim.indices is p o.parameters [] w es w₁) → agrees (asked_before ps q) o.ty ≡ true → Typed d (Claim.parts ps p q start site false (subscript_of (node (judged_nodes d ps + start)) site o.ty x es o.accessors) w₁ t v) → Typed d (Claim.parts (parts_.Index end is ∷ ps) p q start site this x w t v)
  subscripted-judged end is ps p q start site this x t o es w w₁ v =
      subst (λ (n : ℕ). subscript d x.ty ≡ Some o → o.failed ≡ false → length o.parameters ≡ length is → Typed d (Claim.indices is p o.parameters [] w es w₁) → agrees (asked_before ps q) o.ty ≡ true → Typed d (Claim.parts ps p q start site false (subscript_of (node (n + start)) site o.ty x es o.accessors) w₁ t v) → Typed d (Claim.parts (parts_.Index end is ∷ ps) p q start site this x w t v))
      (sym (nodes-are d ps)) (Typed.subscripted end is ps p q start site this x t o es w w₁ v)

  pub value_called-told : (end : ℕ) (as_ : List Argument) (c : Option Closure) (ps : List Part) (p : Place) (q : Asked) (start site : ℕ) (this : Bool) (x y t : TypedExpr) (f : Callee) (w w₁ w₂ v : Walk) → callable x.node x w ≡ typed f w₁ → Holds d (Claim.call as_ c p (asked_before ps q) (node (nodes_of ps + start)) site f w₁ y w₂) → Holds d (Claim.parts ps p q start site false y w₂ t v) → Holds d (Claim.parts (parts_.Call end as_ c ∷ ps) p q start site this x w t v)
  value_called-told end as_ c ps p q start site this x y t f w w₁ w₂ v =
      subst (λ (n : ℕ). callable x.node x w ≡ typed f w₁ → Holds d (Claim.call as_ c p (asked_before ps q) (node (n + start)) site f w₁ y w₂) → Holds d (Claim.parts ps p q start site false y w₂ t v) → Holds d (Claim.parts (parts_.Call end as_ c ∷ ps) p q start site this x w t v))
      (nodes-are d ps) (value_called-sound d end as_ c ps p q start site this x y t f w w₁ w₂ v)

  pub value_called-judged : (end : ℕ) (as_ : List Argument) (c : Option Closure) (ps : List Part) (p : Place) (q : Asked) (start site : ℕ) (this : Bool) (x y t : TypedExpr) (f : Callee) (w w₁ w₂ v : Walk) → callable x.node x w ≡ typed f w₁ → Typed d (Claim.call as_ c p (asked_before ps q) (node (judged_nodes d ps + start)) site f w₁ y w₂) → Typed d (Claim.parts ps p q start site false y w₂ t v) → Typed d (Claim.parts (parts_.Call end as_ c ∷ ps) p q start site this x w t v)
  value_called-judged end as_ c ps p q start site this x y t f w w₁ w₂ v =
      subst (λ (n : ℕ). callable x.node x w ≡ typed f w₁ → Typed d (Claim.call as_ c p (asked_before ps q) (node (n + start)) site f w₁ y w₂) → Typed d (Claim.parts ps p q start site false y w₂ t v) → Typed d (Claim.parts (parts_.Call end as_ c ∷ ps) p q start site this x w t v))
      (sym (nodes-are d ps)) (Typed.value_called end as_ c ps p q start site this x y t f w w₁ w₂ v)

  pub operand_called-told : (e : Expr) (end : ℕ) (as_ : List Argument) (c : Option Closure) (ps : List Part) (site : ℕ) (p : Place) (q : Asked) (u : Use) (w w₁ w₂ v : Walk) (f : Callee) (x t : TypedExpr) → Holds d (Claim.called e p site (advanced (nodes_of (parts_.Call end as_ c ∷ ps)) w) f w₁) → Holds d (Claim.call as_ c p (asked_before ps q) (node (nodes_of ps + w.next)) site f w₁ x w₂) → Holds d (Claim.parts ps p q w.next site false x w₂ t v) → Holds d (Claim.form (forms.Postfix e (parts_.Call end as_ c ∷ ps)) site p q u w t v)
  operand_called-told e end as_ c ps site p q u w w₁ w₂ v f x t =
      subst (λ (n : ℕ). Holds d (Claim.called e p site (advanced (nodes_of (parts_.Call end as_ c ∷ ps)) w) f w₁) → Holds d (Claim.call as_ c p (asked_before ps q) (node (n + w.next)) site f w₁ x w₂) → Holds d (Claim.parts ps p q w.next site false x w₂ t v) → Holds d (Claim.form (forms.Postfix e (parts_.Call end as_ c ∷ ps)) site p q u w t v))
      (nodes-are d ps) (subst (λ (m : ℕ). Holds d (Claim.called e p site (advanced m w) f w₁) → Holds d (Claim.call as_ c p (asked_before ps q) (node (judged_nodes d ps + w.next)) site f w₁ x w₂) → Holds d (Claim.parts ps p q w.next site false x w₂ t v) → Holds d (Claim.form (forms.Postfix e (parts_.Call end as_ c ∷ ps)) site p q u w t v))
      (nodes-are d (parts_.Call end as_ c ∷ ps)) (operand_called-sound d e end as_ c ps site p q u w w₁ w₂ v f x t))

  pub operand_called-judged : (e : Expr) (end : ℕ) (as_ : List Argument) (c : Option Closure) (ps : List Part) (site : ℕ) (p : Place) (q : Asked) (u : Use) (w w₁ w₂ v : Walk) (f : Callee) (x t : TypedExpr) → Typed d (Claim.called e p site (advanced (judged_nodes d (parts_.Call end as_ c ∷ ps)) w) f w₁) → Typed d (Claim.call as_ c p (asked_before ps q) (node (judged_nodes d ps + w.next)) site f w₁ x w₂) → Typed d (Claim.parts ps p q w.next site false x w₂ t v) → Typed d (Claim.form (forms.Postfix e (parts_.Call end as_ c ∷ ps)) site p q u w t v)
  operand_called-judged e end as_ c ps site p q u w w₁ w₂ v f x t =
      subst (λ (n : ℕ). Typed d (Claim.called e p site (advanced (judged_nodes d (parts_.Call end as_ c ∷ ps)) w) f w₁) → Typed d (Claim.call as_ c p (asked_before ps q) (node (n + w.next)) site f w₁ x w₂) → Typed d (Claim.parts ps p q w.next site false x w₂ t v) → Typed d (Claim.form (forms.Postfix e (parts_.Call end as_ c ∷ ps)) site p q u w t v))
      (sym (nodes-are d ps)) (subst (λ (m : ℕ). Typed d (Claim.called e p site (advanced m w) f w₁) → Typed d (Claim.call as_ c p (asked_before ps q) (node (nodes_of ps + w.next)) site f w₁ x w₂) → Typed d (Claim.parts ps p q w.next site false x w₂ t v) → Typed d (Claim.form (forms.Postfix e (parts_.Call end as_ c ∷ ps)) site p q u w t v))
      (sym (nodes-are d (parts_.Call end as_ c ∷ ps))) (Typed.operand_called e end as_ c ps site p q u w w₁ w₂ v f x t))

  pub operand-told : (e : Expr) (ps : List Part) (site : ℕ) (p : Place) (q : Asked) (u : Use) (w w₁ v : Walk) (x t : TypedExpr) → calls_first ps ≡ false → Holds d (Claim.expression e p asked.Nothing uses.Kept (advanced (nodes_of ps) w) x w₁) → Holds d (Claim.parts ps p q w.next site (is_self_word e) x w₁ t v) → Holds d (Claim.form (forms.Postfix e ps) site p q u w t v)
  operand-told e ps site p q u w w₁ v x t =
      subst (λ (n : ℕ). calls_first ps ≡ false → Holds d (Claim.expression e p asked.Nothing uses.Kept (advanced (n) w) x w₁) → Holds d (Claim.parts ps p q w.next site (is_self_word e) x w₁ t v) → Holds d (Claim.form (forms.Postfix e ps) site p q u w t v))
      (nodes-are d ps) (subst (λ (z : Bool). calls_first ps ≡ false → Holds d (Claim.expression e p asked.Nothing uses.Kept (advanced (judged_nodes d ps) w) x w₁) → Holds d (Claim.parts ps p q w.next site z x w₁ t v) → Holds d (Claim.form (forms.Postfix e ps) site p q u w t v))
      (self-is d e) (subst (λ (b : Bool). b ≡ false → Holds d (Claim.expression e p asked.Nothing uses.Kept (advanced (judged_nodes d ps) w) x w₁) → Holds d (Claim.parts ps p q w.next site (judged_expr d e).is_self x w₁ t v) → Holds d (Claim.form (forms.Postfix e ps) site p q u w t v))
      (calls-are d ps) (operand-sound d e ps site p q u w w₁ v x t)))

  pub operand-judged : (e : Expr) (ps : List Part) (site : ℕ) (p : Place) (q : Asked) (u : Use) (w w₁ v : Walk) (x t : TypedExpr) → judged_calls d ps ≡ false → Typed d (Claim.expression e p asked.Nothing uses.Kept (advanced (judged_nodes d ps) w) x w₁) → Typed d (Claim.parts ps p q w.next site (judged_expr d e).is_self x w₁ t v) → Typed d (Claim.form (forms.Postfix e ps) site p q u w t v)
  operand-judged e ps site p q u w w₁ v x t =
      subst (λ (n : ℕ). judged_calls d ps ≡ false → Typed d (Claim.expression e p asked.Nothing uses.Kept (advanced (n) w) x w₁) → Typed d (Claim.parts ps p q w.next site (judged_expr d e).is_self x w₁ t v) → Typed d (Claim.form (forms.Postfix e ps) site p q u w t v))
      (sym (nodes-are d ps)) (subst (λ (z : Bool). judged_calls d ps ≡ false → Typed d (Claim.expression e p asked.Nothing uses.Kept (advanced (nodes_of ps) w) x w₁) → Typed d (Claim.parts ps p q w.next site z x w₁ t v) → Typed d (Claim.form (forms.Postfix e ps) site p q u w t v))
      (sym (self-is d e)) (subst (λ (b : Bool). b ≡ false → Typed d (Claim.expression e p asked.Nothing uses.Kept (advanced (nodes_of ps) w) x w₁) → Typed d (Claim.parts ps p q w.next site (is_self_word e) x w₁ t v) → Typed d (Claim.form (forms.Postfix e ps) site p q u w t v))
      (sym (calls-are d ps)) (Typed.operand e ps site p q u w w₁ v x t)))
