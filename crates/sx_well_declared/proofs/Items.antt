-- Items, and items one after another, are judged typed exactly where the rules say it.
use Rattle.std.proofs.Common.{◌≡◌, ◌∙◌, ℕ, List, [], ◌∷◌, Option, None, refl, sym, ap}
use Rattle.sx_tree.specs.declared.code.Statement.{Statement as WrittenStatement}
use Rattle.sx_tree.specs.declared.declarations.Item.{Item}
use Rattle.sx_tree.specs.declared.declarations.Item.TheVariants as items
use Rattle.sx_tree.specs.declared.declarations.TypeDeclaration.{TypeDeclaration as WrittenDeclaration}
use Rattle.sx_tree.specs.declared.declarations.Variable.{Variable}
use Rattle.sx_typed.specs.declared.code.Statement.{Statement}
use Rattle.sx_typed.specs.declared.program.TypeDeclaration.{TypeDeclaration}
use Rattle.sx_scope.specs.declared.walk.Walk.{Walk}
use Rattle.sx_scope.specs.Verdict.{Verdict, typed, untold, depends, fails, Judging, ◌▷◌, both, behind, moved}
use Rattle.sx_scope.specs.Walks.{node}
use Rattle.sx_check_expr.specs.Judge.{judged_statement}
use Rattle.sx_tables.specs.declared.names.Numbers.{Numbers}
use Rattle.sx_tables.specs.Names.{behind_item, item_name, type_numbered, with_name}
use Rattle.sx_functions.specs.declared.accessing.OwnNames.{OwnNames}
use Rattle.sx_functions.specs.Functions.{function}
use Rattle.sx_functions.specs.Places.{left}
use Rattle.sx_members.specs.declared.variables.TypedVariable.{TypedVariable}
use Rattle.sx_members.specs.Members.{type_declaration}
use Rattle.sx_members.specs.Variables.{outer_place, variable}
use Rattle.sx_check_decl.specs.declared.items.Blame.{Blame}
use Rattle.sx_check_decl.specs.declared.items.Blame.TheVariants as blames
use Rattle.sx_check_decl.specs.declared.items.Program.{Program}
use Rattle.sx_check_decl.specs.declared.items.Settled.{Settled}
use Rattle.sx_check_decl.specs.declared.items.TypedItem.{TypedItem}
use Rattle.sx_check_decl.specs.declared.items.TypedItem.TheVariants as typed_items
use Rattle.sx_check_decl.specs.Items.{blamed, blamed_item, fault_of, global_declared, global_item, item, item_added, no_item, room_for, run_items, statement_item, type_declared, type_item, with_item, words_behind, words_behind_typed}
use Rattle.sx_well_typed.specs.Claims.{Claim}
use Rattle.sx_well_typed.proofs.Sound.{sound}
use Rattle.sx_well_typed.proofs.Tree.{statement-derives}
use Rattle.sx_well_typed.proofs.Verdicts.{First, typed-as, not-typed, then-typed, then-inverted, both-typed, moved-typed, moved-inverted, added-first, added-inverted}
use Rattle.sx_well_declared.specs.Items.{ItemDeclared, ItemsDeclared}
use Rattle.sx_well_declared.proofs.Functions.{function-told, function-derived}
use Rattle.sx_well_declared.proofs.Members.{type-told, type-derived}
use Rattle.sx_well_declared.proofs.Variables.{variable-told, variable-derived}

-- ---- what is typed is blamed for nothing
pub blamed-typed : {A : Type 0} (b : Blame) (n : ℕ) (v : Verdict A) (a : A) (w : Walk) → v ≡ typed a w → blamed b n v ≡ typed a w
blamed-typed b n v a w h = ap (blamed b n) h

pub blamed-inverted : {A : Type 0} (b : Blame) (n : ℕ) (v : Verdict A) (a : A) (w : Walk) → blamed b n v ≡ typed a w → v ≡ typed a w
blamed-inverted b n (typed x u) a w h = h
blamed-inverted blames.Others n (untold u) a w h = h
blamed-inverted blames.Itself n (untold u) a w h = not-typed (untold u ≡ typed a w) (blamed blames.Itself n (untold u)) a w refl h
blamed-inverted blames.Others n (depends u) a w h = h
blamed-inverted blames.Itself n (depends u) a w h = not-typed (depends u ≡ typed a w) (blamed blames.Itself n (depends u)) a w refl h
blamed-inverted b n (fails f fs u) a w h = h

module _ (x : Settled) (names : OwnNames) where
  -- ---- an item
  module _ (seen : List ℕ) (k : Numbers) (words : Option ℕ) where
    abbrev type_at : WrittenDeclaration → Walk → Verdict TypeDeclaration
    type_at t w = type_declaration x.declarations names x.stops seen (fault_of x t.kind k) k.given (type_numbered t.kind k) t w

    abbrev global_at : Variable → Walk → Verdict TypedVariable
    global_at g w = variable x.declarations names x.stops None seen (room_for g words) k.given g w

    abbrev statement_at : WrittenStatement → Walk → Verdict Statement
    statement_at s w = (judged_statement x.declarations s).value outer_place w

    pub item-told : (i : Item) (w : Walk) (t : TypedItem) (v : Walk) → ItemDeclared x names seen k words i w t v → item x names seen k words i w ≡ typed t v
    item-told _ _ _ _ (ItemDeclared.a_function f w v h) =
        then-typed (function x.declarations None seen f w) no_item tt v (typed typed_items.Nothing v) (function-told x.declarations None seen f w v h) refl
    item-told _ _ _ _ (ItemDeclared.a_type t y w v h) =
        then-typed (type_at t w) (type_item t.kind) y v (typed (type_declared t.kind y) v)
        (type-told x.declarations names x.stops seen (fault_of x t.kind k) k.given (type_numbered t.kind k) t w y v h) refl
    item-told _ _ _ _ (ItemDeclared.a_global g y w v h) =
        then-typed (global_at g w) (global_item g) y v (typed (global_declared g y) v)
        (variable-told x.declarations names x.stops None seen (room_for g words) k.given g w y v h) refl
    item-told _ _ _ _ (ItemDeclared.a_statement s t w v h) =
        then-typed (moved (left w) (statement_at s w)) (statement_item w.next) t (left w v) (typed (typed_items.Statement (node w.next) t) (left w v))
        (moved-typed (left w) (statement_at s w) t v (sound x.declarations (Claim.statement s outer_place w t v) h)) refl

    pub item-derived : (i : Item) (w : Walk) (t : TypedItem) (v : Walk) → item x names seen k words i w ≡ typed t v → ItemDeclared x names seen k words i w t v
    item-derived (items.Function f) w t v h =
        let (y, u, one, made) = then-inverted (function x.declarations None seen f w) no_item t v h in
        typed-as (λ t v. ItemDeclared x names seen k words (items.Function f) w t v) typed_items.Nothing t u v made
        (ItemDeclared.a_function f w u (function-derived x.declarations None seen f w u one))
    item-derived (items.Type z) w t v h =
        let (y, u, one, made) = then-inverted (type_at z w) (type_item z.kind) t v h in
        typed-as (λ t v. ItemDeclared x names seen k words (items.Type z) w t v) (type_declared z.kind y) t u v made
        (ItemDeclared.a_type z y w u (type-derived x.declarations names x.stops seen (fault_of x z.kind k) k.given (type_numbered z.kind k) z w y u one))
    item-derived (items.Global g) w t v h =
        let (y, u, one, made) = then-inverted (global_at g w) (global_item g) t v h in
        typed-as (λ t v. ItemDeclared x names seen k words (items.Global g) w t v) (global_declared g y) t u v made
        (ItemDeclared.a_global g y w u (variable-derived x.declarations names x.stops None seen (room_for g words) k.given g w y u one))
    item-derived (items.Statement s) w t v h =
        let (y, u, one, made) = then-inverted (moved (left w) (statement_at s w)) (statement_item w.next) t v h in
        let (u₀, first, behind) = moved-inverted (left w) (statement_at s w) y u one in
        typed-as (λ t v. ItemDeclared x names seen k words (items.Statement s) w t v) (typed_items.Statement (node w.next) y) t (left w u₀) v
        (ap (typed (typed_items.Statement (node w.next) y)) behind ∙ made)
        (ItemDeclared.a_statement s y w u₀ ((statement-derives x.declarations s).0 outer_place w y u₀ first))

  -- ---- items one after another
  module _ (b : Blame) where
    abbrev blamed_at : List ℕ → Numbers → Option ℕ → Item → Judging TypedItem
    blamed_at seen k words i w = blamed_item x names b seen k words i w

    -- the items behind an item, from here on
    abbrev behind_it : List ℕ → Numbers → Item → List Item → Verdict Program → Option ℕ → Verdict Program
    behind_it seen k i is r words = run_items x names b r (with_name (item_name i) seen) (behind_item i k) words is

    abbrev words_by : Option ℕ → Item → Verdict TypedItem → Option ℕ
    words_by words i r = words_behind x.declarations.types i r words

    pub items-told : (seen : List ℕ) (k : Numbers) (words : Option ℕ) (is : List Item) (before : Program) (w : Walk) (p : Program) (v : Walk) → ItemsDeclared x names seen k words is before w p v →
        run_items x names b (typed before w) seen k words is ≡ typed p v
    items-told _ _ _ _ _ _ _ _ (ItemsDeclared.items_end seen k words p w) = refl
    items-told _ _ _ _ _ _ _ _ (ItemsDeclared.items_more seen k words i is t before p w w₁ v one more) =
        let said : blamed_at seen k words i w ≡ typed t w₁ = blamed-typed b w.next (item x names seen k words i w) t w₁ (item-told seen k words i w t w₁ one) in
        ap (λ r. behind_it seen k i is (r ▷ item_added) (words_by words i (blamed_at seen k words i w)))
        (both-typed (typed before w) (blamed_at seen k words i) before w t w₁ refl said)
        ∙ ap (λ r. behind_it seen k i is (typed (with_item t before) w₁) (words_by words i r)) said
        ∙ items-told (with_name (item_name i) seen) (behind_item i k) (words_behind_typed x.declarations.types t words) is (with_item t before) w₁ p v more

    items-first : (r : Verdict Program) (seen : List ℕ) (k : Numbers) (words : Option ℕ) (is : List Item) (p : Program) (v : Walk) → run_items x names b r seen k words is ≡ typed p v → First r
    items-first r seen k words [] p v h = (p, v, h)
    items-first r seen k words (i ∷ is) p v h =
        let m : Judging TypedItem = blamed_at seen k words i in
        let (q, u, one) = items-first (both r m ▷ item_added) (with_name (item_name i) seen) (behind_item i k) (words_by words i (m (behind r))) is p v h in
        added-first r m item_added q u one

    pub items-derived : (seen : List ℕ) (k : Numbers) (words : Option ℕ) (is : List Item) (before : Program) (w : Walk) (p : Program) (v : Walk) →
        run_items x names b (typed before w) seen k words is ≡ typed p v → ItemsDeclared x names seen k words is before w p v
    items-derived seen k words [] before w p v h =
        typed-as (λ p v. ItemsDeclared x names seen k words [] before w p v) before p w v h (ItemsDeclared.items_end seen k words before w)
    items-derived seen k words (i ∷ is) before w p v h =
        let m : Judging TypedItem = blamed_at seen k words i in
        let (q, w₂, one) = items-first (both (typed before w) m ▷ item_added) (with_name (item_name i) seen) (behind_item i k) (words_by words i (m w)) is p v h in
        let (t, w₁, first, made) = added-inverted before w m item_added q w₂ one in
        let so : behind_it seen k i is (typed (with_item t before) w₁) (words_behind_typed x.declarations.types t words) ≡ typed p v =
        ap (λ r. behind_it seen k i is (typed (with_item t before) w₁) (words_by words i r)) (sym first)
        ∙ ap (λ r. behind_it seen k i is r (words_by words i (m w))) (made ∙ sym one)
        ∙ h in
        ItemsDeclared.items_more seen k words i is t before p w w₁ v
        (item-derived seen k words i w t w₁ (blamed-inverted b w.next (item x names seen k words i w) t w₁ first))
        (items-derived (with_name (item_name i) seen) (behind_item i k) (words_behind_typed x.declarations.types t words) is (with_item t before) w₁ p v so)
