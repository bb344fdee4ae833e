-- As many nodes at which statements start are kept as there are statements.
use Rattle.std.proofs.Common.{◌≡◌, ◌∙◌, ℕ, ◌+◌, List, [], ◌∷◌, ◌++◌, Option, Some, None, length, length-append, refl, sym, ap, subst}
use Rattle.sx_tree.specs.declared.declarations.Item.{Item}
use Rattle.sx_typed.specs.declared.code.Expr.{Expr}
use Rattle.sx_scope.specs.Verdict.{Verdict, typed, untold, depends, fails, ◌▷◌, both, beside_typed, beside_untold, beside_depending, behind}
use Rattle.sx_scope.specs.declared.walk.Walk.{Walk}
use Rattle.sx_tables.specs.Names.{behind_item, item_name, with_name}
use Rattle.sx_tables.specs.declared.names.Numbers.{Numbers}
use Rattle.sx_functions.specs.declared.accessing.OwnNames.{OwnNames}
use Rattle.sx_check_decl.specs.Items.{Paired, blamed_item, item_added, program, run_items, stored_global, with_item, words_behind}
use Rattle.sx_check_decl.specs.Looks.{judged, plain, unless_told}
use Rattle.sx_check_decl.specs.declared.items.Blame.{Blame}
use Rattle.sx_check_decl.specs.declared.items.Blame.TheVariants as blames
use Rattle.sx_check_decl.specs.declared.items.Program.{Program}
use Rattle.sx_check_decl.specs.declared.items.Settled.{Settled}
use Rattle.sx_check_decl.specs.declared.items.TypedItem.{TypedItem}
use Rattle.sx_check_decl.specs.declared.items.TypedItem.TheVariants as typed_items

abbrev PairedBy : Verdict Program → Type 0
PairedBy (typed p w) = Paired p
PairedBy (untold w) = Unit {0}
PairedBy (depends w) = Unit {0}
PairedBy (fails f fs w) = Unit {0}

-- one more of each
one_more : {A B : Type 0} (as_ : List A) (bs : List B) (a : A) (b : B) → length as_ ≡ length bs → length (as_ ++ a ∷ []) ≡ length (bs ++ b ∷ [])
one_more as_ bs a b e = length-append as_ (a ∷ []) ∙ ap (λ n. n + 1) e ∙ sym (length-append bs (b ∷ []))

stored-paired : (o : Option Expr) (p : Program) → Paired p → Paired (stored_global o p)
stored-paired None p e = e
stored-paired (Some x) p e = one_more p.starts p.top _ _ e

item-paired : (i : TypedItem) (p : Program) → Paired p → Paired (with_item i p)
item-paired typed_items.Nothing p e = e
item-paired (typed_items.Structure t) p e = e
item-paired (typed_items.Class t) p e = e
item-paired (typed_items.Global x constant v) p e = stored-paired v.value p e
item-paired (typed_items.Statement n s) p e = one_more p.starts p.top n s e

typed-added : (p : Program) (u : Verdict TypedItem) → Paired p → PairedBy (beside_typed p u ▷ item_added)
typed-added p (typed i x) e = item-paired i p e
typed-added p (untold x) e = tt
typed-added p (depends x) e = tt
typed-added p (fails f fs x) e = tt

untold-added : (u : Verdict TypedItem) → PairedBy (beside_untold {A = Program} u ▷ item_added)
untold-added (typed i x) = tt
untold-added (untold x) = tt
untold-added (depends x) = tt
untold-added (fails f fs x) = tt

depends-added : (u : Verdict TypedItem) → PairedBy (beside_depending {A = Program} u ▷ item_added)
depends-added (typed i x) = tt
depends-added (untold x) = tt
depends-added (depends x) = tt
depends-added (fails f fs x) = tt

added-paired : (v : Verdict Program) (m : Walk → Verdict TypedItem) → PairedBy v → PairedBy (both v m ▷ item_added)
added-paired (typed p w) m e = typed-added p (m w) e
added-paired (untold w) m e = untold-added (m w)
added-paired (depends w) m e = depends-added (m w)
added-paired (fails f fs w) m e = tt

module _ (s : Settled) (names : OwnNames) (blame : Blame) where
  run-paired : (is : List Item) (v : Verdict Program) (seen : List ℕ) (k : Numbers) (words : Option ℕ) → PairedBy v → PairedBy (run_items s names blame v seen k words is)
  run-paired [] v seen k words e = e
  run-paired (i ∷ is) v seen k words e =
      run-paired is (both v (blamed_item s names blame seen k words i) ▷ item_added) (with_name (item_name i) seen) (behind_item i k)
      (words_behind s.declarations.types i (blamed_item s names blame seen k words i (behind v)) words)
      (added-paired v (blamed_item s names blame seen k words i) e)

  program-paired : (is : List Item) → PairedBy (program s names blame is)
  program-paired is = run-paired is _ _ _ _ refl

unless_told-paired : (v again : Verdict Program) → PairedBy v → PairedBy again → PairedBy (unless_told v again)
unless_told-paired (typed p w) again e f = e
unless_told-paired (untold w) again e f = f
unless_told-paired (depends w) again e f = f
unless_told-paired (fails f fs w) again e g = tt

judged-paired : (x : Settled) (names : OwnNames) (is : List Item) → PairedBy (judged x names is)
judged-paired x names is =
    unless_told-paired (program (plain x) names blames.Others is) (unless_told (program x names blames.Others is) (program x names blames.Itself is)) (program-paired (plain x) names blames.Others is)
    (unless_told-paired (program x names blames.Others is) (program x names blames.Itself is) (program-paired x names blames.Others is) (program-paired x names blames.Itself is))

-- of a program that is judged typed
pub typed-paired : (x : Settled) (names : OwnNames) (is : List Item) (p : Program) (w : Walk) → judged x names is ≡ typed p w → Paired p
typed-paired x names is p w e = subst PairedBy e (judged-paired x names is)
