-- Where each item that isn't typed fails, a program is typed or a node in it fails.
use Rattle.std.proofs.Common.{◌≡◌, ◌≢◌, ℕ, List, [], ◌∷◌, Option, refl, subst}
use Rattle.sx_tree.specs.declared.declarations.Item.{Item}
use Rattle.sx_scope.specs.Verdict.{Verdict, typed, untold, depends, fails, ◌▷◌, both, behind, found}
use Rattle.sx_scope.specs.declared.walk.Found.{Found}
use Rattle.sx_scope.specs.declared.walk.Found.TheVariants as founds
use Rattle.sx_scope.specs.declared.walk.Walk.{Walk}
use Rattle.sx_tables.specs.Names.{behind_item, item_name, with_name}
use Rattle.sx_tables.specs.declared.names.Numbers.{Numbers}
use Rattle.sx_functions.specs.declared.accessing.OwnNames.{OwnNames}
use Rattle.sx_check_decl.specs.Looks.{IsDecided}
use Rattle.sx_check_decl.specs.Items.{blamed, blamed_item, item, item_added, program, run_items, words_behind}
use Rattle.sx_check_decl.specs.declared.items.Blame.TheVariants as blames
use Rattle.sx_check_decl.specs.declared.items.Program.{Program}
use Rattle.sx_check_decl.specs.declared.items.Settled.{Settled}
use Rattle.sx_check_decl.specs.declared.items.TypedItem.{TypedItem}

blamed-decided : {A : Type 0} (n : ℕ) (v : Verdict A) → IsDecided (blamed blames.Itself n v)
blamed-decided n (typed a w) = tt
blamed-decided n (untold w) = tt
blamed-decided n (depends w) = tt
blamed-decided n (fails f fs w) = tt

added-decided : (v : Verdict Program) (m : Walk → Verdict TypedItem) → IsDecided v → ((w : Walk) → IsDecided (m w)) → IsDecided (both v m ▷ item_added)
added-decided (typed p w) m d e = by (m w) (e w)
  where
    by : (u : Verdict TypedItem) → IsDecided u → IsDecided (both (typed p w) (λ _. u) ▷ item_added)
    by (typed i x) h = tt
    by (untold x) h = absurd h
    by (depends x) h = absurd h
    by (fails f fs x) h = tt
added-decided (untold w) m d e = absurd d
added-decided (depends w) m d e = absurd d
added-decided (fails f fs w) m d e = tt

module _ (s : Settled) (names : OwnNames) where
  run-decided : (is : List Item) (v : Verdict Program) (seen : List ℕ) (k : Numbers) (words : Option ℕ) → IsDecided v → IsDecided (run_items s names blames.Itself v seen k words is)
  run-decided [] v seen k words d = d
  run-decided (i ∷ is) v seen k words d =
      run-decided is (both v (blamed_item s names blames.Itself seen k words i) ▷ item_added) (with_name (item_name i) seen) (behind_item i k)
      (words_behind s.declarations.types i (blamed_item s names blames.Itself seen k words i (behind v)) words)
      (added-decided v (blamed_item s names blames.Itself seen k words i) d (λ w. blamed-decided w.next (item s names seen k words i w)))

  pub program-decided : (is : List Item) → IsDecided (program s names blames.Itself is)
  program-decided is = run-decided is _ _ _ _ tt

  -- so what is found of it is typed
  pub found_typed : {P : Type 0} (is : List Item) (o : Found Program) (w : Walk) → program s names blames.Itself is ≡ found o w → ((p : Program) → o ≢ founds.Typed p) → P
  found_typed is (founds.Typed p) w e not = absurd (not p refl)
  found_typed is founds.Untold w e not = absurd (subst IsDecided e (program-decided is))
  found_typed is founds.Depends w e not = absurd (subst IsDecided e (program-decided is))
