-- Items one after another.
use Rattle.std.proofs.Common.{◌≡◌, ℕ, List, [], ◌∷◌, ◌++◌, Option, refl, sym, ap, ◌∙◌}
use Rattle.sx_bodies.proofs.Failing.{Fails, both_found, both_fails}
use Rattle.sx_check_decl.specs.Items.{blamed_item, item_added, run_items, words_behind}
use Rattle.sx_check_decl.specs.declared.items.Blame.{Blame}
use Rattle.sx_check_decl.specs.declared.items.Program.{Program}
use Rattle.sx_check_decl.specs.declared.items.Settled.{Settled}
use Rattle.sx_check_decl.specs.declared.items.TypedItem.{TypedItem}
use Rattle.sx_functions.specs.declared.accessing.OwnNames.{OwnNames}
use Rattle.sx_scope.specs.declared.stop.TypeStop.{TypeStop}
use Rattle.sx_scope.specs.declared.walk.Found.{Found}
use Rattle.sx_scope.specs.declared.walk.Found.TheVariants as founds
use Rattle.sx_scope.specs.declared.walk.Walk.{Walk}
use Rattle.sx_scope.specs.Verdict.{Verdict, fails, ◌▷◌, both, found, failing, behind}
use Rattle.sx_tables.specs.Names.{behind_item, item_name, with_name}
use Rattle.sx_tables.specs.declared.names.Numbers.{Numbers}
use Rattle.sx_tree.specs.declared.declarations.Item.{Item}

behind_found : {A : Type 0} (q : Found A) (w : Walk) → behind (found q w) ≡ w
behind_found (founds.Typed a) w = refl
behind_found founds.Untold w = refl
behind_found founds.Depends w = refl

module _ (s : Settled) (names : OwnNames) (blame : Blame) where
  -- the first that fails stays the first
  stays : (e : TypeStop) (fs : List TypeStop) (w : Walk) (seen : List ℕ) (k : Numbers) (words : Option ℕ) (is : List Item) → Fails e (run_items s names blame (fails e fs w) seen k words is)
  stays e fs w seen k words [] = (fs, w, refl)
  stays e fs w seen k words (i ∷ is) =
      stays e (fs ++ failing (blamed_item s names blame seen k words i w)) (behind (blamed_item s names blame seen k words i w)) (with_name (item_name i) seen) (behind_item i k)
      (words_behind s.declarations.types i (blamed_item s names blame seen k words i w) words) is

  -- an item that fails, behind those that were found
  pub stopped : (q : Found Program) (e : TypeStop) (fs : List TypeStop) (w w' : Walk) (seen : List ℕ) (k : Numbers) (words : Option ℕ) (items : List Item) (i : Item) (is : List Item) (whole : Verdict Program) → items ≡ i ∷ is → run_items s names blame (found q w) seen k words items ≡ whole → blamed_item s names blame seen k words i w ≡ fails e fs w' → Fails e whole
  stopped q e fs w w' seen k words items i is whole at run h =
      let later : Option ℕ = words_behind s.declarations.types i (blamed_item s names blame seen k words i (behind (found q w))) words in
      let r : Fails e (run_items s names blame (fails e fs w') (with_name (item_name i) seen) (behind_item i k) later is) =
      stays e fs w' (with_name (item_name i) seen) (behind_item i k) later is in (
        r.0,
        r.1,
        sym run ∙ ap (run_items s names blame (found q w) seen k words) at
            ∙ ap (λ (v : Verdict (Program × TypedItem)). run_items s names blame (v ▷ item_added) (with_name (item_name i) seen) (behind_item i k) later is) (both_fails q w w' (blamed_item s names blame seen k words i) e fs h)
            ∙ r.2,
      )

  -- one more that is found
  pub went_on : (q q' : Found Program) (o : Found TypedItem) (w w' : Walk) (seen seen' : List ℕ) (k k' : Numbers) (words words' : Option ℕ) (items : List Item) (i : Item) (is : List Item) (whole : Verdict Program) → items ≡ i ∷ is → run_items s names blame (found q w) seen k words items ≡ whole → blamed_item s names blame seen k words i w ≡ found o w' → found q' w' ≡ both (found q w) (λ _. found o w') ▷ item_added → seen' ≡ with_name (item_name i) seen → k' ≡ behind_item i k → words' ≡ words_behind s.declarations.types i (blamed_item s names blame seen k words i w) words → run_items s names blame (found q' w') seen' k' words' is ≡ whole
  went_on q q' o w w' seen seen' k k' words words' items i is whole at run h added names_are numbers_are words_are =
      let program_is : found q' w' ≡ both (found q w) (blamed_item s names blame seen k words i) ▷ item_added =
      added ∙ sym (ap (λ (v : Verdict (Program × TypedItem)). v ▷ item_added) (both_found q w w' (blamed_item s names blame seen k words i) o h)) in
      let words_so : words' ≡ words_behind s.declarations.types i (blamed_item s names blame seen k words i (behind (found q w))) words =
      words_are ∙ sym (ap (λ (u : Walk). words_behind s.declarations.types i (blamed_item s names blame seen k words i u) words) (behind_found q w)) in
      ap (λ (v : Verdict Program). run_items s names blame v seen' k' words' is) program_is
      ∙ ap (λ (xs : List ℕ). run_items s names blame (both (found q w) (blamed_item s names blame seen k words i) ▷ item_added) xs k' words' is) names_are
      ∙ ap (λ (n : Numbers). run_items s names blame (both (found q w) (blamed_item s names blame seen k words i) ▷ item_added) (with_name (item_name i) seen) n words' is) numbers_are
      ∙ ap (λ (o : Option ℕ). run_items s names blame (both (found q w) (blamed_item s names blame seen k words i) ▷ item_added) (with_name (item_name i) seen) (behind_item i k) o is) words_so
      ∙ sym (ap (run_items s names blame (found q w) seen k words) at)
      ∙ run
