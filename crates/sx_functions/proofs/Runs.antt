-- Accessors and observers one after another.
use Rattle.std.proofs.Common.{◌≡◌, List, [], ◌∷◌, ◌++◌, refl, sym, ap, ◌∙◌}
use Rattle.sx_scope.specs.declared.declarations.Declarations.{Declarations}
use Rattle.sx_scope.specs.declared.stop.TypeStop.{TypeStop}
use Rattle.sx_scope.specs.declared.walk.Found.{Found}
use Rattle.sx_scope.specs.declared.walk.Walk.{Walk}
use Rattle.sx_scope.specs.Verdict.{Verdict, fails, failing, behind, ◌▷◌, both, found}
use Rattle.sx_tree.specs.declared.declarations.Accessor.{Accessor}
use Rattle.sx_bodies.proofs.Failing.{Fails, both_found, both_fails}
use Rattle.sx_functions.specs.declared.accessing.Accessed.{Accessed}
use Rattle.sx_functions.specs.declared.accessing.OwnNames.{OwnNames}
use Rattle.sx_functions.specs.Accessors.{accessor, nothing_more, run_accessors}

module _ (d : Declarations) (names : OwnNames) (c : Accessed) where
  -- the first that fails stays the first
  stays : (e : TypeStop) (fs : List TypeStop) (w : Walk) (xs : List Accessor) → Fails e (run_accessors d names c (fails e fs w) xs)
  stays e fs w [] = (fs, w, refl)
  stays e fs w (x ∷ xs) = stays e (fs ++ failing (accessor d names c x w)) (behind (accessor d names c x w)) xs

  -- one more that is found
  pub goes_on : (all rest : List Accessor) (x : Accessor) (q q' o : Found (Unit {0})) (w w' : Walk) (whole : Verdict (Unit {0})) → all ≡ x ∷ rest → run_accessors d names c (found q w) all ≡ whole → accessor d names c x w ≡ found o w' → found q' w' ≡ both (found q w) (λ _. found o w') ▷ nothing_more → run_accessors d names c (found q' w') rest ≡ whole
  goes_on all rest x q q' o w w' whole at run h added =
      ap (λ v. run_accessors d names c v rest) (added ∙ sym (ap (λ v. v ▷ nothing_more) (both_found q w w' (accessor d names c x) o h)))
      ∙ sym (ap (run_accessors d names c (found q w)) at) ∙ run

  -- one that fails, behind those that were found
  pub stops : (all rest : List Accessor) (x : Accessor) (q : Found (Unit {0})) (e : TypeStop) (fs : List TypeStop) (w w' : Walk) (whole : Verdict (Unit {0})) → all ≡ x ∷ rest → run_accessors d names c (found q w) all ≡ whole → accessor d names c x w ≡ fails e fs w' → Fails e whole
  stops all rest x q e fs w w' whole at run h =
      let r : Fails e (run_accessors d names c (fails e fs w') rest) = stays e fs w' rest in (
        r.0,
        r.1,
        sym run ∙ ap (run_accessors d names c (found q w)) at
            ∙ ap (λ v. run_accessors d names c (v ▷ nothing_more) rest) (both_fails q w w' (accessor d names c x) e fs h) ∙ r.2,
      )
