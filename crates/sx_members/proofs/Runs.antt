-- Members one after another.
use Rattle.std.proofs.Common.{◌≡◌, List, [], ◌∷◌, ◌++◌, Option, refl, sym, ap, ◌∙◌}
use Rattle.sx_types.specs.declared.types.Ty.{Ty}
use Rattle.sx_scope.specs.declared.declarations.Declarations.{Declarations}
use Rattle.sx_scope.specs.declared.stop.TypeStop.{TypeStop}
use Rattle.sx_scope.specs.declared.walk.Found.{Found}
use Rattle.sx_scope.specs.declared.walk.Walk.{Walk}
use Rattle.sx_scope.specs.Verdict.{Verdict, fails, failing, behind, ◌▷◌, both, found}
use Rattle.sx_tree.specs.declared.declarations.Member.{Member}
use Rattle.sx_bodies.proofs.Failing.{Fails, both_found, both_fails}
use Rattle.sx_functions.specs.declared.accessing.OwnNames.{OwnNames}
use Rattle.sx_members.specs.declared.members.NamedProperty.{NamedProperty}
use Rattle.sx_members.specs.Members.{Before, behind_member, member, property_added, run_members}

module _ (d : Declarations) (names : OwnNames) (stops : List (Option TypeStop)) (t : Ty) where
  -- the first that fails stays the first
  stays : (e : TypeStop) (fs : List TypeStop) (w : Walk) (b : Before) (ms : List Member) → Fails e (run_members d names stops t (fails e fs w) b ms)
  stays e fs w b [] = (fs, w, refl)
  stays e fs w b (m ∷ ms) = stays e (fs ++ failing (member d names stops t b m w)) (behind (member d names stops t b m w)) (behind_member m b) ms

  -- one more that is found
  pub goes_on : (b b' : Before) (all rest : List Member) (m : Member) (q q' : Found (List NamedProperty)) (o : Found (Option NamedProperty)) (w w' : Walk) (whole : Verdict (List NamedProperty)) → all ≡ m ∷ rest → run_members d names stops t (found q w) b all ≡ whole → member d names stops t b m w ≡ found o w' → found q' w' ≡ both (found q w) (λ _. found o w') ▷ property_added → b' ≡ behind_member m b → run_members d names stops t (found q' w') b' rest ≡ whole
  goes_on b b' all rest m q q' o w w' whole at run h added passed =
      ap (λ (c : Before). run_members d names stops t (found q' w') c rest) passed
      ∙ ap (λ v. run_members d names stops t v (behind_member m b) rest) (added ∙ sym (ap (λ v. v ▷ property_added) (both_found q w w' (member d names stops t b m) o h)))
      ∙ sym (ap (run_members d names stops t (found q w) b) at) ∙ run

  -- one that fails, behind those that were found
  pub ends : (b : Before) (all rest : List Member) (m : Member) (q : Found (List NamedProperty)) (e : TypeStop) (fs : List TypeStop) (w w' : Walk) (whole : Verdict (List NamedProperty)) → all ≡ m ∷ rest → run_members d names stops t (found q w) b all ≡ whole → member d names stops t b m w ≡ fails e fs w' → Fails e whole
  ends b all rest m q e fs w w' whole at run h =
      let r : Fails e (run_members d names stops t (fails e fs w') (behind_member m b) rest) = stays e fs w' (behind_member m b) rest in (
        r.0,
        r.1,
        sym run ∙ ap (run_members d names stops t (found q w) b) at
            ∙ ap (λ v. run_members d names stops t (v ▷ property_added) (behind_member m b) rest) (both_fails q w w' (member d names stops t b m) e fs h) ∙ r.2,
      )
