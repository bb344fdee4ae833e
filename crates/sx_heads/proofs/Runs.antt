-- Parameters one after another.
use Rattle.std.proofs.Common.{◌≡◌, List, [], ◌∷◌, ◌++◌, map, refl, sym, ap, ◌∙◌}
use Rattle.sx_scope.specs.declared.stop.TypeStop.{TypeStop}
use Rattle.sx_scope.specs.declared.walk.Found.{Found}
use Rattle.sx_scope.specs.declared.walk.Walk.{Walk}
use Rattle.sx_scope.specs.Verdict.{Verdict, fails, Judging, ◌▷◌, both, found, failing, behind}
use Rattle.sx_tree.specs.declared.declarations.Parameter.{Parameter}
use Rattle.sx_heads.specs.declared.parameters.HeadParameter.{HeadParameter}
use Rattle.sx_heads.specs.Heads.{parameter_added, run_parameters}
use Rattle.sx_bodies.proofs.Failing.{Fails, both_found, both_fails}

-- the first that fails stays the first
stays : (e : TypeStop) (fs : List TypeStop) (w : Walk) (ps : List (Judging HeadParameter)) → Fails e (run_parameters (fails e fs w) ps)
stays e fs w [] = (fs, w, refl)
stays e fs w (p ∷ ps) = stays e (fs ++ failing (p w)) (behind (p w)) ps

-- a parameter that fails, behind those that were found
pub stops : (judge : Parameter → Judging HeadParameter) (ps rest : List Parameter) (x : Parameter) (q : Found (List HeadParameter)) (e : TypeStop) (fs : List TypeStop) (w w' : Walk) (whole : Verdict (List HeadParameter)) → ps ≡ x ∷ rest → run_parameters (found q w) (map judge ps) ≡ whole → judge x w ≡ fails e fs w' → Fails e whole
stops judge ps rest x q e fs w w' whole at run h =
    let r : Fails e (run_parameters (fails e fs w') (map judge rest)) = stays e fs w' (map judge rest) in
    (r.0, r.1, sym run ∙ ap (λ (xs : List Parameter). run_parameters (found q w) (map judge xs)) at ∙ ap (λ v. run_parameters (v ▷ parameter_added) (map judge rest)) (both_fails q w w' (judge x) e fs h) ∙ r.2)

-- one more that is found
pub goes_on : (judge : Parameter → Judging HeadParameter) (ps rest : List Parameter) (x : Parameter) (q q' : Found (List HeadParameter)) (o : Found HeadParameter) (w w' : Walk) (whole : Verdict (List HeadParameter)) → ps ≡ x ∷ rest → run_parameters (found q w) (map judge ps) ≡ whole → judge x w ≡ found o w' → found q' w' ≡ both (found q w) (λ _. found o w') ▷ parameter_added → run_parameters (found q' w') (map judge rest) ≡ whole
goes_on judge ps rest x q q' o w w' whole at run h added =
    ap (λ v. run_parameters v (map judge rest)) (added ∙ sym (ap (λ v. v ▷ parameter_added) (both_found q w w' (judge x) o h)))
    ∙ sym (ap (λ (xs : List Parameter). run_parameters (found q w) (map judge xs)) at) ∙ run
