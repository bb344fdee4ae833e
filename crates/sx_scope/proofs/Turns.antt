-- Parameters of a function type, one after another.
use Rattle.std.proofs.Common.{◌≡◌, ◌<◌, ◌+◌, ◌∙◌, ℕ, List, [], ◌∷◌, ◌++◌, Err, length, get_or, drop, refl, sym, ap}
use Rattle.std.proofs.lemmas.List.{at_drop_more}
use Rattle.sx_types.specs.declared.types.FunctionParameter.{FunctionParameter}
use Rattle.sx_scope.specs.declared.stop.TypeStop.{TypeStop}
use Rattle.sx_scope.specs.declared.stop.TypeStop.TheVariants.{Typing, TooWide, Late, NoMemory}
use Rattle.sx_scope.specs.declared.walk.Found.{Found}
use Rattle.sx_scope.specs.declared.walk.Found.TheVariants as founds
use Rattle.sx_scope.specs.declared.walk.Walk.{Walk}
use Rattle.sx_scope.specs.Verdict.{Verdict, fails, failing, behind, Judging, ◌▷◌, both, beside_typed, beside_untold, beside_depending, found, Answers}
use Rattle.sx_scope.specs.WrittenTypes.{JudgedParameter, run_parameters, parameter_added}

-- where a first part doesn't fail, it doesn't matter where it ends
pub beside : {A B : Type 0} (o : Found A) (w v : Walk) (m : Judging B) (r : Verdict B) → m w ≡ r → both (found o w) m ≡ both (found o v) (λ _. r)
beside (founds.Typed a) w v m r e = ap (beside_typed a) e
beside founds.Untold w v m r e = ap beside_untold e
beside founds.Depends w v m r e = ap beside_depending e

both_fails : {A B : Type 0} (o : Found A) (w : Walk) (m : Judging B) (f : TypeStop) (fs : List TypeStop) (v : Walk) → m w ≡ fails f fs v → both (found o w) m ≡ fails f fs v
both_fails (founds.Typed a) w m f fs v e = ap (beside_typed a) e
both_fails founds.Untold w m f fs v e = ap beside_untold e
both_fails founds.Depends w m f fs v e = ap beside_depending e

run_fails : (ps : List JudgedParameter) (f : TypeStop) (fs : List TypeStop) (w : Walk) →
    (gs : List TypeStop) × (v : Walk) × (run_parameters (fails f fs w) ps ≡ fails f gs v)
run_fails [] f fs w = (fs, w, refl)
run_fails (p ∷ ps) f fs w = run_fails ps f (fs ++ failing (p w)) (behind (p w))

pub turn_goes : (all after : Found (List FunctionParameter)) (one : Found FunctionParameter) (w v : Walk) (p : JudgedParameter) (ps : List JudgedParameter) (total : Verdict (List FunctionParameter)) →
    p w ≡ found one v → found after v ≡ both (found all v) (λ _. found one v) ▷ parameter_added → run_parameters (found all w) (p ∷ ps) ≡ total → run_parameters (found after v) ps ≡ total
turn_goes all after one w v p ps total here added so_far =
    ap (λ x. run_parameters x ps) (added ∙ sym (ap (λ x. x ▷ parameter_added) (beside all w v p (found one v) here))) ∙ so_far

pub turn_fails : (e : TypeStop) (all : Found (List FunctionParameter)) (w now : Walk) (p : JudgedParameter) (ps : List JudgedParameter) (total : Verdict (List FunctionParameter)) →
    Answers (Err e) now (p w) → run_parameters (found all w) (p ∷ ps) ≡ total → Answers (Err e) now total
turn_fails (Typing k n) all w now p ps total (fs, v, here) so_far =
    let r = run_fails ps (Typing k n) fs v in
    (r.0, r.1, sym so_far ∙ ap (λ x. run_parameters (x ▷ parameter_added) ps) (both_fails all w p (Typing k n) fs v here) ∙ r.2)
turn_fails (TooWide n) all w now p ps total (fs, v, here) so_far =
    let r = run_fails ps (TooWide n) fs v in
    (r.0, r.1, sym so_far ∙ ap (λ x. run_parameters (x ▷ parameter_added) ps) (both_fails all w p (TooWide n) fs v here) ∙ r.2)
turn_fails (Late at global) all w now p ps total h so_far = h
turn_fails NoMemory all w now p ps total h so_far = tt

pub next_item : {A : Type 0} (xs : List A) (i : ℕ) (x : A) → i < length xs → x ≡ get_or xs i x → drop i xs ≡ x ∷ drop (i + 1) xs
next_item xs i x lt e = at_drop_more (λ ys. ys) xs i x lt ∙ ap (λ y. y ∷ drop (i + 1) xs) (sym e)
