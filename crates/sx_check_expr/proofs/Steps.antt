-- The parts behind an operand, step by step.
use Rattle.std.proofs.Common.{◌≡◌, ◌∙◌, ℕ, ◌+◌, Bool, true, false, List, [], ◌∷◌, ◌++◌, Option, Some, None, Err, map, length, ◌≤◌, refl, sym, ap, arith, true≢false}
use Rattle.sx_tree.specs.declared.code.Part.{Part}
use Rattle.sx_typed.specs.declared.code.Expr.{Expr as TypedExpr}
use Rattle.sx_scope.specs.declared.declarations.Declarations.{Declarations}
use Rattle.sx_scope.specs.declared.stop.TypeStop.{TypeStop}
use Rattle.sx_scope.specs.declared.walk.Asked.{Asked}
use Rattle.sx_scope.specs.declared.walk.Callee.{Callee}
use Rattle.sx_scope.specs.declared.walk.Place.{Place}
use Rattle.sx_scope.specs.declared.walk.Walk.{Walk}
use Rattle.sx_scope.specs.Verdict.{Verdict, typed, fails, failing, behind, Answers, ◌▷◌}
use Rattle.sx_scope.specs.Names.{member_value}
use Rattle.sx_scope.specs.Walks.{node}
use Rattle.sx_span.specs.declared.places.Node.{Node}
use Rattle.sx_calls.specs.Parts.{JudgedExpr, JudgedArgument, JudgedPart, own_nodes, own_nodes_of, asked_before, trailing}
use Rattle.sx_calls.specs.Calls.{call_value, index_value, nothing_passed, pairing, run_arguments, run_indices, shapes, types_by}
use Rattle.sx_bodies.proofs.Failing.{Fails}
use Rattle.sx_check_expr.specs.Judge.{callee, judged_part, run_first, run_parts}
use Rattle.sx_check_expr.proofs.Stops.{run_stops}
use Rattle.sx_check_expr.specs.Steps.{behind_step, member_step, run_called, run_uncalled, starts_call, step_nodes, step_value}

-- a step, and then the parts behind it
pub run_step : (d : Declarations) (p : Place) (q : Asked) (start site : ℕ) (this : Bool) (v : Verdict TypedExpr) (x : JudgedPart) (ps : List JudgedPart) →
    run_parts d p q start site this v (x ∷ ps) ≡ run_parts d p q start site false (step_value d p (asked_before (behind_step x ps) q) (own_nodes (behind_step x ps) + start) site this v x ps) (behind_step x ps)
run_step d p q start site this v (JudgedPart.Member x (Some c)) ps = refl
run_step d p q start site this v (JudgedPart.Member x None) [] = refl
run_step d p q start site this v (JudgedPart.Member x None) (JudgedPart.Member y c ∷ ps) = refl
run_step d p q start site this v (JudgedPart.Member x None) (JudgedPart.Index is ∷ ps) = refl
run_step d p q start site this v (JudgedPart.Member x None) (JudgedPart.Call as_ c ∷ ps) = refl
run_step d p q start site this v (JudgedPart.Index is) ps = refl
run_step d p q start site this v (JudgedPart.Call as_ c) ps = refl

pub step_made : (x : JudgedPart) (ps : List JudgedPart) → own_nodes (x ∷ ps) ≡ step_nodes x ps + own_nodes (behind_step x ps)
step_made (JudgedPart.Member x (Some c)) ps = refl
step_made (JudgedPart.Member x None) [] = refl
step_made (JudgedPart.Member x None) (JudgedPart.Member y c ∷ ps) = refl
step_made (JudgedPart.Member x None) (JudgedPart.Index is ∷ ps) = refl
step_made (JudgedPart.Member x None) (JudgedPart.Call as_ c ∷ ps) = omega arith
step_made (JudgedPart.Index is) ps = refl
step_made (JudgedPart.Call as_ c) ps = refl

pub step_some : (x : JudgedPart) (ps : List JudgedPart) → 1 ≤ step_nodes x ps
step_some (JudgedPart.Member x (Some c)) ps = omega arith
step_some (JudgedPart.Member x None) [] = omega arith
step_some (JudgedPart.Member x None) (JudgedPart.Member y c ∷ ps) = omega arith
step_some (JudgedPart.Member x None) (JudgedPart.Index is ∷ ps) = omega arith
step_some (JudgedPart.Member x None) (JudgedPart.Call as_ c ∷ ps) = omega arith
step_some (JudgedPart.Index is) ps = omega arith
step_some (JudgedPart.Call as_ c) ps = omega arith

pub left_behind : (x : JudgedPart) (others ps rest : List JudgedPart) (left k : ℕ) → ps ≡ x ∷ others → rest ≡ behind_step x others → left ≡ own_nodes ps → k ≡ step_nodes x others → left ≡ k + own_nodes rest
left_behind x others ps rest left k at behind all made =
    all ∙ ap own_nodes at ∙ step_made x others ∙ ap (λ n. n + own_nodes (behind_step x others)) (sym made) ∙ ap (λ ys. k + own_nodes ys) (sym behind)

-- ---- where what stands before fails
call_stays : (d : Declarations) (p : Place) (q : Asked) (n : Node) (site : ℕ) (args : List JudgedArgument) (e : TypeStop) (fs : List TypeStop) (w : Walk) → Fails e (call_value d p q n site args (fails e fs w))
call_stays d p q n site args e fs w =
    let v = run_arguments p (typed nothing_passed w) (pairing d None (shapes d args)).slots args in
    (fs ++ failing v, behind v, refl)

pub call_stops : (d : Declarations) (p : Place) (q : Asked) (n : Node) (site : ℕ) (args : List JudgedArgument) (v : Verdict Callee) (e : TypeStop) (now now' : Walk) → Answers {A = Callee} (Err e) now v → Answers {A = TypedExpr} (Err e) now' (call_value d p q n site args v)
call_stops d p q n site args v e now now' = run_stops e now now' (λ y. call_value d p q n site args y) v (call_value d p q n site args v) (λ fs w. call_stays d p q n site args e fs w) refl

-- an operand that is no call's
pub uncalled : (d : Declarations) (p : Place) (q : Asked) (start site : ℕ) (e : JudgedExpr) (ps : List JudgedPart) (w : Walk) → starts_call ps ≡ false → run_first d p q start site e ps w ≡ run_uncalled d p q start site e ps w
uncalled d p q start site e [] w h = refl
uncalled d p q start site e (JudgedPart.Member x c ∷ ps) w h = refl
uncalled d p q start site e (JudgedPart.Index is ∷ ps) w h = refl
uncalled d p q start site e (JudgedPart.Call as_ c ∷ ps) w h = absurd (true≢false h)

index_stays : (d : Declarations) (p : Place) (q : Asked) (n : Node) (site : ℕ) (is : List JudgedExpr) (e : TypeStop) (fs : List TypeStop) (w : Walk) → Fails e (index_value d p q n site is (fails e fs w))
index_stays d p q n site is e fs w =
    let v = run_indices d p (typed [] w) (types_by d (length is) None) is in
    (fs ++ failing v, behind v, refl)

then_stays : (e : TypeStop) (run : Verdict TypedExpr → Verdict TypedExpr) (v : Verdict TypedExpr) → Fails e v → ((fs : List TypeStop) (w : Walk) → Fails e (run (fails e fs w))) → Fails e (run v)
then_stays e run v (fs, w, h) stays = let r : Fails e (run (fails e fs w)) = stays fs w in (r.0, r.1, ap run h ∙ r.2)

pub parts_stay : (d : Declarations) (p : Place) (q : Asked) (start site : ℕ) (this : Bool) (ps : List JudgedPart) (e : TypeStop) (fs : List TypeStop) (w : Walk) → Fails e (run_parts d p q start site this (fails e fs w) ps)
parts_stay d p q start site this [] e fs w = (fs, w, refl)
parts_stay d p q start site this (JudgedPart.Member x (Some c) ∷ ps) e fs w =
    then_stays e (λ v. run_parts d p q start site false v ps) _ (call_stays d p (asked_before ps q) (node (own_nodes ps + start)) site (trailing (Some c)) e fs w) (λ gs u. parts_stay d p q start site false ps e gs u)
parts_stay d p q start site this (JudgedPart.Member x None ∷ []) e fs w = (fs, w, refl)
parts_stay d p q start site this (JudgedPart.Member x None ∷ JudgedPart.Member y c ∷ ps) e fs w = parts_stay d p q start site false (JudgedPart.Member y c ∷ ps) e fs w
parts_stay d p q start site this (JudgedPart.Member x None ∷ JudgedPart.Index is ∷ ps) e fs w = parts_stay d p q start site false (JudgedPart.Index is ∷ ps) e fs w
parts_stay d p q start site this (JudgedPart.Member x None ∷ JudgedPart.Call as_ c ∷ ps) e fs w =
    then_stays e (λ v. run_parts d p q start site false v ps) _ (call_stays d p (asked_before ps q) (node (own_nodes ps + start)) site (as_ ++ trailing c) e fs w) (λ gs u. parts_stay d p q start site false ps e gs u)
parts_stay d p q start site this (JudgedPart.Index is ∷ ps) e fs w =
    then_stays e (λ v. run_parts d p q start site false v ps) _ (index_stays d p (asked_before ps q) (node (own_nodes ps + start)) site is e fs w) (λ gs u. parts_stay d p q start site false ps e gs u)
parts_stay d p q start site this (JudgedPart.Call as_ c ∷ ps) e fs w =
    then_stays e (λ v. run_parts d p q start site false v ps) _ (call_stays d p (asked_before ps q) (node (own_nodes ps + start)) site (as_ ++ trailing c) e fs w) (λ gs u. parts_stay d p q start site false ps e gs u)

-- ---- one step of a run of parts
pub parts_on : (d : Declarations) (p : Place) (q : Asked) (start site n m : ℕ) (this : Bool) (v v' : Verdict TypedExpr) (wanted : Asked) (ps rest : List JudgedPart) (x : JudgedPart) (others : List JudgedPart) (whole : Verdict TypedExpr) →
    ps ≡ x ∷ others → rest ≡ behind_step x others → wanted ≡ asked_before rest q → m ≡ own_nodes rest → n ≡ m + start → run_parts d p q start site this v ps ≡ whole →
    step_value d p wanted n site this v x others ≡ v' → run_parts d p q start site false v' rest ≡ whole
parts_on d p q start site n m this v v' wanted ps rest x others whole at behind asks left number run step =
    ap (λ y. run_parts d p q start site false y rest) (sym step ∙ ap (λ k. step_value d p wanted k site this v x others) (number ∙ ap (λ k. k + start) left) ∙ ap (λ k. step_value d p k (own_nodes rest + start) site this v x others) asks)
    ∙ ap (λ ys. run_parts d p q start site false (step_value d p (asked_before ys q) (own_nodes ys + start) site this v x others) ys) behind
    ∙ sym (run_step d p q start site this v x others)
    ∙ ap (run_parts d p q start site this v) (sym at)
    ∙ run

pub parts_stop : (d : Declarations) (p : Place) (q : Asked) (start site n m : ℕ) (this : Bool) (v : Verdict TypedExpr) (wanted : Asked) (ps rest : List JudgedPart) (x : JudgedPart) (others : List JudgedPart) (whole : Verdict TypedExpr) (e : TypeStop) (now now' : Walk) →
    ps ≡ x ∷ others → rest ≡ behind_step x others → wanted ≡ asked_before rest q → m ≡ own_nodes rest → n ≡ m + start → run_parts d p q start site this v ps ≡ whole →
    Answers {A = TypedExpr} (Err e) now (step_value d p wanted n site this v x others) → Answers {A = TypedExpr} (Err e) now' whole
parts_stop d p q start site n m this v wanted ps rest x others whole e now now' at behind asks left number run step =
    run_stops e now now' (λ y. run_parts d p q start site false y rest) (step_value d p wanted n site this v x others) whole (λ fs w. parts_stay d p q start site false rest e fs w)
    (parts_on d p q start site n m this v (step_value d p wanted n site this v x others) wanted ps rest x others whole at behind asks left number run refl) step

pub parts_fail : (d : Declarations) (p : Place) (q : Asked) (start site : ℕ) (this : Bool) (ps : List JudgedPart) (v : Verdict TypedExpr) (e : TypeStop) (now now' : Walk) → Answers {A = TypedExpr} (Err e) now v → Answers {A = TypedExpr} (Err e) now' (run_parts d p q start site this v ps)
parts_fail d p q start site this ps v e now now' =
    run_stops e now now' (λ y. run_parts d p q start site this y ps) v (run_parts d p q start site this v ps) (λ fs w. parts_stay d p q start site this ps e fs w) refl

-- ---- the operand
pub called_is : (d : Declarations) (p : Place) (q wanted : Asked) (start left site : ℕ) (e : JudgedExpr) (args : List JudgedArgument) (ps : List JudgedPart) (w : Walk) (v : Verdict Callee) →
    wanted ≡ asked_before ps q → left ≡ own_nodes ps → callee d p site e w ≡ v →
    run_parts d p q start site false (call_value d p wanted (node (left + start)) site args v) ps ≡ run_called d p q start site e args ps w
called_is d p q wanted start left site e args ps w v asks own called =
    ap (λ k. run_parts d p q start site false (call_value d p k (node (left + start)) site args v) ps) asks
    ∙ ap (λ n. run_parts d p q start site false (call_value d p (asked_before ps q) (node (n + start)) site args v) ps) own
    ∙ ap (λ y. run_parts d p q start site false (call_value d p (asked_before ps q) (node (own_nodes ps + start)) site args y) ps) (sym called)

-- ---- how many nodes parts make
pub counts : (d : Declarations) (count count' k : ℕ) (xs rest : List Part) (x : Part) (whole : ℕ) →
    xs ≡ x ∷ rest → count' ≡ count + k → k ≡ own_nodes_of (judged_part d x) → count + own_nodes (map (judged_part d) xs) ≡ whole → count' + own_nodes (map (judged_part d) rest) ≡ whole
counts d count count' k xs rest x whole at grown made so_far =
    let here : own_nodes (map (judged_part d) xs) ≡ own_nodes_of (judged_part d x) + own_nodes (map (judged_part d) rest) = ap (λ ys. own_nodes (map (judged_part d) ys)) at in
    omega (arith, here, grown, made, so_far)

pub no_parts : (d : Declarations) (xs : List Part) → length xs ≡ 0 → own_nodes (map (judged_part d) xs) ≡ 0
no_parts d [] h = refl
no_parts d (x ∷ xs) h = omega (arith, h)

-- ---- a member that isn't called
pub plain : (d : Declarations) (p : Place) (q : Asked) (n site : ℕ) (this : Bool) (v : Verdict TypedExpr) (x : ℕ) (ps : List JudgedPart) → starts_call ps ≡ false → member_step d p q n site this v x ps ≡ v ▷ member_value d p q (node n) site this x
plain d p q n site this v x [] h = refl
plain d p q n site this v x (JudgedPart.Member y c ∷ ps) h = refl
plain d p q n site this v x (JudgedPart.Index is ∷ ps) h = refl
plain d p q n site this v x (JudgedPart.Call as_ c ∷ ps) h = absurd (true≢false h)
