-- Parts one after another: where one fails, the whole does.
use Rattle.std.proofs.Common.{◌≡◌, ◌∙◌, ℕ, ◌+◌, List, [], ◌∷◌, ◌++◌, Option, Some, None, Err, map, length, refl, sym, ap}
use Rattle.std.proofs.lemmas.List.{length-map}
use Rattle.sx_tree.specs.declared.code.Argument.{Argument}
use Rattle.sx_tree.specs.declared.code.Expr.{Expr}
use Rattle.sx_tree.specs.declared.code.Link.{Link}
use Rattle.sx_typed.specs.declared.code.Expr.{Expr as TypedExpr}
use Rattle.sx_types.specs.declared.types.Ty.{Ty}
use Rattle.sx_types.specs.declared.types.Ty.TheVariants as ty
use Rattle.sx_scope.specs.declared.declarations.Declarations.{Declarations}
use Rattle.sx_scope.specs.declared.stop.TypeStop.{TypeStop}
use Rattle.sx_scope.specs.declared.walk.Asked.{Asked}
use Rattle.sx_scope.specs.declared.walk.Asked.TheVariants as asked
use Rattle.sx_scope.specs.declared.walk.Place.{Place}
use Rattle.sx_scope.specs.declared.walk.Use.TheVariants as uses
use Rattle.sx_scope.specs.declared.walk.Walk.{Walk}
use Rattle.sx_scope.specs.declared.walk.Found.{Found}
use Rattle.sx_scope.specs.Verdict.{Verdict, Answers, ◌▷◌, both, fails, failing, found, behind}
use Rattle.sx_scope.specs.Walks.{advanced, node, numbered}
use Rattle.sx_calls.specs.Parts.{JudgedExpr, JudgedLink, JudgedArgument}
use Rattle.sx_calls.specs.declared.passed.Passed.{Passed}
use Rattle.sx_calls.specs.declared.passed.Slot.{Slot}
use Rattle.sx_calls.specs.Operators.{asked_first, given, linked, run_links, right_asked}
use Rattle.sx_calls.specs.Calls.{run_argument, run_arguments, argument_value, first_slot, other_slots, run_indices, index_added, index_for, first_type, other_types}
use Rattle.sx_bodies.proofs.Failing.{Fails, both_found}
use Rattle.sx_check_expr.specs.Judge.{chain_value, element_added, judged_argument, judged_expr, judged_link, run_elements}
use Rattle.sx_check_expr.proofs.Stops.{run_stops, second_stops}

pub links_stay : (p : Place) (start site : ℕ) (ls : List JudgedLink) (e : TypeStop) (fs : List TypeStop) (w : Walk) → Fails e (run_links p start site (fails e fs w) ls)
links_stay p start site [] e fs w = (fs, w, refl)
links_stay p start site (l ∷ ls) e fs w =
    let v = l.operand.value p (right_asked l.operator None) uses.Kept w in
    links_stay p start site ls e (fs ++ failing v) (behind v)

pub elements_stay : (p : Place) (es : List JudgedExpr) (e : TypeStop) (fs : List TypeStop) (w : Walk) → Fails e (run_elements p (fails e fs w) es)
elements_stay p [] e fs w = (fs, w, refl)
elements_stay p (x ∷ es) e fs w =
    let v = x.value p (asked.Type ty.Int) uses.Kept w in
    elements_stay p es e (fs ++ failing v) (behind v)

pub arguments_stay : (p : Place) (ss : List Slot) (as_ : List JudgedArgument) (e : TypeStop) (fs : List TypeStop) (w : Walk) → Fails e (run_arguments p (fails e fs w) ss as_)
arguments_stay p ss [] e fs w = (fs, w, refl)
arguments_stay p ss (a ∷ as_) e fs w =
    let v = numbered (argument_value p (first_slot ss) a) w in
    arguments_stay p (other_slots ss) as_ e (fs ++ failing v) (behind v)

pub indices_stay : (d : Declarations) (p : Place) (ts : List Ty) (is : List JudgedExpr) (e : TypeStop) (fs : List TypeStop) (w : Walk) → Fails e (run_indices d p (fails e fs w) ts is)
indices_stay d p ts [] e fs w = (fs, w, refl)
indices_stay d p ts (i ∷ is) e fs w =
    let v = index_for d p (first_type d ts) i w in
    indices_stay d p (other_types d ts) is e (fs ++ failing v) (behind v)

-- ---- one more that is found, and one that fails
pub links_on : (d : Declarations) (p : Place) (start site n : ℕ) (links rest : List Link) (x : Link) (v v' : Verdict TypedExpr) (whole : Verdict TypedExpr) →
    links ≡ x ∷ rest → n ≡ start + length rest → run_links p start site v (map (judged_link d) links) ≡ whole → linked p (node n) site (judged_link d x) v ≡ v' → run_links p start site v' (map (judged_link d) rest) ≡ whole
links_on d p start site n links rest x v v' whole at number run step =
    ap (λ y. run_links p start site y (map (judged_link d) rest)) (sym step ∙ ap (λ k. linked p (node k) site (judged_link d x) v) (number ∙ ap (λ k. start + k) (sym (length-map rest (judged_link d)))))
    ∙ ap (λ ls. run_links p start site v (map (judged_link d) ls)) (sym at) ∙ run

pub links_stop : (d : Declarations) (p : Place) (start site n : ℕ) (links rest : List Link) (x : Link) (v : Verdict TypedExpr) (whole : Verdict TypedExpr) (e : TypeStop) (now now' : Walk) →
    links ≡ x ∷ rest → n ≡ start + length rest → run_links p start site v (map (judged_link d) links) ≡ whole → Answers {A = TypedExpr} (Err e) now (linked p (node n) site (judged_link d x) v) → Answers {A = TypedExpr} (Err e) now' whole
links_stop d p start site n links rest x v whole e now now' at number run step =
    run_stops e now now' (λ y. run_links p start site y (map (judged_link d) rest)) (linked p (node n) site (judged_link d x) v) whole (λ fs w. links_stay p start site (map (judged_link d) rest) e fs w)
    (links_on d p start site n links rest x v (linked p (node n) site (judged_link d x) v) whole at number run refl) step

pub elements_on : (d : Declarations) (p : Place) (xs rest : List Expr) (x : Expr) (o o' : Found (List TypedExpr)) (r : Found TypedExpr) (w w' : Walk) (whole : Verdict (List TypedExpr)) →
    xs ≡ x ∷ rest → run_elements p (found o w) (map (judged_expr d) xs) ≡ whole → (judged_expr d x).value p (asked.Type ty.Int) uses.Kept w ≡ found r w' → found o' w' ≡ both (found o w) (λ _. found r w') ▷ element_added →
    run_elements p (found o' w') (map (judged_expr d) rest) ≡ whole
elements_on d p xs rest x o o' r w w' whole at run here added =
    ap (λ y. run_elements p y (map (judged_expr d) rest)) (added ∙ sym (ap (λ y. y ▷ element_added) (both_found o w w' ((judged_expr d x).value p (asked.Type ty.Int) uses.Kept) r here)))
    ∙ ap (λ ys. run_elements p (found o w) (map (judged_expr d) ys)) (sym at) ∙ run

pub elements_stop : (d : Declarations) (p : Place) (xs rest : List Expr) (x : Expr) (o : Found (List TypedExpr)) (w : Walk) (whole : Verdict (List TypedExpr)) (e : TypeStop) (now now' : Walk) →
    xs ≡ x ∷ rest → run_elements p (found o w) (map (judged_expr d) xs) ≡ whole → Answers {A = TypedExpr} (Err e) now ((judged_expr d x).value p (asked.Type ty.Int) uses.Kept w) → Answers {A = List TypedExpr} (Err e) now' whole
elements_stop d p xs rest x o w whole e now now' at run here =
    let m = (judged_expr d x).value p (asked.Type ty.Int) uses.Kept in
    run_stops e now now' (λ y. run_elements p y (map (judged_expr d) rest)) (both (found o w) m ▷ element_added) whole (λ fs u. elements_stay p (map (judged_expr d) rest) e fs u)
    (ap (λ ys. run_elements p (found o w) (map (judged_expr d) ys)) (sym at) ∙ run) (second_stops e now now o w m element_added here)

pub indices_on : (d : Declarations) (p : Place) (ts others : List Ty) (t : Option Ty) (xs rest : List Expr) (x : Expr) (o o' : Found (List TypedExpr)) (r : Found (Option TypedExpr)) (w w' : Walk) (whole : Verdict (List TypedExpr)) →
    xs ≡ x ∷ rest → t ≡ first_type d ts → others ≡ other_types d ts → run_indices d p (found o w) ts (map (judged_expr d) xs) ≡ whole → index_for d p t (judged_expr d x) w ≡ found r w' → found o' w' ≡ both (found o w) (λ _. found r w') ▷ index_added d →
    run_indices d p (found o' w') others (map (judged_expr d) rest) ≡ whole
indices_on d p ts others t xs rest x o o' r w w' whole at first after run here added =
    ap (λ y. run_indices d p y others (map (judged_expr d) rest)) (added ∙ sym (ap (λ y. y ▷ index_added d) (both_found o w w' (index_for d p t (judged_expr d x)) r here)))
    ∙ ap (λ us. run_indices d p (both (found o w) (index_for d p t (judged_expr d x)) ▷ index_added d) us (map (judged_expr d) rest)) after
    ∙ ap (λ u. run_indices d p (both (found o w) (index_for d p u (judged_expr d x)) ▷ index_added d) (other_types d ts) (map (judged_expr d) rest)) first
    ∙ ap (λ ys. run_indices d p (found o w) ts (map (judged_expr d) ys)) (sym at) ∙ run

pub indices_stop : (d : Declarations) (p : Place) (ts : List Ty) (t : Option Ty) (xs rest : List Expr) (x : Expr) (o : Found (List TypedExpr)) (w : Walk) (whole : Verdict (List TypedExpr)) (e : TypeStop) (now now' : Walk) →
    xs ≡ x ∷ rest → t ≡ first_type d ts → run_indices d p (found o w) ts (map (judged_expr d) xs) ≡ whole → Answers {A = Option TypedExpr} (Err e) now (index_for d p t (judged_expr d x) w) → Answers {A = List TypedExpr} (Err e) now' whole
indices_stop d p ts t xs rest x o w whole e now now' at first run here =
    let m = index_for d p t (judged_expr d x) in
    run_stops e now now' (λ y. run_indices d p y (other_types d ts) (map (judged_expr d) rest)) (both (found o w) m ▷ index_added d) whole (λ fs u. indices_stay d p (other_types d ts) (map (judged_expr d) rest) e fs u)
    (ap (λ u. run_indices d p (both (found o w) (index_for d p u (judged_expr d x)) ▷ index_added d) (other_types d ts) (map (judged_expr d) rest)) first
    ∙ ap (λ ys. run_indices d p (found o w) ts (map (judged_expr d) ys)) (sym at) ∙ run) (second_stops e now now o w m (index_added d) here)

pub arguments_on : (d : Declarations) (p : Place) (ss others : List Slot) (s : Slot) (xs rest : List Argument) (x : Argument) (tail : List JudgedArgument) (v v' whole : Verdict Passed) →
    xs ≡ x ∷ rest → s ≡ first_slot ss → others ≡ other_slots ss → run_arguments p v ss (map (judged_argument d) xs ++ tail) ≡ whole → run_argument p v s (judged_argument d x) ≡ v' → run_arguments p v' others (map (judged_argument d) rest ++ tail) ≡ whole
arguments_on d p ss others s xs rest x tail v v' whole at first after run step =
    ap (λ y. run_arguments p y others (map (judged_argument d) rest ++ tail)) (sym step)
    ∙ ap (λ us. run_arguments p (run_argument p v s (judged_argument d x)) us (map (judged_argument d) rest ++ tail)) after
    ∙ ap (λ u. run_arguments p (run_argument p v u (judged_argument d x)) (other_slots ss) (map (judged_argument d) rest ++ tail)) first
    ∙ ap (λ ys. run_arguments p v ss (map (judged_argument d) ys ++ tail)) (sym at) ∙ run

pub arguments_stop : (d : Declarations) (p : Place) (ss others : List Slot) (s : Slot) (xs rest : List Argument) (x : Argument) (tail : List JudgedArgument) (v whole : Verdict Passed) (e : TypeStop) (now now' : Walk) →
    xs ≡ x ∷ rest → s ≡ first_slot ss → others ≡ other_slots ss → run_arguments p v ss (map (judged_argument d) xs ++ tail) ≡ whole → Answers {A = Passed} (Err e) now (run_argument p v s (judged_argument d x)) → Answers {A = Passed} (Err e) now' whole
arguments_stop d p ss others s xs rest x tail v whole e now now' at first after run step =
    run_stops e now now' (λ y. run_arguments p y others (map (judged_argument d) rest ++ tail)) (run_argument p v s (judged_argument d x)) whole (λ fs u. arguments_stay p others (map (judged_argument d) rest ++ tail) e fs u)
    (arguments_on d p ss others s xs rest x tail v (run_argument p v s (judged_argument d x)) whole at first after run refl) step

-- ---- a chain
pub chain_is : (d : Declarations) (p : Place) (q asks : Asked) (start site : ℕ) (first : Expr) (links : List Link) (w w1 : Walk) →
    w1 ≡ advanced (length links) w → start ≡ w.next → asks ≡ asked_first (map (judged_link d) links) →
    run_links p start site ((judged_expr d first).value p asks uses.Kept w1) (map (judged_link d) links) ▷ given (node start) q ≡ chain_value (judged_expr d first) (map (judged_link d) links) site p q uses.Kept w
chain_is d p q asks start site first links w w1 walk at asked =
    ap (λ (u : Walk). run_links p start site ((judged_expr d first).value p asks uses.Kept u) (map (judged_link d) links) ▷ given (node start) q) (walk ∙ ap (λ n. advanced n w) (sym (length-map links (judged_link d))))
    ∙ ap (λ (n : ℕ). run_links p n site ((judged_expr d first).value p asks uses.Kept (advanced (length (map (judged_link d) links)) w)) (map (judged_link d) links) ▷ given (node n) q) at
    ∙ ap (λ (k : Asked). run_links p w.next site ((judged_expr d first).value p k uses.Kept (advanced (length (map (judged_link d) links)) w)) (map (judged_link d) links) ▷ given (node w.next) q) asked
