-- Parameters one after another.
use Rattle.std.proofs.Common.{◌≡◌, ℕ, List, [], ◌∷◌, ◌++◌, Option, map, refl, sym, ap, ◌∙◌}
use Rattle.sx_scope.specs.declared.declarations.Declarations.{Declarations}
use Rattle.sx_scope.specs.declared.stop.TypeStop.{TypeStop}
use Rattle.sx_scope.specs.declared.walk.Found.{Found}
use Rattle.sx_scope.specs.declared.walk.Walk.{Walk}
use Rattle.sx_scope.specs.Verdict.{Verdict, fails, Judging, ◌▷◌, both, found, failing, behind}
use Rattle.sx_tree.specs.declared.written_types.ClosureParameter.{ClosureParameter}
use Rattle.sx_tree.specs.declared.written_types.Name.{Name}
use Rattle.sx_typed.specs.declared.program.Parameter.{Parameter}
use Rattle.sx_types.specs.declared.types.FunctionParameter.{FunctionParameter}
use Rattle.sx_bodies.specs.Literals.{first_parameter, name_number, named_parameter, named_parameters, other_parameters, parameter_added, run_parameters, typed_name, typed_parameter}
use Rattle.sx_bodies.proofs.Failing.{Fails, both_found, both_fails}

-- the first that fails stays the first
stays : (e : TypeStop) (fs : List TypeStop) (w : Walk) (ps : List (Judging Parameter)) → Fails e (run_parameters (fails e fs w) ps)
stays e fs w [] = (fs, w, refl)
stays e fs w (p ∷ ps) = stays e (fs ++ failing (p w)) (behind (p w)) ps

-- a parameter that fails, behind those that were found
stopped : (q : Found (List Parameter)) (e : TypeStop) (fs : List TypeStop) (w w' : Walk) (p : Judging Parameter) (ps : List (Judging Parameter)) (whole : Verdict (List Parameter)) → run_parameters (found q w) (p ∷ ps) ≡ whole → p w ≡ fails e fs w' → Fails e whole
stopped q e fs w w' p ps whole run h =
    let r : Fails e (run_parameters (fails e fs w') ps) = stays e fs w' ps in
    (r.0, r.1, sym run ∙ ap (λ v. run_parameters (v ▷ parameter_added) ps) (both_fails q w w' p e fs h) ∙ r.2)

-- one more that is found
went_on : (q q' : Found (List Parameter)) (o : Found Parameter) (w w' : Walk) (p : Judging Parameter) (ps : List (Judging Parameter)) (whole : Verdict (List Parameter)) → run_parameters (found q w) (p ∷ ps) ≡ whole → p w ≡ found o w' → found q' w' ≡ both (found q w) (λ _. found o w') ▷ parameter_added → run_parameters (found q' w') ps ≡ whole
went_on q q' o w w' p ps whole run h added =
    ap (λ v. run_parameters v ps) (added ∙ sym (ap (λ v. v ▷ parameter_added) (both_found q w w' p o h))) ∙ run

-- ---- names
first_name : (d : Declarations) (from : ℕ) (wanted others : List FunctionParameter) (first : Option FunctionParameter) (names rest : List Name) (x : Name) → names ≡ x ∷ rest → first ≡ first_parameter wanted → others ≡ other_parameters wanted → named_parameters d from wanted (map name_number names) ≡ named_parameter d from x.number first ∷ named_parameters d from others (map name_number rest)
first_name d from wanted others first names rest x at f o =
    ap (λ (xs : List Name). named_parameters d from wanted (map name_number xs)) at
    ∙ ap (λ (p : Option FunctionParameter). named_parameter d from x.number p ∷ named_parameters d from (other_parameters wanted) (map name_number rest)) (sym f)
    ∙ ap (λ (ps : List FunctionParameter). named_parameter d from x.number first ∷ named_parameters d from ps (map name_number rest)) (sym o)

pub names_on : (d : Declarations) (from : ℕ) (wanted others : List FunctionParameter) (first : Option FunctionParameter) (names rest : List Name) (x : Name) (q q' : Found (List Parameter)) (o : Found Parameter) (w w' : Walk) (whole : Verdict (List Parameter)) → names ≡ x ∷ rest → first ≡ first_parameter wanted → others ≡ other_parameters wanted → run_parameters (found q w) (named_parameters d from wanted (map name_number names)) ≡ whole → named_parameter d from x.number first w ≡ found o w' → found q' w' ≡ both (found q w) (λ _. found o w') ▷ parameter_added → run_parameters (found q' w') (named_parameters d from others (map name_number rest)) ≡ whole
names_on d from wanted others first names rest x q q' o w w' whole at f os run h added =
    went_on q q' o w w' (named_parameter d from x.number first) (named_parameters d from others (map name_number rest)) whole
    (sym (ap (run_parameters (found q w)) (first_name d from wanted others first names rest x at f os)) ∙ run) h added

pub names_stop : (d : Declarations) (from : ℕ) (wanted others : List FunctionParameter) (first : Option FunctionParameter) (names rest : List Name) (x : Name) (q : Found (List Parameter)) (e : TypeStop) (fs : List TypeStop) (w w' : Walk) (whole : Verdict (List Parameter)) → names ≡ x ∷ rest → first ≡ first_parameter wanted → others ≡ other_parameters wanted → run_parameters (found q w) (named_parameters d from wanted (map name_number names)) ≡ whole → named_parameter d from x.number first w ≡ fails e fs w' → Fails e whole
names_stop d from wanted others first names rest x q e fs w w' whole at f os run h =
    stopped q e fs w w' (named_parameter d from x.number first) (named_parameters d from others (map name_number rest)) whole
    (sym (ap (run_parameters (found q w)) (first_name d from wanted others first names rest x at f os)) ∙ run) h

-- ---- parameters with types
abbrev written : Declarations → ℕ → List ClosureParameter → List (Judging Parameter)
written d from ps = map (typed_parameter d from) (map (typed_name d) ps)

pub types_on : (d : Declarations) (from : ℕ) (ps rest : List ClosureParameter) (x : ClosureParameter) (q q' : Found (List Parameter)) (o : Found Parameter) (w w' : Walk) (whole : Verdict (List Parameter)) → ps ≡ x ∷ rest → run_parameters (found q w) (map (typed_parameter d from) (map (typed_name d) ps)) ≡ whole → typed_parameter d from (typed_name d x) w ≡ found o w' → found q' w' ≡ both (found q w) (λ _. found o w') ▷ parameter_added → run_parameters (found q' w') (map (typed_parameter d from) (map (typed_name d) rest)) ≡ whole
types_on d from ps rest x q q' o w w' whole at run h added =
    went_on q q' o w w' (typed_parameter d from (typed_name d x)) (written d from rest) whole
    (sym (ap (λ (xs : List ClosureParameter). run_parameters (found q w) (written d from xs)) at) ∙ run) h added

pub types_stop : (d : Declarations) (from : ℕ) (ps rest : List ClosureParameter) (x : ClosureParameter) (q : Found (List Parameter)) (e : TypeStop) (fs : List TypeStop) (w w' : Walk) (whole : Verdict (List Parameter)) → ps ≡ x ∷ rest → run_parameters (found q w) (map (typed_parameter d from) (map (typed_name d) ps)) ≡ whole → typed_parameter d from (typed_name d x) w ≡ fails e fs w' → Fails e whole
types_stop d from ps rest x q e fs w w' whole at run h =
    stopped q e fs w w' (typed_parameter d from (typed_name d x)) (written d from rest) whole
    (sym (ap (λ (xs : List ClosureParameter). run_parameters (found q w) (written d from xs)) at) ∙ run) h
