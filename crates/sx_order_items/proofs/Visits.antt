-- Parts that are visited one after another.
use Rattle.std.proofs.Common.{◌≡◌, ℕ, ◌+◌, Bool, List, [], ◌∷◌, Option, Some, None, length, length-append, map, refl, arith}
use Rattle.sx_types.specs.declared.types.FunctionParameter.{FunctionParameter}
use Rattle.sx_types.specs.declared.types.Ty.{Ty}
use Rattle.sx_tree.specs.Nodes as nodes
use Rattle.sx_outline.specs.Visit.{Visited, Visiting, Finding, all, one_more, run_parameters, function_found, function_of, passed}
use Rattle.sx_order_items.specs.Counts.{Counts, Finds, AllCount, AllFind}

pub all-counts : (fs : List Visiting) (n : ℕ) → AllCount n fs → Counts n (all fs)
all-counts [] n h v = omega (arith, h)
all-counts (f ∷ fs) n h v =
    let (k, j, e, first, others) = h in
    omega (arith, e, first v, all-counts fs j others (f v))

-- ---- function types
pub function_found-next : (ps : Option (List FunctionParameter)) (r : Option Ty) (v : Visited) → (function_found ps r v).1.next ≡ v.next
function_found-next (Some ps) (Some r) v = refl
function_found-next (Some ps) None v = refl
function_found-next None r v = refl

pub run_parameters-next : (fs : List (Finding FunctionParameter)) (n : ℕ) → AllFind n fs → (ps : Option (List FunctionParameter)) (v : Visited) → (run_parameters fs ps v).1.next ≡ n + v.next
run_parameters-next [] n h ps v = omega (arith, h)
run_parameters-next (f ∷ fs) n h ps v =
    let (k, j, e, first, others) = h in
    omega (arith, e, first v, run_parameters-next fs j others (one_more ps (f v).0) (f v).1)

pub function_of-finds : (fs : List (Finding FunctionParameter)) (r : Finding Ty) (k m : ℕ) → AllFind k fs → Finds m r → Finds (k + m) (function_of fs r)
function_of-finds fs r k m h i v =
    let ps : Option (List FunctionParameter) × Visited = run_parameters fs (Some []) v in
    omega (arith, run_parameters-next fs k h (Some []) v, i ps.1, function_found-next ps.0 (r ps.1).0 (r ps.1).1)

pub passed-next : (inout : Bool) (x : Option Ty × Visited) → (passed inout x).1.next ≡ x.1.next
passed-next inout (None, v) = refl
passed-next inout (Some t, v) = refl

-- parts that each tell something
pub all-find : {A X : Type 0} (places : X → nodes.Places) (visit : X → Finding A) → ((x : X) → Finds (length (places x)) (visit x)) → (xs : List X) → AllFind (length (nodes.all (map places xs))) (map visit xs)
all-find places visit h [] = refl
all-find places visit h (x ∷ xs) =
    let k : ℕ = length (places x) in
    let j : ℕ = length (nodes.all (map places xs)) in
    (k, j, length-append (places x) (nodes.all (map places xs)), h x, all-find places visit h xs)
