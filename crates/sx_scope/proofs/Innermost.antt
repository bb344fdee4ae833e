-- The innermost local with a name.
use Rattle.std.proofs.Common.{◌≡◌, ◌≢◌, ◌<◌, ◌≤◌, ◌+◌, ◌-◌, ◌∙◌, ℕ, suc, true, false, List, [], ◌∷◌, ◌++◌, Option, Some, None, cond, ◌==◌, length, take, get_or, take-suc, length-take-le, arith, refl, ap, sym}
use Rattle.std.proofs.lemmas.Grind.{common_steps}
use Rattle.sx_scope.specs.declared.walk.Local.{Local}
use Rattle.sx_scope.specs.Names.{found_from, local_of}

found_last : (i : ℕ) (ls : List Local) (l : Local) (x : ℕ) (best : Option (ℕ × Local)) →
    found_from i (ls ++ l ∷ []) x best ≡ cond (l.name == x) (Some (i + length ls, l)) (found_from i ls x best)
found_last i [] l x best = let e : i + 0 ≡ i = omega arith in rw e refl
found_last i (y ∷ ls) l x best = let e : i + suc (length ls) ≡ suc i + length ls = omega arith in rw e (found_last (suc i) ls l x (cond (y.name == x) (Some (i, y)) best))

last_first : (ls : List Local) (d : Local) (i x : ℕ) → i < length ls →
    local_of (take (suc i) ls) x ≡ cond ((get_or ls i d).name == x) (Some (i, get_or ls i d)) (local_of (take i ls) x)
last_first ls d i x less =
    let l = get_or ls i d in
    let long : 0 + length (take i ls) ≡ i = let e = length-take-le i ls (omega arith) in omega arith in
    ap (λ ys. local_of ys x) (take-suc ls i d less) ∙ found_last 0 (take i ls) l x None ∙ ap (λ n. cond (l.name == x) (Some (n, l)) (local_of (take i ls) x)) long

last_of : (ls : List Local) (d : Local) (j x : ℕ) → 0 < j → j ≤ length ls →
    local_of (take j ls) x ≡ cond ((get_or ls (j - 1) d).name == x) (Some (j - 1, get_or ls (j - 1) d)) (local_of (take (j - 1) ls) x)
last_of ls d j x some less =
    let e : j ≡ suc (j - 1) = omega arith in
    ap (λ n. local_of (take n ls) x) e ∙ last_first ls d (j - 1) x (omega arith)

-- the last of the first j
pub is_innermost : (ls : List Local) (d : Local) (j x : ℕ) → 0 < j → j ≤ length ls → (get_or ls (j - 1) d).name ≡ x → local_of (take j ls) x ≡ local_of ls x →
    Some (j - 1, get_or ls (j - 1) d) ≡ local_of ls x
is_innermost ls d j x some less named kept =
    let l = get_or ls (j - 1) d in
    let test : l.name == x ≡ true = grind (arith, common_steps) in
    sym (ap (λ b. cond b (Some (j - 1, l)) (local_of (take (j - 1) ls) x)) test) ∙ sym (last_of ls d j x some less) ∙ kept

pub goes_out : (ls : List Local) (d : Local) (j x : ℕ) → 0 < j → j ≤ length ls → (get_or ls (j - 1) d).name ≢ x → local_of (take j ls) x ≡ local_of ls x →
    local_of (take (j - 1) ls) x ≡ local_of ls x
goes_out ls d j x some less named kept =
    let l = get_or ls (j - 1) d in
    let test : l.name == x ≡ false = grind (arith, common_steps) in
    sym (ap (λ b. cond b (Some (j - 1, l)) (local_of (take (j - 1) ls) x)) test) ∙ sym (last_of ls d j x some less) ∙ kept
