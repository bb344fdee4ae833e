-- Where the fronts of a list stand, and what a number stands for in lists one behind the other.
use Rattle.std.proofs.Common.{◌≡◌, ℕ, zero, suc, ◌+◌, ◌-◌, ◌<◌, List, [], ◌∷◌, ◌++◌, map, length, take, slice_get, Option, Some, refl, sym, ap, subst, ◌∙◌, arith, length-append, option_map}
use Rattle.std.proofs.lemmas.List.{length-map, map-append}
use Rattle.std.proofs.lemmas.Option.{slice_get-map, slice_get_within}
use Rattle.sx_span.specs.declared.places.Span.{Span}
use Rattle.sx_tree.specs.declared.code.Expr.{Expr}
use Rattle.sx_tree.specs.declared.code.ExprForm.TheVariants as forms
use Rattle.sx_tree.specs.declared.code.Link.{Link}
use Rattle.sx_tree.specs.declared.code.Part.{Part}
use Rattle.sx_nodes.specs.declared.code.Code.{Code}
use Rattle.sx_nodes.specs.declared.own.Own.{Own}
use Rattle.sx_nodes.specs.declared.own.Own.TheVariants.{Is, Past}
use Rattle.sx_nodes.specs.Own.{Stands}
use Rattle.sx_nodes.specs.Pieces.{a_front, fronts, part_fronts, uncalled}

pub fronts_length : {X : Type 0} (k : ℕ) (xs : List X) → length (fronts k xs) ≡ k
fronts_length zero xs = refl
fronts_length (suc k) xs = ap suc (fronts_length k xs)

pub front_at : {X : Type 0} (k n : ℕ) (xs : List X) → n < k → slice_get (fronts k xs) n ≡ Some (take (k - n) xs)
front_at zero n xs l = absurd (omega (arith, l))
front_at (suc k) zero xs l = let e : suc k ≡ suc k - 0 = omega arith in ap (λ m. Some (take m xs)) e
front_at (suc k) (suc n) xs l = let e : k - n ≡ suc k - suc n = omega arith in front_at k n xs (omega (arith, l)) ∙ ap (λ m. Some (take m xs)) e

pub get_among_first : {X : Type 0} (xs ys : List X) (n : ℕ) → n < length xs → slice_get (xs ++ ys) n ≡ slice_get xs n
get_among_first [] ys n l = absurd (omega (arith, l))
get_among_first (x ∷ xs) ys zero l = refl
get_among_first (x ∷ xs) ys (suc n) l = get_among_first xs ys n (omega (arith, l))

pub get_behind : {X : Type 0} (xs ys : List X) (n m : ℕ) → n ≡ length xs + m → slice_get (xs ++ ys) n ≡ slice_get ys m
get_behind [] ys n m e = ap (slice_get ys) (omega (arith, e))
get_behind (x ∷ xs) ys zero m e = absurd (omega (arith, e))
get_behind (x ∷ xs) ys (suc n) m e = get_behind xs ys n m (omega (arith, e))

-- a number among the first is one among all, and one behind them is counted on
pub stands_first : (xs ys : List (Option Code)) (n : ℕ) (c : Option Code) → Stands xs n (Is c) → Stands (xs ++ ys) n (Is c)
stands_first xs ys n c e = get_among_first xs ys n (slice_get_within xs n c e) ∙ e

pub stands_past : (xs ys : List (Option Code)) (n m : ℕ) (o : Own) → Stands xs n (Past m) → Stands ys m o → Stands (xs ++ ys) n o
stands_past xs ys n m (Is c) e h = get_behind xs ys n m e ∙ h
stands_past xs ys n m (Past k) e h = let both : length (xs ++ ys) ≡ length xs + length ys = length-append xs ys in omega (arith, e, h, both)

-- ---- chains
abbrev pub chains : Span → Expr → List (List Link) → List (Option Code)
chains s e fs = map (a_front s) (map (λ front. forms.Chain e front) fs)

pub chain_at : (s : Span) (e : Expr) (ls : List Link) (n : ℕ) → n < length ls →
    slice_get (chains s e (fronts (length ls) ls)) n ≡ Some (a_front s (forms.Chain e (take (length ls - n) ls)))
chain_at s e ls n l =
    slice_get-map (a_front s) (map (λ front. forms.Chain e front) (fronts (length ls) ls)) n
    ∙ ap (option_map (a_front s)) (slice_get-map (λ front. forms.Chain e front) (fronts (length ls) ls) n ∙ ap (option_map (λ front. forms.Chain e front)) (front_at (length ls) n ls l))

pub chains_length : (s : Span) (e : Expr) (ls : List Link) → length (chains s e (fronts (length ls) ls)) ≡ length ls
chains_length s e ls =
    length-map (map (λ front. forms.Chain e front) (fronts (length ls) ls)) (a_front s)
    ∙ length-map (fronts (length ls) ls) (λ front. forms.Chain e front) ∙ fronts_length (length ls) ls

-- ---- parts behind an operand
abbrev pub postfixes : Span → Expr → List (List Part) → List (Option Code)
postfixes s e fs = map (a_front s) (map (λ front. forms.Postfix e front) fs)

-- the fronts up to a part
abbrev pub fronts_up_to : List Part → ℕ → List (List Part)
fronts_up_to ps k = take (suc k) ps ∷ uncalled (take k ps) (slice_get ps k)

pub postfixes_append : (s : Span) (e : Expr) (fs gs : List (List Part)) → postfixes s e (fs ++ gs) ≡ postfixes s e fs ++ postfixes s e gs
postfixes_append s e fs gs =
    ap (map (a_front s)) (map-append (λ front. forms.Postfix e front) fs gs)
    ∙ map-append (a_front s) (map (λ front. forms.Postfix e front) fs) (map (λ front. forms.Postfix e front) gs)

pub postfix_first : (s : Span) (e : Expr) (ps : List Part) (k j n : ℕ) (c : Option Code) → k ≡ suc j →
    Stands (postfixes s e (fronts_up_to ps j)) n (Is c) → Stands (postfixes s e (part_fronts k ps)) n (Is c)
postfix_first s e ps k j n c i h =
    subst (λ m. Stands (postfixes s e (part_fronts m ps)) n (Is c)) (sym i)
    (subst (λ xs. Stands xs n (Is c)) (sym (postfixes_append s e (fronts_up_to ps j) (part_fronts j ps)))
    (stands_first (postfixes s e (fronts_up_to ps j)) (postfixes s e (part_fronts j ps)) n c h))

pub postfix_past : (s : Span) (e : Expr) (ps : List Part) (k j n m : ℕ) (o : Own) → k ≡ suc j →
    Stands (postfixes s e (fronts_up_to ps j)) n (Past m) → Stands (postfixes s e (part_fronts j ps)) m o → Stands (postfixes s e (part_fronts k ps)) n o
postfix_past s e ps k j n m o i h r =
    subst (λ q. Stands (postfixes s e (part_fronts q ps)) n o) (sym i)
    (subst (λ xs. Stands xs n o) (sym (postfixes_append s e (fronts_up_to ps j) (part_fronts j ps)))
    (stands_past (postfixes s e (fronts_up_to ps j)) (postfixes s e (part_fronts j ps)) n m o h r))

pub none_left : (s : Span) (e : Expr) (ps : List Part) (k n : ℕ) → k ≡ 0 → Stands (postfixes s e (part_fronts k ps)) n (Past n)
none_left s e ps k n i = subst (λ m. Stands (postfixes s e (part_fronts m ps)) n (Past n)) (sym i) (omega arith)
