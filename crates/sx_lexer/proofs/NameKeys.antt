-- Names as the keys of a set.
use Rattle.std.proofs.Common.{◌≡◌, ℕ, ◌+◌, ◌≤◌, Bool, true, false, cond, not, ◌||◌, if◌then◌else◌, List, [], ◌∷◌, ◌++◌, length, map, refl, sym, ap, ◌∙◌, bytes_eq, arith, length-append}
use Rattle.std.specs.List.{list_any, position_or_len}
use Rattle.std.specs.Borrow.{Bor}
use Rattle.std.proofs.lemmas.List.{map-append}
use Rattle.std.proofs.lemmas.Slice.Eq.{bytes_eq-Decides}
use Rattle.indexmap.specs.IndexSet.{insert_key}
use Rattle.sx_lexer.specs.Names.{is_name, with_name, index_of}

abbrev pub Key : Type 0
Key = Bor (List ℕ)

abbrev pub same_key : Key → Key → Bool
same_key v w = bytes_eq v.now w.now

abbrev pub names_in : List Key → List (List ℕ)
names_in ks = map (λ k. k.now) ks

any_key : (k : Key) (ks : List Key) → list_any (same_key k) ks ≡ is_name (names_in ks) k.now
any_key k [] = refl
any_key k (x ∷ ks) = ap (λ b. bytes_eq k.now x.now || b) (any_key k ks)

pub insert_key-names : (k : Key) (ks : List Key) → names_in (insert_key same_key ks k) ≡ with_name (names_in ks) k.now
insert_key-names k ks =
    elim (list_any (same_key k) ks) as (λ b. list_any (same_key k) ks ≡ b → names_in (if b then ks else ks ++ k ∷ []) ≡ with_name (names_in ks) k.now) [
      | true ↦ λ e. sym (ap (λ b. if b then names_in ks else names_in ks ++ k.now ∷ []) (sym (any_key k ks) ∙ e))
      | false ↦ λ e. map-append (λ (x : Key). x.now) ks (k ∷ []) ∙ sym (ap (λ b. if b then names_in ks else names_in ks ++ k.now ∷ []) (sym (any_key k ks) ∙ e))
    ] refl

pub position-names : (k : Key) (ks : List Key) → position_or_len (same_key k) ks ≡ index_of (names_in ks) k.now
position-names k [] = refl
position-names k (x ∷ ks) = ap (λ n. cond (not (bytes_eq k.now x.now)) (1 + n) 0) (position-names k ks)

-- a name that is put last stands where it would have stood

pub itself : (w : List ℕ) → bytes_eq w w ≡ true
itself w = grind (arith, bytes_eq-Decides w w)

index_of_last : (names : List (List ℕ)) (w : List ℕ) → index_of (names ++ w ∷ []) w ≡ index_of names w
index_of_last [] w = ap (λ b. cond (not b) 1 0) (itself w)
index_of_last (v ∷ names) w = ap (λ n. cond (not (bytes_eq w v)) (1 + n) 0) (index_of_last names w)

pub index_of-with_name : (names : List (List ℕ)) (w : List ℕ) → index_of (with_name names w) w ≡ index_of names w
index_of-with_name names w =
    elim (is_name names w) as (λ b. index_of (if b then names else names ++ w ∷ []) w ≡ index_of names w) [ true ↦ refl | false ↦ index_of_last names w ]

pub length-with_name : (names : List (List ℕ)) (w : List ℕ) → length (with_name names w) ≤ length names + 1
length-with_name names w =
    let e : length (names ++ w ∷ []) ≤ length names + 1 = (let i = length-append names (w ∷ []) in omega (arith, i)) in
    elim (is_name names w) as (λ b. length (if b then names else names ++ w ∷ []) ≤ length names + 1) [ true ↦ omega arith | false ↦ e ]
