-- Where the lines that start up to a place end among all lines.
use Rattle.std.proofs.Common.{◌≡◌, subst, ℕ, zero, suc, ◌+◌, ◌-◌, ◌≤◌, ◌<◌, true, false, cond, nat_le, List, [], ◌∷◌, length, get_or, refl, sym, ap, ◌∙◌, arith}
use Rattle.std.specs.List.{AllWithin}
use Rattle.std.specs.List.Sorted.{IsNonDecreasingBy}
use Rattle.sx_span.specs.Lines.{count_to, last_to, RisesAfter, AreLines}
use Rattle.sx_span.proofs.Starts.{rises_more}

-- lines are in order

above : (a : ℕ) (s : List ℕ) (j d : ℕ) → RisesAfter a s → j < length s → a < get_or s j d
above a [] j d r h = absurd (omega arith)
above a (b ∷ s) zero d r h = r.0
above a (b ∷ s) (suc j) d r h =
    let k = r.0 in
    let i = above b s j d r.1 (omega arith) in
    let e : a < get_or s j d = omega (arith, i, k) in e

rises_at : (a : ℕ) (s : List ℕ) → RisesAfter a s → (i j d : ℕ) → i ≤ j → j < length (a ∷ s) → get_or (a ∷ s) i d ≤ get_or (a ∷ s) j d
rises_at a s r zero zero d h k = let e : a ≤ a = omega arith in e
rises_at a s r zero (suc j) d h k =
    let i = above a s j d r (omega arith) in
    let e : a ≤ get_or s j d = omega (arith, i) in e
rises_at a s r (suc i) zero d h k = absurd (omega arith)
rises_at a [] r (suc i) (suc j) d h k = absurd (omega arith)
rises_at a (b ∷ s) r (suc i) (suc j) d h k = rises_at b s r.1 i j d (omega arith) (omega arith)

pub in_order : (ls : List ℕ) → AreLines ls → IsNonDecreasingBy (λ x. x) ls
in_order [] h = absurd h
in_order (a ∷ s) h = rises_at a s h.1

-- where each of the first lines starts up to the place, and none of the others

abbrev pub Splits : ℕ → List ℕ → ℕ → Type 0
Splits at ls p = AllWithin (λ l. nat_le l at ≡ true) ls 0 p × AllWithin (λ l. nat_le l at ≡ false) ls p (length ls)

later : (at l : ℕ) (ls : List ℕ) (p : ℕ) → Splits at (l ∷ ls) (suc p) → Splits at ls p
later at l ls p h = (λ k d i j. h.0 (suc k) d (omega arith) (omega arith), λ k d i j. h.1 (suc k) d (omega arith) (omega arith))

none_later : (at l : ℕ) (ls : List ℕ) → Splits at (l ∷ ls) zero → Splits at ls zero
none_later at l ls h = (λ k d i j. absurd (omega arith), λ k d i j. h.1 (suc k) d (omega arith) (omega arith))

counts : (at : ℕ) (ls : List ℕ) (p : ℕ) → p ≤ length ls → Splits at ls p → count_to at ls ≡ p
counts at [] p h k = omega arith
counts at (l ∷ ls) zero h k =
    ap (λ b. cond b (count_to at ls + 1) (count_to at ls)) (k.1 0 0 (omega arith) (omega arith)) ∙ counts at ls zero (omega arith) (none_later at l ls k)
counts at (l ∷ ls) (suc p) h k =
    let i = counts at ls p (omega arith) (later at l ls p k) in
    let e : count_to at ls + 1 ≡ suc p = omega (arith, i) in
    ap (λ b. cond b (count_to at ls + 1) (count_to at ls)) (k.0 0 0 (omega arith) (omega arith)) ∙ e

lasts : (x at : ℕ) (ls : List ℕ) (p : ℕ) → p ≤ length ls → Splits at ls p → last_to x at ls ≡ get_or (x ∷ ls) p 0
lasts x at [] zero h k = refl
lasts x at [] (suc p) h k = absurd (omega arith)
lasts x at (l ∷ ls) zero h k =
    ap (λ b. last_to (cond b l x) at ls) (k.1 0 0 (omega arith) (omega arith)) ∙ lasts x at ls zero (omega arith) (none_later at l ls k)
lasts x at (l ∷ ls) (suc p) h k =
    ap (λ b. last_to (cond b l x) at ls) (k.0 0 0 (omega arith) (omega arith)) ∙ lasts l at ls p (omega arith) (later at l ls p k)

before : (x : ℕ) (ls : List ℕ) (p : ℕ) → 1 ≤ p → get_or (x ∷ ls) p 0 ≡ get_or ls (p - 1) 0
before x ls zero h = absurd (omega arith)
before x ls (suc p) h = let e : p ≡ suc p - 1 = omega arith in ap (λ n. get_or ls n 0) e

last : (at : ℕ) (ls : List ℕ) (p : ℕ) → 1 ≤ p → p ≤ length ls → Splits at ls p → last_to 0 at ls ≡ get_or ls (p - 1) 0
last at ls p g h k = lasts 0 at ls p h k ∙ before 0 ls p g

-- the first line starts up to each place, and there are at most as many lines as places

fewer : (at a : ℕ) (s : List ℕ) → RisesAfter a s → a ≤ at → a + count_to at s ≤ at
fewer at a [] r h = let e : a + 0 ≤ at = omega arith in e
fewer at a (b ∷ s) r h =
    let k = r.0 in
    elim (nat_le b at) as (λ t. nat_le b at ≡ t → a + cond t (count_to at s + 1) (count_to at s) ≤ at) [
      | true ↦ λ e. let j : b ≤ at = grind (arith, e) in let i = fewer at b s r.1 j in omega (arith, i, k)
      | false ↦ λ e. fewer at a s (rises_more a b s (omega (arith, k)) r.1) h
    ] refl

first_counts : (at : ℕ) → nat_le 0 at ≡ true
first_counts at = grind arith

count_lines : (at a : ℕ) (s : List ℕ) → AreLines (a ∷ s) → count_to at (a ∷ s) ≡ count_to at s + 1
count_lines at a s h = ap (λ x. cond (nat_le x at) (count_to at s + 1) (count_to at s)) h.0 ∙ ap (λ b. cond b (count_to at s + 1) (count_to at s)) (first_counts at)

some_line : (at : ℕ) (ls : List ℕ) → AreLines ls → 1 ≤ count_to at ls
some_line at [] h = absurd h
some_line at (a ∷ s) h = let e = count_lines at a s h in omega (arith, e)

few_lines : (at : ℕ) (ls : List ℕ) → AreLines ls → count_to at ls ≤ at + 1
few_lines at [] h = absurd h
few_lines at (a ∷ s) h = let e = count_lines at a s h in let f = h.0 in let i = fewer at a s h.1 (omega (arith, f)) in omega (arith, e, i)

-- what the number of the lines that start up to a place tells
pub record Found (at : ℕ) (ls : List ℕ) (p : ℕ) : Type 0 where
  pub counts : p ≡ count_to at ls
  pub last : get_or ls (p - 1) 0 ≡ last_to 0 at ls
  pub some : 1 ≤ p
  pub few : p ≤ at + 1
  pub within : get_or ls (p - 1) 0 ≤ at

pub found : (at : ℕ) (ls starts : List ℕ) (p : ℕ) → AreLines ls → starts ≡ ls → p ≤ length starts → Splits at starts p → Found at starts p
found at ls starts p h e k x =
    let lines : AreLines starts = subst AreLines (sym e) h in
    let n : count_to at starts ≡ p = counts at starts p k x in
    let some : 1 ≤ p = (let i = some_line at starts lines in omega (arith, i, n)) in
    let t : nat_le (get_or starts (p - 1) 0) at ≡ true = x.0 (p - 1) 0 (omega arith) (omega (arith, some)) in
    record {
      counts = sym n;
      last = sym (last at starts p some k x);
      some = some;
      few = (let i = few_lines at starts lines in omega (arith, i, n));
      within = grind (arith, t);
    }
