-- The lines of a text rise, and which of them count at a place.
use Rattle.std.proofs.Common.{◌≡◌, ℕ, ◌+◌, ◌≤◌, true, false, cond, nat_le, List, [], ◌∷◌, refl, ap, ◌∙◌, arith}
use Rattle.sx_span.specs.Lines.{ends_line, starts_from, count_to, last_to, RisesAfter, AreLines, line_starts}

past : (at p : ℕ) → at ≤ p → nat_le (p + 1) at ≡ false
past at p h = grind arith

-- no line that starts behind a place counts at it
pub none_counts : (at p : ℕ) (s : List ℕ) → at ≤ p → count_to at (starts_from p s) ≡ 0
none_counts at p [] h = refl
none_counts at p (c ∷ s) h =
    let i = none_counts at (p + 1) s (omega arith) in
    elim (ends_line c s) as (λ b. count_to at (cond b ((p + 1) ∷ starts_from (p + 1) s) (starts_from (p + 1) s)) ≡ 0) [
      | true ↦ ap (λ b. cond b (count_to at (starts_from (p + 1) s) + 1) (count_to at (starts_from (p + 1) s))) (past at p h) ∙ i
      | false ↦ i
    ]

pub none_last : (x at p : ℕ) (s : List ℕ) → at ≤ p → last_to x at (starts_from p s) ≡ x
none_last x at p [] h = refl
none_last x at p (c ∷ s) h =
    let i = none_last x at (p + 1) s (omega arith) in
    elim (ends_line c s) as (λ b. last_to x at (cond b ((p + 1) ∷ starts_from (p + 1) s) (starts_from (p + 1) s)) ≡ x) [
      | true ↦ ap (λ b. last_to (cond b (p + 1) x) at (starts_from (p + 1) s)) (past at p h) ∙ i
      | false ↦ i
    ]

-- the lines of a text begin with 0 and rise

pub rises_more : (a b : ℕ) (s : List ℕ) → a ≤ b → RisesAfter b s → RisesAfter a s
rises_more a b [] h r = tt
rises_more a b (c ∷ s) h r = (let k = r.0 in omega (arith, h, k), r.1)

rises : (at : ℕ) (s : List ℕ) → RisesAfter at (starts_from at s)
rises at [] = tt
rises at (c ∷ s) =
    elim (ends_line c s) as (λ b. RisesAfter at (cond b ((at + 1) ∷ starts_from (at + 1) s) (starts_from (at + 1) s))) [
      | true ↦ (omega arith, rises (at + 1) s)
      | false ↦ rises_more at (at + 1) (starts_from (at + 1) s) (omega arith) (rises (at + 1) s)
    ]

pub are_lines : (bytes : List ℕ) → AreLines (line_starts bytes)
are_lines bytes = (refl, rises 0 bytes)
