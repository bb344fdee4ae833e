-- The lines of a text of bytes. A line ends at LF, at CR LF or at a CR alone.
use Rattle.std.specs.Prelude.{◌≡◌, ◌<◌, ℕ, ◌+◌, ◌-◌, Bool, false, cond, not, ◌&&◌, ◌||◌, ◌==◌, nat_le, List, [], ◌∷◌}
use Rattle.std.specs.Coded.{×_prop, Unit-prop, le_prop, Coded-set, coded_ℕ}
use Rattle.sx_span.specs.declared.places.LineCol.{LineCol}

-- whether the text begins with the byte
abbrev pub begins_with : ℕ → List ℕ → Bool
begins_with c [] = false
begins_with c (d ∷ s) = d == c

-- whether a line ends behind the byte, by what follows it
abbrev pub ends_line : ℕ → List ℕ → Bool
ends_line c s = (c == 10) || ((c == 13) && not (begins_with 10 s))

-- the places behind the line ends, where the first byte stands at a place
abbrev pub starts_from : ℕ → List ℕ → List ℕ
starts_from at [] = []
starts_from at (c ∷ s) = cond (ends_line c s) ((at + 1) ∷ starts_from (at + 1) s) (starts_from (at + 1) s)

-- where the lines of a text start
abbrev pub line_starts : List ℕ → List ℕ
line_starts bytes = 0 ∷ starts_from 0 bytes

-- how many of the places are at most this one
abbrev pub count_to : ℕ → List ℕ → ℕ
count_to at [] = 0
count_to at (l ∷ ls) = cond (nat_le l at) (count_to at ls + 1) (count_to at ls)

-- the last of the places that are at most this one, or else the first argument
abbrev pub last_to : ℕ → ℕ → List ℕ → ℕ
last_to last at [] = last
last_to last at (l ∷ ls) = last_to (cond (nat_le l at) l last) at ls

-- the line and column of a place, by the places at which the lines start
abbrev pub line_col_of : List ℕ → ℕ → LineCol
line_col_of ls at = record { line = count_to at ls; column = at - last_to 0 at ls + 1 }

-- places that rise, the first above another
abbrev pub RisesAfter : ℕ → List ℕ → Type 0
RisesAfter a [] = Unit {0}
RisesAfter a (b ∷ s) = (a < b) × RisesAfter b s

-- places that begin with 0 and rise
abbrev pub AreLines : List ℕ → Type 0
AreLines [] = ⊥
AreLines (a ∷ s) = (a ≡ 0) × RisesAfter a s

-- facts that have one proof at most, as a ghost field asks

RisesAfter-prop : (a : ℕ) (s : List ℕ) → IsProp (RisesAfter a s)
RisesAfter-prop a [] = Unit-prop
RisesAfter-prop a (b ∷ s) = ×_prop le_prop (RisesAfter-prop b s)

pub AreLines-prop : (s : List ℕ) → IsProp (AreLines s)
AreLines-prop [] = λ x y. absurd x
AreLines-prop (a ∷ s) = ×_prop (Coded-set coded_ℕ a 0) (RisesAfter-prop a s)
