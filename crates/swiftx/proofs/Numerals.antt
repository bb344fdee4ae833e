-- Numerals without a leading zero.
use Rattle.std.proofs.Common.{◌≡◌, ℕ, zero, suc, ◌<◌, ◌≤◌, ◌^◌, List, length, get_or, true, Result, Ok, Err, sym, ap, ◌∙◌, arith}
use Rattle.std.specs.Str.{all_ascii_digits}
use Rattle.std.specs.Str.Parse.{digits_value, ParsesUnsigned}
use Rattle.std.specs.Fmt.{decimal}
use Rattle.std.proofs.lemmas.Str.Parse.{IsNumeralModel, numerals_by_value, tells_all_ascii_digits, parse_digits}
use Rattle.std.proofs.lemmas.Fmt.{digits_decimal, decimal_nonempty, decimal_digit, first_decimal, decimal-digits_value, parse-decimal}
use Rattle.swiftx.specs.Words.{IsPlainNumeral}
use Rattle.swiftx.specs.Commands.{greatest_steps, IsStepLimit}

own : IsNumeralModel (λ ds. all_ascii_digits ds ≡ true) (digits_value 10)
own = numerals_by_value _ tells_all_ascii_digits

leads : (n : ℕ) → n < 2 ^ 64 → get_or (decimal n) 0 0 ≡ 48 → length (decimal n) ≡ 1
leads zero h e = ap length (decimal_digit 0 (omega arith))
leads (suc n) h e = absurd (omega (arith, first_decimal (suc n) (omega arith) h, e))

-- what is written of a number is such a numeral
pub decimal_plain : (n : ℕ) → n < 2 ^ 64 → IsPlainNumeral (decimal n)
decimal_plain n h = record { digits = digits_decimal own n h; some = decimal_nonempty n h; leading = leads n h }

-- what such a numeral is read as, it is written as
pub reads_plain : {E : Type 0} (word : List ℕ) (r : Result ℕ E) (n : ℕ) → IsPlainNumeral word → ParsesUnsigned 64 10 word r → r ≡ Ok n → word ≡ decimal n
reads_plain {E} word (Ok v) n p h e =
    let o = parse_digits own {E = E} 64 word (Ok v) h p.digits in
    let same : v ≡ n = cc in
    sym (decimal-digits_value own word p.digits p.some p.leading o.0.1) ∙ ap decimal (sym o.1 ∙ same)
reads_plain {E} word (Err x) n p h e = absurd (cc)

pub limit_small : (steps : ℕ) → steps ≤ greatest_steps → steps < 2 ^ 64
unfolding greatest_steps
limit_small steps h = omega (arith, h)

pub steps_most : (steps : ℕ) → steps ≤ 9223372036854775807 → steps ≤ greatest_steps
unfolding greatest_steps
steps_most steps h = h

-- a numeral of a limit is read as that limit
reads_ok : {E : Type 0} (word : List ℕ) (r : Result ℕ E) (steps : ℕ) → ParsesUnsigned 64 10 word r → IsStepLimit word steps → r ≡ Ok steps
reads_ok word r steps p h = parse-decimal 64 steps word r (limit_small steps h.1) (limit_small steps h.1) h.0 p

pub reads_limit : {E : Type 0} (word : List ℕ) (r : Result ℕ E) (n steps : ℕ) → ParsesUnsigned 64 10 word r → r ≡ Ok n → IsStepLimit word steps → 9223372036854775807 < n → ⊥
unfolding greatest_steps
reads_limit {E} word (Ok m) n steps p e h big =
    let g = reads_ok {E = E} word (Ok m) steps p h in
    let same : n ≡ steps = cc in
    absurd (omega (arith, same, h.1, big))
reads_limit {E} word (Err x) n steps p e h big = absurd (cc)

pub no_limit_error : {E : Type 0} (word : List ℕ) (r : Result ℕ E) (steps : ℕ) → ParsesUnsigned 64 10 word r → (x : E) → r ≡ Err x → IsStepLimit word steps → ⊥
no_limit_error {E} word r steps p x e h =
    let f : Err x ≡ Ok steps = sym e ∙ reads_ok word r steps p h in
    absurd (cc)
