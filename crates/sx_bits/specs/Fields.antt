-- Fields of a word, and two's complement, by quotient and remainder alone.
use Rattle.std.specs.Prelude.{ℕ, suc, ◌+◌, ◌-◌, ◌/◌, ◌%◌, ◌^◌, ℤ, pos, negsuc, nat_lt, if◌then◌else◌}

-- bits low to high of a word
abbrev pub bits_at : ℕ → ℕ → ℕ → ℕ
bits_at high low word = word / 2 ^ low % 2 ^ (high - low + 1)

-- the number that n bits stand for: value where the top bit is 0, else value - 2 ^ n
abbrev pub signed : ℕ → ℕ → ℤ
signed n value = if nat_lt value (2 ^ (n - 1)) then pos value else negsuc (2 ^ n - suc value)
