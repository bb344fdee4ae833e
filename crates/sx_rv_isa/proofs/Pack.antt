-- The fields of a packed word, and a word from its fields.
use Rattle.std.proofs.Common.{◌≡◌, ℕ, ◌<◌, ◌%◌, ◌+◌, ◌*◌, ◌/◌, ◌^◌, arith}
use Rattle.sx_rv_isa.specs.Words.{pack, pack_upper}

pub record InRange (o d f a b g : ℕ) : Type 0 where
  pub opcode : o < 128
  pub rd : d < 32
  pub funct3 : f < 8
  pub rs1 : a < 32
  pub rs2 : b < 32
  pub funct7 : g < 128

pub opcode-pack : (o d f a b g : ℕ) → InRange o d f a b g → pack o d f a b g % 2 ^ 7 ≡ o
unfolding pack
opcode-pack o d f a b g h = omega arith

pub rd-pack : (o d f a b g : ℕ) → InRange o d f a b g → pack o d f a b g / 2 ^ 7 % 32 ≡ d
unfolding pack
rd-pack o d f a b g h = omega arith

pub funct3-pack : (o d f a b g : ℕ) → InRange o d f a b g → pack o d f a b g / 2 ^ 12 % 2 ^ 3 ≡ f
unfolding pack
funct3-pack o d f a b g h = omega arith

pub rs1-pack : (o d f a b g : ℕ) → InRange o d f a b g → pack o d f a b g / 2 ^ 15 % 32 ≡ a
unfolding pack
rs1-pack o d f a b g h = omega arith

pub rs2-pack : (o d f a b g : ℕ) → InRange o d f a b g → pack o d f a b g / 2 ^ 20 ≡ b + g * 32
unfolding pack
rs2-pack o d f a b g h = omega arith

pub funct7-pack : (o d f a b g : ℕ) → InRange o d f a b g → pack o d f a b g / 2 ^ 25 ≡ g
unfolding pack
funct7-pack o d f a b g h = omega arith

pub pack-fields : (w : ℕ) → pack (w % 2 ^ 7) (w / 2 ^ 7 % 2 ^ 5) (w / 2 ^ 12 % 2 ^ 3) (w / 2 ^ 15 % 2 ^ 5) (w / 2 ^ 20 % 2 ^ 5) (w / 2 ^ 25) ≡ w
unfolding pack
pack-fields w = omega arith

pub opcode-upper : (o d u : ℕ) → o < 128 → d < 32 → pack_upper o d u % 2 ^ 7 ≡ o
unfolding pack_upper
opcode-upper o d u p q = omega arith

pub rd-upper : (o d u : ℕ) → o < 128 → d < 32 → pack_upper o d u / 2 ^ 7 % 32 ≡ d
unfolding pack_upper
rd-upper o d u p q = omega arith

pub upper-upper : (o d u : ℕ) → o < 128 → d < 32 → pack_upper o d u / 2 ^ 12 ≡ u
unfolding pack_upper
upper-upper o d u p q = omega arith

pub upper-fields : (w : ℕ) → pack_upper (w % 2 ^ 7) (w / 2 ^ 7 % 2 ^ 5) (w / 2 ^ 12) ≡ w
unfolding pack_upper
upper-fields w = omega arith

-- ---- the immediates of formats S, B and J, in pieces and back
pub s_pieces : (n : ℕ) → n % 2 ^ 5 + n / 2 ^ 5 * 2 ^ 5 ≡ n
s_pieces n = omega arith

pub b_pieces : (n : ℕ) → n < 4096 → (let d : ℕ = n / 2 ^ 10 % 2 + n % 2 ^ 4 * 2 in let g : ℕ = n / 2 ^ 4 % 2 ^ 6 + n / 2 ^ 11 * 2 ^ 6 in d / 2 + g % 2 ^ 6 * 2 ^ 4 + d % 2 * 2 ^ 10 + g / 2 ^ 6 * 2 ^ 11) ≡ n
b_pieces n h = omega arith

pub j_pieces : (n : ℕ) → n < 1048576 → (let u : ℕ = n / 2 ^ 11 % 2 ^ 8 + n / 2 ^ 10 % 2 * 2 ^ 8 + n % 2 ^ 10 * 2 ^ 9 + n / 2 ^ 19 * 2 ^ 19 in u / 2 ^ 9 % 2 ^ 10 + u / 2 ^ 8 % 2 * 2 ^ 10 + u % 2 ^ 8 * 2 ^ 11 + u / 2 ^ 19 * 2 ^ 19) ≡ n
j_pieces n h = omega arith

-- ---- a packed word has 32 bits
pub pack_fits : (o d f a b g : ℕ) → InRange o d f a b g → pack o d f a b g < 2 ^ 32
unfolding pack
pack_fits o d f a b g h = omega arith

pub pack_upper_fits : (o d u : ℕ) → o < 128 → d < 32 → u < 1048576 → pack_upper o d u < 2 ^ 32
unfolding pack_upper
pack_upper_fits o d u p q r = omega arith
