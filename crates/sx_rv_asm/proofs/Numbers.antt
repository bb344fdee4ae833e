-- Immediates as numbers: what an offset adds to a pc.
use Rattle.std.proofs.Common.{◌≡◌, ℕ, ◌<◌, ◌≤◌, ◌%◌, ◌+◌, ◌-◌, ◌*◌, ◌/◌, ◌^◌, arith, refl, true, false, nat_lt, ◌⊎◌, inl, inr}
use Rattle.std.proofs.lemmas.Bool.{cases_lt}
use Rattle.std.proofs.lemmas.Bool.Decides.{nat_tests}
use Rattle.sx_rv_isa.specs.Effects.{extend, add, register_value}
use Rattle.sx_rv_asm.specs.Forms.{distance, upper_part}
use Rattle.sx_rv_asm.specs.Walking.{InCode}

-- a number of n bits, extended to 64 by its sign
abbrev Extended : ℕ → ℕ → ℕ → Type 0
Extended n v x = ((v < 2 ^ (n - 1)) × (x ≡ v)) ⊎ ((2 ^ (n - 1) ≤ v) × (x ≡ 2 ^ 64 - (2 ^ n - v)))

extended12 : (v : ℕ) → v < 4096 → Extended 12 v (extend 12 v)
unfolding extend
extended12 v h = elim (cases_lt v 2048) [
  | inl k ↦ (let t : nat_lt v 2048 ≡ true = grind (arith, nat_tests) in inl (k, rw t refl))
  | inr k ↦ (let t : nat_lt v 2048 ≡ false = grind (arith, nat_tests) in inr (k, rw t (omega arith)))
]

extended13 : (v : ℕ) → v < 8192 → Extended 13 v (extend 13 v)
unfolding extend
extended13 v h = elim (cases_lt v 4096) [
  | inl k ↦ (let t : nat_lt v 4096 ≡ true = grind (arith, nat_tests) in inl (k, rw t refl))
  | inr k ↦ (let t : nat_lt v 4096 ≡ false = grind (arith, nat_tests) in inr (k, rw t (omega arith)))
]

extended21 : (v : ℕ) → v < 2097152 → Extended 21 v (extend 21 v)
unfolding extend
extended21 v h = elim (cases_lt v 1048576) [
  | inl k ↦ (let t : nat_lt v 1048576 ≡ true = grind (arith, nat_tests) in inl (k, rw t refl))
  | inr k ↦ (let t : nat_lt v 1048576 ≡ false = grind (arith, nat_tests) in inr (k, rw t (omega arith)))
]

extended32 : (v : ℕ) → v < 2 ^ 32 → Extended 32 v (extend 32 v)
unfolding extend
extended32 v h = elim (cases_lt v (2 ^ 31)) [
  | inl k ↦ (let t : nat_lt v 2147483648 ≡ true = grind (arith, nat_tests) in inl (k, rw t refl))
  | inr k ↦ (let t : nat_lt v 2147483648 ≡ false = grind (arith, nat_tests) in inr (k, rw t (omega arith)))
]

near_sum : (base at target d v x : ℕ) → InCode base at target → target ≤ at + 4094 → at ≤ target + 4096 → d ≡ (target + (2 ^ 32 - at)) % 2 ^ 32 → v ≡ d / 2 % 4096 * 2 → Extended 13 v x → (base + at + x) % 2 ^ 64 ≡ base + target
near_sum base at target d v x c u w e f k =
    let p = c.at_aligned in let q = c.target_aligned in let r = c.at_small in let s = c.target_small in let t = c.base_small in
    omega arith

-- a near branch reaches its target
pub branch_sum : (base at target : ℕ) → InCode base at target → target ≤ at + 4094 → at ≤ target + 4096 → add (base + at) (extend 13 (distance at target / 2 % 4096 * 2)) ≡ base + target
unfolding distance register_value
branch_sum base at target c u w =
    let d : ℕ = (target + (2 ^ 32 - at)) % 2 ^ 32 in
    near_sum base at target d (d / 2 % 4096 * 2) (extend 13 (d / 2 % 4096 * 2)) c u w refl refl (extended13 _ (omega arith))

jump_near_sum : (base at target d v x : ℕ) → InCode base at target → target ≤ at + 1048574 → at ≤ target + 1048576 → d ≡ (target + (2 ^ 32 - at)) % 2 ^ 32 → v ≡ d / 2 % 1048576 * 2 → Extended 21 v x → (base + at + x) % 2 ^ 64 ≡ base + target
jump_near_sum base at target d v x c u w e f k =
    let p = c.at_aligned in let q = c.target_aligned in let r = c.at_small in let s = c.target_small in let t = c.base_small in
    omega arith

-- a near jump reaches its target
pub jump_sum : (base at target : ℕ) → InCode base at target → target ≤ at + 1048574 → at ≤ target + 1048576 → add (base + at) (extend 21 (distance at target / 2 % 1048576 * 2)) ≡ base + target
unfolding distance register_value
jump_sum base at target c u w =
    let d : ℕ = (target + (2 ^ 32 - at)) % 2 ^ 32 in
    jump_near_sum base at target d (d / 2 % 1048576 * 2) (extend 21 (d / 2 % 1048576 * 2)) c u w refl refl (extended21 _ (omega arith))

far_parts : (base at target d u l x y : ℕ) → at < 2 ^ 30 + 4 → target < 2 ^ 30 → base + 2 ^ 31 ≤ 2 ^ 64 → d ≡ (target + (2 ^ 32 - at)) % 2 ^ 32 → u ≡ (d + 2048) / 4096 % 1048576 * 4096 → l ≡ d % 4096
    → Extended 32 u x → Extended 12 l y → ((base + at + x) % 2 ^ 64 + y) % 2 ^ 64 ≡ base + target
far_parts base at target d u l x y p t b e f g h k = omega arith

-- the upper part of a distance and then the lower one reach the target
pub far_sum : (base at target : ℕ) → at < 2 ^ 30 + 4 → target < 2 ^ 30 → base + 2 ^ 31 ≤ 2 ^ 64
    → add (add (base + at) (extend 32 (upper_part (distance at target) % 1048576 * 4096))) (extend 12 (distance at target % 4096)) ≡ base + target
unfolding distance upper_part register_value
far_sum base at target p t b =
    let d : ℕ = (target + (2 ^ 32 - at)) % 2 ^ 32 in
    let u : ℕ = (d + 2048) / 4096 % 1048576 * 4096 in
    far_parts base at target d u (d % 4096) (extend 32 u) (extend 12 (d % 4096)) p t b refl refl refl (extended32 u (omega arith)) (extended12 (d % 4096) (omega arith))
