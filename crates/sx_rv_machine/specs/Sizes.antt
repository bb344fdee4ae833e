-- How many bytes a load or a store moves (RISC-V Unprivileged ISA, 'Load and Store Instructions').
use Rattle.std.specs.Prelude.{◌≡◌, ◌⊎◌, ℕ}
use Rattle.sx_rv_isa.specs.declared.effect.Effect.{Effect}
use Rattle.sx_rv_isa.specs.declared.effect.Effect.TheVariants.{Value, Jump, Branch, Next, Load, Store, Environment, Breakpoint}

-- a byte, a halfword, a word or a doubleword
abbrev pub IsSize : ℕ → Type 0
IsSize size = (size ≡ 1) ⊎ ((size ≡ 2) ⊎ ((size ≡ 4) ⊎ (size ≡ 8)))

-- what an effect moves has such a size
abbrev pub MovesSize : Effect → Type 0
MovesSize (Value value) = Unit {0}
MovesSize (Jump target link) = Unit {0}
MovesSize (Branch target) = Unit {0}
MovesSize Next = Unit {0}
MovesSize (Load address size signed) = IsSize size
MovesSize (Store address size value) = IsSize size
MovesSize Environment = Unit {0}
MovesSize Breakpoint = Unit {0}
