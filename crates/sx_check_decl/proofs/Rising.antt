-- Functions in the order of their nodes.
use Rattle.std.proofs.Common.{◌≡◌, ℕ, suc, ◌+◌, ◌<◌, List, [], ◌∷◌, map, length, sym, subst, arith}
use Rattle.std.specs.Prelude.{zero, slice_index}
use Rattle.sx_typed.specs.Functions.{RiseByNode}
use Rattle.sx_typed.specs.declared.program.Function.{Function}

pub none_rise : RiseByNode []
none_rise k less = absurd (omega (arith, less))

pub one_rises : (f : Function) → RiseByNode (f ∷ [])
one_rises f k less = absurd (omega (arith, less))

-- one more before them
pub more_rise : (f g : Function) (fs : List Function) → f.node.0 < g.node.0 → RiseByNode (g ∷ fs) → RiseByNode (f ∷ g ∷ fs)
more_rise f g fs before rise zero less = before
more_rise f g fs before rise (suc k) less =
    let e : suc k + 1 ≡ suc (k + 1) = omega arith in
    let shorter : k + 1 < length (map (λ (h : Function). h.node.0) (g ∷ fs)) = omega (arith, less) in
    let h : slice_index (map (λ (h : Function). h.node.0) (g ∷ fs)) k < slice_index (map (λ (h : Function). h.node.0) (g ∷ fs)) (k + 1) = rise k shorter in
    subst (λ (j : ℕ). slice_index (map (λ (h : Function). h.node.0) (g ∷ fs)) k < slice_index (map (λ (h : Function). h.node.0) (f ∷ g ∷ fs)) j) (sym e) h
