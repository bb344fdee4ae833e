use Rattle.std.proofs.Common.{◌≡◌, ℕ, ◌+◌, ◌-◌, ◌≤◌, List, ◌++◌, length, take, drop, sym, ap, ◌∙◌, subst, rules}
use Rattle.std.proofs.lemmas.List.{take_rest}
use Rattle.std.proofs.Math.Seq.{take-add}
use Rattle.std.proofs.KnownBytes.{Appends-trans}
use Rattle.std.specs.Io.KnownBytes.{Appends}
use Rattle.sx_io.proofs.streams.write_whole.Goals as goal

-- a front, and a front of what follows it
take-drop_front : (xs : List ℕ) (i n : ℕ) → take i xs ++ take n (take (length xs - i) (drop i xs)) ≡ take (i + n) xs
take-drop_front xs i n = ap (λ l. take i xs ++ take n l) (take_rest xs i) ∙ sym (take-add i n xs)

pub pieces-preserved : goal.pieces-preserved
pieces-preserved g c =
    let within : c.pieces.taken + c.in-Ok.count ≤ length c.args.bytes.now = search rules in
    let written = Appends-trans _ _ _ _ _ c.pieces.invariant.1 c.in-Ok.ensures.bytes in
    (within, subst (Appends _ _) (take-drop_front c.args.bytes.now c.pieces.taken c.in-Ok.count) written)
