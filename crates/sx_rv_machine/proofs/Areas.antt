-- Reads and writes of one area of the memory.
use Rattle.std.proofs.Common.{◌≡◌, ℕ, ◌+◌, ◌<◌, Bool, true, List, ◌∷◌, ◌++◌, length, take, drop, get_or, set, Some, sym, ap, ◌∙◌, add-one}
use Rattle.std.specs.Prelude.{option_map, if◌then◌else◌}
use Rattle.std.proofs.lemmas.List.{drop_more, get_or_default, set_split}
use Rattle.sx_rv_machine.specs.Memory.{Area, writable, covers, area_with, with_bytes}

-- a write into an area behind those that do not have all the places
pub put_at : (areas : List Area) (i at : ℕ) (new : List ℕ) (d e : Area) → i < length areas → covers (get_or areas i e) writable at (length new) ≡ true
    → with_bytes areas at new ≡ option_map (λ (rest : List Area). take i areas ++ rest) (with_bytes (drop i areas) at new)
    → with_bytes areas at new ≡ Some (set areas i (area_with (get_or areas i d) at new))
put_at areas i at new d e lt covered passed =
    let a : Area = get_or areas i d in
    let there : covers a writable at (length new) ≡ true = ap (λ (x : Area). covers x writable at (length new)) (get_or_default areas i d e lt) ∙ covered in
    passed
    ∙ ap (λ (x : List Area). option_map (λ (rest : List Area). take i areas ++ rest) (with_bytes x at new)) (drop_more areas i d lt)
    ∙ ap (λ (x : Bool). option_map (λ (rest : List Area). take i areas ++ rest) (if x then Some (area_with a at new ∷ drop (i + 1) areas) else option_map (λ (rest : List Area). a ∷ rest) (with_bytes (drop (i + 1) areas) at new))) there
    ∙ ap (λ k. Some (take i areas ++ area_with a at new ∷ drop k areas)) (add-one i)
    ∙ ap Some (sym (set_split areas i (area_with a at new) lt))
