-- The labels that a pass finds are those of the definitions.
use Rattle.std.proofs.Common.{◌≡◌, ℕ, List, Bool, ap, subst, ◌∙◌}
use Rattle.std.specs.Prelude.{Result, Ok, Err, IfOk}
use Rattle.std.proofs.Math.Path.{fun_ext}
use Rattle.sx_rv_asm.specs.declared.items.Item.{Item}
use Rattle.sx_rv_asm.specs.declared.labels.Labels.{Labels}
use Rattle.sx_rv_asm.specs.Labels.{place_in, Holds}
use Rattle.sx_rv_asm.specs.Layout.{nears_from, nears_of, place_of, far_place, all_far, code_from, code_of}

far_held : (labels : Labels) (items : List Item) → Holds labels items (all_far items) → place_in labels ≡ far_place items
unfolding far_place
far_held labels items h = fun_ext (λ l. h.places l)

places_held : (labels : Labels) (items : List Item) → Holds labels items (nears_of items) → place_in labels ≡ place_of items
unfolding place_of
places_held labels items h = fun_ext (λ l. h.places l)

-- the forms that are chosen by the far labels are those of the program
pub chosen : (labels : Labels) (items : List Item) → Holds labels items (all_far items) → nears_from (place_in labels) 0 items ≡ nears_of items
unfolding nears_of
chosen labels items h = ap (λ f. nears_from f 0 items) (far_held labels items h)

-- the bytes by these forms and their labels are the code
pub assembled : (labels : Labels) (items : List Item) → Holds labels items (nears_of items) → code_from (place_in labels) 0 items (nears_of items) ≡ code_of items
unfolding code_of
assembled labels items h = ap (λ f. code_from f 0 items (nears_of items)) (places_held labels items h)

-- ---- the passes in a row, where each has its own view of the items
pub nears_are : (far : Labels) (items : List Item) (bs nears : List Bool) → bs ≡ all_far items → Holds far items bs → nears ≡ nears_from (place_in far) 0 items → nears ≡ nears_of items
nears_are far items bs nears b h e = e ∙ chosen far items (subst (λ (z : List Bool). Holds far items z) b h)

pub code_is : (labels : Labels) (items xs ys : List Item) (ms ns : List Bool) (code : List ℕ) → xs ≡ items → ys ≡ items → ms ≡ nears_of items → ns ≡ nears_of items → Holds labels xs ms → code ≡ code_from (place_in labels) 0 ys ns → code ≡ code_of items
code_is labels items xs ys ms ns code x y m n h e =
    e ∙ ap (λ z. code_from (place_in labels) 0 z ns) y ∙ ap (code_from (place_in labels) 0 items) n
    ∙ assembled labels items (subst (λ (z : List Bool). Holds labels items z) m (subst (λ (z : List Item). Holds labels z ms) x h))

-- a fact of the value of an answer
pub if_ok : {T E : Type 0} (P Q : T → Type 0) (r : Result T E) → ((v : T) → P v → Q v) → IfOk r P → IfOk r Q
if_ok P Q (Ok v) k h = k v h
if_ok P Q (Err e) k h = tt
