-- Sizes of forms and of code.
use Rattle.std.proofs.Common.{◌≡◌, ℕ, suc, ◌+◌, ◌*◌, ◌^◌, ◌<◌, ◌≤◌, List, [], ◌∷◌, length, Bool, true, false, refl, ap, ◌∙◌, length-append, arith}
use Rattle.sx_rv_asm.specs.declared.items.Item.{Item}
use Rattle.sx_rv_asm.specs.declared.items.Item.TheVariants.{Plain, Label, Branch, Jump, Address, Bytes}
use Rattle.sx_rv_asm.specs.Items.{form_size}
use Rattle.sx_rv_asm.specs.Forms.{is_near, form_of}
use Rattle.sx_rv_asm.specs.Layout.{size_of, nears_from, code_from, all_far, code_of, nears_of, place_of, far_place}

pub length_form : (place : ℕ → ℕ) (at : ℕ) (near : Bool) (item : Item) → length (form_of place at near item) ≡ form_size near item
unfolding form_of
length_form place at near (Plain i) = refl
length_form place at near (Label m) = refl
length_form place at true (Branch c a b to) = refl
length_form place at false (Branch c a b to) = refl
length_form place at true (Jump rd to) = refl
length_form place at false (Jump rd to) = refl
length_form place at near (Address rd to) = refl
length_form place at near (Bytes bytes) = refl

pub length_code : (place : ℕ → ℕ) (at : ℕ) (items : List Item) (nears : List Bool) → length (code_from place at items nears) ≡ size_of items nears
unfolding code_from size_of
length_code place at [] nears = refl
length_code place at (i ∷ is) [] = refl
length_code place at (i ∷ is) (n ∷ ns) = length-append (form_of place at n i) (code_from place (at + form_size n i) is ns) ∙ ap (λ x. x + length (code_from place (at + form_size n i) is ns)) (length_form place at n i) ∙ ap (λ x. form_size n i + x) (length_code place (at + form_size n i) is ns)

pub form_at_most : (near : Bool) (item : Item) → form_size near item ≤ form_size false item
form_at_most near (Plain i) = omega arith
form_at_most near (Label m) = omega arith
form_at_most true (Branch c a b to) = omega arith
form_at_most false (Branch c a b to) = omega arith
form_at_most true (Jump rd to) = omega arith
form_at_most false (Jump rd to) = omega arith
form_at_most near (Address rd to) = omega arith
form_at_most near (Bytes bytes) = omega arith

form_thrice : (near : Bool) (item : Item) → form_size false item ≤ 3 * form_size near item
form_thrice near (Plain i) = omega arith
form_thrice near (Label m) = omega arith
form_thrice true (Branch c a b to) = omega arith
form_thrice false (Branch c a b to) = omega arith
form_thrice true (Jump rd to) = omega arith
form_thrice false (Jump rd to) = omega arith
form_thrice near (Address rd to) = omega arith
form_thrice near (Bytes bytes) = omega arith

pub length_nears : (far : ℕ → ℕ) (at : ℕ) (items : List Item) → length (nears_from far at items) ≡ length items
unfolding nears_from
length_nears far at [] = refl
length_nears far at (i ∷ is) = ap suc (length_nears far (at + form_size false i) is)

-- the far forms take at most three times the bytes
pub far_thrice : (far : ℕ → ℕ) (at : ℕ) (items : List Item) → size_of items (all_far items) ≤ 3 * size_of items (nears_from far at items)
unfolding size_of nears_from
far_thrice far at [] = omega arith
far_thrice far at (i ∷ is) = omega (arith, form_thrice (is_near far at i) i, far_thrice far (at + form_size false i) is)

-- and at least as many
pub far_most : (far : ℕ → ℕ) (at : ℕ) (items : List Item) → size_of items (nears_from far at items) ≤ size_of items (all_far items)
unfolding size_of nears_from
far_most far at [] = omega arith
far_most far at (i ∷ is) = omega (arith, form_at_most (is_near far at i) i, far_most far (at + form_size false i) is)

-- ---- the sizes of a program
pub length_nears_of : (items : List Item) → length (nears_of items) ≡ length items
unfolding nears_of
length_nears_of items = length_nears (far_place items) 0 items

pub length_code_of : (items : List Item) → length (code_of items) ≡ size_of items (nears_of items)
unfolding code_of
length_code_of items = length_code (place_of items) 0 items (nears_of items)

far_thrice_of : (items : List Item) → size_of items (all_far items) ≤ 3 * size_of items (nears_of items)
unfolding nears_of
far_thrice_of items = far_thrice (far_place items) 0 items

pub far_most_of : (items : List Item) → size_of items (nears_of items) ≤ size_of items (all_far items)
unfolding nears_of
far_most_of items = far_most (far_place items) 0 items

pub far_short : (items : List Item) → length (code_of items) < 2 ^ 30 → size_of items (all_far items) < 2 ^ 32
far_short items h = omega (arith, length_code_of items, far_thrice_of items, h)

pub nears_short : (items : List Item) → length (code_of items) < 2 ^ 30 → size_of items (nears_of items) < 2 ^ 30
nears_short items h = omega (arith, length_code_of items, h)

pub code_short : (items : List Item) → length (code_of items) ≤ size_of items (all_far items)
code_short items = omega (arith, length_code_of items, far_most_of items)
