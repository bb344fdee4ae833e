-- The items stand in the code: a form that was chosen by the far addresses reaches its target.
use Rattle.std.proofs.Common.{◌≡◌, ℕ, ◌+◌, ◌%◌, ◌≤◌, List, [], ◌∷◌, length, Bool, true, false, refl, sym, ap, ◌∙◌, subst, ◌⊎◌, inl, inr, ⊎_elim, arith}
use Rattle.std.specs.Prelude.{◌||◌, nat_le, if◌then◌else◌}
use Rattle.std.specs.Bool.{OnTrue}
use Rattle.std.proofs.lemmas.Bool.{eq-eqb, eqb-true, leb-true, and_parts}
use Rattle.sx_rv_asm.specs.declared.items.Item.{Item}
use Rattle.sx_rv_asm.specs.declared.items.Item.TheVariants.{Plain, Label, Branch, Jump, Address, Bytes}
use Rattle.sx_rv_asm.specs.Items.{is_label, form_size, has_label, IsOnce, LabelsDiffer, IsWhole, AllWhole}
use Rattle.sx_rv_asm.specs.Forms.{is_near, is_within}
use Rattle.sx_rv_asm.specs.Layout.{place_from, size_of, all_far, far_place, nears_from, nears_of, place_of, code_from, code_of, IsProgram, Fits, Stands, HasPlaces}
use Rattle.sx_rv_asm.proofs.Sizes.{form_at_most, length_code_of}

-- a far address F and an address A behind, or ahead of, others, and no further from them than the far ones
record Behind (f a F A : ℕ) : Type 0 where
  far : F ≤ f
  near : A ≤ a
  gap : a + F ≤ f + A

abbrev Apart : ℕ → ℕ → ℕ → ℕ → Type 0
Apart f a F A = Behind f a F A ⊎ Behind F A f a

pick : (P : ℕ → ℕ → Type 0) (b : Bool) (f a F A : ℕ) → P f a → P F A → P (if b then f else F) (if b then a else A)
pick P true f a F A p q = p
pick P false f a F A p q = q

further : (f a F A s t : ℕ) → t ≤ s → Behind f a F A → Behind (f + s) (a + t) F A
further f a F A s t l h = record { far = let x = h.far in omega arith; near = let x = h.near in omega arith; gap = let x = h.gap in omega arith }

here : (f a : ℕ) → Behind f a f a
here f a = record { far = omega arith; near = omega arith; gap = omega arith }

-- a label stands apart from each point that was passed before it was found, or found before it
last_apart : (far : ℕ → ℕ) (l f0 a0 f a F A : ℕ) (items : List Item) → Behind f a f0 a0 → Apart f0 a0 F A → Apart f0 a0 (place_from l f F items (all_far items)) (place_from l a A items (nears_from far f items))
unfolding place_from nears_from
last_apart far l f0 a0 f a F A [] p q = q
last_apart far l f0 a0 f a F A (i ∷ is) p q =
    last_apart far l f0 a0 (f + form_size false i) (a + form_size (is_near far f i) i) (if is_label l i then f else F) (if is_label l i then a else A) is
    (further f a f0 a0 (form_size false i) (form_size (is_near far f i) i) (form_at_most (is_near far f i) i) p)
    (pick (Apart f0 a0) (is_label l i) f a F A (inr p) q)

-- a label that does not stand any more stays where it was found
found_stays : (l at found : ℕ) (items : List Item) (nears : List Bool) → has_label l items ≡ false → place_from l at found items nears ≡ found
unfolding place_from
found_stays l at found [] nears h = refl
found_stays l at found (i ∷ is) [] h = refl
found_stays l at found (i ∷ is) (n ∷ ns) h = let p = or_parts (is_label l i) (has_label l is) h in found_stays l (at + form_size n i) _ is ns p.1 ∙ ap (λ b. if b then at else found) p.0
  where
    or_parts : (x y : Bool) → (x || y) ≡ false → (x ≡ false) × (y ≡ false)
    or_parts true y e = absurd (cc)
    or_parts false y e = (refl, e)

on_true : (b : Bool) (P : Type 0) → (b ≡ true → P) → OnTrue b P
on_true true P h = h refl
on_true false P h = tt

reaches : (x y f a F A : ℕ) → Apart f a F A → OnTrue (is_within x y f F) ((A ≤ a + x) × (a ≤ A + y))
reaches x y f a F A p = on_true (is_within x y f F) ((A ≤ a + x) × (a ≤ A + y)) (λ e.
    let q = and_parts (nat_le F (f + x)) (nat_le f (F + y)) e in
    let u : F ≤ f + x = leb-true F (f + x) q.0 in
    let v : f ≤ F + y = leb-true f (F + y) q.1 in
    ⊎_elim
    (λ (b : Behind f a F A). let m = b.far in let n = b.near in let g = b.gap in (omega (arith, m, n, g), omega (arith, m, n, g, v)))
    (λ (b : Behind F A f a). let m = b.far in let n = b.near in let g = b.gap in (omega (arith, m, n, g, u), omega (arith, m, n, g)))
    p)

fits : (far place : ℕ → ℕ) (f a : ℕ) (item : Item) → ((l : ℕ) → Apart f a (far l) (place l)) → ((m : ℕ) → is_label m item ≡ true → place m ≡ a) → Fits place a (is_near far f item) item
fits far place f a (Plain i) p q = tt
fits far place f a (Label m) p q = q m (eq-eqb m m refl)
fits far place f a (Branch c r s to) p q = reaches 4094 4096 f a (far to) (place to) (p to)
fits far place f a (Jump rd to) p q = reaches 1048574 1048576 f a (far to) (place to) (p to)
fits far place f a (Address rd to) p q = tt
fits far place f a (Bytes bytes) p q = tt

once : (m : ℕ) (item : Item) (rest : List Item) → is_label m item ≡ true → IsOnce item rest → has_label m rest ≡ false
once m (Plain i) rest e h = absurd (cc)
once m (Label l) rest e h = let s : m ≡ l = eqb-true m l e in subst (λ (x : ℕ). has_label x rest ≡ false) (sym s) h
once m (Branch c r s to) rest e h = absurd (cc)
once m (Jump rd to) rest e h = absurd (cc)
once m (Address rd to) rest e h = absurd (cc)
once m (Bytes bytes) rest e h = absurd (cc)

stands_from : (far place : ℕ → ℕ) (f a : ℕ) (F A : ℕ → ℕ) (items : List Item) → LabelsDiffer items → ((l : ℕ) → Behind f a (F l) (A l))
    → ((l : ℕ) → far l ≡ place_from l f (F l) items (all_far items)) → ((l : ℕ) → place l ≡ place_from l a (A l) items (nears_from far f items))
    → Stands place a items (code_from place a items (nears_from far f items))
unfolding Stands code_from nears_from place_from LabelsDiffer
stands_from far place f a F A [] d b x y = refl
stands_from far place f a F A (i ∷ is) d b x y =
    let n : Bool = is_near far f i in
    let s : ℕ = form_size false i in
    let t : ℕ = form_size n i in
    let at_most : t ≤ s = form_at_most n i in (
      n,
      code_from place (a + t) is (nears_from far (f + s) is),
      refl,
      fits far place f a i
          (λ l. subst (λ (z : ℕ). Apart f a z (place l)) (sym (x l)) (subst (λ (z : ℕ). Apart f a (place_from l f (F l) (i ∷ is) (all_far (i ∷ is))) z) (sym (y l)) (last_apart far l f a f a (F l) (A l) (i ∷ is) (here f a) (inl (b l)))))
          (λ m e. y m ∙ ap (λ z. place_from m (a + t) (if z then a else A m) is (nears_from far (f + s) is)) e ∙ found_stays m (a + t) a is (nears_from far (f + s) is) (once m i is e d.0)),
      stands_from far place (f + s) (a + t) (λ l. if is_label l i then f else F l) (λ l. if is_label l i then a else A l) is d.1
          (λ l. pick (Behind (f + s) (a + t)) (is_label l i) f a (F l) (A l) (further f a f a s t at_most (here f a)) (further f a (F l) (A l) s t at_most (b l)))
          x y,
    )

pub stands : (items : List Item) → IsProgram items → Stands (place_of items) 0 items (code_of items)
unfolding code_of place_of nears_of far_place
stands items h = stands_from (far_place items) (place_of items) 0 0 (λ l. 0) (λ l. 0) items h.labels (λ l. here 0 0) (λ l. refl) (λ l. refl)

-- ---- places
place_within : (l at found : ℕ) (items : List Item) (nears : List Bool) → found ≤ at → place_from l at found items nears ≤ at + size_of items nears
unfolding place_from size_of
place_within l at found [] nears h = omega arith
place_within l at found (i ∷ is) [] h = omega arith
place_within l at found (i ∷ is) (n ∷ ns) h =
    let q : (if is_label l i then at else found) ≤ at = least (is_label l i) in
    let r = place_within l (at + form_size n i) (if is_label l i then at else found) is ns (omega arith) in
    omega (arith, r)
  where
    least : (b : Bool) → (if b then at else found) ≤ at
    least true = omega arith
    least false = h

pub whole : (near : Bool) (item : Item) → IsWhole item → form_size near item % 4 ≡ 0
whole near (Plain i) h = refl
whole near (Label m) h = refl
whole true (Branch c r s to) h = refl
whole false (Branch c r s to) h = refl
whole true (Jump rd to) h = refl
whole false (Jump rd to) h = refl
whole near (Address rd to) h = refl
whole near (Bytes bytes) h = h

place_aligned : (l at found : ℕ) (items : List Item) (nears : List Bool) → AllWhole items → at % 4 ≡ 0 → found % 4 ≡ 0 → place_from l at found items nears % 4 ≡ 0
unfolding place_from AllWhole
place_aligned l at found [] nears w p q = q
place_aligned l at found (i ∷ is) [] w p q = q
place_aligned l at found (i ∷ is) (n ∷ ns) w p q =
    let s = whole n i w.0 in
    place_aligned l (at + form_size n i) (if is_label l i then at else found) is ns w.1 (omega (arith, s, p)) (chosen (is_label l i))
  where
    chosen : (b : Bool) → (if b then at else found) % 4 ≡ 0
    chosen true = p
    chosen false = q

pub places : (items : List Item) → IsProgram items → HasPlaces (place_of items) (length (code_of items))
unfolding place_of
places items h = record {
  within = λ l. let w = place_within l 0 0 items (nears_of items) (omega arith) in omega (arith, w, length_code_of items);
  aligned = λ l. place_aligned l 0 0 items (nears_of items) h.whole refl refl;
}
