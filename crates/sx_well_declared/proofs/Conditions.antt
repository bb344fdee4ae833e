-- A part on which there is a condition is typed where it is typed and the condition holds, and only there.
use Rattle.std.proofs.Common.{◌≡◌, ◌∙◌, Bool, true, false, not, Option, Some, None, cond, refl, sym, ap, subst, true≢false}
use Rattle.sx_span.specs.declared.places.Node.{Node}
use Rattle.sx_scope.specs.declared.stop.TypeKind.{TypeKind}
use Rattle.sx_scope.specs.declared.walk.Walk.{Walk}
use Rattle.sx_scope.specs.Verdict.{Verdict, typed, Judging, ◌▷◌, both, need, need_narrow, unless_broken}
use Rattle.sx_well_typed.proofs.Verdicts.{typed-as, not-typed, then-typed, then-inverted, both-typed, beside_typed-inverted, need-typed, need-inverted, unless_broken-typed, unless_broken-inverted}

pub not-so : (b : Bool) → not b ≡ true → b ≡ false
not-so true h = absurd (true≢false (sym h))
not-so false h = refl

pub need_narrow-typed : {A : Type 0} (b : Bool) (n : Node) (m : Judging A) (w : Walk) (r : Verdict A) → b ≡ true → m w ≡ r → need_narrow b n m w ≡ r
need_narrow-typed true n m w r h e = e
need_narrow-typed false n m w r h e = absurd (true≢false (sym h))

pub need_narrow-inverted : {A : Type 0} (b : Bool) (n : Node) (m : Judging A) (w : Walk) (a : A) (w' : Walk) → need_narrow b n m w ≡ typed a w' → (b ≡ true) × (m w ≡ typed a w')
need_narrow-inverted true n m w a w' h = (refl, h)
need_narrow-inverted false n m w a w' h = not-typed ((false ≡ true) × (m w ≡ typed a w')) (need_narrow false n m w) a w' refl h

-- ---- a condition on what the part is
pub narrowed-typed : {A : Type 0} (v : Verdict A) (c : A → Bool) (n : Node) (a : A) (w : Walk) → v ≡ typed a w → c a ≡ true → v ▷ (λ x. need_narrow (c x) n (typed x)) ≡ typed a w
narrowed-typed v c n a w h k = then-typed v (λ x. need_narrow (c x) n (typed x)) a w (typed a w) h (need_narrow-typed (c a) n (typed a) w (typed a w) k refl)

pub narrowed-inverted : {A : Type 0} (v : Verdict A) (c : A → Bool) (n : Node) (a : A) (w : Walk) → v ▷ (λ x. need_narrow (c x) n (typed x)) ≡ typed a w → (v ≡ typed a w) × (c a ≡ true)
narrowed-inverted v c n a w h =
    let (x, u, i, j) = then-inverted v (λ x. need_narrow (c x) n (typed x)) a w h in
    let (k, same) = need_narrow-inverted (c x) n (typed x) u a w j in
    typed-as (λ y z. (v ≡ typed y z) × (c y ≡ true)) x a u w same (i, k)

pub needed-typed : {A : Type 0} (v : Verdict A) (c : A → Bool) (s : TypeKind) (n : Node) (a : A) (w : Walk) → v ≡ typed a w → c a ≡ true → v ▷ (λ x. need (c x) s n (typed x)) ≡ typed a w
needed-typed v c s n a w h k = then-typed v (λ x. need (c x) s n (typed x)) a w (typed a w) h (need-typed (c a) s n (typed a) w (typed a w) k refl)

pub needed-inverted : {A : Type 0} (v : Verdict A) (c : A → Bool) (s : TypeKind) (n : Node) (a : A) (w : Walk) → v ▷ (λ x. need (c x) s n (typed x)) ≡ typed a w → (v ≡ typed a w) × (c a ≡ true)
needed-inverted v c s n a w h =
    let (x, u, i, j) = then-inverted v (λ x. need (c x) s n (typed x)) a w h in
    let (k, same) = need-inverted (c x) s n (typed x) u a w j in
    typed-as (λ y z. (v ≡ typed y z) × (c y ≡ true)) x a u w same (i, k)

pub unbroken-typed : {A : Type 0} (v : Verdict A) (c : A → Option TypeKind) (n : Node) (a : A) (w : Walk) → v ≡ typed a w → c a ≡ None → v ▷ (λ x. unless_broken (c x) n (typed x)) ≡ typed a w
unbroken-typed v c n a w h k = then-typed v (λ x. unless_broken (c x) n (typed x)) a w (typed a w) h (unless_broken-typed (c a) n (typed a) w (typed a w) k refl)

pub unbroken-inverted : {A : Type 0} (v : Verdict A) (c : A → Option TypeKind) (n : Node) (a : A) (w : Walk) → v ▷ (λ x. unless_broken (c x) n (typed x)) ≡ typed a w → (v ≡ typed a w) × (c a ≡ None)
unbroken-inverted v c n a w h =
    let (x, u, i, j) = then-inverted v (λ x. unless_broken (c x) n (typed x)) a w h in
    let (k, same) = unless_broken-inverted (c x) n (typed x) u a w j in
    typed-as (λ y z. (v ≡ typed y z) × (c y ≡ None)) x a u w same (i, k)

-- ---- two conditions, of which the first is told
is_none : Option TypeKind → Bool
is_none None = true
is_none (Some s) = false

some-not : (X : Type 0) (s : TypeKind) → Some s ≡ None → X
unfolding is_none
some-not X s h = absurd (true≢false (sym (ap is_none h)))

pub unbroken-all : (a b : Bool) (r s : TypeKind) → cond a (Some r) (cond b (Some s) None) ≡ None → (a ≡ false) × (b ≡ false)
unbroken-all true b r s h = some-not ((true ≡ false) × (b ≡ false)) r h
unbroken-all false true r s h = some-not ((false ≡ false) × (true ≡ false)) s h
unbroken-all false false r s h = (refl, refl)

pub unbroken-none : (a b : Bool) (r s : TypeKind) → a ≡ false → b ≡ false → cond a (Some r) (cond b (Some s) None) ≡ None
unbroken-none true b r s h k = absurd (true≢false h)
unbroken-none false true r s h k = absurd (true≢false k)
unbroken-none false false r s h k = refl

-- ---- a condition beside a part
abbrev pub beside : {B : Type 0} → B → Unit {0} × B
beside y = (tt, y)

pub beside-typed : {B : Type 0} (b : Bool) (s : TypeKind) (n : Node) (w : Walk) (m : Judging B) (y : B) (v : Walk) → b ≡ true → m w ≡ typed y v → both (need b s n (typed tt) w) m ≡ typed (beside y) v
beside-typed b s n w m y v h k = both-typed (need b s n (typed tt) w) m tt w y v (need-typed b s n (typed tt) w (typed tt w) h refl) k

pub beside-inverted : {B : Type 0} (b : Bool) (s : TypeKind) (n : Node) (w : Walk) (m : Judging B) (x : Unit {0} × B) (v : Walk) → both (need b s n (typed tt) w) m ≡ typed x v → (b ≡ true) × (m w ≡ typed x.1 v)
beside-inverted true s n w m x v h = (refl, (beside_typed-inverted tt (m w) x v h).1)
beside-inverted false s n w m x v h = not-typed ((false ≡ true) × (m w ≡ typed x.1 v)) (both (need false s n (typed tt) w) m) x v refl h

-- ---- a declaration that is left
-- Where a part is typed, what is derived from where the walk is left is derived from where it then stands.
pub placed : {A : Type 0} (P : Walk → Type 0) (g : A → Walk → Walk) (l : Walk → Walk) (a b : A) (s t u v : Walk) → typed a s ≡ typed b t → l t ≡ u → g b u ≡ v → P (g a (l s)) → P v
placed P g l a b s t u v h k e p = subst P (typed-as (λ y z. g a (l s) ≡ g y (l z)) a b s t h refl ∙ ap (g b) k ∙ e) p
