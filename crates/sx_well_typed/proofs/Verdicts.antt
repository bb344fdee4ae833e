-- A part is typed where what it is made of is typed, and only there.
use Rattle.std.proofs.Common.{◌≡◌, ◌∙◌, Bool, true, false, Option, Some, None, refl, sym, ap, subst, true≢false}
use Rattle.sx_span.specs.declared.places.Node.{Node}
use Rattle.sx_typed.specs.declared.code.Expr.{Expr as TypedExpr}
use Rattle.sx_scope.specs.declared.stop.TypeKind.{TypeKind}
use Rattle.sx_scope.specs.declared.stop.TypeKind.TheVariants as kind
use Rattle.sx_scope.specs.declared.walk.Asked.{Asked}
use Rattle.sx_scope.specs.declared.walk.Walk.{Walk}
use Rattle.sx_scope.specs.Verdict.{Verdict, typed, untold, depends, fails, is_typed, behind, Judging, ◌▷◌, both, both_by, beside_typed, beside_untold, beside_depending, need, unless_broken, moved}
use Rattle.sx_scope.specs.Names.{agrees}
use Rattle.sx_calls.specs.Operators.{given}

-- ---- what is typed
pub then-typed : {A B : Type 0} (v : Verdict A) (f : A → Judging B) (a : A) (w : Walk) (r : Verdict B) → v ≡ typed a w → f a w ≡ r → v ▷ f ≡ r
then-typed v f a w r h k = ap (λ x. x ▷ f) h ∙ k

pub both-typed : {A B : Type 0} (v : Verdict A) (m : Judging B) (a : A) (w : Walk) (b : B) (w' : Walk) → v ≡ typed a w → m w ≡ typed b w' → both v m ≡ typed (a, b) w'
both-typed v m a w b w' h k = ap (λ x. both x m) h ∙ ap (beside_typed a) k

pub both_by-typed : {A B : Type 0} (v : Verdict A) (f : Option A → Judging B) (a : A) (w : Walk) (b : B) (w' : Walk) → v ≡ typed a w → f (Some a) w ≡ typed b w' → both_by v f ≡ typed (a, b) w'
both_by-typed v f a w b w' h k = ap (λ x. both_by x f) h ∙ ap (beside_typed a) k

pub need-typed : {A : Type 0} (b : Bool) (k : TypeKind) (n : Node) (m : Judging A) (w : Walk) (r : Verdict A) → b ≡ true → m w ≡ r → need b k n m w ≡ r
need-typed true k n m w r h e = e
need-typed false k n m w r h e = absurd (true≢false (sym h))

pub unless_broken-typed : {A : Type 0} (o : Option TypeKind) (n : Node) (m : Judging A) (w : Walk) (r : Verdict A) → o ≡ None → m w ≡ r → unless_broken o n m w ≡ r
unless_broken-typed o n m w r h e = ap (λ x. unless_broken x n m w) h ∙ e

pub given-typed : (n : Node) (q : Asked) (e : TypedExpr) (w : Walk) → agrees q e.ty ≡ true → given n q e w ≡ typed e w
given-typed n q e w h = need-typed (agrees q e.ty) kind.Mismatch n (typed e) w (typed e w) h refl

pub moved-typed : {A : Type 0} (g : Walk → Walk) (v : Verdict A) (a : A) (w : Walk) → v ≡ typed a w → moved g v ≡ typed a (g w)
moved-typed g v a w h = ap (moved g) h

-- ---- and only there
pub not-typed : {A : Type 0} (X : Type 0) (v : Verdict A) (a : A) (w : Walk) → is_typed v ≡ false → v ≡ typed a w → X
not-typed X v a w h e = absurd (true≢false (sym (ap is_typed e) ∙ h))

what : {A : Type 0} → A → Verdict A → A
what a (typed b w) = b
what a (untold w) = a
what a (depends w) = a
what a (fails f fs w) = a

pub same-part : {A : Type 0} (a b : A) (w w' : Walk) → typed a w ≡ typed b w' → a ≡ b
unfolding what
same-part a b w w' h = ap (what a) h

pub same-walk : {A : Type 0} (a b : A) (w w' : Walk) → typed a w ≡ typed b w' → w ≡ w'
same-walk a b w w' h = ap behind h

-- what is derived of one is derived of the other
pub typed-as : {A : Type 0} (P : A → Walk → Type 0) (a b : A) (w w' : Walk) → typed a w ≡ typed b w' → P a w → P b w'
typed-as P a b w w' h x = subst (λ y. P b y) (same-walk a b w w' h) (subst (λ y. P y w) (same-part a b w w' h) x)

-- what is typed, and where the walk then stands
abbrev pub First : {A : Type 0} → Verdict A → Type 0
First {A = A} v = (a : A) × (w : Walk) × (v ≡ typed a w)

-- the first part is typed, and the node by it
abbrev pub Then : {A B : Type 0} → Verdict A → (A → Judging B) → B → Walk → Type 0
Then {A = A} v f b w' = (a : A) × (w : Walk) × (v ≡ typed a w) × (f a w ≡ typed b w')

pub then-inverted : {A B : Type 0} (v : Verdict A) (f : A → Judging B) (b : B) (w' : Walk) → v ▷ f ≡ typed b w' → Then v f b w'
then-inverted (typed a w) f b w' h = (a, w, refl, h)
then-inverted (untold w) f b w' h = not-typed (Then (untold w) f b w') (untold w) b w' refl h
then-inverted (depends w) f b w' h = not-typed (Then (depends w) f b w') (depends w) b w' refl h
then-inverted (fails g gs w) f b w' h = not-typed (Then (fails g gs w) f b w') (fails g gs w) b w' refl h

-- both parts are typed, the second where it is asked by the first
abbrev pub Both : {A B : Type 0} → Verdict A → (Option A → Judging B) → A × B → Walk → Type 0
Both v f x w' = (w : Walk) × (v ≡ typed x.0 w) × (f (Some x.0) w ≡ typed x.1 w')

pub beside_typed-inverted : {A B : Type 0} (a : A) (v : Verdict B) (x : A × B) (w' : Walk) → beside_typed a v ≡ typed x w' → (a ≡ x.0) × (v ≡ typed x.1 w')
beside_typed-inverted a (typed b w) x w' h =
    typed-as (λ y u. (a ≡ y.0) × (typed b w ≡ typed y.1 u)) (a, b) x w w' h (refl, refl)
beside_typed-inverted a (untold w) x w' h = not-typed ((a ≡ x.0) × (untold w ≡ typed x.1 w')) (untold w) x w' refl h
beside_typed-inverted a (depends w) x w' h = not-typed ((a ≡ x.0) × (depends w ≡ typed x.1 w')) (depends w) x w' refl h
beside_typed-inverted a (fails g gs w) x w' h = not-typed ((a ≡ x.0) × (fails g gs w ≡ typed x.1 w')) (fails g gs w) x w' refl h

beside_untold-not : (A B : Type 0) (v : Verdict B) → is_typed (beside_untold {A = A} v) ≡ false
beside_untold-not A B (typed b w) = refl
beside_untold-not A B (untold w) = refl
beside_untold-not A B (depends w) = refl
beside_untold-not A B (fails g gs w) = refl

beside_depending-not : (A B : Type 0) (v : Verdict B) → is_typed (beside_depending {A = A} v) ≡ false
beside_depending-not A B (typed b w) = refl
beside_depending-not A B (untold w) = refl
beside_depending-not A B (depends w) = refl
beside_depending-not A B (fails g gs w) = refl

pub both_by-inverted : {A B : Type 0} (v : Verdict A) (f : Option A → Judging B) (x : A × B) (w' : Walk) → both_by v f ≡ typed x w' → Both v f x w'
both_by-inverted (typed a w) f x w' h =
    let i : (a ≡ x.0) × (f (Some a) w ≡ typed x.1 w') = beside_typed-inverted a (f (Some a) w) x w' h in
    (w, ap (λ y. typed y w) i.0, subst (λ y. f (Some y) w ≡ typed x.1 w') i.0 i.1)
both_by-inverted {A = A} {B = B} (untold w) f x w' h = not-typed (Both (untold w) f x w') (beside_untold {A = A} (f None w)) x w' (beside_untold-not A B (f None w)) h
both_by-inverted {A = A} {B = B} (depends w) f x w' h = not-typed (Both (depends w) f x w') (beside_depending {A = A} (f None w)) x w' (beside_depending-not A B (f None w)) h
both_by-inverted (fails g gs w) f x w' h = not-typed (Both (fails g gs w) f x w') (both_by (fails g gs w) f) x w' refl h

pub need-inverted : {A : Type 0} (b : Bool) (k : TypeKind) (n : Node) (m : Judging A) (w : Walk) (a : A) (w' : Walk) → need b k n m w ≡ typed a w' → (b ≡ true) × (m w ≡ typed a w')
need-inverted true k n m w a w' h = (refl, h)
need-inverted false k n m w a w' h = not-typed ((false ≡ true) × (m w ≡ typed a w')) (need false k n m w) a w' refl h

pub unless_broken-inverted : {A : Type 0} (o : Option TypeKind) (n : Node) (m : Judging A) (w : Walk) (a : A) (w' : Walk) → unless_broken o n m w ≡ typed a w' → (o ≡ None) × (m w ≡ typed a w')
unless_broken-inverted None n m w a w' h = (refl, h)
unless_broken-inverted (Some k) n m w a w' h = not-typed ((Some k ≡ None) × (m w ≡ typed a w')) (unless_broken (Some k) n m w) a w' refl h

pub given-inverted : (n : Node) (q : Asked) (e : TypedExpr) (w : Walk) (t : TypedExpr) (w' : Walk) → given n q e w ≡ typed t w' → (agrees q e.ty ≡ true) × (typed e w ≡ typed t w')
given-inverted n q e w t w' h = need-inverted (agrees q e.ty) kind.Mismatch n (typed e) w t w' h

-- a part before another place of the walk
abbrev pub Moved : {A : Type 0} → (Walk → Walk) → Verdict A → A → Walk → Type 0
Moved g v a w' = (w : Walk) × (v ≡ typed a w) × (g w ≡ w')

pub moved-inverted : {A : Type 0} (g : Walk → Walk) (v : Verdict A) (a : A) (w' : Walk) → moved g v ≡ typed a w' → Moved g v a w'
moved-inverted g (typed b w) a w' h = typed-as (λ y u. Moved g (typed b w) y u) b a (g w) w' h (w, refl, refl)
moved-inverted g (untold w) a w' h = not-typed (Moved g (untold w) a w') (untold (g w)) a w' refl h
moved-inverted g (depends w) a w' h = not-typed (Moved g (depends w) a w') (depends (g w)) a w' refl h
moved-inverted g (fails f fs w) a w' h = not-typed (Moved g (fails f fs w) a w') (fails f fs (g w)) a w' refl h

-- ---- parts one after another
-- one more part beside those before, which are typed
pub added-first : {A B C : Type 0} (v : Verdict A) (m : Judging B) (g : A × B → Judging C) (c : C) (w' : Walk) → both v m ▷ g ≡ typed c w' → First v
added-first v m g c w' h =
    let (x, u, k, l) = then-inverted (both v m) g c w' h in
    let (w, i, j) = both_by-inverted v (λ _. m) x u k in
    (x.0, w, i)

pub asked-first : {A B C : Type 0} (v : Verdict A) (f : Option A → Judging B) (g : A × B → Judging C) (c : C) (w' : Walk) → both_by v f ▷ g ≡ typed c w' → First v
asked-first v f g c w' h =
    let (x, u, k, l) = then-inverted (both_by v f) g c w' h in
    let (w, i, j) = both_by-inverted v f x u k in
    (x.0, w, i)

pub then-first : {A B : Type 0} (v : Verdict A) (f : A → Judging B) (b : B) (w' : Walk) → v ▷ f ≡ typed b w' → First v
then-first v f b w' h =
    let (a, w, k, l) = then-inverted v f b w' h in
    (a, w, k)

abbrev pub Added : {A B C : Type 0} → A → Walk → (Option A → Judging B) → (A × B → Judging C) → C → Walk → Type 0
Added {B = B} a w f g c w' = (b : B) × (w₁ : Walk) × (f (Some a) w ≡ typed b w₁) × (g (a, b) w₁ ≡ typed c w')

pub asked-inverted : {A B C : Type 0} (a : A) (w : Walk) (f : Option A → Judging B) (g : A × B → Judging C) (c : C) (w' : Walk) → both_by (typed a w) f ▷ g ≡ typed c w' → Added a w f g c w'
asked-inverted a w f g c w' h =
    let (x, u, k, l) = then-inverted (both_by (typed a w) f) g c w' h in
    let i : (a ≡ x.0) × (f (Some a) w ≡ typed x.1 u) = beside_typed-inverted a (f (Some a) w) x u k in
    (x.1, u, i.1, subst (λ y. g (y, x.1) u ≡ typed c w') (sym i.0) l)

pub added-inverted : {A B C : Type 0} (a : A) (w : Walk) (m : Judging B) (g : A × B → Judging C) (c : C) (w' : Walk) → both (typed a w) m ▷ g ≡ typed c w' → Added a w (λ _. m) g c w'
added-inverted a w m g c w' h = asked-inverted a w (λ _. m) g c w' h
