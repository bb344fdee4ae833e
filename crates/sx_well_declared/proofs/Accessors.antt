-- Accessors and observers are judged typed exactly where the rules say it.
use Rattle.std.proofs.Common.{◌≡◌, ◌∙◌, ℕ, ◌+◌, ◌≤◌, Bool, true, false, not, ◌&&◌, ◌||◌, nat_le, List, [], ◌∷◌, drop, length, Option, Some, None, cond, refl, sym, ap, subst, arith, true≢false}
use Rattle.std.specs.List.{list_any}
use Rattle.std.proofs.lemmas.Bool.{le-leb, leb-true}
use Rattle.sx_span.specs.declared.places.Node.{Node}
use Rattle.sx_tree.specs.declared.declarations.Accessor.{Accessor}
use Rattle.sx_types.specs.Words.{most_words}
use Rattle.sx_typed.specs.declared.code.Statement.{Statement as TypedStatement}
use Rattle.sx_typed.specs.declared.program.Mention.{Mention}
use Rattle.sx_scope.specs.declared.declarations.Declarations.{Declarations}
use Rattle.sx_scope.specs.declared.stop.TypeKind.TheVariants as kind
use Rattle.sx_scope.specs.declared.walk.Local.{Local}
use Rattle.sx_scope.specs.declared.walk.LocalKind.TheVariants as local_kind
use Rattle.sx_scope.specs.declared.walk.Walk.{Walk}
use Rattle.sx_scope.specs.Verdict.{Verdict, typed, ◌▷◌, both, moved}
use Rattle.sx_scope.specs.Walks.{node, advanced, with_local}
use Rattle.sx_bodies.specs.Statements.{fresh, is_fresh, is_reserved, is_taken, lacks_return, local_named, unless_taken}
use Rattle.sx_bodies.specs.Literals.{total, with_literal}
use Rattle.sx_check_expr.specs.Judge.{judged_block}
use Rattle.sx_heads.specs.Widths.{parameter_words, self_words}
use Rattle.sx_functions.specs.declared.accessing.Accessed.{Accessed}
use Rattle.sx_functions.specs.declared.accessing.OwnNames.{OwnNames}
use Rattle.sx_functions.specs.Accessors.{AccessorParts, accessor, accessor_added, accessor_body, accessor_parts, gives_in, is_own, known_words, modifies, narrow_accessor, nothing_more, own_declared, own_name, own_narrow, own_parameter, parts_of, returning, run_accessors, takes, takes_surely, took, typed_accessor}
use Rattle.sx_functions.specs.Places.{left}
use Rattle.sx_well_typed.specs.LiteralRules.{mentioned_since}
use Rattle.sx_well_typed.proofs.Verdicts.{First, same-walk, then-typed, then-inverted, both-typed, both_by-inverted, need-typed, need-inverted, moved-typed, moved-inverted, added-first, added-inverted}
use Rattle.sx_well_declared.specs.Accessors.{AccessorDeclared, AccessorsDeclared, OwnParameter, accessor_place, is_narrow_accessor}
use Rattle.sx_well_declared.proofs.Bodies.{body-told, body-derived}
use Rattle.sx_well_declared.proofs.Conditions.{not-so, need_narrow-typed, need_narrow-inverted, placed}

-- what is fresh is not taken
untaken : (a b : Bool) → not (a || b) ≡ true → b ≡ false
untaken true b h = absurd (true≢false (sym h))
untaken false b h = not-so b h

-- a parameter less takes no more words
fewer : (s t : Bool) (a b k m : ℕ) → nat_le (a + (b + cond (s || t) k 0)) m ≡ true → nat_le (a + (b + cond s k 0)) m ≡ true
fewer true t a b k m h = h
fewer false false a b k m h = h
fewer false true a b k m h =
    let i : a + (b + k) ≤ m = leb-true (a + (b + k)) m h in
    le-leb (a + (b + 0)) m (omega arith)

module _ (d : Declarations) (names : OwnNames) (c : Accessed) (a : Accessor) where
  -- ---- its own parameter
  abbrev own_local : ℕ → Node → Local
  own_local x n = local_named x n local_kind.Constant false c.ty

  new-local : (x : ℕ) (n : Node) (w : Walk) → is_fresh d c.from x w ≡ true → unless_taken c.from (own_local x n) w ≡ with_local (own_local x n) w
  new-local x n w h = ap (λ b. cond b w (with_local (own_local x n) w)) (untaken (is_reserved d x) (is_taken c.from x w) h)

  own-told : (n : Node) (w v : Walk) → OwnParameter d names c a n w v → own_parameter d names c a n w ≡ typed tt v
  own-told n _ _ (OwnParameter.of_getter w k) = ap (λ b. cond b (own_declared d c n (own_name names a)) (typed tt) w) k
  own-told n _ _ (OwnParameter.unnamed w k o) =
      ap (λ b. cond b (own_declared d c n (own_name names a)) (typed tt) w) k ∙ ap (λ o. own_declared d c n o w) o
  own-told n _ _ (OwnParameter.named x w k o new) =
      ap (λ b. cond b (own_declared d c n (own_name names a)) (typed tt) w) k ∙ ap (λ o. own_declared d c n o w) o
      ∙ moved-typed (unless_taken c.from (own_local x n)) (fresh d c.from x n w) tt w (need-typed (is_fresh d c.from x w) kind.Duplicate n (typed tt) w (typed tt w) new refl)
      ∙ ap (typed tt) (new-local x n w new)

  named-derived : (n : Node) (w v : Walk) (o : Option ℕ) → modifies a.kind ≡ true → own_name names a ≡ o → own_declared d c n o w ≡ typed tt v → OwnParameter d names c a n w v
  named-derived n w v None k e h = subst (λ z. OwnParameter d names c a n w z) (same-walk tt tt w v h) (OwnParameter.unnamed w k e)
  named-derived n w v (Some x) k e h =
      let (u, first, behind) = moved-inverted (unless_taken c.from (own_local x n)) (fresh d c.from x n w) tt v h in
      let (new, same) = need-inverted (is_fresh d c.from x w) kind.Duplicate n (typed tt) w tt u first in
      subst (λ z. OwnParameter d names c a n w z) (sym (new-local x n w new) ∙ ap (unless_taken c.from (own_local x n)) (same-walk tt tt w u same) ∙ behind)
      (OwnParameter.named x w k e new)

  own-derived : (n : Node) (w v : Walk) (b : Bool) → modifies a.kind ≡ b → cond b (own_declared d c n (own_name names a)) (typed tt) w ≡ typed tt v → OwnParameter d names c a n w v
  own-derived n w v true k h = named-derived n w v (own_name names a) k refl h
  own-derived n w v false k h = subst (λ z. OwnParameter d names c a n w z) (same-walk tt tt w v h) (OwnParameter.of_getter w k)

  -- ---- what it has too many words for
  few-surely : (n : Node) (ms : List Mention) → is_narrow_accessor d c a (takes a n ms) ≡ true → is_narrow_accessor d c a (takes_surely a) ≡ true
  few-surely n ms h =
      fewer (takes_surely a) (modifies a.kind && list_any (is_own n) ms) (self_words d.types (modifies a.kind) c.owner) (total (parameter_words d.types) c.parameters) (known_words d.types c.ty) most_words h

  -- ---- an accessor
  abbrev own_at : Node → Walk → Verdict (Unit {0})
  own_at n u = own_parameter d names c a n u ▷ own_narrow d c a n

  abbrev both_at : Node → Walk → Verdict (Unit {0} × List TypedStatement)
  both_at n u = both (own_at n u) (accessor_body d c a)

  abbrev parts_at : Node → Walk → Verdict AccessorParts
  parts_at n u = accessor_parts d names c a n u

  pub accessor-told : (w v : Walk) → AccessorDeclared d names c a w v → accessor d names c a w ≡ typed tt v
  accessor-told _ _ (AccessorDeclared.an_accessor ss w w₁ v own body few) =
      let n : Node = node w.next in
      let u : Walk = advanced 1 w in
      let t : Bool = takes a n (mentioned_since w v) in
      let x : AccessorParts = (t, ss) in
      let is = body-told d a.body (accessor_place c a) w₁ v ss body in
      let first : own_at n u ≡ typed tt w₁ =
      then-typed (own_parameter d names c a n u) (own_narrow d c a n) tt w₁ (typed tt w₁) (own-told n u w₁ own)
      (need_narrow-typed (is_narrow_accessor d c a (takes_surely a)) n (typed tt) w₁ (typed tt w₁) (few-surely n (mentioned_since w v) few) refl) in
      let second : both_at n u ≡ typed (tt, ss) v = both-typed (own_at n u) (accessor_body d c a) tt w₁ ss v first is.0 in
      let taking : took d c a n (length w.mentions) (tt, ss) v ≡ typed x v =
      then-typed (narrow_accessor d c a n t v) (parts_of t ss) tt v (typed x v) (need_narrow-typed (is_narrow_accessor d c a t) n (typed tt) v (typed tt v) few refl) refl in
      let all : parts_at n u ≡ typed x v = then-typed (both_at n u) (took d c a n (length u.mentions)) (tt, ss) v (typed x v) second taking in
      let checked : parts_at n u ▷ returning d c a n ≡ typed x v =
      then-typed (parts_at n u) (returning d c a n) x v (typed x v) all
      (need-typed (not (lacks_return (gives_in c.ty a.kind) (judged_block d a.body))) kind.MissingReturn n (typed x) v (typed x v) (ap not is.1) refl) in
      then-typed (moved (left u) (parts_at n u ▷ returning d c a n)) (accessor_added names c a n (length u.literals)) x (left u v)
      (typed tt (with_literal (length w.literals) (typed_accessor names c a n x) (left w v))) (moved-typed (left u) (parts_at n u ▷ returning d c a n) x v checked) refl

  took-inverted : (n : Node) (k : ℕ) (z : Unit {0} × List TypedStatement) (w : Walk) (y : AccessorParts) (v : Walk) → took d c a n k z w ≡ typed y v →
      (is_narrow_accessor d c a (takes a n (drop k w.mentions)) ≡ true) × (typed (takes a n (drop k w.mentions), z.1) w ≡ typed y v)
  took-inverted n k z w y v h =
      let t : Bool = takes a n (drop k w.mentions) in
      let (p, u, first, made) = then-inverted (narrow_accessor d c a n t w) (parts_of t z.1) y v h in
      let (few, same) = need_narrow-inverted (is_narrow_accessor d c a t) n (typed tt) w p u first in
      (few, ap (typed (t, z.1)) (same-walk tt p w u same) ∙ made)

  pub accessor-derived : (w v : Walk) → accessor d names c a w ≡ typed tt v → AccessorDeclared d names c a w v
  accessor-derived w v h =
      let n : Node = node w.next in
      let u : Walk = advanced 1 w in
      let k : ℕ = length w.literals in
      let (x, w₄, i, added) = then-inverted (moved (left u) (parts_at n u ▷ returning d c a n)) (accessor_added names c a n k) tt v h in
      let (w₃, j, behind) = moved-inverted (left u) (parts_at n u ▷ returning d c a n) x w₄ i in
      let (y, w₂, l, returned) = then-inverted (parts_at n u) (returning d c a n) x w₃ j in
      let (given, same) = need-inverted (not (lacks_return (gives_in c.ty a.kind) (judged_block d a.body))) kind.MissingReturn n (typed y) w₂ x w₃ returned in
      let (z, s, m, taking) = then-inverted (both_at n u) (took d c a n (length u.mentions)) y w₂ l in
      let (w₁, first, body) = both_by-inverted (own_at n u) (λ _. accessor_body d c a) z s m in
      let (o, r, own, surely) = then-inverted (own_parameter d names c a n u) (own_narrow d c a n) z.0 w₁ first in
      let (few-own, same-own) = need_narrow-inverted (is_narrow_accessor d c a (takes_surely a)) n (typed tt) r z.0 w₁ surely in
      let (few, taken) = took-inverted n (length w.mentions) z s y w₂ taking in
      let t : Bool = takes a n (mentioned_since w s) in
      let rule : AccessorDeclared d names c a w (with_literal k (typed_accessor names c a n (t, z.1)) (left w s)) =
      AccessorDeclared.an_accessor z.1 w w₁ s (own-derived n u w₁ (modifies a.kind) refl (own ∙ ap (typed tt) (same-walk tt z.0 r w₁ same-own)))
      (body-derived d a.body (accessor_place c a) w₁ s z.1 body (not-so (lacks_return (gives_in c.ty a.kind) (judged_block d a.body)) given)) few in
      placed (λ z. AccessorDeclared d names c a w z) (λ b e. with_literal k (typed_accessor names c a n b) e) (left w) (t, z.1) x s w₃ w₄ v (taken ∙ same) behind
      (same-walk tt tt (with_literal k (typed_accessor names c a n x) w₄) v added) rule

module _ (d : Declarations) (names : OwnNames) (c : Accessed) where
  -- ---- accessors one after another
  pub accessors-told : (as_ : List Accessor) (w v : Walk) → AccessorsDeclared d names c as_ w v → run_accessors d names c (typed tt w) as_ ≡ typed tt v
  accessors-told _ _ _ (AccessorsDeclared.accessors_end w) = refl
  accessors-told _ _ _ (AccessorsDeclared.accessors_more a as_ w w₁ v one more) =
      ap (λ r. run_accessors d names c (r ▷ nothing_more) as_) (both-typed (typed tt w) (accessor d names c a) tt w tt w₁ refl (accessor-told d names c a w w₁ one)) ∙ accessors-told as_ w₁ v more

  accessors-first : (r : Verdict (Unit {0})) (as_ : List Accessor) (t : Unit {0}) (v : Walk) → run_accessors d names c r as_ ≡ typed t v → First r
  accessors-first r [] t v h = (t, v, h)
  accessors-first r (a ∷ as_) t v h =
      let (x, w, one) = accessors-first (both r (accessor d names c a) ▷ nothing_more) as_ t v h in
      added-first r (accessor d names c a) nothing_more x w one

  pub accessors-derived : (as_ : List Accessor) (w v : Walk) → run_accessors d names c (typed tt w) as_ ≡ typed tt v → AccessorsDeclared d names c as_ w v
  accessors-derived [] w v h = subst (λ z. AccessorsDeclared d names c [] w z) (same-walk tt tt w v h) (AccessorsDeclared.accessors_end w)
  accessors-derived (a ∷ as_) w v h =
      let (x, w₂, one) = accessors-first (both (typed tt w) (accessor d names c a) ▷ nothing_more) as_ tt v h in
      let (t, w₁, first, made) = added-inverted tt w (accessor d names c a) nothing_more x w₂ one in
      AccessorsDeclared.accessors_more a as_ w w₁ v (accessor-derived d names c a w w₁ first)
      (accessors-derived as_ w₁ v (ap (λ r. run_accessors d names c r as_) (made ∙ sym one) ∙ h))
