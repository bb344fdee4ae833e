-- What is told by one judgement is one answer.
use Rattle.std.proofs.Common.{◌≡◌, List, Option, Some, None, option_map, slice_get, Result, Ok, Err, sym, ap, ap₂, subst, ◌∙◌, inl, inr}
use Rattle.std.proofs.lemmas.Option.{none-some, same_Some}
use Rattle.sx_span.specs.declared.places.Node.{Node}
use Rattle.sx_tree.specs.declared.tree.Tree.{Tree}
use Rattle.sx_types.specs.declared.types.Types.{Types}
use Rattle.sx_typed.specs.declared.program.Typed.{Typed}
use Rattle.sx_scope.specs.declared.stop.TypeKind.{TypeKind}
use Rattle.sx_scope.specs.declared.stop.TypeStop.{TypeStop}
use Rattle.sx_scope.specs.declared.stop.TypeStop.TheVariants.{Typing, TooWide, Late, NoMemory}
use Rattle.sx_scope.specs.declared.walk.Walk.{Walk}
use Rattle.sx_scope.specs.Verdict.{Verdict, typed, untold, depends, fails}
use Rattle.sx_check_decl.specs.declared.items.Program.{Program}
use Rattle.sx_check_decl.specs.declared.items.Settled.{Settled}
use Rattle.sx_check_decl.specs.Captures.{crowded}
use Rattle.sx_check_decl.specs.Looks.{judged}
use Rattle.sx_check_decl.specs.Program.{Checked, IsCrowdedBy, IsLateBy, IsTyped, IsTypedBy, Judges, Tells, node_of_global}
use Rattle.sx_check_decl.specs.Special.{own_names, special_names}
use Rattle.sx_one_answer.specs.Agree.{Agree}
use Rattle.sx_one_answer.specs.Same.{SameTyped}
use Rattle.sx_one_answer.proofs.Programs.{first_once, late_too, typed_once}
use Rattle.sx_one_answer.proofs.Settled.{settled_once}

-- what a verdict has
abbrev program_of : Verdict Program → Option (Program × Walk)
program_of (typed p w) = Some (p, w)
program_of (untold w) = None
program_of (depends w) = None
program_of (fails f fs w) = None

abbrev stop_of : Verdict Program → Option TypeStop
stop_of (typed p w) = None
stop_of (untold w) = None
stop_of (depends w) = None
stop_of (fails f fs w) = Some f

module _ (tree : Tree) (types : Types) where
  -- programs that one verdict has are the same
  one_program : (v : Verdict Program) (p q : Program) (w x : Walk) → v ≡ typed p w → v ≡ typed q x → ◌≡◌ {A = Program × Walk} (p, w) (q, x)
  one_program v p q w x e f = same_Some (p, w) (q, x) (ap program_of (sym e ∙ f))

  not_both : {P : Type 0} (v : Verdict Program) (p : Program) (w x : Walk) (f : TypeStop) (fs : List TypeStop) → v ≡ typed p w → v ≡ fails f fs x → P
  not_both v p w x f fs e h = absurd (none-some f (ap stop_of (sym e ∙ h)))

  one_stop : (v : Verdict Program) (f g : TypeStop) (fs gs : List TypeStop) (w x : Walk) → v ≡ fails f fs w → v ≡ fails g gs x → f ≡ g
  one_stop v f g fs gs w x e h = same_Some f g (ap stop_of (sym e ∙ h))

  both_typed : (v : Verdict Program) (p q : Program) (w x : Walk) (t u : Typed) → v ≡ typed p w → v ≡ typed q x → IsTyped tree types p w t → IsTyped tree types q x u → SameTyped t u
  both_typed v p q w x t u e f a b =
      typed_once tree types q x t u (subst (λ (y : Program × Walk). IsTyped tree types y.0 y.1 t) (one_program v p q w x e f) a) b

  -- closure literals that are too wide together, and those that aren't
  crowd_of : (v : Verdict Program) (p q : Program) (w x : Walk) → v ≡ typed p w → v ≡ typed q x → crowded types w.literals ≡ crowded types x.literals
  crowd_of v p q w x e f = ap (λ (y : Program × Walk). crowded types y.1.literals) (one_program v p q w x e f)

  narrow_or : {P : Type 0} (v : Verdict Program) (p : Program) (w : Walk) (n : Node) → v ≡ typed p w → crowded types w.literals ≡ None → IsCrowdedBy tree types n v → P
  narrow_or v p w n e narrow (q, x, f, wide) = absurd (none-some n (sym narrow ∙ crowd_of v p q w x e f ∙ wide))

  -- ---- two answers
  typed_late : {P : Type 0} (t : Typed) (at global : Node) (v : Verdict Program) → IsTypedBy tree types t v → IsLateBy tree types at global v → P
  typed_late t at global v a b =
      let same : SameTyped b.typed_tree t = both_typed v b.program a.program b.walk a.walk b.typed_tree t b.found a.found b.is_typed a.is_typed in
      let reach = b.late.reach in
      absurd (a.none_late reach.statement reach.global (late_too b.typed_tree t reach.statement reach.global same b.late.first.late))

  late_late : (at on global over : Node) (v : Verdict Program) → IsLateBy tree types at global v → IsLateBy tree types on over v → ◌≡◌ {A = TypeStop} (Late at global) (Late on over)
  late_late at on global over v a b =
      let t : Typed = a.typed_tree in
      let u : Typed = b.typed_tree in
      let same : SameTyped t u = both_typed v a.program b.program a.walk b.walk t u a.found b.found a.is_typed b.is_typed in
      let also : SameTyped u t = both_typed v b.program a.program b.walk a.walk u t b.found a.found b.is_typed a.is_typed in
      let reach = first_once t u a.late.reach b.late.reach same also a.late.first b.late.first in
      let starts = ap (λ (y : Program × Walk). y.0.starts) (one_program v a.program b.program a.walk b.walk a.found b.found) in
      let here : at ≡ on =
      same_Some at on (sym a.late.starts_at ∙ ap₂ (λ ns r. slice_get ns r.statement) starts reach ∙ b.late.starts_at) in
      let there : global ≡ over =
      same_Some global over (sym a.late.declared_at ∙ ap₂ (λ gs r. option_map node_of_global (slice_get gs r.global)) same.globals reach ∙ b.late.declared_at) in
      ap₂ (λ m n. Late m n) here there

  wide_wide : (m n : Node) (v : Verdict Program) → Tells tree types (Err (TooWide m)) v → Tells tree types (Err (TooWide n)) v → ◌≡◌ {A = TypeStop} (TooWide m) (TooWide n)
  wide_wide m n v (inl (fs, w, e)) (inl (gs, x, f)) = one_stop v (TooWide m) (TooWide n) fs gs w x e f
  wide_wide m n v (inl (fs, w, e)) (inr (q, x, f, wide)) = not_both v q x w (TooWide m) fs f e
  wide_wide m n v (inr (p, w, e, wide)) (inl (gs, x, f)) = not_both v p w x (TooWide n) gs e f
  wide_wide m n v (inr (p, w, e, wide)) (inr (q, x, f, broad)) = ap (λ k. TooWide k) (same_Some m n (sym wide ∙ crowd_of v p q w x e f ∙ broad))

  typed_wide : {P : Type 0} (p : Program) (w : Walk) (n : Node) (v : Verdict Program) → v ≡ typed p w → crowded types w.literals ≡ None → Tells tree types (Err (TooWide n)) v → P
  typed_wide p w n v e narrow (inl (fs, x, f)) = not_both v p w x (TooWide n) fs e f
  typed_wide p w n v e narrow (inr h) = narrow_or v p w n e narrow h

  typing_wide : (kind : TypeKind) (m n : Node) (v : Verdict Program) (fs : List TypeStop) (w : Walk) → v ≡ fails (Typing kind m) fs w → Tells tree types (Err (TooWide n)) v → ◌≡◌ {A = TypeStop} (Typing kind m) (TooWide n)
  typing_wide kind m n v fs w e (inl (gs, x, f)) = one_stop v (Typing kind m) (TooWide n) fs gs w x e f
  typing_wide kind m n v fs w e (inr (q, x, f, wide)) = not_both v q x w (Typing kind m) fs f e

  tells_agree : (r s : Result Typed TypeStop) (v : Verdict Program) → Tells tree types r v → Tells tree types s v → Agree r s
  tells_agree (Err NoMemory) (Ok u) v a b = tt
  tells_agree (Err NoMemory) (Err f) v a b = inl tt
  tells_agree (Ok t) (Err NoMemory) v a b = tt
  tells_agree (Err (Typing kind m)) (Err NoMemory) v a b = inr (inl tt)
  tells_agree (Err (TooWide m)) (Err NoMemory) v a b = inr (inl tt)
  tells_agree (Err (Late at global)) (Err NoMemory) v a b = inr (inl tt)
  tells_agree (Ok t) (Ok u) v a b = both_typed v a.program b.program a.walk b.walk t u a.found b.found a.is_typed b.is_typed
  tells_agree (Ok t) (Err (Typing kind n)) v a (fs, x, f) = not_both v a.program a.walk x (Typing kind n) fs a.found f
  tells_agree (Ok t) (Err (TooWide n)) v a b = typed_wide a.program a.walk n v a.found a.narrow b
  tells_agree (Ok t) (Err (Late at global)) v a b = typed_late t at global v a b
  tells_agree (Err (Typing kind m)) (Ok u) v (fs, w, e) b = not_both v b.program b.walk w (Typing kind m) fs b.found e
  tells_agree (Err (Typing kind m)) (Err (Typing other n)) v (fs, w, e) (gs, x, f) = inr (inr (one_stop v (Typing kind m) (Typing other n) fs gs w x e f))
  tells_agree (Err (Typing kind m)) (Err (TooWide n)) v (fs, w, e) b = inr (inr (typing_wide kind m n v fs w e b))
  tells_agree (Err (Typing kind m)) (Err (Late at global)) v (fs, w, e) b = not_both v b.program b.walk w (Typing kind m) fs b.found e
  tells_agree (Err (TooWide m)) (Ok u) v a b = typed_wide b.program b.walk m v b.found b.narrow a
  tells_agree (Err (TooWide m)) (Err (Typing kind n)) v a (gs, x, f) = inr (inr (sym (typing_wide kind n m v gs x f a)))
  tells_agree (Err (TooWide m)) (Err (TooWide n)) v a b = inr (inr (wide_wide m n v a b))
  tells_agree (Err (TooWide m)) (Err (Late at global)) v a b = typed_wide b.program b.walk m v b.found b.narrow a
  tells_agree (Err (Late at global)) (Ok u) v a b = typed_late u at global v b a
  tells_agree (Err (Late at global)) (Err (Typing kind n)) v a (gs, x, f) = not_both v a.program a.walk x (Typing kind n) gs a.found f
  tells_agree (Err (Late at global)) (Err (TooWide n)) v a b = typed_wide a.program a.walk n v a.found a.narrow b
  tells_agree (Err (Late at global)) (Err (Late on over)) v a b = inr (inr (late_late at on global over v a b))

judges_agree : (tree : Tree) (r s : Result Typed TypeStop) → Judges tree r → Judges tree s → Agree r s
judges_agree tree r s (x, is, told) (y, also, tells) =
    let same : x ≡ y = settled_once (special_names tree.names.items) tree.items x y is also in
    tells_agree tree y.declarations.types r s (judged y (own_names tree.names.items) tree.items)
    (subst (λ (z : Settled). Tells tree z.declarations.types r (judged z (own_names tree.names.items) tree.items)) same told) tells

pub agree : (tree : Tree) (r s : Result Typed TypeStop) → Checked tree r → Checked tree s → Agree r s
agree tree (Err NoMemory) (Ok u) a b = tt
agree tree (Err NoMemory) (Err f) a b = inl tt
agree tree (Ok t) (Err NoMemory) a b = tt
agree tree (Err (Typing kind m)) (Err NoMemory) a b = inr (inl tt)
agree tree (Err (TooWide m)) (Err NoMemory) a b = inr (inl tt)
agree tree (Err (Late at global)) (Err NoMemory) a b = inr (inl tt)
agree tree (Ok t) (Ok u) a b = judges_agree tree (Ok t) (Ok u) a b
agree tree (Ok t) (Err (Typing kind n)) a b = judges_agree tree (Ok t) (Err (Typing kind n)) a b
agree tree (Ok t) (Err (TooWide n)) a b = judges_agree tree (Ok t) (Err (TooWide n)) a b
agree tree (Ok t) (Err (Late on over)) a b = judges_agree tree (Ok t) (Err (Late on over)) a b
agree tree (Err (Typing kind m)) (Ok u) a b = judges_agree tree (Err (Typing kind m)) (Ok u) a b
agree tree (Err (Typing kind m)) (Err (Typing other n)) a b = judges_agree tree (Err (Typing kind m)) (Err (Typing other n)) a b
agree tree (Err (Typing kind m)) (Err (TooWide n)) a b = judges_agree tree (Err (Typing kind m)) (Err (TooWide n)) a b
agree tree (Err (Typing kind m)) (Err (Late on over)) a b = judges_agree tree (Err (Typing kind m)) (Err (Late on over)) a b
agree tree (Err (TooWide m)) (Ok u) a b = judges_agree tree (Err (TooWide m)) (Ok u) a b
agree tree (Err (TooWide m)) (Err (Typing other n)) a b = judges_agree tree (Err (TooWide m)) (Err (Typing other n)) a b
agree tree (Err (TooWide m)) (Err (TooWide n)) a b = judges_agree tree (Err (TooWide m)) (Err (TooWide n)) a b
agree tree (Err (TooWide m)) (Err (Late on over)) a b = judges_agree tree (Err (TooWide m)) (Err (Late on over)) a b
agree tree (Err (Late at global)) (Ok u) a b = judges_agree tree (Err (Late at global)) (Ok u) a b
agree tree (Err (Late at global)) (Err (Typing other n)) a b = judges_agree tree (Err (Late at global)) (Err (Typing other n)) a b
agree tree (Err (Late at global)) (Err (TooWide n)) a b = judges_agree tree (Err (Late at global)) (Err (TooWide n)) a b
agree tree (Err (Late at global)) (Err (Late on over)) a b = judges_agree tree (Err (Late at global)) (Err (Late on over)) a b
