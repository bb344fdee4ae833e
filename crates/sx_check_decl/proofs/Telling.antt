-- What the answer tells of a tree.
use Rattle.std.proofs.Common.{◌≡◌, inl, inr, List, None, Result, Ok, Err, refl, sym, subst}
use Rattle.sx_check_decl.specs.Captures.{crowded}
use Rattle.sx_check_decl.specs.Checked.{IsSettled}
use Rattle.sx_check_decl.specs.Looks.{judged}
use Rattle.sx_check_decl.specs.Program.{Checked, IsLateAt, IsTyped, Judges, Tells, TellsCrowded, TellsLate}
use Rattle.sx_check_decl.specs.Special.{own_names, special_names}
use Rattle.sx_check_decl.specs.declared.items.Program.{Program}
use Rattle.sx_check_decl.specs.declared.items.Settled.{Settled}
use Rattle.sx_functions.specs.declared.accessing.OwnNames.{OwnNames}
use Rattle.sx_heads.specs.Heads.{at}
use Rattle.sx_late.specs.Reaching.{NoneLate}
use Rattle.sx_scope.specs.declared.stop.TypeStop.{TypeStop}
use Rattle.sx_scope.specs.declared.stop.TypeStop.TheVariants.{Typing, TooWide, Late, NoMemory}
use Rattle.sx_scope.specs.declared.walk.Walk.{Walk}
use Rattle.sx_scope.specs.Verdict.{Answers, Verdict, typed}
use Rattle.sx_span.specs.declared.places.Node.{Node}
use Rattle.sx_tables.specs.declared.names.SpecialNames.{SpecialNames}
use Rattle.sx_tree.specs.declared.tree.Tree.{Tree}
use Rattle.sx_typed.specs.declared.program.Typed.{Typed}
use Rattle.sx_types.specs.declared.types.Types.{Types}

module _ (tree : Tree) (types : Types) (p : Program) (w : Walk) where
  -- of a program whose literals don't capture too much
  pub late_told : (t : Typed) (starts : List Node) (r : Result Typed TypeStop) → crowded types w.literals ≡ None → IsTyped tree types p w t → starts ≡ p.starts → TellsLate starts t r → Tells tree types r (typed p w)
  late_told t starts (Ok u) narrow is at (same, none) = record {
    program = p;
    walk = w;
    found = refl;
    narrow = narrow;
    is_typed = subst (λ (x : Typed). IsTyped tree types p w x) (sym same) is;
    none_late = subst (λ (x : Typed). NoneLate x) (sym same) none;
  }
  late_told t starts (Err (Typing kind n)) narrow is at h = absurd h
  late_told t starts (Err (TooWide n)) narrow is at h = absurd h
  late_told t starts (Err (Late place global)) narrow is at h = record {
    program = p;
    walk = w;
    typed_tree = t;
    found = refl;
    narrow = narrow;
    is_typed = is;
    late = subst (λ (ns : List Node). IsLateAt ns t place global) at h;
  }
  late_told t starts (Err NoMemory) narrow is at h = tt

  -- and of one whose literals do
  pub crowded_told : (e : TypeStop) → TellsCrowded types w.literals (Err e) → Tells tree types (Err e) (typed p w)
  crowded_told (Typing kind n) h = absurd h
  crowded_told (TooWide n) h = inr (p, w, refl, h)
  crowded_told (Late at global) h = absurd h
  crowded_told NoMemory h = tt

-- of items in which a node fails
pub failing_told : (tree : Tree) (types : Types) (e : TypeStop) (now : Walk) (v : Verdict Program) → Answers {A = Program} (Err e) now v → Tells tree types (Err e) v
failing_told tree types (Typing kind n) now v h = h
failing_told tree types (TooWide n) now v h = inl h
failing_told tree types (Late at global) now v h = absurd h
failing_told tree types NoMemory now v h = tt

checked : (tree : Tree) (r : Result Typed TypeStop) → Judges tree r → Checked tree r
checked tree (Ok t) h = h
checked tree (Err (Typing kind n)) h = h
checked tree (Err (TooWide n)) h = h
checked tree (Err (Late at global)) h = h
checked tree (Err NoMemory) h = tt

-- of a tree, by what is told of its items
pub tree_told : (tree : Tree) (s : SpecialNames) (own : OwnNames) (x : Settled) (r : Result Typed TypeStop) → s ≡ special_names tree.names.items → own ≡ own_names tree.names.items → IsSettled s tree.items x → Tells tree x.declarations.types r (judged x own tree.items) → Checked tree r
tree_told tree s own x r special_is own_is settled told =
    checked tree r (
      x,
      subst (λ (z : SpecialNames). IsSettled z tree.items x) special_is settled,
      subst (λ (z : OwnNames). Tells tree x.declarations.types r (judged x z tree.items)) own_is told,
    )
