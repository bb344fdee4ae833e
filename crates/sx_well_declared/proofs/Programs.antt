-- Programs are judged typed, and trees answered by typed trees, exactly where the rules say it.
use Rattle.std.proofs.Common.{◌≡◌, ◌∙◌, List, [], Some, Ok, refl, ap, subst}
use Rattle.sx_tree.specs.declared.declarations.Item.{Item}
use Rattle.sx_tree.specs.declared.tree.Tree.{Tree}
use Rattle.sx_typed.specs.declared.program.Typed.{Typed}
use Rattle.sx_scope.specs.declared.walk.Walk.{Walk}
use Rattle.sx_scope.specs.Verdict.{Verdict, typed, untold, depends, fails}
use Rattle.sx_heads.specs.Heads.{at}
use Rattle.sx_tables.specs.Names.{no_numbers}
use Rattle.sx_functions.specs.declared.accessing.OwnNames.{OwnNames}
use Rattle.sx_check_decl.specs.declared.items.Blame.{Blame}
use Rattle.sx_check_decl.specs.declared.items.Blame.TheVariants as blames
use Rattle.sx_check_decl.specs.declared.items.Program.{Program}
use Rattle.sx_check_decl.specs.declared.items.Settled.{Settled}
use Rattle.sx_check_decl.specs.Items.{no_program, program}
use Rattle.sx_check_decl.specs.Looks.{IsDecided, judged, judged_again, plain, unless_told}
use Rattle.sx_check_decl.specs.Program.{Checked}
use Rattle.sx_check_decl.specs.Special.{own_names}
use Rattle.sx_well_declared.specs.Programs.{AllDeclared, ProgramDeclared, TreeDeclared}
use Rattle.sx_well_declared.proofs.Items.{items-told, items-derived}

-- ---- one look
module _ (x : Settled) (names : OwnNames) (b : Blame) (is : List Item) (p : Program) (v : Walk) where
  all-told : AllDeclared x names is p v → program x names b is ≡ typed p v
  all-told h = items-told x names b [] no_numbers (Some 0) is no_program (at 0) p v h

  all-derived : program x names b is ≡ typed p v → AllDeclared x names is p v
  all-derived h = items-derived x names b [] no_numbers (Some 0) is no_program (at 0) p v h

-- ---- another look, where one leaves it open
again-told : (r again : Verdict Program) → ¬ IsDecided r → unless_told r again ≡ again
again-told (typed p w) again undecided = absurd (undecided tt)
again-told (untold w) again undecided = refl
again-told (depends w) again undecided = refl
again-told (fails f fs w) again undecided = absurd (undecided tt)

module _ (x : Settled) (names : OwnNames) (is : List Item) (p : Program) (v : Walk) where
  again-derived : judged_again x names is ≡ typed p v → AllDeclared x names is p v
  again-derived h = by (program x names blames.Others is) refl h
    where
      by : (r : Verdict Program) → program x names blames.Others is ≡ r → unless_told r (program x names blames.Itself is) ≡ typed p v → AllDeclared x names is p v
      by (typed q w) e h = all-derived x names blames.Others is p v (e ∙ h)
      by (untold w) e h = all-derived x names blames.Itself is p v h
      by (depends w) e h = all-derived x names blames.Itself is p v h
      by (fails f fs w) e h = all-derived x names blames.Others is p v (e ∙ h)

  pub program-told : ProgramDeclared x names is p v → judged x names is ≡ typed p v
  program-told (ProgramDeclared.a_program _ _ all) = ap (λ r. unless_told r (judged_again x names is)) (all-told (plain x) names blames.Others is p v all)
  program-told (ProgramDeclared.a_program_with_circles _ _ undecided all) =
      again-told (program (plain x) names blames.Others is) (judged_again x names is) undecided
      ∙ ap (λ r. unless_told r (program x names blames.Itself is)) (all-told x names blames.Others is p v all)

  pub program-derived : judged x names is ≡ typed p v → ProgramDeclared x names is p v
  program-derived h = by (program (plain x) names blames.Others is) refl h
    where
      by : (r : Verdict Program) → program (plain x) names blames.Others is ≡ r → unless_told r (judged_again x names is) ≡ typed p v → ProgramDeclared x names is p v
      by (typed q w) e h = ProgramDeclared.a_program p v (all-derived (plain x) names blames.Others is p v (e ∙ h))
      by (untold w) e h = ProgramDeclared.a_program_with_circles p v (λ d. subst IsDecided e d) (again-derived h)
      by (depends w) e h = ProgramDeclared.a_program_with_circles p v (λ d. subst IsDecided e d) (again-derived h)
      by (fails f fs w) e h = ProgramDeclared.a_program p v (all-derived (plain x) names blames.Others is p v (e ∙ h))

-- ---- a tree
pub tree-told : (tree : Tree) (t : Typed) → TreeDeclared tree t → Checked tree (Ok t)
tree-told tree t h = (
  h.settled,
  h.are_settled,
  record {
    program = h.program;
    walk = h.walk;
    found = program-told h.settled (own_names tree.names.items) tree.items h.program h.walk h.declared;
    narrow = h.narrow;
    is_typed = h.is_typed;
    none_late = h.none_late;
  },
)

pub tree-derived : (tree : Tree) (t : Typed) → Checked tree (Ok t) → TreeDeclared tree t
tree-derived tree t (x, are, by) = record {
  settled = x;
  are_settled = are;
  program = by.program;
  walk = by.walk;
  declared = program-derived x (own_names tree.names.items) tree.items by.program by.walk by.found;
  narrow = by.narrow;
  is_typed = by.is_typed;
  none_late = by.none_late;
}
