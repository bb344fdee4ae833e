-- The looks at a program.
use Rattle.std.proofs.Common.{◌≡◌, ◌≢◌, ◌∙◌, List, [], map, Option, Some, Result, Err, refl, sym, ap, subst}
use Rattle.sx_tree.specs.declared.declarations.Item.{Item}
use Rattle.sx_functions.specs.declared.accessing.OwnNames.{OwnNames}
use Rattle.sx_scope.specs.declared.stop.TypeStop.{TypeStop}
use Rattle.sx_scope.specs.declared.stop.TypeStop.TheVariants.{Typing, TooWide, Late, NoMemory}
use Rattle.sx_scope.specs.declared.declarations.Known.{Known}
use Rattle.sx_scope.specs.declared.walk.Found.{Found}
use Rattle.sx_scope.specs.declared.walk.Found.TheVariants as founds
use Rattle.sx_scope.specs.declared.walk.Walk.{Walk}
use Rattle.sx_scope.specs.Verdict.{Answers, Verdict, found, typed}
use Rattle.sx_check_decl.specs.declared.items.Blame.TheVariants as blames
use Rattle.sx_check_decl.specs.declared.items.Program.{Program}
use Rattle.sx_check_decl.specs.declared.items.Settled.{Settled}
use Rattle.sx_heads.specs.Heads.{at}
use Rattle.sx_tables.specs.Names.{no_numbers}
use Rattle.sx_bodies.specs.Literals.{Tells}
use Rattle.sx_check_decl.specs.Items.{no_program, program, run_items}
use Rattle.sx_check_decl.specs.Looks.{judged, judged_again, plain, unless_told, without_circle}

module _ (x : Settled) (own : OwnNames) (is : List Item) where
  again_told : (v again : Verdict Program) (o : Found Program) (w : Walk) → ((p : Program) → o ≢ founds.Typed p) → v ≡ found o w → unless_told v again ≡ again
  again_told v again (founds.Typed p) w not e = absurd (not p refl)
  again_told v again founds.Untold w not e = ap (λ u. unless_told u again) e
  again_told v again founds.Depends w not e = ap (λ u. unless_told u again) e

  typed_told : (v again : Verdict Program) (o : Found Program) (p : Program) (w : Walk) → o ≡ founds.Typed p → v ≡ found o w → unless_told v again ≡ typed p w
  typed_told v again o p w is e = ap (λ u. unless_told u again) (e ∙ ap (λ q. found q w) is)

  -- a look in which a node fails tells all
  pub failing_told : (v again : Verdict Program) (e : TypeStop) (now : Walk) → Answers {A = Program} (Err e) now v → Answers {A = Program} (Err e) now (unless_told v again)
  failing_told v again (Typing kind n) now (fs, w, h) = (fs, w, ap (λ u. unless_told u again) h)
  failing_told v again (TooWide n) now (fs, w, h) = (fs, w, ap (λ u. unless_told u again) h)
  failing_told v again (Late at global) now h = absurd h
  failing_told v again NoMemory now h = tt

  -- the items, with these things known and these faults, judged from where the walk stands
  abbrev pub with_those : List Known → List (Option TypeStop) → Settled
  with_those ks os = record x { declarations = record x.declarations { given = ks }; stops = os }

  abbrev pub run_from : Settled → Walk → Verdict Program
  run_from s w = run_items s own blames.Others (typed no_program w) [] no_numbers (Some 0) is

  pub first_look : (ks : List Known) (os : List (Option TypeStop)) (w : Walk) → ks ≡ map without_circle x.declarations.given → os ≡ [] → w ≡ at 0 → run_from (with_those ks os) w ≡ program (plain x) own blames.Others is
  first_look ks os w known none start =
      ap (λ (k : List Known). run_from (with_those k os) w) known
      ∙ ap (λ (s : List (Option TypeStop)). run_from (with_those (map without_circle x.declarations.given) s) w) none
      ∙ ap (run_from (plain x)) start

  -- as it was at first
  with-same : (ks : List Known) (os : List (Option TypeStop)) → ks ≡ x.declarations.given → os ≡ x.stops → judged_again (with_those ks os) own is ≡ judged_again x own is
  with-same ks os known stops =
      ap (λ (k : List Known). judged_again (with_those k os) own is) known
      ∙ ap (λ (s : List (Option TypeStop)). judged_again (with_those x.declarations.given s) own is) stops

  pub second_look : (ks : List Known) (os : List (Option TypeStop)) (o : Found Program) (w now : Walk) (r : Result Program TypeStop) →
      ks ≡ x.declarations.given → os ≡ x.stops → ((p : Program) → o ≢ founds.Typed p) → program (plain x) own blames.Others is ≡ found o w → Tells r now (judged_again (with_those ks os) own is) → Tells r now (judged x own is)
  second_look ks os o w now r known stops not first tells =
      subst (λ (v : Verdict Program). Tells r now v) (with-same ks os known stops ∙ sym (again_told (program (plain x) own blames.Others is) (judged_again x own is) o w not first)) tells

  pub first_typed : (o : Found Program) (p : Program) (w : Walk) → o ≡ founds.Typed p → program (plain x) own blames.Others is ≡ found o w → judged x own is ≡ typed p w
  first_typed o p w same e = typed_told (program (plain x) own blames.Others is) (judged_again x own is) o p w same e

  pub second_typed : (o : Found Program) (p : Program) (w : Walk) → o ≡ founds.Typed p → program x own blames.Others is ≡ found o w → judged_again x own is ≡ typed p w
  second_typed o p w same e = typed_told (program x own blames.Others is) (program x own blames.Itself is) o p w same e

  -- the last
  pub third_look : (o : Found Program) (w now : Walk) (r : Result Program TypeStop) → ((p : Program) → o ≢ founds.Typed p) → program x own blames.Others is ≡ found o w → Tells r now (program x own blames.Itself is) → Tells r now (judged_again x own is)
  third_look o w now r not first tells =
      subst (λ (v : Verdict Program). Tells r now v) (sym (again_told (program x own blames.Others is) (program x own blames.Itself is) o w not first)) tells
