-- A program whose declarations are settled: its faults rise, the first has the least number, and all lie among its nodes. So do the
-- nodes of its functions.
use Rattle.std.proofs.Common.{◌≡◌, ◌+◌, ◌≤◌, ℕ, List, [], All, Option, Some, None, is_some, length, map, slice_get, sym, subst, ap, arith}
use Rattle.sx_tree.specs.declared.code.Expr.{Expr}
use Rattle.sx_tree.specs.declared.declarations.Item.{Item}
use Rattle.sx_tree.specs.Nodes.{all_places}
use Rattle.sx_scope.specs.declared.declarations.Declarations.{Declarations}
use Rattle.sx_scope.specs.declared.stop.TypeStop.{TypeStop}
use Rattle.sx_scope.specs.declared.walk.Walk.{Walk}
use Rattle.sx_scope.specs.Verdict.{Verdict, typed, untold, depends, fails}
use Rattle.sx_scope.specs.Walks.{node}
use Rattle.sx_outline.specs.Outline.{nothing_visited}
use Rattle.sx_tables.specs.declared.names.SpecialNames.{SpecialNames}
use Rattle.sx_tables.specs.Names.{no_numbers}
use Rattle.sx_functions.specs.declared.accessing.OwnNames.{OwnNames}
use Rattle.sx_settle.specs.Settled.{Giving, Settling, giving_items, settled, unsettled}
use Rattle.sx_check_decl.specs.declared.items.Blame.TheVariants as blames
use Rattle.sx_check_decl.specs.declared.items.Settled.{Settled}
use Rattle.sx_check_decl.specs.Checked.{IsSettled, declared, outline, type_meant}
use Rattle.sx_check_decl.specs.Items.{program}
use Rattle.sx_check_decl.specs.Looks.{judged, judged_again, plain, unless_told}
use Rattle.sx_check_decl.specs.declared.items.Program.{Program}
use Rattle.sx_order.specs.Order.{FunctionsRise, Lies, Start, starting, Stands, Spans, number_of}
use Rattle.sx_order.proofs.Spans.{first-is-least}
use Rattle.sx_order_code.specs.Code.{CodeSpans}
use Rattle.sx_order_items.specs.Below.{ProgramBelow}
use Rattle.sx_order_items.specs.Stops.{GivenStops, ItemsStop, StopsLie}
use Rattle.sx_order_items.specs.Written.{NoInitialisers}
use Rattle.sx_order_items.proofs.Items.{program-spans}
use Rattle.sx_order_items.proofs.Meeting.{items-stop}
use Rattle.sx_order_items.proofs.Settled.{nothing, settled-lies}

-- no faults lie anywhere
none-lie : (gs : List Giving) → StopsLie gs []
none-lie gs i g there = by g.value
  where
    by : (o : Option Expr) → GivenStops [] g.node.0 i o
    by None = tt
    by (Some e) = λ f q. absurd (nothing f q)

-- one of two looks
unless_told-spans : {old : Start} {Q : Program → Type 0} (lo hi : ℕ) (v again : Verdict Program) → Spans old lo hi Q v → Spans old lo hi Q again → Spans old lo hi Q (unless_told v again)
unless_told-spans lo hi (typed p w) again first second = first
unless_told-spans lo hi (untold w) again first second = second
unless_told-spans lo hi (depends w) again first second = second
unless_told-spans lo hi (fails f fs w) again first second = first

module _ (codes : (d : Declarations) → CodeSpans d) (s : SpecialNames) (is : List Item) (x : Settled) (settled_so : IsSettled s is x) where
  plain-stops : ItemsStop [] 0 no_numbers is
  plain-stops =
      let whole : List Giving = giving_items is (outline s is).items in
      items-stop (type_meant s is) [] whole (none-lie whole) is nothing_visited no_numbers (λ j. let start : j ≡ j + 0 = omega arith in ap (slice_get whole) start)

  settled-stops : ItemsStop x.stops 0 no_numbers is
  settled-stops =
      let (first, second, a, b, with_those) = settled_so in
      let (holders, told, structures, classes, same) = with_those in
      let whole : List Giving = giving_items is (outline s is).items in
      let d : Declarations = declared s (map is_some x.structures) (map is_some x.classes) second (outline s is).nodes is (outline s is).items in
      let stops : x.stops ≡ (settled whole (unsettled d)).stops = ap (λ (t : Settling). t.stops) same in
      let lie : StopsLie whole x.stops = subst (StopsLie whole) (sym stops) (settled-lies codes whole d) in
      items-stop (type_meant s is) x.stops whole lie is nothing_visited no_numbers (λ j. let start : j ≡ j + 0 = omega arith in ap (slice_get whole) start)

  module _ (names : OwnNames) (none : NoInitialisers is) where
    pub judged-spans : Spans (starting [] 0) 0 (length (all_places is)) (ProgramBelow (length (all_places is))) (judged x names is)
    judged-spans =
        unless_told-spans 0 (length (all_places is)) (program (plain x) names blames.Others is) (judged_again x names is)
        (program-spans (plain x) (codes (plain x).declarations) names blames.Others is plain-stops none)
        (unless_told-spans 0 (length (all_places is)) (program x names blames.Others is) (program x names blames.Itself is)
        (program-spans x (codes x.declarations) names blames.Others is settled-stops none)
        (program-spans x (codes x.declarations) names blames.Itself is settled-stops none))

    -- the first fault is one of the program's nodes, and none has a lesser number
    pub first-fault : (f : TypeStop) (fs : List TypeStop) (w : Walk) → judged x names is ≡ fails f fs w → Lies 0 (length (all_places is)) (node (number_of f)) × All (λ g. number_of f ≤ number_of g) fs
    first-fault f fs w e = first-is-least f fs w (subst (Spans (starting [] 0) 0 (length (all_places is)) (ProgramBelow (length (all_places is)))) e judged-spans)

    -- the functions of a typed program rise, each at one of its nodes
    pub judged-functions : (p : Program) (w : Walk) → judged x names is ≡ typed p w → FunctionsRise 0 (length (all_places is)) w.literals
    judged-functions p w e =
        let stands : Stands (starting [] 0) (length (all_places is)) w = (subst (Spans (starting [] 0) 0 (length (all_places is)) (ProgramBelow (length (all_places is)))) e judged-spans).holds.0 in
        subst (FunctionsRise 0 (length (all_places is))) (sym stands.grows.grown) stands.grows.rise

    -- its statements start, and its globals are declared, at its nodes
    pub typed-below : (p : Program) (w : Walk) → judged x names is ≡ typed p w → ProgramBelow (length (all_places is)) p
    typed-below p w e = (subst (Spans (starting [] 0) 0 (length (all_places is)) (ProgramBelow (length (all_places is)))) e judged-spans).holds.1
