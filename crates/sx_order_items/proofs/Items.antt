-- A program: its items one after another, from node 0 on.
use Rattle.std.proofs.Common.{◌≡◌, ℕ, ◌+◌, ◌≤◌, List, [], ◌∷◌, ◌++◌, Option, Some, None, length, length-append, refl, sym, subst, arith}
use Rattle.sx_tree.specs.declared.code.Statement.{Statement as WrittenStatement}
use Rattle.sx_tree.specs.declared.declarations.Item.{Item}
use Rattle.sx_tree.specs.declared.declarations.Item.TheVariants as items
use Rattle.sx_tree.specs.declared.nodes.FaultOf.TheVariants as faults_of
use Rattle.sx_tree.specs.Nodes.{all_places, item_places, statement_places}
use Rattle.sx_typed.specs.declared.code.Statement.{Statement}
use Rattle.sx_typed.specs.declared.program.TypeDeclaration.{TypeDeclaration}
use Rattle.sx_scope.specs.declared.declarations.Declarations.{Declarations}
use Rattle.sx_scope.specs.declared.walk.Walk.{Walk}
use Rattle.sx_scope.specs.Verdict.{Verdict, typed, behind, Judging, ◌▷◌, both, moved}
use Rattle.sx_scope.specs.Walks.{node}
use Rattle.sx_check_expr.specs.Judge.{judged_statement}
use Rattle.sx_heads.specs.Heads.{at}
use Rattle.sx_tables.specs.declared.names.Numbers.{Numbers}
use Rattle.sx_tables.specs.Names.{behind_item, item_name, no_numbers, type_numbered, with_name}
use Rattle.sx_functions.specs.declared.accessing.OwnNames.{OwnNames}
use Rattle.sx_functions.specs.Functions.{function}
use Rattle.sx_functions.specs.Places.{left}
use Rattle.sx_members.specs.declared.variables.TypedVariable.{TypedVariable}
use Rattle.sx_members.specs.Members.{type_declaration}
use Rattle.sx_members.specs.Variables.{outer_place, variable}
use Rattle.sx_check_decl.specs.declared.items.Blame.{Blame}
use Rattle.sx_check_decl.specs.declared.items.Program.{Program}
use Rattle.sx_check_decl.specs.declared.items.Settled.{Settled}
use Rattle.sx_check_decl.specs.declared.items.TypedItem.{TypedItem}
use Rattle.sx_check_decl.specs.declared.items.TypedItem.TheVariants as typed_items
use Rattle.sx_check_decl.specs.Items.{blamed_item, no_item, type_declared, type_item, global_declared, global_item, statement_item, fault_of, room_for, words_behind, no_program, with_item, item_added, statement_value, item, run_items, program}
use Rattle.sx_order.specs.Order.{Start, starting, since, Spans}
use Rattle.sx_order.proofs.Spans.{▷-spans, run-spans, spans-to, anything, typed-first, typed-stays, moved-spans}
use Rattle.sx_order_code.specs.Code.{CodeSpans}
use Rattle.sx_order_items.specs.Below.{ItemBelow, ProgramBelow}
use Rattle.sx_order_items.specs.Stops.{ItemStops, ItemsStop}
use Rattle.sx_order_items.specs.Written.{HasNoInitialiser, NoInitialisers}
use Rattle.sx_order_items.proofs.Below.{declared-below, global-below, program-more, with-below}
use Rattle.sx_order_items.proofs.Blames.{blamed-spans, item-has, statement-has}
use Rattle.sx_order_items.proofs.Functions.{function-takes, left-next}
use Rattle.sx_order_items.proofs.Members.{type_declaration-spans}
use Rattle.sx_order_items.proofs.Variables.{variable-spans}

-- a statement of the outermost level
pub statement_value-spans : (d : Declarations) → CodeSpans d → (x : WrittenStatement) (lo hi : ℕ) (w : Walk) → w.next ≡ lo → hi ≡ length (statement_places x) + lo → Spans (since w) lo hi (ItemBelow hi) (statement_value d x w)
statement_value-spans d code x lo hi w e sum =
    let v : Verdict Statement = (judged_statement d x).value outer_place w in
    ▷-spans (moved (left w) v) (statement_item w.next) (moved-spans (left w) v (left-next w) (anything v (spans-to v (sym sum) ((code.statements x).takes outer_place lo w e))))
    (λ s _. typed-stays (typed_items.Statement (node w.next) s) (omega (arith, e, sum, statement-has x)))

module _ (s : Settled) (code : CodeSpans s.declarations) (names : OwnNames) where
  pub item-spans : (seen : List ℕ) (k : Numbers) (words : Option ℕ) (i : Item) (lo hi : ℕ) (w : Walk) → w.next ≡ lo → hi ≡ length (item_places faults_of.Accessor i) + lo → ItemStops s.stops lo k i → HasNoInitialiser i →
      Spans (since w) lo hi (ItemBelow hi) (item s names seen k words i w)
  item-spans seen k words (items.Function f) lo hi w e sum h x =
      let v : Verdict (Unit {0}) = function s.declarations None seen f w in
      ▷-spans v no_item (spans-to v (sym sum) (function-takes s.declarations code None seen f lo w e)) (λ u _. typed-stays typed_items.Nothing tt)
  item-spans seen k words (items.Type t) lo hi w e sum h x =
      let v : Verdict TypeDeclaration = type_declaration s.declarations names s.stops seen (fault_of s t.kind k) k.given (type_numbered t.kind k) t w in
      ▷-spans v (type_item t.kind) (type_declaration-spans s.declarations code names s.stops seen (fault_of s t.kind k) k.given (type_numbered t.kind k) t lo hi w e sum h x)
      (λ y _. typed-stays (type_declared t.kind y) (declared-below hi t.kind y))
  item-spans seen k words (items.Global v) lo hi w e sum h x =
      let u : Verdict TypedVariable = variable s.declarations names s.stops None seen (room_for v words) k.given v w in
      ▷-spans u (global_item v) (variable-spans s.declarations code names s.stops faults_of.Accessor None seen (room_for v words) k.given v lo hi w e sum h) (λ y q. typed-stays (global_declared v y) (global-below hi v y q))
  item-spans seen k words (items.Statement x) lo hi w e sum h y = statement_value-spans s.declarations code x lo hi w e sum

  module _ (blame : Blame) where
    pub run_items-spans : {old : Start} (is : List Item) (v : Verdict Program) (seen : List ℕ) (k : Numbers) (words : Option ℕ) (lo mid hi : ℕ) → lo ≤ mid → hi ≡ length (all_places is) + mid → Spans old lo mid (ProgramBelow mid) v →
        ItemsStop s.stops mid k is → NoInitialisers is → Spans old lo hi (ProgramBelow hi) (run_items s names blame v seen k words is)
    run_items-spans {old = old} [] v seen k words lo mid hi l sum h i x = let same : mid ≡ hi = omega (arith, sum) in subst (λ n. Spans old lo n (ProgramBelow n) v) same h
    run_items-spans {old = old} (y ∷ is) v seen k words lo mid hi l sum h i x =
        let own : List ℕ = item_places faults_of.Accessor y in
        let whole : length (own ++ all_places is) ≡ length own + length (all_places is) = length-append own (all_places is) in
        let m : Judging TypedItem = blamed_item s names blame seen k words y in
        let one : (w : Walk) → w.next ≡ mid → Spans (since w) mid (length own + mid) (ItemBelow (length own + mid)) (m w) =
        λ w e. blamed-spans blame w.next (item s names seen k words y w) e (omega (arith, item-has y)) (item-spans seen k words y mid (length own + mid) w e refl i.0 x.0) in
        let here : Spans old lo (length own + mid) (ProgramBelow (length own + mid)) (both v m ▷ item_added) =
        run-spans (ProgramBelow (length own + mid)) v m item_added l (omega arith) h one (λ p q. typed-stays (with_item p.1 p.0) (with-below (length own + mid) p.1 p.0 (program-more mid (length own + mid) p.0 (omega arith) q.0) q.1)) in
        run_items-spans is (both v m ▷ item_added) (with_name (item_name y) seen) (behind_item y k) (words_behind s.declarations.types y (m (behind v)) words)
        lo (length own + mid) hi (omega arith) (omega (arith, sum, whole)) here i.1 x.1

    -- the faults of a program rise, and lie among its nodes; so do its functions
    pub program-spans : (is : List Item) → ItemsStop s.stops 0 no_numbers is → NoInitialisers is → Spans (starting [] 0) 0 (length (all_places is)) (ProgramBelow (length (all_places is))) (program s names blame is)
    program-spans is i x =
        run_items-spans is (typed no_program (at 0)) [] no_numbers (Some 0) 0 0 (length (all_places is)) (omega arith) (omega arith) (typed-first no_program (at 0) refl (tt, tt)) i x
