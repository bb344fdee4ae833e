-- A node of a text's tree has a place in the text, and what a tree is refused by stands at such nodes.
use Rattle.std.proofs.Common.{◌≡◌, inl, inr, ℕ, zero, suc, ◌+◌, ◌≤◌, ◌<◌, Bool, true, false, cond, nat_le, List, [], ◌∷◌, Option, Some, option_map, slice_get, get_or, length, All, map, Err, sym, ap, ap₂, subst, arith, suc-le-suc}
use Rattle.std.proofs.lemmas.Option.{none-some, same_Some, slice_get-get_or}
use Rattle.sx_span.specs.declared.places.Node.{Node}
use Rattle.sx_tree.specs.declared.tree.Tree.{Tree}
use Rattle.sx_tree.specs.Nodes.{all_parameter_places, all_places}
use Rattle.sx_typed.specs.declared.program.Function.{Function}
use Rattle.sx_typed.specs.declared.program.Global.{Global as StoredGlobal}
use Rattle.sx_types.specs.declared.types.Types.{Types}
use Rattle.sx_scope.specs.declared.stop.TypeKind.{TypeKind}
use Rattle.sx_scope.specs.declared.stop.TypeKind.TheVariants as kinds
use Rattle.sx_scope.specs.declared.stop.TypeStop.{TypeStop}
use Rattle.sx_scope.specs.declared.stop.TypeStop.TheVariants.{Typing, TooWide, Late, NoMemory}
use Rattle.sx_scope.specs.Verdict.{typed, fails}
use Rattle.sx_check_decl.specs.Captures.{captured_words, crowded_from, most_captured_words}
use Rattle.sx_check_decl.specs.Program.{Checked, node_of_global}
use Rattle.sx_driver.specs.declared.fault.Fault.TheVariants as faults
use Rattle.sx_driver.specs.Faults.{HasTree, late_fault, place_by_kind, place_of}
use Rattle.sx_order_items.specs.Below.{NodesBelow, ProgramBelow}
use Rattle.sx_order_items.specs.Laws.{IsJudged}
use Rattle.sx_order_items.proofs.FaultPlaces.{parameter_places-length}
use Rattle.sx_order_items.proofs.Whole.{first-least, functions-rise, programs-keep}
use Rattle.sx_tree_places.proofs.Texts.{lie_in_the_text}
use Rattle.sx_texts.specs.Placed.{FaultsAreTold, IsTold, IsToldIn}
use Rattle.sx_texts.proofs.Least.{no_initialisers}

-- ---- places
-- the entry with this number lies below the bound
pub record HasPlace (bound : ℕ) (o : Option ℕ) : Type 0 where
  pub at : ℕ
  pub is : o ≡ Some at
  pub lies : at ≤ bound

entry : (bound : ℕ) (ps : List ℕ) (n : ℕ) → n < length ps → All (λ p. p ≤ bound) ps → HasPlace bound (slice_get ps n)
entry bound ps n l h = record { at = get_or ps n 0; is = slice_get-get_or ps n 0 l; lies = h n 0 l }

module _ (text : List ℕ) (tree : Tree) (has : HasTree text tree) where
  abbrev count : ℕ
  count = length (all_places tree.items)

  lie : All (λ p. p ≤ length text) (all_places tree.items) × All (λ p. p ≤ length text) (all_parameter_places tree.items)
  lie = lie_in_the_text text has.tokens tree has.has.lexes has.is

  node-placed : (n : Node) → n.0 < count → HasPlace (length text) (place_of tree n)
  node-placed n l = entry (length text) (all_places tree.items) n.0 l lie.0

  kind-placed : (kind : TypeKind) (n : Node) → n.0 < count → HasPlace (length text) (place_by_kind tree kind n)
  kind-placed kinds.Duplicate n l = entry (length text) (all_parameter_places tree.items) n.0 (omega (arith, l, parameter_places-length tree.items)) lie.1
  kind-placed kind n l = node-placed n l

  -- ---- nodes that are kept
  kept : (hi : ℕ) (ns : List Node) (i : ℕ) (n : Node) → NodesBelow hi ns → slice_get ns i ≡ Some n → n.0 < hi
  kept hi [] i n h e = absurd (none-some n e)
  kept hi (m ∷ ns) zero n h e = subst (λ (x : Node). x.0 < hi) (same_Some m n e) h.0
  kept hi (m ∷ ns) (suc i) n h e = kept hi ns i n h.1 e

  kept_global : (hi : ℕ) (gs : List StoredGlobal) (i : ℕ) (n : Node) → NodesBelow hi (map node_of_global gs) → option_map node_of_global (slice_get gs i) ≡ Some n → n.0 < hi
  kept_global hi [] i n h e = absurd (none-some n e)
  kept_global hi (g ∷ gs) zero n h e = subst (λ (x : Node). x.0 < hi) (same_Some (node_of_global g) n e) h.0
  kept_global hi (g ∷ gs) (suc i) n h e = kept_global hi gs i n h.1 e

  -- the closure literal at which captures are too wide is one of the program's
  crowd : (types : Types) (k : ℕ) (fs : List Function) (n : Node) → All (λ (f : Function). f.node.0 < count) fs → crowded_from types k fs ≡ Some n → n.0 < count
  crowd types k [] n h e = absurd (none-some n e)
  crowd types k (f ∷ fs) n h e = by (nat_le (k + captured_words types f) most_captured_words) (λ q. crowd types (k + captured_words types f) fs n (λ j d l. h (suc j) d (suc-le-suc l)) q) e
    where
      by : (b : Bool) → (crowded_from types (k + captured_words types f) fs ≡ Some n → n.0 < count) → cond b (crowded_from types (k + captured_words types f) fs) (Some f.node) ≡ Some n → n.0 < count
      by true later e = later e
      by false later e = subst (λ (x : Node). x.0 < count) (same_Some f.node n e) (h 0 f (omega arith))

  -- ---- what the tree is refused by
  typing_told : (kind : TypeKind) (n : Node) → n.0 < count → IsToldIn text tree (Typing kind n)
  typing_told kind n l =
      let p = kind-placed kind n l in
      record { fault = faults.Typing kind p.at; told_so = ap (option_map (faults.Typing kind)) p.is; placed = (p.lies, has.has.short) }

  wide_told : (n : Node) → n.0 < count → IsToldIn text tree (TooWide n)
  wide_told n l =
      let p = node-placed n l in
      record { fault = faults.TooWide p.at; told_so = ap (option_map faults.TooWide) p.is; placed = (p.lies, has.has.short) }

  late_told : (at global : Node) → at.0 < count → global.0 < count → IsToldIn text tree (Late at global)
  late_told at global l m =
      let p = node-placed at l in
      let q = node-placed global m in
      record {
        fault = faults.Late p.at q.at;
        told_so = ap₂ late_fault p.is q.is;
        placed = ((p.lies, has.has.short), (q.lies, has.has.short));
      }

  pub told_by : (stop : TypeStop) → Checked tree (Err stop) → IsTold text tree stop
  told_by (Typing kind n) (x, is, (fs, w, e)) =
      let judged : IsJudged tree (fails (Typing kind n) fs w) = record { settled = x; is_settled = is; judged = e } in
      typing_told kind n (first-least tree (Typing kind n) fs w (no_initialisers text tree has) judged).0
  told_by (TooWide n) (x, is, inl (fs, w, e)) =
      let judged : IsJudged tree (fails (TooWide n) fs w) = record { settled = x; is_settled = is; judged = e } in
      wide_told n (first-least tree (TooWide n) fs w (no_initialisers text tree has) judged).0
  told_by (TooWide n) (x, is, inr (p, w, e, wide)) =
      let judged : IsJudged tree (typed p w) = record { settled = x; is_settled = is; judged = e } in
      wide_told n (crowd x.declarations.types 0 w.literals n (functions-rise tree p w (no_initialisers text tree has) judged).1 wide)
  told_by (Late at global) (x, is, late) =
      let judged : IsJudged tree (typed late.program late.walk) = record { settled = x; is_settled = is; judged = late.found } in
      let below : ProgramBelow count late.program = programs-keep tree late.program late.walk (no_initialisers text tree has) judged in
      late_told at global (kept count late.program.starts late.late.reach.statement at below.0 late.late.starts_at)
      (kept_global count late.typed_tree.globals late.late.reach.global global
      (subst (λ (gs : List StoredGlobal). NodesBelow count (map node_of_global gs)) (sym late.is_typed.globals) below.1) late.late.declared_at)
  told_by NoMemory h = tt

pub faults-told : FaultsAreTold
faults-told text tree stop has checked = told_by text tree has stop checked
