-- The trees of texts have no written initialisers, so the first failing node is the one with the least number.
use Rattle.std.proofs.Common.{◌≡◌, ℕ, List, [], Option, Some, None, option_map, Err, ap, subst}
use Rattle.std.proofs.lemmas.Option.{none-some, same_Some}
use Rattle.sx_span.specs.declared.places.Node.{Node}
use Rattle.sx_tree.specs.declared.tree.Tree.{Tree}
use Rattle.sx_grammar.specs.Value.{items}
use Rattle.sx_scope.specs.declared.stop.TypeKind.{TypeKind}
use Rattle.sx_scope.specs.declared.stop.TypeStop.{TypeStop}
use Rattle.sx_scope.specs.declared.stop.TypeStop.TheVariants.{Typing, TooWide, Late, NoMemory}
use Rattle.sx_scope.specs.Verdict.{fails}
use Rattle.sx_check_decl.specs.Program.{Checked}
use Rattle.sx_parser.specs.Answer.{lexemes_of}
use Rattle.sx_driver.specs.declared.fault.Fault.{Fault}
use Rattle.sx_driver.specs.declared.fault.Fault.TheVariants as faults
use Rattle.sx_driver.specs.Faults.{HasTree, HasTypeFault, late_fault, place_by_kind, place_of, told}
use Rattle.sx_order_items.specs.Laws.{IsJudged}
use Rattle.sx_order_items.specs.Written.{NoInitialisers}
use Rattle.sx_order_items.proofs.Whole.{first-least}
use Rattle.sx_texts.specs.Least.{IsLeast}
use Rattle.sx_texts.proofs.Trees.{plain_text}

pub no_initialisers : (text : List ℕ) (tree : Tree) → HasTree text tree → NoInitialisers tree.items
no_initialisers text tree h = plain_text (items tree.items) (lexemes_of h.tokens) [] h.is.read.whole

-- ---- a fault of names and types
abbrev kind_in : Option Fault → Option TypeKind
kind_in (Some (faults.Typing kind at)) = Some kind
kind_in o = None

abbrev place_in : Option Fault → Option ℕ
place_in (Some (faults.Typing kind at)) = Some at
place_in o = None

typing_kind : (k : TypeKind) (o : Option ℕ) (kind : TypeKind) (at : ℕ) → option_map (faults.Typing k) o ≡ Some (faults.Typing kind at) → k ≡ kind
typing_kind k None kind at e = absurd (none-some (faults.Typing kind at) e)
typing_kind k (Some a) kind at e = same_Some k kind (ap kind_in e)

typing_place : (k : TypeKind) (o : Option ℕ) (kind : TypeKind) (at : ℕ) → option_map (faults.Typing k) o ≡ Some (faults.Typing kind at) → o ≡ Some at
typing_place k None kind at e = absurd (none-some (faults.Typing kind at) e)
typing_place k (Some a) kind at e = ap place_in e

not_wide : {P : Type 0} (o : Option ℕ) (kind : TypeKind) (at : ℕ) → option_map faults.TooWide o ≡ Some (faults.Typing kind at) → P
not_wide None kind at e = absurd (none-some (faults.Typing kind at) e)
not_wide (Some a) kind at e = absurd (none-some kind (ap kind_in e))

not_late : {P : Type 0} (o p : Option ℕ) (kind : TypeKind) (at : ℕ) → late_fault o p ≡ Some (faults.Typing kind at) → P
not_late None p kind at e = absurd (none-some (faults.Typing kind at) e)
not_late (Some a) None kind at e = absurd (none-some (faults.Typing kind at) e)
not_late (Some a) (Some b) kind at e = absurd (none-some kind (ap kind_in e))

least_by : (text : List ℕ) (tree : Tree) (kind : TypeKind) (at : ℕ) (n : Node) → HasTree text tree → Checked tree (Err (Typing kind n)) → place_by_kind tree kind n ≡ Some at → IsLeast text kind at
least_by text tree kind at n has (x, is, (fs, w, e)) there =
    let judged : IsJudged tree (fails (Typing kind n) fs w) = record { settled = x; is_settled = is; judged = e } in
    let (within, least) = first-least tree (Typing kind n) fs w (no_initialisers text tree has) judged in
    record { tree = tree; has = has; node = n; others = fs; walk = w; judged = judged; place = there; within = within; least = least }

by_stop : (text : List ℕ) (tree : Tree) (kind : TypeKind) (at : ℕ) (stop : TypeStop) → HasTree text tree → Checked tree (Err stop) → told tree stop ≡ Some (faults.Typing kind at) → IsLeast text kind at
by_stop text tree kind at (Typing k n) has checked e =
    let same : k ≡ kind = typing_kind k (place_by_kind tree k n) kind at e in
    least_by text tree kind at n has (subst (λ x. Checked tree (Err (Typing x n))) same checked)
    (subst (λ x. place_by_kind tree x n ≡ Some at) same (typing_place k (place_by_kind tree k n) kind at e))
by_stop text tree kind at (TooWide n) has checked e = not_wide (place_of tree n) kind at e
by_stop text tree kind at (Late on global) has checked e = not_late (place_of tree on) (place_of tree global) kind at e
by_stop text tree kind at NoMemory has checked e = absurd (none-some (faults.Typing kind at) e)

pub least : (text : List ℕ) (kind : TypeKind) (at : ℕ) → HasTypeFault text (faults.Typing kind at) → IsLeast text kind at
least text kind at h = by_stop text h.tree kind at h.stop h.has h.checked h.is
