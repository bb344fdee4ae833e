-- A program: its items one after another (The Swift Programming Language, "Declarations", top-level code).
use Rattle.std.specs.Prelude.{◌≡◌, ℕ, ◌+◌, ◌-◌, Bool, false, not, List, [], ◌∷◌, ◌++◌, length, slice_get, Option, Some, None, option_map, option_and_then, cond}
use Rattle.sx_tree.specs.declared.code.Statement.{Statement as WrittenStatement}
use Rattle.sx_tree.specs.declared.declarations.Item.{Item}
use Rattle.sx_tree.specs.declared.declarations.Item.TheVariants as items
use Rattle.sx_tree.specs.declared.declarations.TypeKind.{TypeKind}
use Rattle.sx_tree.specs.declared.declarations.TypeKind.TheVariants as type_kind
use Rattle.sx_tree.specs.declared.declarations.Variable.{Variable}
use Rattle.sx_types.specs.declared.types.Ty.{Ty}
use Rattle.sx_types.specs.declared.types.Types.{Types}
use Rattle.sx_typed.specs.declared.code.Expr.{Expr}
use Rattle.sx_typed.specs.declared.code.Statement.{Statement}
use Rattle.sx_typed.specs.declared.code.StatementForm.TheVariants as statements
use Rattle.sx_typed.specs.declared.program.TypeDeclaration.{TypeDeclaration}
use Rattle.sx_scope.specs.declared.declarations.Declarations.{Declarations}
use Rattle.sx_scope.specs.declared.stop.TypeKind.TheVariants as kinds
use Rattle.sx_scope.specs.declared.stop.TypeStop.TheVariants.{Typing}
use Rattle.sx_scope.specs.declared.walk.Walk.{Walk}
use Rattle.sx_scope.specs.Verdict.{Verdict, typed, untold, depends, fails, Judging, ◌▷◌, both, behind, moved}
use Rattle.sx_scope.specs.Walks.{node}
use Rattle.sx_bodies.specs.Literals.{words_in}
use Rattle.sx_bodies.specs.Statements.{statement}
use Rattle.sx_check_expr.specs.Judge.{judged_statement}
use Rattle.sx_heads.specs.Heads.{at}
use Rattle.sx_heads.specs.Variables.{is_computed}
use Rattle.sx_tables.specs.declared.names.Numbers.{Numbers}
use Rattle.sx_tables.specs.Names.{behind_item, item_name, no_numbers, type_numbered, with_name}
use Rattle.sx_functions.specs.declared.accessing.OwnNames.{OwnNames}
use Rattle.sx_functions.specs.Functions.{function}
use Rattle.sx_functions.specs.Places.{left}
use Rattle.sx_members.specs.declared.types.TypeFault.{TypeFault}
use Rattle.sx_members.specs.declared.variables.TypedVariable.{TypedVariable}
use Rattle.sx_members.specs.Members.{type_declaration}
use Rattle.sx_members.specs.Variables.{outer_place, variable}
use Rattle.sx_check_decl.specs.declared.items.Blame.{Blame}
use Rattle.sx_check_decl.specs.declared.items.Blame.TheVariants as blames
use Rattle.sx_check_decl.specs.declared.items.Program.{Program}
use Rattle.sx_check_decl.specs.declared.items.Settled.{Settled}
use Rattle.sx_check_decl.specs.declared.items.TypedItem.{TypedItem}
use Rattle.sx_check_decl.specs.declared.items.TypedItem.TheVariants as typed_items

-- ---- what an item is
abbrev pub no_item : {A : Type 0} → A → Judging TypedItem
no_item x = typed typed_items.Nothing

abbrev pub type_declared : TypeKind → TypeDeclaration → TypedItem
type_declared type_kind.Structure t = typed_items.Structure t
type_declared type_kind.Class t = typed_items.Class t

abbrev pub type_item : TypeKind → TypeDeclaration → Judging TypedItem
type_item k t = typed (type_declared k t)

abbrev pub global_declared : Variable → TypedVariable → TypedItem
global_declared v x = cond (is_computed v.accessors) typed_items.Nothing (typed_items.Global v.name.number v.constant x)

abbrev pub global_item : Variable → TypedVariable → Judging TypedItem
global_item v x = typed (global_declared v x)

abbrev pub statement_item : ℕ → Statement → Judging TypedItem
statement_item n s = typed (typed_items.Statement (node n) s)

-- what a structure or class with this number fails by
abbrev pub fault_in : List (Option TypeFault) → ℕ → Option TypeFault
fault_in faults k = option_and_then (λ (o : Option TypeFault). o) (slice_get faults k)

abbrev pub fault_of : Settled → TypeKind → Numbers → Option TypeFault
fault_of s type_kind.Structure n = fault_in s.structures n.structures
fault_of s type_kind.Class n = fault_in s.classes n.classes

-- ---- the words of the stored globals together, where each is typed
abbrev pub most_global_words : ℕ
most_global_words = 4194304

abbrev pub room_behind : ℕ → ℕ
room_behind n = most_global_words - n

abbrev pub room_for : Variable → Option ℕ → Option ℕ
room_for v words = cond (is_computed v.accessors) None (option_map room_behind words)

abbrev pub with_words : Types → Ty → Option ℕ → Option ℕ
with_words types t words = option_map (λ n. n + words_in types t) words

abbrev pub words_behind_typed : Types → TypedItem → Option ℕ → Option ℕ
words_behind_typed types (typed_items.Global x constant v) words = with_words types v.ty words
words_behind_typed types i words = words

abbrev pub is_stored_global : Item → Bool
is_stored_global (items.Global v) = not (is_computed v.accessors)
is_stored_global i = false

abbrev pub words_behind : Types → Item → Verdict TypedItem → Option ℕ → Option ℕ
words_behind types i (typed x w) words = words_behind_typed types x words
words_behind types i (untold w) words = cond (is_stored_global i) None words
words_behind types i (depends w) words = cond (is_stored_global i) None words
words_behind types i (fails f fs w) words = cond (is_stored_global i) None words

-- ---- the program as far as its items are typed
-- the storing of a value in the global with this number
abbrev pub value_stored : ℕ → Expr → Program → Program
value_stored k e p = record p { top = p.top ++ statement e.site (statements.Global k e) ∷ []; starts = p.starts ++ e.node ∷ [] }

abbrev pub stored_global : Option Expr → Program → Program
stored_global None p = p
stored_global (Some e) p = value_stored (length p.globals) e p

abbrev pub with_global : ℕ → Bool → TypedVariable → Program → Program
with_global x constant v p = record p { globals = p.globals ++ record { node = v.node; name = x; ty = v.ty; constant = constant } ∷ [] }

abbrev pub with_item : TypedItem → Program → Program
with_item typed_items.Nothing p = p
with_item (typed_items.Structure t) p = record p { structures = p.structures ++ t ∷ [] }
with_item (typed_items.Class t) p = record p { classes = p.classes ++ t ∷ [] }
with_item (typed_items.Global x constant v) p = with_global x constant v (stored_global v.value p)
with_item (typed_items.Statement n s) p = record p { top = p.top ++ s ∷ []; starts = p.starts ++ n ∷ [] }

-- each statement of the outermost level has a node at which it starts
abbrev pub Paired : Program → Type 0
Paired p = length p.starts ≡ length p.top

abbrev pub item_added : Program × TypedItem → Judging Program
item_added (p, i) = typed (with_item i p)

abbrev pub no_program : Program
no_program = record { top = []; starts = []; globals = []; structures = []; classes = [] }

-- a statement of the outermost level
abbrev pub statement_value : Declarations → WrittenStatement → Judging TypedItem
statement_value d x w = moved (left w) ((judged_statement d x).value outer_place w) ▷ statement_item w.next

-- Where no node in an item fails and yet it isn't typed, others are to blame, or the item itself, which then has no type to be given.
abbrev pub by_blame : {A : Type 0} → Blame → ℕ → Walk → Verdict A → Verdict A
by_blame blames.Others n w v = v
by_blame blames.Itself n w v = fails (Typing kinds.NeedsType (node n)) [] w

abbrev pub blamed : {A : Type 0} → Blame → ℕ → Verdict A → Verdict A
blamed b n (typed a w) = typed a w
blamed b n (untold w) = by_blame b n w (untold w)
blamed b n (depends w) = by_blame b n w (depends w)
blamed b n (fails f fs w) = fails f fs w

module _ (s : Settled) (names : OwnNames) where
  -- beside what has these names, with these numbers and words of globals before it
  abbrev pub item : List ℕ → Numbers → Option ℕ → Item → Judging TypedItem
  item seen k words (items.Function f) w = function s.declarations None seen f w ▷ no_item
  item seen k words (items.Type t) w =
      type_declaration s.declarations names s.stops seen (fault_of s t.kind k) k.given (type_numbered t.kind k) t w ▷ type_item t.kind
  item seen k words (items.Global v) w = variable s.declarations names s.stops None seen (room_for v words) k.given v w ▷ global_item v
  item seen k words (items.Statement x) w = statement_value s.declarations x w

  module _ (blame : Blame) where
    abbrev pub blamed_item : List ℕ → Numbers → Option ℕ → Item → Judging TypedItem
    blamed_item seen k words i w = blamed blame w.next (item seen k words i w)

    -- items one after another, behind those that were found
    abbrev pub run_items : Verdict Program → List ℕ → Numbers → Option ℕ → List Item → Verdict Program
    run_items v seen k words [] = v
    run_items v seen k words (i ∷ is) =
        run_items (both v (blamed_item seen k words i) ▷ item_added) (with_name (item_name i) seen) (behind_item i k)
        (words_behind s.declarations.types i (blamed_item seen k words i (behind v)) words) is

    abbrev pub program : List Item → Verdict Program
    program is = run_items (typed no_program (at 0)) [] no_numbers (Some 0) is
