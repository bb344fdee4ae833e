-- A program has one typed tree, but for where its lists lie, and one first statement that is late.
use Rattle.std.proofs.Common.{◌≡◌, ℕ, List, sym, subst, ◌∙◌, le_antisymm}
use Rattle.std.proofs.Props.{props}
use mathlib.Core.HLevel.{is_prop→PathP}
use Rattle.sx_tree.specs.declared.tree.Tree.{Tree}
use Rattle.sx_types.specs.declared.types.Types.{Types}
use Rattle.sx_typed.specs.declared.program.Function.{Function}
use Rattle.sx_typed.specs.declared.program.Typed.{Typed}
use Rattle.sx_typed.specs.Functions.{RiseByNode}
use Rattle.sx_scope.specs.declared.walk.Walk.{Walk}
use Rattle.sx_late.specs.declared.reaching.LateReach.{LateReach}
use Rattle.sx_late.specs.Reaching.{IsFirstLate, IsLate}
use Rattle.sx_check_decl.specs.declared.items.Program.{Program}
use Rattle.sx_check_decl.specs.Locals.{variables_of}
use Rattle.sx_check_decl.specs.Program.{IsTyped}
use Rattle.sx_one_answer.specs.Same.{SameTyped}
use Rattle.sx_one_answer.proofs.Late.{late-moved, moved}
use Rattle.sx_one_answer.proofs.Locals.{one_order}

pub typed_once : (tree : Tree) (types : Types) (p : Program) (w : Walk) (t u : Typed) → IsTyped tree types p w t → IsTyped tree types p w u → SameTyped t u
typed_once tree types p w t u a b =
    record {
      types = a.types_are ∙ sym b.types_are;
      structures = a.structures ∙ sym b.structures;
      classes = a.classes ∙ sym b.classes;
      globals = a.globals ∙ sym b.globals;
      functions = a.functions ∙ sym b.functions;
      top = a.top ∙ sym b.top;
      initialisers = a.initialisers ∙ sym b.initialisers;
      locals = one_order (variables_of p.top w.literals) t.locals u.locals a.locals.0 b.locals.0 a.locals.1 b.locals.1;
      texts = a.texts ∙ sym b.texts;
      names = a.names ∙ sym b.names;
      lines = a.lines ∙ sym b.lines;
      places = a.places ∙ sym b.places;
    }

rise_once : (fs : List Function) → IsProp (RiseByNode fs)
rise_once fs = hlevel props

-- a program with the lists of one that is the same is that one
is_moved : (t u : Typed) → SameTyped t u → moved t u ≡ u
is_moved t u s =
    λ i. record {
      types = s.types i;
      structures = s.structures i;
      classes = s.classes i;
      globals = s.globals i;
      functions = s.functions i;
      top = s.top i;
      initialisers = s.initialisers i;
      locals = s.locals i;
      texts = u.texts;
      names = u.names;
      lines = u.lines;
      places = u.places;
      in_order = is_prop→PathP (λ j. RiseByNode (s.functions j)) (λ j. rise_once (s.functions j)) t.in_order u.in_order i;
    }

pub late_too : (t u : Typed) (i g : ℕ) → SameTyped t u → IsLate t i g → IsLate u i g
late_too t u i g s l = subst (λ (x : Typed). IsLate x i g) (is_moved t u s) (late-moved t u i g l)

same_reach : (x y : LateReach) → x.statement ≡ y.statement → x.global ≡ y.global → x ≡ y
same_reach x y p q = λ i. record { statement = p i; global = q i }

pub first_once : (t u : Typed) (x y : LateReach) → SameTyped t u → SameTyped u t → IsFirstLate t x → IsFirstLate u y → x ≡ y
first_once t u x y s r a b =
    let statement : x.statement ≡ y.statement =
    le_antisymm (a.statement_first y.statement y.global (late_too u t y.statement y.global r b.late)) (b.statement_first x.statement x.global (late_too t u x.statement x.global s a.late)) in
    let one : IsLate t x.statement y.global = subst (λ n. IsLate t n y.global) (sym statement) (late_too u t y.statement y.global r b.late) in
    let two : IsLate u y.statement x.global = subst (λ n. IsLate u n x.global) statement (late_too t u x.statement x.global s a.late) in
    same_reach x y statement (le_antisymm (a.global_first y.global one) (b.global_first x.global two))
