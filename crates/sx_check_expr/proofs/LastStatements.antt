-- How statements end.
use Rattle.std.proofs.Common.{◌≡◌, true≢false, ◌∙◌, ◌<◌, ◌≤◌, ◌+◌, ◌-◌, ℕ, suc, Bool, true, false, not, ◌&&◌, ◌||◌, List, [], ◌∷◌, Option, Some, None, is_none, is_some, option_map, drop, length, get_or, slice_get, refl, sym, ap, arith}
use Rattle.std.proofs.lemmas.List.{at_drop_more, drop_all}
use Rattle.sx_tree.specs.declared.code.Block.{Block, out-Block}
use Rattle.sx_tree.specs.declared.code.Else.{Else}
use Rattle.sx_tree.specs.declared.code.Expr.{Expr}
use Rattle.sx_tree.specs.declared.code.Statement.{Statement}
use Rattle.sx_tree.specs.declared.code.StatementForm.TheVariants as form
use Rattle.sx_scope.specs.declared.declarations.Declarations.{Declarations}
use Rattle.sx_calls.specs.Parts.{JudgedStatement}
use Rattle.sx_bodies.specs.Statements.{any_breaks, else_breaks, passes_end, else_passes, site_of}
use Rattle.sx_check_expr.specs.Judge.{judged_block, judged_else, judged_expr, judged_statement, judged_statements}
use Rattle.sx_check_expr.proofs.StatementEquations.{block_is, if_is, while_is}

-- the statements from a number on, by the first of them
from_one : (d : Declarations) (xs : List Statement) (i : ℕ) (x : Statement) → i < length xs → x ≡ get_or xs i x → any_breaks (judged_statements d (drop i xs)) ≡ ((judged_statement d x).breaks || any_breaks (judged_statements d (drop (i + 1) xs)))
from_one d xs i x lt e =
    at_drop_more (λ (ys : List Statement). any_breaks (judged_statements d ys)) xs i x lt
    ∙ ap (λ (y : Statement). (judged_statement d y).breaks || any_breaks (judged_statements d (drop (i + 1) xs))) (sym e)

pub one_leaves : (d : Declarations) (xs : List Statement) (i : ℕ) (x : Statement) (b : Bool) → i < length xs → x ≡ get_or xs i x → any_breaks (judged_statements d (drop i xs)) ≡ any_breaks (judged_statements d xs) → b ≡ (judged_statement d x).breaks → b ≡ true → true ≡ any_breaks (judged_statements d xs)
one_leaves d xs i x b lt e so_far is holds =
    ap (λ (c : Bool). c || any_breaks (judged_statements d (drop (i + 1) xs))) (sym holds ∙ is) ∙ sym (from_one d xs i x lt e) ∙ so_far

pub one_stays : (d : Declarations) (xs : List Statement) (i : ℕ) (x : Statement) (b : Bool) → i < length xs → x ≡ get_or xs i x → any_breaks (judged_statements d (drop i xs)) ≡ any_breaks (judged_statements d xs) → b ≡ (judged_statement d x).breaks → b ≡ false → any_breaks (judged_statements d (drop (i + 1) xs)) ≡ any_breaks (judged_statements d xs)
one_stays d xs i x b lt e so_far is holds =
    ap (λ (c : Bool). c || any_breaks (judged_statements d (drop (i + 1) xs))) (sym holds ∙ is) ∙ sym (from_one d xs i x lt e) ∙ so_far

pub all_stay : (d : Declarations) (xs : List Statement) (i : ℕ) → length xs ≤ i → any_breaks (judged_statements d (drop i xs)) ≡ any_breaks (judged_statements d xs) → false ≡ any_breaks (judged_statements d xs)
all_stay d xs i le so_far = ap (λ (ys : List Statement). any_breaks (judged_statements d ys)) (sym (drop_all i xs le)) ∙ so_far

-- the last of statements tells whether their end may be reached
abbrev passes_of : Declarations → Option Statement → Bool
passes_of d None = true
passes_of d (Some s) = (judged_statement d s).passes

last_passes : (d : Declarations) (xs : List Statement) → passes_of d (slice_get xs (length xs - 1)) ≡ passes_end (judged_statements d xs)
last_passes d [] = refl
last_passes d (x ∷ []) = refl
last_passes d (x ∷ (y ∷ ys)) =
    let e : length (x ∷ (y ∷ ys)) - 1 ≡ suc (length (y ∷ ys) - 1) = omega arith in
    ap (λ (i : ℕ). passes_of d (slice_get (x ∷ (y ∷ ys)) i)) e ∙ last_passes d (y ∷ ys)

pub by_last : (d : Declarations) (xs : List Statement) (x : Statement) (b : Bool) → Some x ≡ slice_get xs (length xs - 1) → b ≡ (judged_statement d x).passes → b ≡ passes_end (judged_statements d xs)
by_last d xs x b last is = is ∙ ap (passes_of d) last ∙ last_passes d xs

-- what is told of the statements of a block
pub in_block : (f : List JudgedStatement → Bool) (d : Declarations) (a : Block) (xs : List Statement) (r : Bool) → xs ≡ (out-Block a).statements → r ≡ f (judged_statements d xs) → r ≡ f (judged_block d a)
in_block f d a xs r at is = is ∙ ap (λ (ys : List Statement). f (judged_statements d ys)) at ∙ ap f (sym (block_is d a))

first_holds : (r x y whole : Bool) → whole ≡ (x || y) → r ≡ x → r ≡ true → r ≡ whole
first_holds r x y whole e is holds = holds ∙ ap (λ (z : Bool). z || y) (sym holds ∙ is) ∙ sym e

second_tells : (r q x y whole : Bool) → whole ≡ (x || y) → r ≡ x → r ≡ false → q ≡ y → q ≡ whole
second_tells r q x y whole e is no_ told = told ∙ ap (λ (z : Bool). z || y) (sym no_ ∙ is) ∙ sym e

-- an `if`
if_leaves : (d : Declarations) (s : Statement) (c : Expr) (a : Block) (b : Else) → s.form ≡ form.If c a b → (judged_statement d s).breaks ≡ (any_breaks (judged_block d a) || else_breaks (judged_else d b))
if_leaves d s c a b e = ap (λ (j : JudgedStatement). j.breaks) (if_is d s c a b e)

pub if_leaves_first : (d : Declarations) (s : Statement) (c : Expr) (a : Block) (b : Else) (xs : List Statement) (r : Bool) → s.form ≡ form.If c a b → xs ≡ (out-Block a).statements → r ≡ any_breaks (judged_statements d xs) → r ≡ true → r ≡ (judged_statement d s).breaks
if_leaves_first d s c a b xs r e at is holds = first_holds r _ _ _ (if_leaves d s c a b e) (in_block any_breaks d a xs r at is) holds

pub if_leaves_else : (d : Declarations) (s : Statement) (c : Expr) (a : Block) (b : Else) (xs : List Statement) (r q : Bool) → s.form ≡ form.If c a b → xs ≡ (out-Block a).statements → r ≡ any_breaks (judged_statements d xs) → r ≡ false → q ≡ else_breaks (judged_else d b) → q ≡ (judged_statement d s).breaks
if_leaves_else d s c a b xs r q e at is no_ told = second_tells r q _ _ _ (if_leaves d s c a b e) (in_block any_breaks d a xs r at is) no_ told

if_passes : (d : Declarations) (s : Statement) (c : Expr) (a : Block) (b : Else) → s.form ≡ form.If c a b → (judged_statement d s).passes ≡ (passes_end (judged_block d a) || else_passes (judged_else d b))
if_passes d s c a b e = ap (λ (j : JudgedStatement). j.passes) (if_is d s c a b e)

pub if_passes_first : (d : Declarations) (s : Statement) (c : Expr) (a : Block) (b : Else) (xs : List Statement) (r : Bool) → s.form ≡ form.If c a b → xs ≡ (out-Block a).statements → r ≡ passes_end (judged_statements d xs) → r ≡ true → r ≡ (judged_statement d s).passes
if_passes_first d s c a b xs r e at is holds = first_holds r _ _ _ (if_passes d s c a b e) (in_block passes_end d a xs r at is) holds

pub if_passes_else : (d : Declarations) (s : Statement) (c : Expr) (a : Block) (b : Else) (xs : List Statement) (r q : Bool) → s.form ≡ form.If c a b → xs ≡ (out-Block a).statements → r ≡ passes_end (judged_statements d xs) → r ≡ false → q ≡ else_passes (judged_else d b) → q ≡ (judged_statement d s).passes
if_passes_else d s c a b xs r q e at is no_ told = second_tells r q _ _ _ (if_passes d s c a b e) (in_block passes_end d a xs r at is) no_ told

-- a `while`
while_passes : (d : Declarations) (s : Statement) (c : Expr) (a : Block) → s.form ≡ form.While c a → (judged_statement d s).passes ≡ (not (judged_expr d c).is_true || any_breaks (judged_block d a))
while_passes d s c a e = ap (λ (j : JudgedStatement). j.passes) (while_is d s c a e)

pub while_may_end : (d : Declarations) (s : Statement) (c : Expr) (a : Block) (b : Bool) → s.form ≡ form.While c a → b ≡ (judged_expr d c).is_true → b ≡ false → not b ≡ (judged_statement d s).passes
while_may_end d s c a b e is no_ = first_holds (not b) _ _ _ (while_passes d s c a e) (ap not is) (ap not no_)

pub while_is_left : (d : Declarations) (s : Statement) (c : Expr) (a : Block) (b : Bool) (xs : List Statement) (r : Bool) → s.form ≡ form.While c a → b ≡ (judged_expr d c).is_true → b ≡ true → xs ≡ (out-Block a).statements → r ≡ any_breaks (judged_statements d xs) → r ≡ (judged_statement d s).passes
while_is_left d s c a b xs r e is yes_ at told = second_tells (not b) r _ _ _ (while_passes d s c a e) (ap not is) (ap not yes_) (in_block any_breaks d a xs r at told)

-- where the first of statements starts
pub first_site : (d : Declarations) (xs : List Statement) (x : Statement) → 0 < length xs → x ≡ get_or xs 0 x → (judged_statement d x).site ≡ site_of (judged_statements d xs)
first_site d [] x lt e = absurd (omega arith)
first_site d (y ∷ ys) x lt e = ap (λ (z : Statement). (judged_statement d z).site) e

-- two conditions
pub and_second : (r q x y : Bool) → r ≡ x → r ≡ true → q ≡ y → q ≡ (x && y)
and_second r q x y is holds told = told ∙ ap (λ (z : Bool). z && y) (sym holds ∙ is)

pub and_first : (r x y : Bool) → r ≡ x → r ≡ false → r ≡ (x && y)
and_first r x y is no_ = no_ ∙ ap (λ (z : Bool). z && y) (sym no_ ∙ is)

pub none_mapped : {A B : Type 0} (f : A → B) (o : Option A) → is_none o ≡ is_none (option_map f o)
none_mapped f None = refl
none_mapped f (Some a) = refl

pub is_none_by : {A : Type 0} (o : Option A) (r : Bool) → is_some o ≡ not r → r ≡ is_none o
is_none_by None true h = refl
is_none_by None false h = absurd (true≢false (sym h))
is_none_by (Some a) true h = absurd (true≢false h)
is_none_by (Some a) false h = refl
