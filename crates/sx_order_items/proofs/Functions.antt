-- Functions and methods: each is a node, and takes those of its head and of its body.
use Rattle.std.proofs.Common.{◌≡◌, ℕ, suc, ◌+◌, ◌≤◌, not, List, ◌++◌, Option, None, length, length-append, map, refl, sym, arith}
use Rattle.sx_span.specs.declared.places.Node.{Node}
use Rattle.sx_types.specs.declared.types.Ty.{Ty}
use Rattle.sx_tree.specs.declared.code.Block.{Block}
use Rattle.sx_tree.specs.declared.declarations.Function.{Function}
use Rattle.sx_tree.specs.Nodes.{all, block_places, function_places, option_places, parameter_places, type_places}
use Rattle.sx_typed.specs.declared.code.Statement.{Statement}
use Rattle.sx_typed.specs.declared.program.Function.{Function as TypedFunction}
use Rattle.sx_scope.specs.declared.declarations.Declarations.{Declarations}
use Rattle.sx_scope.specs.declared.stop.TypeKind.TheVariants as kind
use Rattle.sx_scope.specs.declared.walk.Gives.TheVariants as gives
use Rattle.sx_scope.specs.declared.walk.Place.{Place}
use Rattle.sx_scope.specs.declared.walk.Walk.{Walk}
use Rattle.sx_scope.specs.Verdict.{Verdict, typed, Judging, ◌▷◌, both, both_by, moved}
use Rattle.sx_bodies.specs.Statements.{lacks_return}
use Rattle.sx_check_expr.specs.Judge.{judged_block}
use Rattle.sx_heads.specs.declared.parameters.HeadParameter.{HeadParameter}
use Rattle.sx_heads.specs.declared.parameters.ParameterList.TheVariants as lists
use Rattle.sx_heads.specs.Heads.{checked_head}
use Rattle.sx_heads.specs.Widths.{is_narrow_head}
use Rattle.sx_functions.specs.Functions.{FunctionParts, narrow_head, given_by, function_parts, returning, typed_function, function_added, function}
use Rattle.sx_functions.specs.Places.{body_place, body_value, is_new, left, new_name}
use Rattle.sx_order.specs.Order.{Lies, starting, since, Stands, Keeps, Spans, Stays, Takes, Anything, Anywhere}
use Rattle.sx_order.proofs.Growing.{reaches-first, stands-added}
use Rattle.sx_order.proofs.Spans.{▷-spans, behind-adds, both_by-spans, spans-to, anything, typed-stays, need-stays, need_narrow-stays, moved-spans, numbered-adds, earlier}
use Rattle.sx_order_code.specs.Code.{CodeSpans}
use Rattle.sx_order_items.proofs.Heads.{checked_head-takes}
use Rattle.sx_order.proofs.Own.{own_both-spans}

pub new_name-stays : {lo hi : ℕ} (d : Declarations) (seen : List ℕ) (x : ℕ) (n : Node) → Lies lo hi n → Stays lo hi Anything (new_name d seen x n)
new_name-stays d seen x n i = need-stays (is_new d seen x) kind.Duplicate n (typed tt) i (typed-stays tt tt)

pub left-next : (before : Walk) → Keeps (left before)
left-next before w = (refl, refl)

pub narrow_head-stays : {lo hi : ℕ} (d : Declarations) (owner : Option Ty) (n : Node) (f : Function) (h : List HeadParameter × Ty) → Lies lo hi n → Stays lo hi Anything (narrow_head d owner n f h)
narrow_head-stays d owner n f h i = need_narrow-stays (is_narrow_head d.types f.mutating owner h.0) n (typed h) i (typed-stays h tt)

pub returning-stays : {lo hi : ℕ} (d : Declarations) (n : Node) (f : Function) (x : Unit {0} × FunctionParts) → Lies lo hi n → Stays lo hi Anything (returning d n f x)
returning-stays d n f (u, (h, ss)) i =
    need-stays (not (lacks_return (gives.Type h.1) (judged_block d f.body))) kind.MissingReturn n (typed (h, ss)) i (typed-stays (h, ss) tt)

-- a function at node m comes before the literals that stand in it
pub function_added-adds : {lo hi : ℕ} (owner : Option Ty) (n : Node) (f : Function) (before : ℕ) (x : FunctionParts) (fs : List TypedFunction) (m : ℕ) (w : Walk) → n.0 ≡ m → before ≡ length fs →
    Stands (starting fs (suc m)) hi w → Spans (starting fs m) lo hi Anything (function_added owner n f before x w)
function_added-adds owner n f before (h, ss) fs m w at e s = record { holds = (stands-added m before (typed_function owner n f (h, ss)) w at e s, tt) }

-- a body, behind what comes before it
pub body_value-spans : (d : Declarations) → CodeSpans d → (p : Place) (b : Block) (lo hi : ℕ) (w : Walk) → w.next ≡ lo → hi ≡ length (block_places b) + lo → Spans (since w) lo hi Anything (body_value d p b w)
body_value-spans d code p b lo hi w e s = spans-to (body_value d p b w) (sym s) (code.bodies p b lo w e)

module _ (d : Declarations) (code : CodeSpans d) where
  pub function_parts-spans : (owner : Option Ty) (n : Node) (f : Function) (k m lo mid hi : ℕ) (w : Walk) → k ≡ length (all (map parameter_places f.parameters) ++ option_places type_places f.result) → m ≡ length (block_places f.body) →
      w.next ≡ mid → lo ≤ mid → hi ≡ m + (k + mid) → Lies lo (k + mid) n → Spans (since w) lo hi Anything (function_parts d owner n f w)
  function_parts-spans owner n f k m lo mid hi w ek em e l s i =
      let v : Verdict (List HeadParameter × Ty) = checked_head d lists.OfFunction f.parameters f.result w in
      let goes : Option (List HeadParameter × Ty) → Judging (List Statement) = λ h. body_value d (body_place owner f.mutating None (given_by h)) f.body in
      let sum : length (all (map parameter_places f.parameters) ++ option_places type_places f.result) + mid ≡ k + mid = omega (arith, ek) in
      let head : Spans (since w) lo (k + mid) Anything v = earlier lo v l (spans-to v sum (checked_head-takes d lists.OfFunction f.parameters f.result mid w e)) in
      let narrow : Spans (since w) lo (k + mid) Anything (v ▷ narrow_head d owner n f) = ▷-spans v (narrow_head d owner n f) head (λ h _. narrow_head-stays d owner n f h i) in
      anything (both_by (v ▷ narrow_head d owner n f) goes)
      (both_by-spans (v ▷ narrow_head d owner n f) goes (omega (arith, l)) (omega (arith, s)) narrow
      (λ o u g. body_value-spans d code (body_place owner f.mutating None (given_by o)) f.body (k + mid) hi u g (omega (arith, s, em))))

  pub function-spans : (owner : Option Ty) (seen : List ℕ) (f : Function) (k m lo hi : ℕ) (n : Node) (w : Walk) → k ≡ length (all (map parameter_places f.parameters) ++ option_places type_places f.result) → m ≡ length (block_places f.body) →
      n.0 ≡ lo → w.next ≡ suc lo → hi ≡ m + (k + suc lo) →
      Spans (starting w.literals lo) lo hi Anything (moved (left w) (both (new_name d seen f.name.number n w) (function_parts d owner n f) ▷ returning d n f) ▷ function_added owner n f (length w.literals))
  function-spans owner seen f k m lo hi n w ek em at e s =
      let name : Spans (since w) lo (suc lo) Anything (new_name d seen f.name.number n w) = new_name-stays d seen f.name.number n (omega (arith, at), omega (arith, at)) w (reaches-first w e) in
      let v : Verdict (Unit {0} × FunctionParts) = both (new_name d seen f.name.number n w) (function_parts d owner n f) in
      let parts : (u : Walk) → u.next ≡ suc lo → Spans (since u) lo hi Anything (function_parts d owner n f u) =
      λ u g. function_parts-spans owner n f k m lo (suc lo) hi u ek em g (omega arith) s (omega (arith, at), omega (arith, at)) in
      behind-adds lo w (moved (left w) (v ▷ returning d n f)) (function_added owner n f (length w.literals)) e
      (moved-spans (left w) (v ▷ returning d n f) (left-next w)
      (▷-spans v (returning d n f) (own_both-spans (new_name d seen f.name.number n w) (function_parts d owner n f) (omega (arith, s)) name parts)
      (λ x _. returning-stays d n f x (omega (arith, at), omega (arith, at, s)))))
      (λ x _ u g. function_added-adds owner n f (length w.literals) x w.literals lo u at refl g)

  pub function-takes : (owner : Option Ty) (seen : List ℕ) (f : Function) → Takes (length (function_places f)) Anywhere (function d owner seen f)
  function-takes owner seen f =
      let head : List ℕ = all (map parameter_places f.parameters) in
      let result : List ℕ = option_places type_places f.result in
      let inner : List ℕ = block_places f.body in
      let whole : length (head ++ (result ++ inner)) ≡ length head + length (result ++ inner) = length-append head (result ++ inner) in
      let behind : length (result ++ inner) ≡ length result + length inner = length-append result inner in
      let before : length (head ++ result) ≡ length head + length result = length-append head result in
      numbered-adds Anywhere (length (head ++ (result ++ inner))) (λ n w. moved (left w) (both (new_name d seen f.name.number n w) (function_parts d owner n f) ▷ returning d n f) ▷ function_added owner n f (length w.literals))
      (λ lo hi n at sum w e. function-spans owner seen f (length (head ++ result)) (length inner) lo hi n w refl refl at e (omega (arith, sum, whole, behind, before)))
