-- Each turn of a walk leaves less to do.
use Rattle.std.proofs.Common.{◌≡◌, inl, inr, ℕ, ◌+◌, ◌<◌, ◌≤◌, ◌==◌, Bool, true, false, List, [], ◌∷◌, ◌++◌, if◌then◌else◌, length, nat_eq, find, Option, Some, arith, refl, ap, ◌∙◌, length-append}
use Rattle.std.specs.List.{list_any, sum_by}
use Rattle.std.proofs.lemmas.Bool.{eqb-true}
use Rattle.std.proofs.lemmas.List.Sums.{sum_by-cons}
use Rattle.sx_span.specs.declared.places.Node.{Node}
use Rattle.sx_typed.specs.declared.program.Function.{Function}
use Rattle.sx_typed.specs.declared.program.Typed.{Typed}
use Rattle.sx_late.specs.Mentions.{Mentions, if_there, body_mentions, function_mentions}
use Rattle.sx_late.specs.Walking.{is_seen, IsSeen, Visits, TurnIs, mentions_unseen, left_to_do}
use Rattle.sx_late.specs.declared.mentions.Mentioned.{Mentioned}
use Rattle.sx_late.specs.declared.mentions.Mentioned.TheVariants as mentioned
use Rattle.sx_late.proofs.Walks.{seen_still, seen_here}

module _ (typed : Typed) (seen : List ℕ) (n : Node) (new : is_seen seen n ≡ false) where
  abbrev after : List ℕ
  after = seen ++ n.0 ∷ []

  abbrev before : Function → ℕ
  before f = mentions_unseen typed seen f

  abbrev later : Function → ℕ
  later f = mentions_unseen typed after f

  none_if_seen : (s : List ℕ) (f : Function) → IsSeen s f.node → mentions_unseen typed s f ≡ 0
  none_if_seen s f is = ap (λ b. if b then 0 else length (body_mentions typed f)) is

  all_if_unseen : (f : Function) → is_seen seen f.node ≡ false → before f ≡ length (body_mentions typed f)
  all_if_unseen f is = ap (λ b. if b then 0 else length (body_mentions typed f)) is

  at_most : (f : Function) (b : Bool) → (if b then 0 else length (body_mentions typed f)) ≤ length (body_mentions typed f)
  at_most f true = omega arith
  at_most f false = omega arith

  no_more : (f : Function) → later f ≤ before f
  no_more f = by (is_seen seen f.node) refl
    where
      by : (b : Bool) → is_seen seen f.node ≡ b → later f ≤ before f
      by true is = let none = none_if_seen after f (seen_still seen f.node n.0 is) in omega (arith, none)
      by false is = let all = all_if_unseen f is in let most = at_most f (is_seen after f.node) in omega (arith, all, most)

  gone : (f : Function) → f.node.0 ≡ n.0 → later f + length (body_mentions typed f) ≡ before f
  gone f e =
      let none = none_if_seen after f (seen_here seen f.node n.0 e) in
      let all = all_if_unseen f (ap (λ k. list_any (nat_eq k) seen) e ∙ new) in
      omega (arith, none, all)

  none_more : (fs : List Function) → sum_by later fs ≤ sum_by before fs
  none_more [] = omega arith
  none_more (f ∷ fs) = omega (arith, sum_by-cons later f fs, sum_by-cons before f fs, no_more f, none_more fs)

  fewer_with : (f : Function) (fs : List Function) (b : Bool) → (f.node.0 == n.0) ≡ b
      → sum_by later fs + length (if_there (body_mentions typed) (find (λ (f : Function). f.node.0 == n.0) fs)) ≤ sum_by before fs
      → sum_by later (f ∷ fs) + length (if_there (body_mentions typed) (if b then Some f else find (λ (f : Function). f.node.0 == n.0) fs)) ≤ sum_by before (f ∷ fs)
  fewer_with f fs true e rest = omega (arith, sum_by-cons later f fs, sum_by-cons before f fs, gone f (eqb-true f.node.0 n.0 e), none_more fs)
  fewer_with f fs false e rest = omega (arith, sum_by-cons later f fs, sum_by-cons before f fs, no_more f, rest)

  fewer : (fs : List Function) → sum_by later fs + length (if_there (body_mentions typed) (find (λ (f : Function). f.node.0 == n.0) fs)) ≤ sum_by before fs
  fewer [] = omega arith
  fewer (f ∷ fs) = fewer_with f fs (f.node.0 == n.0) refl (fewer fs)

  pub less_seen : (work : Mentions) (m : Mentioned) → left_to_do typed after (work ++ function_mentions typed n) < left_to_do typed seen (work ++ m ∷ [])
  less_seen work m = omega (arith, fewer typed.functions, length-append work (function_mentions typed n), length-append work (m ∷ []))

module _ (typed : Typed) (seen : List ℕ) (work : Mentions) where
  less_left : (m : Mentioned) → left_to_do typed seen work < left_to_do typed seen (work ++ m ∷ [])
  less_left m = omega (arith, length-append work (m ∷ []))

  visit_less : (n : Node) (seen_after : List ℕ) (left : Mentions) → Visits typed n seen work seen_after left → left_to_do typed seen_after left < left_to_do typed seen (work ++ mentioned.Function n ∷ [])
  visit_less n seen_after left (inl was) = rw (was.1, was.2) (less_left (mentioned.Function n))
  visit_less n seen_after left (inr new) = rw (new.1, new.2) (less_seen typed seen n new.0 work (mentioned.Function n))

  pub turn_less : (declared : ℕ) (least lower : Option ℕ) (seen_after : List ℕ) (left : Mentions) (m : Mentioned) → TurnIs typed declared m seen work least seen_after left lower
      → left_to_do typed seen_after left < left_to_do typed seen (work ++ m ∷ [])
  turn_less declared least lower seen_after left (mentioned.Function n) turn = visit_less n seen_after left turn.0
  turn_less declared least lower seen_after left (mentioned.Global g) turn = rw (turn.0, turn.1) (less_left (mentioned.Global g))
