-- What a run over a text says of fronts.
use Rattle.std.proofs.Common.{◌≡◌, ℕ, ◌-◌, ◌≤◌, List, [], ◌∷◌, length, Bool, true, false, refl, sym, ◌∙◌, subst, arith, Some, IsTrue, ◌↔◌, nat_eq}
use Rattle.std.proofs.lemmas.List.{take_all}
use Rattle.std.proofs.lemmas.Bool.{eq-eqb, eqb-true}
use Rattle.sx_grammar.specs.declared.lexemes.Lexeme.{Lexeme}
use Rattle.sx_grammar.specs.Value.{Value}
use Rattle.sx_grammar.specs.Grammar.{Front, done, fault, Cause, misfit, missing, run}
use Rattle.sx_grammar.specs.Rules.{body}
use Rattle.sx_grammar.specs.Answer.{IsTooDeep, opens_too_much, is_blocked}
use Rattle.sx_grammar.proofs.Fronts.{Found, found, Ended}
use Rattle.sx_grammar.proofs.Verdict.{done_is, misfit_is, too_deep_is}
use Rattle.sx_parse_decl.specs.Reading.{blame}
use Rattle.sx_parse_decl.proofs.Declared.{blamed}
use Rattle.sx_parser.specs.Text.{text}
use Rattle.sx_parser.specs.Fronts.{AreFront}
use Rattle.sx_parser.proofs.Choices.{text_fine}
use Rattle.sx_parser.proofs.Cuts.{cut, IsBegun, whole_begun, front_begun, front_levels}

begun : (ls : List Lexeme) → IsBegun body text ls → AreFront ls
begun ls x = record { open_levels = x.open_levels; front = x.front }

pub fewer : (n : ℕ) (ls rest : List Lexeme) (m : ℕ) → Front body m text ls rest → length rest ≤ n → AreFront (cut n ls)
fewer n ls rest m p h = begun (cut n ls) (front_begun body n p h)

cut_none : (ls : List Lexeme) → cut 0 ls ≡ ls
cut_none ls = take_all (length ls - 0) ls (omega arith)

none_left : (rest : List Lexeme) → length rest ≡ 0 → rest ≡ []
none_left [] h = refl
none_left (l ∷ ls) h = absurd (omega (arith, h))

module _ (l : ℕ) (ls : List Lexeme) where
  pub done_front : (v : Value) → run body l text ls ≡ done v [] → AreFront ls
  done_front v h = subst AreFront (cut_none ls) (begun (cut 0 ls) (whole_begun body 0 (done_is l text text_fine ls v [] h).whole (omega arith)))

  pub ended : (rest : List Lexeme) (c : Cause) → run body l text ls ≡ fault rest c → Ended body l text ls rest c
  ended rest c h = subst (Found body l text ls) h (found body l text ls)

  pub fault_front : (left : ℕ) (deep : Bool) → blame (run body l text ls) ≡ Some (left, deep) → left ≡ 0 → AreFront ls
  fault_front left deep h z =
      let b = blamed (run body l text ls) left deep h in
      let e = ended b.rest b.cause b.is in
      record { open_levels = e.count; front = subst (λ (r : List Lexeme). Front body e.count text ls r) (none_left b.rest (sym b.left_is ∙ z)) e.front }

  not_deep : (rest : List Lexeme) → length ls ≤ l → IsTooDeep l text ls rest → AreFront ls → length rest ≡ 0
  not_deep rest h (opens_too_much o) x = let e = front_levels body o.front in absurd (omega (arith, h, e))
  not_deep rest h (is_blocked b) x = let e : length rest ≤ 0 = b.farthest x.open_levels [] x.front in omega (arith, e)

  not_at : (rest : List Lexeme) (c : Cause) → length ls ≤ l → run body l text ls ≡ fault rest c → AreFront ls → length rest ≡ 0
  not_at rest (misfit false) h e x = let y : length rest ≤ 0 = (misfit_is l text text_fine ls rest e).farthest x.open_levels [] x.front in omega (arith, y)
  not_at rest (misfit true) h e x = not_deep rest h (too_deep_is l text text_fine ls rest (misfit true) e (λ q. absurd (cc q))) x
  not_at rest missing h e x = not_deep rest h (too_deep_is l text text_fine ls rest missing e (λ q. absurd (cc q))) x

  pub front_ends : (left : ℕ) (deep : Bool) → length ls ≤ l → blame (run body l text ls) ≡ Some (left, deep) → AreFront ls → left ≡ 0
  front_ends left deep k h x = let b = blamed (run body l text ls) left deep h in b.left_is ∙ not_at b.rest b.cause k b.is x

  pub at_end : (left : ℕ) (deep : Bool) → length ls ≤ l → blame (run body l text ls) ≡ Some (left, deep) → IsTrue (nat_eq left 0) ↔ AreFront ls
  at_end left deep k h = ((λ x. fault_front left deep h (eqb-true left 0 x)), (λ x. eq-eqb left 0 (front_ends left deep k h x)))
