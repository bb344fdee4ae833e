-- Shorter fronts of a front, and the longest one.
use Rattle.std.proofs.Common.{◌≡◌, ℕ, ◌+◌, ◌-◌, ◌≤◌, ◌<◌, List, [], length, take, drop, Bool, ap, ◌∙◌, subst, inl, inr, arith, Some}
use Rattle.std.proofs.lemmas.List.{take-take, length-take-le}
use Rattle.sx_token.specs.declared.kinds.Token.{Token}
use Rattle.sx_grammar.specs.declared.lexemes.Lexeme.{Lexeme}
use Rattle.sx_grammar.specs.declared.lexemes.Sort.{Sort}
use Rattle.sx_grammar.specs.declared.lexemes.Sort.TheVariants as sorts
use Rattle.sx_grammar.specs.Grammar.{run}
use Rattle.sx_grammar.specs.Rules.{body}
use Rattle.sx_grammar.specs.Lexemes.{lexemes}
use Rattle.sx_parse_decl.specs.Reading.{blame}
use Rattle.sx_parse_decl.proofs.Declared.{blamed, length_lexemes}
use Rattle.sx_parser.specs.Text.{text}
use Rattle.sx_parser.specs.Fronts.{AreFront, IsFront, first_sort, lexemes_before}
use Rattle.sx_parser.specs.Answer.{IsLongest}
use Rattle.sx_parser.proofs.Cuts.{cut, order}
use Rattle.sx_parser.proofs.Lexing.{as_before, length_before, take_before}
use Rattle.sx_parser.proofs.Reached.{ended, fewer}

module _ (names : List (List ℕ)) (ts : List Token) where
  -- of the first ones
  of_first : (behind : Sort) (n : ℕ) → AreFront (take n (lexemes_before names behind ts)) → IsFront names (take n ts)
  of_first behind n x = record { behind = first_sort names behind (drop n ts); lexemes = subst AreFront (take_before names behind n ts) x }

  pub shorter : (n : ℕ) → n ≤ length ts → IsFront names ts → IsFront names (take n ts)
  shorter n h x =
      let ls = lexemes_before names x.behind ts in
      let e : length ls ≡ length ts = length_before names x.behind ts in
      let k : length ls - (length ts - n) ≡ n = omega (arith, e, h) in
      of_first x.behind n (subst (λ (m : ℕ). AreFront (take m ls)) k (fewer (length ts - n) ls [] x.lexemes.open_levels x.lexemes.front (omega arith)))

  -- what a run has read when it stops is a front
  pub read_front : (l left : ℕ) (deep : Bool) → blame (run body l text (lexemes names ts)) ≡ Some (left, deep) → IsFront names (take (length ts - left) ts)
  read_front l left deep h =
      let ls = lexemes names ts in
      let b = blamed (run body l text ls) left deep h in
      let e = ended l ls b.rest b.cause b.is in
      let x : AreFront (cut left ls) = fewer left ls b.rest e.count e.front (omega (arith, b.left_is)) in
      let k : length ls - left ≡ length ts - left = ap (λ (n : ℕ). n - left) (length_lexemes names ts) in
      of_first sorts.Misfit (length ts - left) (subst AreFront (ap (λ (n : ℕ). take n ls) k ∙ ap (λ (ls : List Lexeme). take (length ts - left) ls) (as_before names ts)) x)

module _ (names : List (List ℕ)) (ts : List Token) where
  pub shorter_of : (n k : ℕ) → k ≤ length ts → n ≤ k → IsFront names (take k ts) → IsFront names (take n ts)
  shorter_of n k h g x = subst (IsFront names) (take-take n k ts g) (shorter names (take k ts) n (omega (arith, length-take-le k ts h, g)) x)

  -- one more is no front
  pub is_longest : (count : ℕ) → count < length ts → IsFront names (take count ts) → (IsFront names (take (count + 1) ts) → ⊥) → IsLongest names ts count
  is_longest count h x stop = record {
    within = omega (arith, h);
    front = x;
    farthest = λ n le y. elim (order n count) [ inl k ↦ k | inr k ↦ absurd (stop (shorter_of (count + 1) n le (omega (arith, k)) y)) ];
  }
