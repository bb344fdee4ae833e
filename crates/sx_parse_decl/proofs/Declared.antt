-- What a run over the head of a declaration means.
use Rattle.std.proofs.Common.{◌≡◌, ℕ, zero, suc, ◌+◌, ◌-◌, ◌≤◌, List, [], ◌∷◌, length, drop, take, Bool, true, false, refl, sym, ap, ◌∙◌, subst, arith, Some}
use Rattle.sx_token.specs.declared.kinds.Token.{Token}
use Rattle.sx_tree.specs.declared.declarations.Head.{Head}
use Rattle.sx_grammar.specs.declared.lexemes.Lexeme.{Lexeme}
use Rattle.sx_grammar.specs.Value.{Value, a_head}
use Rattle.sx_grammar.specs.Grammar.{Grammar, Out, done, fault, Cause, misfit, missing, run}
use Rattle.sx_grammar.specs.Rules.{body, head}
use Rattle.sx_grammar.specs.Lexemes.{lexemes}
use Rattle.sx_grammar.proofs.Fronts.{Found, found}
use Rattle.sx_grammar.proofs.Table.{head_fine}
use Rattle.sx_grammar.proofs.Verdict.{done_is, misfit_is, too_deep_is}
use Rattle.sx_grammar.proofs.Suffixes.{Suffix, whole_suffix, front_suffix, suffix_length, suffix_drop}
use Rattle.sx_parse_decl.specs.Reading.{blame, is_deep}
use Rattle.sx_parse_decl.specs.Answer.{place, IsHead, IsSyntax, IsDeep}

pub length_lexemes : (names : List (List ℕ)) (ts : List Token) → length (lexemes names ts) ≡ length ts
unfolding lexemes
length_lexemes names [] = refl
length_lexemes names (t ∷ ts) = let e = length_lexemes names ts in omega (arith, e)

pub record Blamed (o : Out) (left : ℕ) (deep : Bool) : Type 0 where
  pub rest : List Lexeme
  pub cause : Cause
  pub is : o ≡ fault rest cause
  pub left_is : left ≡ length rest
  pub deep_is : is_deep cause ≡ deep

some_same : (a b : ℕ × Bool) → Some a ≡ Some b → a ≡ b
some_same a b e = cc

pub blamed : (o : Out) (left : ℕ) (deep : Bool) → blame o ≡ Some (left, deep) → Blamed o left deep
blamed (done v r) left deep h = absurd (cc)
blamed (fault r c) left deep h = let e = some_same (length r, is_deep c) (left, deep) h in record { rest = r; cause = c; is = refl; left_is = sym (ap (λ (x : ℕ × Bool). x.0) e); deep_is = ap (λ (x : ℕ × Bool). x.1) e }

module _ (l : ℕ) (g : Grammar) (ls : List Lexeme) where
  pub done_suffix : (v : Value) (rest : List Lexeme) → run body l g ls ≡ done v rest → Suffix ls rest
  done_suffix v rest h = whole_suffix body (subst (Found body l g ls) h (found body l g ls))

  pub fault_suffix : (rest : List Lexeme) (c : Cause) → run body l g ls ≡ fault rest c → Suffix ls rest
  fault_suffix rest c h = front_suffix body (subst (Found body l g ls) h (found body l g ls)).front

  pub fits : (left : ℕ) (deep : Bool) → blame (run body l g ls) ≡ Some (left, deep) → left ≤ length ls
  fits left deep h = let b = blamed (run body l g ls) left deep h in let x = suffix_length (fault_suffix b.rest b.cause b.is) in let y = b.left_is in omega (arith, x, y)

module _ (l : ℕ) (ls : List Lexeme) where
  pub is_head : (at total : ℕ) (h : Head) (rest : List Lexeme) → total ≡ at + length ls → run body l head ls ≡ done (a_head h) rest → IsHead l at ls h (total - length rest)
  is_head at total h rest t e = let x = suffix_length (done_suffix l head ls (a_head h) rest e) in record { rest = rest; read = done_is l head head_fine ls (a_head h) rest e; behind = omega (arith, x, t) }

  place_is : (end left : ℕ) (rest : List Lexeme) → Suffix ls rest → left ≡ length rest → place end (drop (length ls - left) ls) ≡ place end rest
  place_is end left rest s e = ap (λ (n : ℕ). place end (drop (length ls - n) ls)) e ∙ ap (λ (r : List Lexeme). place end r) (suffix_drop s)

  not_misfit : (c : Cause) → is_deep c ≡ true → c ≡ misfit false → ⊥
  not_misfit c h e = let x = sym h ∙ ap is_deep e in cc x

  is_misfit : (c : Cause) (rest : List Lexeme) → is_deep c ≡ false → run body l head ls ≡ fault rest c → run body l head ls ≡ fault rest (misfit false)
  is_misfit (misfit true) rest h e = absurd (cc)
  is_misfit (misfit false) rest h e = e
  is_misfit missing rest h e = absurd (cc)

  pub is_syntax : (end left : ℕ) → blame (run body l head ls) ≡ Some (left, false) → IsSyntax l end ls (place end (drop (length ls - left) ls))
  is_syntax end left h =
      let b = blamed (run body l head ls) left false h in
      record { rest = b.rest; misfit = misfit_is l head head_fine ls b.rest (is_misfit b.cause b.rest b.deep_is b.is); there = place_is end left b.rest (fault_suffix l head ls b.rest b.cause b.is) b.left_is }

  pub is_too_deep : (end left : ℕ) → blame (run body l head ls) ≡ Some (left, true) → IsDeep l end ls (place end (drop (length ls - left) ls))
  is_too_deep end left h =
      let b = blamed (run body l head ls) left true h in
      record { rest = b.rest; too_deep = too_deep_is l head head_fine ls b.rest b.cause b.is (not_misfit b.cause b.deep_is); there = place_is end left b.rest (fault_suffix l head ls b.rest b.cause b.is) b.left_is }

drop_length : (n : ℕ) (ts : List Token) → n ≤ length ts → n + length (drop n ts) ≡ length ts
drop_length zero ts h = omega arith
drop_length (suc n) [] h = absurd (omega (arith, h))
drop_length (suc n) (t ∷ ts) h = let e = drop_length n ts (omega (arith, h)) in omega (arith, e)

pub counted : (names : List (List ℕ)) (at : ℕ) (ts : List Token) → at ≤ length ts → length ts ≡ at + length (lexemes names (drop at ts))
counted names at ts h = let a = length_lexemes names (drop at ts) in let b = drop_length at ts h in omega (arith, a, b)

take_all : (m : ℕ) (ts : List Token) → m ≡ length ts → take m ts ≡ ts
take_all zero [] e = refl
take_all zero (t ∷ ts) e = absurd (omega (arith, e))
take_all (suc m) [] e = absurd (omega (arith, e))
take_all (suc m) (t ∷ ts) e = ap (λ (xs : List Token). t ∷ xs) (take_all m ts (omega (arith, e)))

pub all_taken : (at : ℕ) (ts : List Token) → at ≤ length ts → take (length ts - at) (drop at ts) ≡ drop at ts
all_taken at ts h = let e = drop_length at ts h in take_all (length ts - at) (drop at ts) (omega (arith, e))
