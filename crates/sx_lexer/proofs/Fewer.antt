-- A place behind another has no more bytes.
use Rattle.std.proofs.Common.{◌≡◌, ℕ, zero, suc, ◌≤◌, List, [], ◌∷◌, length, Bool, true, false, cond, nat_eq, Some, None, sym, ap, ◌∙◌, arith, length-append, inl, inr, encode_utf8, encode_utf8_all}
use Rattle.sx_lexer.specs.declared.characters.Begins.{Begins}
use Rattle.sx_lexer.specs.declared.characters.Begins.TheVariants as begin
use Rattle.sx_lexer.specs.declared.characters.RunKind.{RunKind}
use Rattle.sx_lexer.specs.declared.characters.RunKind.TheVariants as run_kinds
use Rattle.sx_lexer.specs.declared.faults.LexKind.{LexKind}
use Rattle.sx_lexer.specs.Characters.{runs, Run, run_ends, run_goes, past}
use Rattle.sx_lexer.specs.Lexis.{SpaceAs, TokenAs, FaultyAs, Lexeme, Ends, ends_here, ends_inner, ends_opened, ends_other, after, Spells, spells_end, spells_plain, spells_escape, BadEscapeAt, bad_here, bad_plain, bad_escape, FaultyText, multiline, open_string, bad_text, escape, unicode_escape, bracketed, beside, simple_escape}
use Rattle.sx_lexer.proofs.TextEnds.{tell}
use Rattle.sx_lexer.proofs.EscapeEnds.{bracket_end, beside_same, none_some, made}

pub step_fewer : (c : ℕ) (s : List ℕ) → length (encode_utf8_all s) ≤ length (encode_utf8_all (c ∷ s))
step_fewer c s = let e = length-append (encode_utf8 c) (encode_utf8_all s) in omega (arith, e)

pub after_fewer : (s : List ℕ) → length (encode_utf8_all (after s)) ≤ length (encode_utf8_all s)
after_fewer [] = omega arith
after_fewer (c ∷ s) = step_fewer c s

pub run_fewer : (kind : RunKind) (s r : List ℕ) → Run kind s r → length (encode_utf8_all r) ≤ length (encode_utf8_all s)
run_fewer kind s _ (run_ends h) = omega arith
run_fewer kind _ r (run_goes {c = c} {s = s} h x) = let i = run_fewer kind s r x in let j = step_fewer c s in omega (arith, i, j)

past_fewer : (kind : RunKind) (s : List ℕ) → length (encode_utf8_all (past kind s)) ≤ length (encode_utf8_all s)
unfolding past
past_fewer kind [] = omega arith
past_fewer kind (c ∷ s) =
    elim (runs kind (c ∷ s)) as (λ b. length (encode_utf8_all (cond b (past kind s) (c ∷ s))) ≤ length (encode_utf8_all (c ∷ s))) [
      | true ↦ let i = past_fewer kind s in let j = step_fewer c s in omega (arith, i, j)
      | false ↦ omega arith
    ]

pub ends_fewer : (n : ℕ) (s r : List ℕ) (b : Bool) → Ends n s r b → length (encode_utf8_all r) ≤ length (encode_utf8_all s)
ends_fewer zero s _ _ ends_here = omega arith
ends_fewer (suc n) _ r b (ends_inner {s = s} x) = let i = ends_fewer n s r b x in let j = step_fewer 47 s in let k = step_fewer 42 (47 ∷ s) in omega (arith, i, j, k)
ends_fewer (suc n) _ r b (ends_opened {s = s} x) = let i = ends_fewer (suc (suc n)) s r b x in let j = step_fewer 42 s in let k = step_fewer 47 (42 ∷ s) in omega (arith, i, j, k)
ends_fewer (suc n) _ r _ (ends_other {c = c} {s = s} {b = b} h x) = let i = ends_fewer (suc n) s r b x in let j = step_fewer c s in omega (arith, i, j)

unicode_fewer : (s q : List ℕ) (v : ℕ) → unicode_escape s ≡ made v q → length (encode_utf8_all q) ≤ length (encode_utf8_all s)
unicode_fewer [] q v h = none_some _ h
unicode_fewer (c ∷ s) q v h =
    elim (tell (nat_eq c 123)) [
      | inr k ↦ none_some _ (sym (ap (λ t. cond t (bracketed s (past run_kinds.Hexadecimal s)) None) k) ∙ h)
      | inl k ↦
          let e = bracket_end s (past run_kinds.Hexadecimal s) q v (sym (ap (λ t. cond t (bracketed s (past run_kinds.Hexadecimal s)) None) k) ∙ h) in
          let i = past_fewer run_kinds.Hexadecimal s in
          let f = ap (λ t. length (encode_utf8_all t)) e in
          let j = step_fewer 125 q in
          let m = step_fewer c s in
          omega (arith, i, f, j, m)
    ]

pub escape_fewer : (s q : List ℕ) (v : ℕ) → escape s ≡ Some (v, q) → length (encode_utf8_all q) ≤ length (encode_utf8_all s)
unfolding escape
escape_fewer [] q v h = none_some _ h
escape_fewer (c ∷ s) q v h =
    let j = step_fewer c s in
    elim (tell (nat_eq c 117)) [
      | inl k ↦ let i = unicode_fewer s q v (sym (ap (λ t. cond t (unicode_escape s) (beside s (simple_escape c))) k) ∙ h) in omega (arith, i, j)
      | inr k ↦
          let b = beside_same s q v (simple_escape c) (sym (ap (λ t. cond t (unicode_escape s) (beside s (simple_escape c))) k) ∙ h) in
          let f = ap (λ t. length (encode_utf8_all t)) b.2 in
          omega (arith, f, j)
    ]

pub spells_fewer : (s r v : List ℕ) → Spells s r v → length (encode_utf8_all r) ≤ length (encode_utf8_all s)
spells_fewer _ r _ spells_end = step_fewer 34 r
spells_fewer _ r _ (spells_plain {c = c} {s = s} {v = v} h x) = let i = spells_fewer s r v x in let j = step_fewer c s in omega (arith, i, j)
spells_fewer _ r _ (spells_escape {c = c} {s = s} {q = q} {v = v} h x) = let i = spells_fewer q r v x in let j = step_fewer 92 s in let k = escape_fewer s q c h in omega (arith, i, j, k)

pub bad_fewer : (s p : List ℕ) → BadEscapeAt s p → length (encode_utf8_all p) ≤ length (encode_utf8_all s)
bad_fewer _ _ (bad_here h) = omega arith
bad_fewer _ p (bad_plain {c = c} {s = s} h x) = let i = bad_fewer s p x in let j = step_fewer c s in omega (arith, i, j)
bad_fewer _ p (bad_escape {c = c} {s = s} {q = q} h x) = let i = bad_fewer q p x in let j = step_fewer 92 s in let k = escape_fewer s q c h in omega (arith, i, j, k)

pub same_fewer : (s r : List ℕ) → r ≡ s → length (encode_utf8_all r) ≤ length (encode_utf8_all s)
same_fewer s r e = let f = ap (λ t. length (encode_utf8_all t)) e in omega (arith, f)

pub space_fewer : (x : Begins) (s r : List ℕ) (b : Bool) → SpaceAs x s r b → length (encode_utf8_all r) ≤ length (encode_utf8_all s)
space_fewer begin.Space s r b h = let i = same_fewer (after s) r h.0 in let j = after_fewer s in omega (arith, i, j)
space_fewer begin.LineComment s r b h = let i = run_fewer run_kinds.Line (after s) r h.0 in let j = after_fewer s in omega (arith, i, j)
space_fewer begin.BlockComment s r b h = let i = ends_fewer 1 (after (after s)) r b h in let j = after_fewer s in let k = after_fewer (after s) in omega (arith, i, j, k)
space_fewer begin.Nothing s r b h = absurd h
space_fewer begin.Digit s r b h = absurd h
space_fewer begin.Quote s r b h = absurd h
space_fewer begin.Operator s r b h = absurd h
space_fewer (begin.Mark m) s r b h = absurd h
space_fewer begin.Letter s r b h = absurd h
space_fewer begin.Other s r b h = absurd h

pub token_fewer : (x : Begins) (s r : List ℕ) (t : Lexeme) → TokenAs x s r t → length (encode_utf8_all r) ≤ length (encode_utf8_all s)
token_fewer begin.Letter s r t h = let i = run_fewer run_kinds.Word (after s) r h.0 in let j = after_fewer s in omega (arith, i, j)
token_fewer begin.Digit s r t h = let i = run_fewer run_kinds.Word (after s) r h.0 in let j = after_fewer s in omega (arith, i, j)
token_fewer begin.Operator s r t h = let i = run_fewer run_kinds.Operator (after s) r h.0 in let j = after_fewer s in omega (arith, i, j)
token_fewer begin.Quote s r t h = let i = spells_fewer (after s) r h.0 h.1.spells in let j = after_fewer s in omega (arith, i, j)
token_fewer (begin.Mark m) s r t h = let i = same_fewer (after s) r h.0 in let j = after_fewer s in omega (arith, i, j)
token_fewer begin.Nothing s r t h = absurd h
token_fewer begin.Space s r t h = absurd h
token_fewer begin.LineComment s r t h = absurd h
token_fewer begin.BlockComment s r t h = absurd h
token_fewer begin.Other s r t h = absurd h

text_fewer : (s p : List ℕ) (k : LexKind) → FaultyText s k p → length (encode_utf8_all p) ≤ length (encode_utf8_all s)
text_fewer s _ _ (multiline h) = omega arith
text_fewer s _ _ (open_string h n) = omega arith
text_fewer s p _ (bad_text h x y) = let i = bad_fewer (after s) p y in let j = after_fewer s in omega (arith, i, j)

pub faulty_fewer : (x : Begins) (s p : List ℕ) (k : LexKind) → FaultyAs x s k p → length (encode_utf8_all p) ≤ length (encode_utf8_all s)
faulty_fewer begin.Digit s p k h = same_fewer s p h.0
faulty_fewer begin.Operator s p k h = same_fewer s p h.0
faulty_fewer begin.BlockComment s p k h = same_fewer s p h.0
faulty_fewer begin.Other s p k h = same_fewer s p h.0
faulty_fewer begin.Quote s p k h = text_fewer s p k h
faulty_fewer begin.Nothing s p k h = absurd h
faulty_fewer begin.Space s p k h = absurd h
faulty_fewer begin.LineComment s p k h = absurd h
faulty_fewer begin.Letter s p k h = absurd h
faulty_fewer (begin.Mark m) s p k h = absurd h
