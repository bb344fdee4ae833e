-- What stands behind a backslash, and texts across an escape.
use Rattle.std.proofs.Common.{◌≡◌, ℕ, List, [], ◌∷◌, ◌++◌, true, false, cond, ◌&&◌, nat_eq, Option, Some, None, refl, sym, ap, ◌∙◌, subst, arith, inl, inr, append_assoc, append-nil, encode_utf8}
use Rattle.sx_lexer.specs.declared.characters.RunKind.TheVariants as run_kinds
use Rattle.sx_lexer.specs.Characters.{is_line_end, is_hexadecimal, Run, past, between}
use Rattle.sx_lexer.specs.Scans.{is_closed}
use Rattle.sx_lexer.specs.Words.{value_after}
use Rattle.sx_lexer.specs.Lexis.{is_plain, unicode_escape, bracketed, beside, simple_escape, escape, is_scalar_text, Spells, spells_end, spells_plain, spells_escape, BadEscapeAt, bad_here, bad_plain, bad_escape}
use Rattle.sx_lexer.proofs.Runs.{run_past}
use Rattle.sx_lexer.proofs.TextEnds.{plain_closed, escaped_closed, line_open, tell, clash, reads, reads_line, reads_quote, reads_backslash, reads_plain}

pub unicode_same : (s digits end : List ℕ) (c : ℕ) → s ≡ c ∷ digits → c ≡ 123 → Run run_kinds.Hexadecimal digits end → unicode_escape s ≡ bracketed digits end
unicode_same s digits end c e f x =
    ap unicode_escape (e ∙ ap (λ t. t ∷ digits) f) ∙ ap (bracketed digits) (run_past run_kinds.Hexadecimal digits end x)

-- A text goes on behind an escape as before it.

hexadecimal_plain : (c : ℕ) → is_hexadecimal c ≡ true → is_plain c ≡ true
hexadecimal_plain c h = grind arith

past_closed : (s : List ℕ) → is_closed false s ≡ is_closed false (past run_kinds.Hexadecimal s)
unfolding past
past_closed [] = refl
past_closed (c ∷ s) =
    elim (tell (is_hexadecimal c)) [
      | inl h ↦ plain_closed c s (hexadecimal_plain c h) ∙ (past_closed s ∙ sym (ap (λ t. is_closed false (cond t (past run_kinds.Hexadecimal s) (c ∷ s))) h))
      | inr h ↦ sym (ap (λ t. is_closed false (cond t (past run_kinds.Hexadecimal s) (c ∷ s))) h)
    ]

pub record Bracketed (s end : List ℕ) (v : ℕ) (q : List ℕ) : Type 0 where
  pub same : end ≡ 125 ∷ q

pub none_some : {X Y : Type 0} (x : X) → let o : Option X = None in o ≡ Some x → Y
none_some x h = absurd (cc)

abbrev pub Behind : Type 0
Behind = Option (ℕ × List ℕ)

abbrev pub made : ℕ → List ℕ → Behind
made v q = Some (v, q)

place_same : (v w : ℕ) (q r : List ℕ) → made v q ≡ made w r → q ≡ r
place_same v w q r h = ap (λ o. elim o as (λ _. List ℕ) [ Some p ↦ p.1 | None ↦ q ]) h

pub bracket_end : (s end q : List ℕ) (v : ℕ) → bracketed s end ≡ made v q → end ≡ 125 ∷ q
bracket_end s [] q v h = none_some _ h
bracket_end s (e ∷ r) q v h =
    elim (tell (nat_eq e 125 && is_scalar_text (between s (e ∷ r)))) [
      | inr k ↦ none_some _ (sym (ap (λ t. cond t (made (value_after 16 0 (between s (e ∷ r))) r) None) k) ∙ h)
      | inl k ↦
          let f : r ≡ q = place_same _ _ r q (sym (ap (λ t. cond t (made (value_after 16 0 (between s (e ∷ r))) r) None) k) ∙ h) in
          let g : e ≡ 125 = grind (arith, k) in
          ap (λ t. t ∷ r) g ∙ ap (λ t. 125 ∷ t) f
    ]

simple_inside : (c v : ℕ) → simple_escape c ≡ Some v → is_line_end c ≡ false
simple_inside c v h = grind arith

pub beside_same : (s q : List ℕ) (v : ℕ) (o : Option ℕ) → beside s o ≡ made v q → (w : ℕ) × (o ≡ Some w) × (s ≡ q)
beside_same s q v None h = none_some _ h
beside_same s q v (Some w) h = (w, refl, place_same w v s q h)

unicode_closed : (s q : List ℕ) (v : ℕ) → unicode_escape s ≡ made v q → is_closed false s ≡ is_closed false q
unicode_closed [] q v h = none_some _ h
unicode_closed (c ∷ s) q v h =
    elim (tell (nat_eq c 123)) [
      | inr k ↦ none_some _ (sym (ap (λ t. cond t (bracketed s (past run_kinds.Hexadecimal s)) None) k) ∙ h)
      | inl k ↦
          let e = bracket_end s (past run_kinds.Hexadecimal s) q v (sym (ap (λ t. cond t (bracketed s (past run_kinds.Hexadecimal s)) None) k) ∙ h) in
          let p : is_plain c ≡ true = grind (arith, k) in
          plain_closed c s p ∙ (past_closed s ∙ (ap (is_closed false) e ∙ plain_closed 125 q refl))
    ]

pub escape_closed : (s q : List ℕ) (v : ℕ) → escape s ≡ Some (v, q) → is_closed false (92 ∷ s) ≡ is_closed false q
unfolding escape
escape_closed [] q v h = none_some _ h
escape_closed (c ∷ s) q v h =
    elim (tell (nat_eq c 117)) [
      | inl k ↦
          let l : is_line_end c ≡ false = grind (arith, k) in
          escaped_closed c s l ∙ unicode_closed s q v (sym (ap (λ t. cond t (unicode_escape s) (beside s (simple_escape c))) k) ∙ h)
      | inr k ↦
          let b = beside_same s q v (simple_escape c) (sym (ap (λ t. cond t (unicode_escape s) (beside s (simple_escape c))) k) ∙ h) in
          escaped_closed c s (simple_inside c b.0 b.1) ∙ ap (is_closed false) b.2
    ]

-- A step of the reader of a text.

module _ (s p q : List ℕ) (done : List ℕ) (c : ℕ) (e : p ≡ c ∷ q) where
  pub read_end : c ≡ 34 → ((r v : List ℕ) → Spells p r v → Spells s r (done ++ v)) → (all : List ℕ) → all ≡ done → Spells s q all
  read_end f k all g =
      let h : Spells p q [] = subst (λ t. Spells t q []) (sym (e ∙ ap (λ t. t ∷ q) f)) spells_end in
      let i : Spells s q (done ++ []) = k q [] h in
      subst (λ t. Spells s q t) (append-nil done ∙ sym g) i

  pub read_bad : c ≡ 92 → escape q ≡ None → ((r : List ℕ) → BadEscapeAt p r → BadEscapeAt s r) → BadEscapeAt s p
  read_bad f g k = k p (subst (λ t. BadEscapeAt t t) (sym (e ∙ ap (λ t. t ∷ q) f)) (bad_here g))

  module _ (v : ℕ) (after : List ℕ) (more : List ℕ) (m : more ≡ done ++ encode_utf8 v) where
    module _ (f : c ≡ 92) (g : escape q ≡ Some (v, after)) where
      pub escape_on : ((r w : List ℕ) → Spells p r w → Spells s r (done ++ w)) → (r w : List ℕ) → Spells after r w → Spells s r (more ++ w)
      escape_on k r w x =
          let h : Spells p r (encode_utf8 v ++ w) = subst (λ t. Spells t r (encode_utf8 v ++ w)) (sym (e ∙ ap (λ t. t ∷ q) f)) (spells_escape g x) in
          subst (λ t. Spells s r t) (sym (append_assoc done (encode_utf8 v) w) ∙ ap (λ t. t ++ w) (sym m)) (k r _ h)

      pub escape_bad_on : ((r : List ℕ) → BadEscapeAt p r → BadEscapeAt s r) → (r : List ℕ) → BadEscapeAt after r → BadEscapeAt s r
      escape_bad_on k r x = k r (subst (λ t. BadEscapeAt t r) (sym (e ∙ ap (λ t. t ∷ q) f)) (bad_escape g x))

      pub escape_closed_on : is_closed false p ≡ true → is_closed false after ≡ true
      escape_closed_on k = sym (escape_closed q after v g) ∙ (sym (ap (is_closed false) (e ∙ ap (λ t. t ∷ q) f)) ∙ k)

  module _ (n : nat_eq c 34 ≡ false) (o : nat_eq c 92 ≡ false) (k : is_closed false p ≡ true) where
    plain_here : is_plain c ≡ true
    plain_here =
        elim (reads c) [
          | reads_line h ↦ clash _ k (ap (is_closed false) e ∙ line_open false c q h)
          | reads_quote h ↦ grind (arith, h, n)
          | reads_backslash h ↦ grind (arith, h, o)
          | reads_plain h l ↦ h
        ]

    pub plain_closed_on : is_closed false q ≡ true
    plain_closed_on = sym (plain_closed c q plain_here) ∙ (sym (ap (is_closed false) e) ∙ k)

    pub plain_on : (more : List ℕ) → more ≡ done ++ encode_utf8 c → ((r w : List ℕ) → Spells p r w → Spells s r (done ++ w)) → (r w : List ℕ) → Spells q r w → Spells s r (more ++ w)
    plain_on more m h r w x =
        let i : Spells p r (encode_utf8 c ++ w) = subst (λ t. Spells t r (encode_utf8 c ++ w)) (sym e) (spells_plain plain_here x) in
        subst (λ t. Spells s r t) (sym (append_assoc done (encode_utf8 c) w) ∙ ap (λ t. t ++ w) (sym m)) (h r _ i)

    pub plain_bad_on : ((r : List ℕ) → BadEscapeAt p r → BadEscapeAt s r) → (r : List ℕ) → BadEscapeAt q r → BadEscapeAt s r
    plain_bad_on h r x = h r (subst (λ t. BadEscapeAt t r) (sym e) (bad_plain plain_here x))
