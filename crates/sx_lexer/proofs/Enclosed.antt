-- Comments and texts as pieces of the lexis.
use Rattle.std.proofs.Common.{◌≡◌, ℕ, List, Bool, true, false, ◌&&◌, Option, Some, None, refl, sym, ap, ◌∙◌, subst}
use Rattle.sx_lexer.specs.declared.characters.Begins.TheVariants as begin
use Rattle.sx_lexer.specs.declared.faults.LexKind.TheVariants as kinds
use Rattle.sx_lexer.specs.Characters.{begins, starts}
use Rattle.sx_lexer.specs.Scans.{is_closed, comment_end}
use Rattle.sx_lexer.specs.Lexis.{Space, SpaceAs, Token, TokenAs, Faulty, FaultyAs, quoted, Ends, after, is_multiline, multiline, open_string, bad_text, Spells, BadEscapeAt, Closes}
use Rattle.sx_lexer.proofs.CommentEnds.{ends_found, found_ends}
use Rattle.sx_lexer.proofs.TextEnds.{closes_closed, closed_closes, clash}

none_some : {X Y : Type 0} (o : Option X) (x : X) → o ≡ None → o ≡ Some x → Y
none_some o x h k = absurd (cc)

pub block_space : (s t r : List ℕ) (b : Bool) → begins s ≡ begin.BlockComment → t ≡ after (after s) → comment_end 1 false t ≡ Some (r, b) → Space s r b
block_space s t r b e f h =
    let i = found_ends 1 false (after (after s)) r b (sym (ap (comment_end 1 false) f) ∙ h) in
    subst (λ x. SpaceAs x s r b) (sym e) (subst (λ x. Ends 1 (after (after s)) r x) (sym i.test) i.ends)

pub block_fault : (s t : List ℕ) → begins s ≡ begin.BlockComment → t ≡ after (after s) → comment_end 1 false t ≡ None → Faulty s kinds.OpenComment s
block_fault s t e f h =
    subst (λ x. FaultyAs x s kinds.OpenComment s) (sym e)
    (refl, refl, λ r b x. none_some (comment_end 1 false (after (after s))) (r, b) (sym (ap (comment_end 1 false) f) ∙ h) (ends_found 1 (after (after s)) r b x false))

module _ (s t : List ℕ) (e : begins s ≡ begin.Quote) (f : t ≡ after s) where
  long : (b : Bool) → b ≡ (starts 34 t && starts 34 (after t)) → is_multiline s ≡ b
  long b h = sym (ap (λ x. starts 34 x && starts 34 (after x)) f) ∙ sym h

  pub multiline_fault : true ≡ (starts 34 t && starts 34 (after t)) → Faulty s kinds.MultilineString s
  multiline_fault h = subst (λ x. FaultyAs x s kinds.MultilineString s) (sym e) (multiline (long true h))

  pub open_fault : false ≡ (starts 34 t && starts 34 (after t)) → false ≡ is_closed false t → Faulty s kinds.OpenString s
  open_fault h k = subst (λ x. FaultyAs x s kinds.OpenString s) (sym e) (open_string (long false h) (λ r x. clash (is_closed false t) (ap (is_closed false) f ∙ closes_closed (after s) r x) (sym k)))

  closes_behind : true ≡ is_closed false t → (r : List ℕ) × Closes (after s) r
  closes_behind k = let i = closed_closes false (after s) (sym (ap (is_closed false) f) ∙ sym k) in (i.rest, i.closes)

  pub escape_fault : (p : List ℕ) → false ≡ (starts 34 t && starts 34 (after t)) → true ≡ is_closed false t → BadEscapeAt t p → Faulty s kinds.BadEscape p
  escape_fault p h k x =
      let i = closes_behind k in
      subst (λ y. FaultyAs y s kinds.BadEscape p) (sym e) (bad_text (long false h) i.1 (subst (λ y. BadEscapeAt y p) f x))

  pub text_token : (r v : List ℕ) → false ≡ (starts 34 t && starts 34 (after t)) → Spells t r v → Token s r (quoted v)
  text_token r v h x =
      subst (λ y. TokenAs y s r (quoted v)) (sym e) (v, record { one_line = long false h; spells = subst (λ y. Spells y r v) f x }, refl)
