-- A text has a list of tokens or a first fault.
use Rattle.std.proofs.Common.{◌≡◌, ℕ, zero, suc, ◌≤◌, List, [], ◌∷◌, ◌++◌, length, Bool, true, false, ◌||◌, cond, nat_eq, Option, Some, None, Result, Ok, Err, ◌⊎◌, inl, inr, refl, sym, ◌∙◌, subst, arith, encode_utf8, encode_utf8_all}
use Rattle.sx_token.specs.declared.spellings.Mark.{Mark}
use Rattle.sx_token.specs.declared.spellings.Operator.{Operator}
use Rattle.sx_lexer.specs.declared.characters.Begins.{Begins}
use Rattle.sx_lexer.specs.declared.characters.Begins.TheVariants as begin
use Rattle.sx_lexer.specs.declared.characters.RunKind.{RunKind}
use Rattle.sx_lexer.specs.declared.characters.RunKind.TheVariants as run_kinds
use Rattle.sx_lexer.specs.declared.pieces.Piece.{Piece}
use Rattle.sx_lexer.specs.declared.pieces.Piece.TheVariants as pieces
use Rattle.sx_lexer.specs.declared.faults.LexKind.{LexKind}
use Rattle.sx_lexer.specs.declared.faults.LexKind.TheVariants as kinds
use Rattle.sx_lexer.specs.Characters.{begins, begins_mark, between, is_space, is_digit, is_operator, mark_of, starts, starts_name, runs, Run, run_ends, run_goes}
use Rattle.sx_lexer.specs.Words.{word_piece, number, lookup, spelled_operators}
use Rattle.sx_lexer.specs.Scans.{comment_end, is_closed}
use Rattle.sx_lexer.specs.Lexis.{Lexeme, piece, quoted, after, begins_line_end, Space, SpaceAs, Token, TokenAs, FaultyAs, escape, is_plain, is_multiline, multiline, open_string, bad_text, Spells, spells_end, spells_plain, spells_escape, BadEscapeAt, bad_here, bad_plain, bad_escape, Lexed, lexed, is_space_behind, Lexes, lexes_end, lexes_space, lexes_token, Faults, faults_here, faults_space, faults_token, behind_mark, LexesAll, FaultsFirst}
use Rattle.sx_lexer.proofs.Runs.{no_run}
use Rattle.sx_lexer.proofs.CommentEnds.{ends_found, found_ends}
use Rattle.sx_lexer.proofs.TextEnds.{tell, clash, closed_closes, closes_closed, plain_closed, line_open, reads, reads_line, reads_quote, reads_backslash, reads_plain}
use Rattle.sx_lexer.proofs.EscapeEnds.{escape_closed}
use Rattle.sx_lexer.proofs.Fewer.{run_fewer, ends_fewer, same_fewer, after_fewer, escape_fewer}
use Rattle.sx_lexer.proofs.Sound.{step_less, token_less}

-- the measure of what follows
abbrev bytes_of : List ℕ → ℕ
bytes_of s = length (encode_utf8_all s)

-- Something begins at each place but the end.

abbrev IsSomething : Begins → Type 0
IsSomething begin.Nothing = ⊥
IsSomething begin.Space = Unit {0}
IsSomething begin.LineComment = Unit {0}
IsSomething begin.BlockComment = Unit {0}
IsSomething begin.Digit = Unit {0}
IsSomething begin.Quote = Unit {0}
IsSomething begin.Operator = Unit {0}
IsSomething (begin.Mark m) = Unit {0}
IsSomething begin.Letter = Unit {0}
IsSomething begin.Other = Unit {0}

either : (b : Bool) (x y : Begins) → IsSomething x → IsSomething y → IsSomething (cond b x y)
either true x y h k = h
either false x y h k = k

something_mark : (c : ℕ) (o : Option Mark) → IsSomething (begins_mark c o)
something_mark c (Some m) = tt
something_mark c None = either (starts_name c) begin.Letter begin.Other tt tt

something : (c : ℕ) (s : List ℕ) → IsSomething (begins (c ∷ s))
something c s =
    let slash = cond (starts 47 s) begin.LineComment (cond (starts 42 s) begin.BlockComment begin.Operator) in
    let operator = cond (nat_eq c 47) slash begin.Operator in
    let mark = begins_mark c (mark_of c) in
    let other = cond (is_operator c) operator mark in
    let behind_digit = cond (nat_eq c 34) begin.Quote other in
    let behind_space = cond (is_digit c) begin.Digit behind_digit in
    let slash_is : IsSomething slash = either (starts 47 s) begin.LineComment (cond (starts 42 s) begin.BlockComment begin.Operator) tt (either (starts 42 s) begin.BlockComment begin.Operator tt tt) in
    let other_is : IsSomething other = either (is_operator c) operator mark (either (nat_eq c 47) slash begin.Operator slash_is tt) (something_mark c (mark_of c)) in
    either (is_space c) begin.Space behind_space tt (either (is_digit c) begin.Digit behind_digit tt (either (nat_eq c 34) begin.Quote other tt other_is))

-- Each run ends.

runs_to : (kind : RunKind) (s : List ℕ) → (r : List ℕ) × Run kind s r
runs_to kind [] = ([], run_ends (no_run kind))
runs_to kind (c ∷ s) =
    let i = runs_to kind s in
    elim (tell (runs kind (c ∷ s))) [ inl h ↦ (i.0, run_goes h i.1) | inr h ↦ (c ∷ s, run_ends h) ]

-- A text that ends on its line stands for something or has a bad escape.

data TextStands (s : List ℕ) : Type 0 where
  text_spells : (r v : List ℕ) → Spells s r v → TextStands s
  text_bad : (p : List ℕ) → BadEscapeAt s p → TextStands s

on_plain : (c : ℕ) (s : List ℕ) → is_plain c ≡ true → TextStands s → TextStands (c ∷ s)
on_plain c s h (text_spells r v x) = text_spells r (encode_utf8 c ++ v) (spells_plain h x)
on_plain c s h (text_bad p x) = text_bad p (bad_plain h x)

on_escape : (s q : List ℕ) (v : ℕ) → escape s ≡ Some (v, q) → TextStands q → TextStands (92 ∷ s)
on_escape s q v h (text_spells r w x) = text_spells r (encode_utf8 v ++ w) (spells_escape h x)
on_escape s q v h (text_bad p x) = text_bad p (bad_escape h x)

on_backslash : (s : List ℕ) (o : Option (ℕ × List ℕ)) → escape s ≡ o → ((q : List ℕ) (v : ℕ) → escape s ≡ Some (v, q) → TextStands q) → TextStands (92 ∷ s)
on_backslash s None h f = text_bad (92 ∷ s) (bad_here h)
on_backslash s (Some p) h f = on_escape s p.1 p.0 h (f p.1 p.0 h)

never_closed : {X : Type 0} → is_closed false [] ≡ true → X
unfolding is_closed
never_closed h = clash false h refl

text_stands : (n : ℕ) (s : List ℕ) → bytes_of s ≤ n → is_closed false s ≡ true → TextStands s
text_stands n [] h k = never_closed k
text_stands zero (c ∷ s) h k = let i = step_less c s in absurd (omega (arith, i, h))
text_stands (suc n) (c ∷ s) h k =
    let less = step_less c s in
    elim (reads c) [
      | reads_line e ↦ clash _ k (line_open false c s e)
      | reads_quote e ↦ subst (λ x. TextStands (x ∷ s)) (sym e) (text_spells s [] spells_end)
      | reads_backslash e ↦
          let g : is_closed false (92 ∷ s) ≡ true = subst (λ x. is_closed false (x ∷ s) ≡ true) e k in
          subst (λ x. TextStands (x ∷ s)) (sym e) (on_backslash s (escape s) refl (λ q v f. text_stands n q (let i = escape_fewer s q v f in omega (arith, i, less, h)) (sym (escape_closed s q v f) ∙ g)))
      | reads_plain e f ↦ on_plain c s e (text_stands n s (omega (arith, less, h)) (sym (plain_closed c s e) ∙ k))
    ]

-- What stands at a place.

data StandsAs (x : Begins) (s : List ℕ) : Type 0 where
  as_space : (r : List ℕ) (b : Bool) → SpaceAs x s r b → StandsAs x s
  as_token : (r : List ℕ) (t : Lexeme) → TokenAs x s r t → StandsAs x s
  as_fault : (k : LexKind) (p : List ℕ) → FaultyAs x s k p → StandsAs x s

number_stands : (s r : List ℕ) → Run run_kinds.Word (after s) r → (o : Result Piece LexKind) → number (between s r) ≡ o → StandsAs begin.Digit s
number_stands s r x (Ok p) h = as_token r (piece p) (x, p, h, refl)
number_stands s r x (Err k) h = as_fault k s (refl, r, x, h)

operator_stands : (s r : List ℕ) → Run run_kinds.Operator (after s) r → (o : Option Operator) → lookup spelled_operators (between s r) ≡ o → StandsAs begin.Operator s
operator_stands s r x (Some o) h = as_token r (piece (pieces.Op o)) (x, o, h, refl)
operator_stands s r x None h = as_fault kinds.UnknownOperator s (refl, refl, r, x, h)

none_some : {X Y : Type 0} (o : Option X) (x : X) → o ≡ None → o ≡ Some x → Y
none_some o x h k = absurd (cc)

comment_stands : (s : List ℕ) (o : Option (List ℕ × Bool)) → comment_end 1 false (after (after s)) ≡ o → StandsAs begin.BlockComment s
comment_stands s (Some p) h = let i = found_ends 1 false (after (after s)) p.0 p.1 h in as_space p.0 i.held i.ends
comment_stands s None h = as_fault kinds.OpenComment s (refl, refl, λ r b x. none_some (comment_end 1 false (after (after s))) (r, false || b) h (ends_found 1 (after (after s)) r b x false))

closed_stands : (s : List ℕ) → is_multiline s ≡ false → is_closed false (after s) ≡ true → TextStands (after s) → StandsAs begin.Quote s
closed_stands s h k (text_spells r v x) = as_token r (quoted v) (v, record { one_line = h; spells = x }, refl)
closed_stands s h k (text_bad p x) = let i = closed_closes false (after s) k in as_fault kinds.BadEscape p (bad_text h i.closes x)

quote_stands : (s : List ℕ) → StandsAs begin.Quote s
quote_stands s =
    elim (tell (is_multiline s)) [
      | inl h ↦ as_fault kinds.MultilineString s (multiline h)
      | inr h ↦
          elim (tell (is_closed false (after s))) [
            | inl k ↦ closed_stands s h k (text_stands (bytes_of (after s)) (after s) (omega arith) k)
            | inr k ↦ as_fault kinds.OpenString s (open_string h (λ r x. clash (is_closed false (after s)) (closes_closed (after s) r x) k))
          ]
    ]

stands_as : (x : Begins) (s : List ℕ) → IsSomething x → StandsAs x s
stands_as begin.Nothing s h = absurd h
stands_as begin.Space s h = as_space (after s) (begins_line_end s) (refl, refl)
stands_as begin.LineComment s h = let r = runs_to run_kinds.Line (after s) in as_space r.0 false (r.1, refl)
stands_as begin.BlockComment s h = comment_stands s (comment_end 1 false (after (after s))) refl
stands_as begin.Digit s h = let r = runs_to run_kinds.Word (after s) in number_stands s r.0 r.1 (number (between s r.0)) refl
stands_as begin.Quote s h = quote_stands s
stands_as begin.Operator s h = let r = runs_to run_kinds.Operator (after s) in operator_stands s r.0 r.1 (lookup spelled_operators (between s r.0)) refl
stands_as (begin.Mark m) s h = as_token (after s) (piece (pieces.Mark m)) (refl, refl)
stands_as begin.Letter s h = let r = runs_to run_kinds.Word (after s) in as_token r.0 (piece (word_piece (between s r.0))) (r.1, refl)
stands_as begin.Other s h = as_fault kinds.StrayCharacter s (refl, refl)

-- From place to place.

space_behind : (x : Begins) (s r : List ℕ) (b : Bool) → SpaceAs x s r b → bytes_of r ≤ bytes_of (after s)
space_behind begin.Space s r b h = same_fewer (after s) r h.0
space_behind begin.LineComment s r b h = run_fewer run_kinds.Line (after s) r h.0
space_behind begin.BlockComment s r b h = let i = ends_fewer 1 (after (after s)) r b h in let j = after_fewer (after s) in omega (arith, i, j)
space_behind begin.Nothing s r b h = absurd h
space_behind begin.Digit s r b h = absurd h
space_behind begin.Quote s r b h = absurd h
space_behind begin.Operator s r b h = absurd h
space_behind (begin.Mark m) s r b h = absurd h
space_behind begin.Letter s r b h = absurd h
space_behind begin.Other s r b h = absurd h

data Answered (line space : Bool) (s : List ℕ) : Type 0 where
  has_tokens : (ts : List Lexed) → Lexes line space s ts → Answered line space s
  has_fault : (k : LexKind) (p : List ℕ) → Faults s k p → Answered line space s

past_space : (line space : Bool) (s r : List ℕ) (b : Bool) → Space s r b → Answered (line || b) true r → Answered line space s
past_space line space s r b h (has_tokens ts x) = has_tokens ts (lexes_space r b h x)
past_space line space s r b h (has_fault k p x) = has_fault k p (faults_space r b h x)

past_token : (line space : Bool) (s r : List ℕ) (t : Lexeme) → Token s r t → Answered false (is_space_behind t) r → Answered line space s
past_token line space s r t h (has_tokens ts x) = has_tokens (lexed t s r line space ∷ ts) (lexes_token h x)
past_token line space s r t h (has_fault k p x) = has_fault k p (faults_token r t h x)

answered : (n : ℕ) (line space : Bool) (s : List ℕ) → bytes_of s ≤ n → Answered line space s
answered n line space [] h = has_tokens [] lexes_end
answered zero line space (c ∷ s) h = let i = step_less c s in absurd (omega (arith, i, h))
answered (suc n) line space (c ∷ s) h =
    let less = step_less c s in
    elim (stands_as (begins (c ∷ s)) (c ∷ s) (something c s)) [
      | as_space r b x ↦ past_space line space (c ∷ s) r b x (answered n (line || b) true r (let i = space_behind (begins (c ∷ s)) (c ∷ s) r b x in omega (arith, i, less, h)))
      | as_token r t x ↦ past_token line space (c ∷ s) r t x (answered n false (is_space_behind t) r (let i = token_less (c ∷ s) r t x in omega (arith, i, h)))
      | as_fault k p x ↦ has_fault k p (faults_here x)
    ]

either_answer : (s : List ℕ) → Answered true true s → ((ts : List Lexed) × Lexes true true s ts) ⊎ ((k : LexKind) × (p : List ℕ) × Faults s k p)
either_answer s (has_tokens ts x) = inl (ts, x)
either_answer s (has_fault k p x) = inr (k, p, x)

pub some_answer : (text : List ℕ) → ((ts : List Lexed) × LexesAll text ts) ⊎ ((k : LexKind) × (p : List ℕ) × FaultsFirst text k p)
some_answer text = either_answer (behind_mark text) (answered (bytes_of (behind_mark text)) true true (behind_mark text) (omega arith))
