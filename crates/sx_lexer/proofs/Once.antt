-- A text has one list of tokens or one first fault.
use Rattle.std.proofs.Common.{◌≡◌, ℕ, List, [], ◌∷◌, ◌++◌, Bool, true, false, ◌||◌, Option, Some, None, Result, Ok, Err, refl, sym, ap, ◌∙◌, subst, encode_utf8, arith}
use Rattle.sx_lexer.specs.declared.characters.Begins.{Begins}
use Rattle.sx_lexer.specs.declared.characters.Begins.TheVariants as begin
use Rattle.sx_lexer.specs.declared.characters.RunKind.TheVariants as run_kinds
use Rattle.sx_lexer.specs.declared.faults.LexKind.{LexKind}
use Rattle.sx_lexer.specs.declared.pieces.Piece.TheVariants as pieces
use Rattle.sx_lexer.specs.Characters.{begins, between}
use Rattle.sx_lexer.specs.Words.{word_piece, number, lookup, spelled_operators}
use Rattle.sx_lexer.specs.Scans.{is_closed}
use Rattle.sx_lexer.specs.Lexis.{SpaceAs, TokenAs, FaultyAs, Lexeme, piece, quoted, Ends, after, is_multiline, is_plain, escape, IsText, FaultyText, multiline, open_string, bad_text, Spells, spells_end, spells_plain, spells_escape, BadEscapeAt, bad_here, bad_plain, bad_escape, Lexed, lexed, is_space_behind, Lexes, lexes_end, lexes_space, lexes_token, Faults, faults_here, faults_space, faults_token}
use Rattle.sx_lexer.proofs.Runs.{one_run}
use Rattle.sx_lexer.proofs.CommentEnds.{ends_found}
use Rattle.sx_lexer.proofs.TextEnds.{clash, closed_closes, plain_closed}
use Rattle.sx_lexer.proofs.EscapeEnds.{escape_closed}

-- two values that are the same
pub record Same {X Y : Type 0} (a c : X) (b d : Y) : Type 0 where
  pub first : a ≡ c
  pub second : b ≡ d

abbrev made : {X Y : Type 0} → X → Y → Option (X × Y)
made x y = Some (x, y)

made_first : {X Y : Type 0} (a c : X) (b d : Y) → made a b ≡ made c d → a ≡ c
made_first {X = X} a c b d h = ap (λ o. elim o as (λ _. X) [ Some p ↦ p.0 | None ↦ a ]) h

made_second : {X Y : Type 0} (a c : X) (b d : Y) → made a b ≡ made c d → b ≡ d
made_second {Y = Y} a c b d h = ap (λ o. elim o as (λ _. Y) [ Some p ↦ p.1 | None ↦ b ]) h

none_some : {X Y : Type 0} (o : Option X) (x : X) → o ≡ None → o ≡ Some x → Y
none_some o x h k = absurd (cc)

some_same : {X : Type 0} (a b : X) → Some a ≡ Some b → a ≡ b
some_same {X = X} a b h = ap (λ o. elim o as (λ _. X) [ Some x ↦ x | None ↦ a ]) h

ok_same : {X Y : Type 0} (a b : X) → let x : Result X Y = Ok a in let y : Result X Y = Ok b in x ≡ y → a ≡ b
ok_same {X = X} a b h = ap (λ o. elim o as (λ _. X) [ Ok x ↦ x | Err e ↦ a ]) h

err_same : {X Y : Type 0} (a b : Y) → let x : Result X Y = Err a in let y : Result X Y = Err b in x ≡ y → a ≡ b
err_same {Y = Y} a b h = ap (λ o. elim o as (λ _. Y) [ Ok x ↦ a | Err e ↦ e ]) h

ok_err : {X Y Z : Type 0} (o : Result X Y) (x : X) (y : Y) → o ≡ Ok x → o ≡ Err y → Z
ok_err o x y h k = absurd (cc)

-- Spaces.

ends_once : (s q r : List ℕ) (a b : Bool) → Ends 1 s q a → Ends 1 s r b → Same q r a b
ends_once s q r a b x y =
    let e : made q a ≡ made r b = sym (ends_found 1 s q a x false) ∙ ends_found 1 s r b y false in
    record { first = made_first q r a b e; second = made_second q r a b e }

space_once_as : (x : Begins) (s q r : List ℕ) (a b : Bool) → SpaceAs x s q a → SpaceAs x s r b → Same q r a b
space_once_as begin.Space s q r a b h k = record { first = h.0 ∙ sym k.0; second = h.1 ∙ sym k.1 }
space_once_as begin.LineComment s q r a b h k = record { first = one_run run_kinds.Line (after s) q r h.0 k.0; second = h.1 ∙ sym k.1 }
space_once_as begin.BlockComment s q r a b h k = ends_once (after (after s)) q r a b h k
space_once_as begin.Nothing s q r a b h k = absurd h
space_once_as begin.Digit s q r a b h k = absurd h
space_once_as begin.Quote s q r a b h k = absurd h
space_once_as begin.Operator s q r a b h k = absurd h
space_once_as (begin.Mark m) s q r a b h k = absurd h
space_once_as begin.Letter s q r a b h k = absurd h
space_once_as begin.Other s q r a b h k = absurd h

-- Texts.

pub spells_closed : (s r v : List ℕ) → Spells s r v → is_closed false s ≡ true
unfolding is_closed
spells_closed _ r _ spells_end = refl
spells_closed _ r _ (spells_plain {c = c} {s = s} {v = v} h x) = plain_closed c s h ∙ spells_closed s r v x
spells_closed _ r _ (spells_escape {c = c} {s = s} {q = q} {v = v} h x) = escape_closed s q c h ∙ spells_closed q r v x

-- How a text that stands for something begins.
data SpellsBy (c : ℕ) (s r v : List ℕ) : Type 0 where
  by_end : c ≡ 34 → s ≡ r → v ≡ [] → SpellsBy c s r v
  by_plain : (w : List ℕ) → is_plain c ≡ true → v ≡ encode_utf8 c ++ w → Spells s r w → SpellsBy c s r v
  by_escape : (d : ℕ) (q w : List ℕ) → c ≡ 92 → escape s ≡ Some (d, q) → v ≡ encode_utf8 d ++ w → Spells q r w → SpellsBy c s r v

spells_by : (c : ℕ) (s r v : List ℕ) → Spells (c ∷ s) r v → SpellsBy c s r v
spells_by _ s _ _ spells_end = by_end refl refl refl
spells_by c s r _ (spells_plain {v = w} h x) = by_plain w h refl x
spells_by _ s r _ (spells_escape {c = d} {q = q} {v = w} h x) = by_escape d q w refl h refl x

data BadBy (c : ℕ) (s p : List ℕ) : Type 0 where
  bad_by_here : c ≡ 92 → escape s ≡ None → p ≡ c ∷ s → BadBy c s p
  bad_by_plain : is_plain c ≡ true → BadEscapeAt s p → BadBy c s p
  bad_by_escape : (d : ℕ) (q : List ℕ) → c ≡ 92 → escape s ≡ Some (d, q) → BadEscapeAt q p → BadBy c s p

bad_by : (c : ℕ) (s p : List ℕ) → BadEscapeAt (c ∷ s) p → BadBy c s p
bad_by _ s _ (bad_here h) = bad_by_here refl h refl
bad_by c s p (bad_plain h x) = bad_by_plain h x
bad_by _ s p (bad_escape {c = d} {q = q} h x) = bad_by_escape d q refl h x

apart : {X : Type 0} → is_plain 34 ≡ true → X
apart h = absurd (cc)

apart_backslash : {X : Type 0} → is_plain 92 ≡ true → X
apart_backslash h = absurd (cc)

numbers_apart : {X : Type 0} → (let q : ℕ = 34 in q ≡ 92) → X
numbers_apart h = absurd (omega arith)

plain_quote : {X : Type 0} (c : ℕ) → is_plain c ≡ true → c ≡ 34 → X
plain_quote c h e = apart (subst (λ t. is_plain t ≡ true) e h)

plain_backslash : {X : Type 0} (c : ℕ) → is_plain c ≡ true → c ≡ 92 → X
plain_backslash c h e = apart_backslash (subst (λ t. is_plain t ≡ true) e h)

escape_same : (s q r : List ℕ) (c d : ℕ) → escape s ≡ made c q → escape s ≡ made d r → Same q r c d
escape_same s q r c d h k = let e : made c q ≡ made d r = sym h ∙ k in record { first = made_second c d q r e; second = made_first c d q r e }

pub spells_once : (s r v : List ℕ) → Spells s r v → (q w : List ℕ) → Spells s q w → Same r q v w
spells_once _ r _ spells_end q w y =
    elim (spells_by 34 r q w y) [
      | by_end e f g ↦ record { first = f; second = sym g }
      | by_plain a h f z ↦ apart h
      | by_escape d a b e h f z ↦ numbers_apart e
    ]
spells_once _ r _ (spells_plain {c = c} {s = s} {v = v} h x) q w y =
    elim (spells_by c s q w y) [
      | by_end e f g ↦ plain_quote c h e
      | by_plain a k f z ↦ let i = spells_once s r v x q a z in record { first = i.first; second = ap (λ t. encode_utf8 c ++ t) i.second ∙ sym f }
      | by_escape d a b e k f z ↦ plain_backslash c h e
    ]
spells_once _ r _ (spells_escape {c = c} {s = s} {q = p} {v = v} h x) q w y =
    elim (spells_by 92 s q w y) [
      | by_end e f g ↦ numbers_apart (sym e)
      | by_plain a k f z ↦ apart_backslash k
      | by_escape d a b e k f z ↦
          let m = escape_same s p a c d h k in
          let i = spells_once p r v x q b (subst (λ t. Spells t q b) (sym m.first) z) in
          record { first = i.first; second = ap (λ t. encode_utf8 c ++ t) i.second ∙ (ap (λ t. encode_utf8 t ++ b) m.second ∙ sym f) }
    ]

pub bad_once : (s p : List ℕ) → BadEscapeAt s p → (q : List ℕ) → BadEscapeAt s q → p ≡ q
bad_once _ _ (bad_here {s = s} h) q y =
    elim (bad_by 92 s q y) [
      | bad_by_here e k f ↦ sym f
      | bad_by_plain k z ↦ apart_backslash k
      | bad_by_escape d a e k z ↦ none_some (escape s) (d, a) h k
    ]
bad_once _ p (bad_plain {c = c} {s = s} h x) q y =
    elim (bad_by c s q y) [
      | bad_by_here e k f ↦ plain_backslash c h e
      | bad_by_plain k z ↦ bad_once s p x q z
      | bad_by_escape d a e k z ↦ plain_backslash c h e
    ]
bad_once _ p (bad_escape {c = c} {s = s} {q = b} h x) q y =
    elim (bad_by 92 s q y) [
      | bad_by_here e k f ↦ none_some (escape s) (c, b) k h
      | bad_by_plain k z ↦ apart_backslash k
      | bad_by_escape d a e k z ↦ let m = escape_same s b a c d h k in bad_once b p x q (subst (λ t. BadEscapeAt t q) (sym m.first) z)
    ]

pub spells_or_bad : {X : Type 0} (s r v : List ℕ) → Spells s r v → (q : List ℕ) → BadEscapeAt s q → X
spells_or_bad _ r _ spells_end q y =
    elim (bad_by 34 r q y) [
      | bad_by_here e k f ↦ numbers_apart e
      | bad_by_plain k z ↦ apart k
      | bad_by_escape d a e k z ↦ numbers_apart e
    ]
spells_or_bad _ r _ (spells_plain {c = c} {s = s} {v = v} h x) q y =
    elim (bad_by c s q y) [
      | bad_by_here e k f ↦ plain_backslash c h e
      | bad_by_plain k z ↦ spells_or_bad s r v x q z
      | bad_by_escape d a e k z ↦ plain_backslash c h e
    ]
spells_or_bad _ r _ (spells_escape {c = c} {s = s} {q = b} {v = v} h x) q y =
    elim (bad_by 92 s q y) [
      | bad_by_here e k f ↦ none_some (escape s) (c, b) k h
      | bad_by_plain k z ↦ apart_backslash k
      | bad_by_escape d a e k z ↦ let m = escape_same s b a c d h k in spells_or_bad b r v x q (subst (λ t. BadEscapeAt t q) (sym m.first) z)
    ]

-- Tokens.

token_once_as : (x : Begins) (s q r : List ℕ) (t u : Lexeme) → TokenAs x s q t → TokenAs x s r u → Same q r t u
token_once_as begin.Letter s q r t u h k =
    let e = one_run run_kinds.Word (after s) q r h.0 k.0 in
    record { first = e; second = h.1 ∙ (ap (λ y. piece (word_piece (between s y))) e ∙ sym k.1) }
token_once_as begin.Digit s q r t u h k =
    let e = one_run run_kinds.Word (after s) q r h.0 k.0 in
    let f : h.1 ≡ k.1 = ok_same h.1 k.1 (sym h.2 ∙ (ap (λ y. number (between s y)) e ∙ k.2)) in
    record { first = e; second = h.3 ∙ (ap piece f ∙ sym k.3) }
token_once_as begin.Quote s q r t u h k =
    let e = spells_once (after s) q h.0 h.1.spells r k.0 k.1.spells in
    record { first = e.first; second = h.2 ∙ (ap quoted e.second ∙ sym k.2) }
token_once_as begin.Operator s q r t u h k =
    let e = one_run run_kinds.Operator (after s) q r h.0 k.0 in
    let f : h.1 ≡ k.1 = some_same h.1 k.1 (sym h.2 ∙ (ap (λ y. lookup spelled_operators (between s y)) e ∙ k.2)) in
    record { first = e; second = h.3 ∙ (ap (λ y. piece (pieces.Op y)) f ∙ sym k.3) }
token_once_as (begin.Mark m) s q r t u h k = record { first = h.0 ∙ sym k.0; second = h.1 ∙ sym k.1 }
token_once_as begin.Nothing s q r t u h k = absurd h
token_once_as begin.Space s q r t u h k = absurd h
token_once_as begin.LineComment s q r t u h k = absurd h
token_once_as begin.BlockComment s q r t u h k = absurd h
token_once_as begin.Other s q r t u h k = absurd h

-- Faults.

text_fault_once : (s p q : List ℕ) (k m : LexKind) → FaultyText s k p → FaultyText s m q → Same p q k m
text_fault_once s _ _ _ _ (multiline h) (multiline j) = record { first = refl; second = refl }
text_fault_once s _ _ _ _ (multiline h) (open_string j n) = clash (is_multiline s) h j
text_fault_once s _ q _ _ (multiline h) (bad_text j x y) = clash (is_multiline s) h j
text_fault_once s _ _ _ _ (open_string h n) (multiline j) = clash (is_multiline s) j h
text_fault_once s _ _ _ _ (open_string h n) (open_string j o) = record { first = refl; second = refl }
text_fault_once s _ q _ _ (open_string h n) (bad_text {r = r} j x y) = absurd (n r x)
text_fault_once s p _ _ _ (bad_text h x y) (multiline j) = clash (is_multiline s) j h
text_fault_once s p _ _ _ (bad_text {r = r} h x y) (open_string j o) = absurd (o r x)
text_fault_once s p q _ _ (bad_text h x y) (bad_text j z w) = record { first = bad_once (after s) p y q w; second = refl }

faulty_once_as : (x : Begins) (s p q : List ℕ) (k m : LexKind) → FaultyAs x s k p → FaultyAs x s m q → Same p q k m
faulty_once_as begin.Digit s p q k m h j =
    let e = one_run run_kinds.Word (after s) h.1 j.1 h.2 j.2 in
    record { first = h.0 ∙ sym j.0; second = err_same k m (sym h.3 ∙ (ap (λ y. number (between s y)) e ∙ j.3)) }
faulty_once_as begin.Quote s p q k m h j = text_fault_once s p q k m h j
faulty_once_as begin.Operator s p q k m h j = record { first = h.0 ∙ sym j.0; second = h.1 ∙ sym j.1 }
faulty_once_as begin.BlockComment s p q k m h j = record { first = h.0 ∙ sym j.0; second = h.1 ∙ sym j.1 }
faulty_once_as begin.Other s p q k m h j = record { first = h.0 ∙ sym j.0; second = h.1 ∙ sym j.1 }
faulty_once_as begin.Nothing s p q k m h j = absurd h
faulty_once_as begin.Space s p q k m h j = absurd h
faulty_once_as begin.LineComment s p q k m h j = absurd h
faulty_once_as (begin.Mark n) s p q k m h j = absurd h
faulty_once_as begin.Letter s p q k m h j = absurd h

-- No two of them.

space_token_as : {X : Type 0} (x : Begins) (s q r : List ℕ) (b : Bool) (t : Lexeme) → SpaceAs x s q b → TokenAs x s r t → X
space_token_as begin.Space s q r b t h k = absurd k
space_token_as begin.LineComment s q r b t h k = absurd k
space_token_as begin.BlockComment s q r b t h k = absurd k
space_token_as begin.Nothing s q r b t h k = absurd h
space_token_as begin.Digit s q r b t h k = absurd h
space_token_as begin.Quote s q r b t h k = absurd h
space_token_as begin.Operator s q r b t h k = absurd h
space_token_as (begin.Mark m) s q r b t h k = absurd h
space_token_as begin.Letter s q r b t h k = absurd h
space_token_as begin.Other s q r b t h k = absurd h

space_faulty_as : {X : Type 0} (x : Begins) (s q p : List ℕ) (b : Bool) (m : LexKind) → SpaceAs x s q b → FaultyAs x s m p → X
space_faulty_as begin.Space s q p b m h k = absurd k
space_faulty_as begin.LineComment s q p b m h k = absurd k
space_faulty_as begin.BlockComment s q p b m h k = absurd (k.2 q b h)
space_faulty_as begin.Nothing s q p b m h k = absurd h
space_faulty_as begin.Digit s q p b m h k = absurd h
space_faulty_as begin.Quote s q p b m h k = absurd h
space_faulty_as begin.Operator s q p b m h k = absurd h
space_faulty_as (begin.Mark n) s q p b m h k = absurd h
space_faulty_as begin.Letter s q p b m h k = absurd h
space_faulty_as begin.Other s q p b m h k = absurd h

text_or_fault : {X : Type 0} (s r v p : List ℕ) (m : LexKind) → IsText s r v → FaultyText s m p → X
text_or_fault s r v _ _ h (multiline j) = clash (is_multiline s) j h.one_line
text_or_fault s r v _ _ h (open_string j n) = let i = closed_closes false (after s) (spells_closed (after s) r v h.spells) in absurd (n i.rest i.closes)
text_or_fault s r v p _ h (bad_text j x y) = spells_or_bad (after s) r v h.spells p y

token_faulty_as : {X : Type 0} (x : Begins) (s r p : List ℕ) (t : Lexeme) (m : LexKind) → TokenAs x s r t → FaultyAs x s m p → X
token_faulty_as begin.Digit s r p t m h k =
    let e = one_run run_kinds.Word (after s) r k.1 h.0 k.2 in
    ok_err (number (between s r)) h.1 m h.2 (ap (λ y. number (between s y)) e ∙ k.3)
token_faulty_as begin.Quote s r p t m h k = text_or_fault s r h.0 p m h.1 k
token_faulty_as begin.Operator s r p t m h k =
    let e = one_run run_kinds.Operator (after s) r k.2 h.0 k.3 in
    none_some (lookup spelled_operators (between s r)) h.1 (ap (λ y. lookup spelled_operators (between s y)) e ∙ k.4) h.2
token_faulty_as begin.Letter s r p t m h k = absurd k
token_faulty_as (begin.Mark n) s r p t m h k = absurd k
token_faulty_as begin.Nothing s r p t m h k = absurd h
token_faulty_as begin.Space s r p t m h k = absurd h
token_faulty_as begin.LineComment s r p t m h k = absurd h
token_faulty_as begin.BlockComment s r p t m h k = absurd h
token_faulty_as begin.Other s r p t m h k = absurd h

-- Whole texts.

pub lexes_once : (l p : Bool) (s : List ℕ) (ts : List Lexed) → Lexes l p s ts → (us : List Lexed) → Lexes l p s us → ts ≡ us
lexes_once l p _ _ lexes_end _ lexes_end = refl
lexes_once l p _ _ lexes_end us (lexes_space r b h x) = absurd h
lexes_once l p _ _ lexes_end _ (lexes_token h x) = absurd h
lexes_once l p _ ts (lexes_space r b h x) _ lexes_end = absurd h
lexes_once l p s ts (lexes_space r b h x) us (lexes_space q a k y) =
    let e = space_once_as (begins s) s r q b a h k in
    lexes_once (l || b) true r ts x us (subst (λ c. Lexes (l || c) true r us) (sym e.second) (subst (λ z. Lexes (l || a) true z us) (sym e.first) y))
lexes_once l p s ts (lexes_space r b h x) _ (lexes_token {r = q} {t = u} k y) = space_token_as (begins s) s r q b u h k
lexes_once l p _ _ (lexes_token h x) _ lexes_end = absurd h
lexes_once l p s _ (lexes_token {r = r} {t = t} h x) us (lexes_space q a k y) = space_token_as (begins s) s q r a t k h
lexes_once l p s _ (lexes_token {r = r} {t = t} {ts = ts} h x) _ (lexes_token {r = q} {t = u} {ts = us} k y) =
    let e = token_once_as (begins s) s r q t u h k in
    let i = lexes_once false (is_space_behind t) r ts x us (subst (λ c. Lexes false (is_space_behind c) r us) (sym e.second) (subst (λ z. Lexes false (is_space_behind u) z us) (sym e.first) y)) in
    ap (λ z. lexed t s r l p ∷ z) i ∙ (ap (λ z. lexed t s z l p ∷ us) e.first ∙ ap (λ z. lexed z s q l p ∷ us) e.second)

pub faults_once : (s p : List ℕ) (k : LexKind) → Faults s k p → (q : List ℕ) (m : LexKind) → Faults s m q → Same p q k m
faults_once s p k (faults_here h) q m (faults_here j) = faulty_once_as (begins s) s p q k m h j
faults_once s p k (faults_here h) q m (faults_space r b j y) = space_faulty_as (begins s) s r p b k j h
faults_once s p k (faults_here h) q m (faults_token r t j y) = token_faulty_as (begins s) s r p t k j h
faults_once s p k (faults_space r b h x) q m (faults_here j) = space_faulty_as (begins s) s r q b m h j
faults_once s p k (faults_space r b h x) q m (faults_space a c j y) =
    let e = space_once_as (begins s) s r a b c h j in faults_once r p k x q m (subst (λ z. Faults z m q) (sym e.first) y)
faults_once s p k (faults_space r b h x) q m (faults_token a t j y) = space_token_as (begins s) s r a b t h j
faults_once s p k (faults_token r t h x) q m (faults_here j) = token_faulty_as (begins s) s r q t m h j
faults_once s p k (faults_token r t h x) q m (faults_space a c j y) = space_token_as (begins s) s a r c t j h
faults_once s p k (faults_token r t h x) q m (faults_token a u j y) =
    let e = token_once_as (begins s) s r a t u h j in faults_once r p k x q m (subst (λ z. Faults z m q) (sym e.first) y)

pub lexes_or_faults : {X : Type 0} (l n : Bool) (s : List ℕ) (ts : List Lexed) → Lexes l n s ts → (p : List ℕ) (k : LexKind) → Faults s k p → X
lexes_or_faults l n _ _ lexes_end p k (faults_here h) = absurd h
lexes_or_faults l n _ _ lexes_end p k (faults_space r b h x) = absurd h
lexes_or_faults l n _ _ lexes_end p k (faults_token r t h x) = absurd h
lexes_or_faults l n s ts (lexes_space r b h x) p k (faults_here j) = space_faulty_as (begins s) s r p b k h j
lexes_or_faults l n s ts (lexes_space r b h x) p k (faults_space a c j y) =
    let e = space_once_as (begins s) s r a b c h j in lexes_or_faults (l || b) true r ts x p k (subst (λ z. Faults z k p) (sym e.first) y)
lexes_or_faults l n s ts (lexes_space r b h x) p k (faults_token a t j y) = space_token_as (begins s) s r a b t h j
lexes_or_faults l n s _ (lexes_token {r = r} {t = t} h x) p k (faults_here j) = token_faulty_as (begins s) s r p t k h j
lexes_or_faults l n s _ (lexes_token {r = r} {t = t} h x) p k (faults_space a c j y) = space_token_as (begins s) s a r c t j h
lexes_or_faults l n s _ (lexes_token {r = r} {t = t} {ts = ts} h x) p k (faults_token a u j y) =
    let e = token_once_as (begins s) s r a t u h j in lexes_or_faults false (is_space_behind t) r ts x p k (subst (λ z. Faults z k p) (sym e.first) y)
