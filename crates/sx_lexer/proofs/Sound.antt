-- Lexed tokens are sound.
use Rattle.std.proofs.Common.{◌≡◌, ◌≢◌, ℕ, get_or, ◌+◌, ◌≤◌, ◌<◌, ◌^◌, List, [], ◌∷◌, ◌++◌, length, codes, Bool, true, false, cond, not, if◌then◌else◌, nat_eq, nat_lt, ◌&&◌, ◌||◌, Option, Some, None, Result, Ok, Err, refl, sym, ap, ◌∙◌, subst, arith, length-append, inl, inr, bytes_eq, encode_utf8, encode_utf8_all}
use Rattle.std.specs.List.{All}
use Rattle.std.proofs.lemmas.List.Elements.{All-cons}
use Rattle.std.proofs.lemmas.List.Folds.{list_any_at}
use Rattle.std.proofs.lemmas.List.Quantifiers.{all_pairs_push}
use Rattle.std.proofs.lemmas.Str.{length-encode, len_utf8_bounds}
use Rattle.sx_span.specs.Lines.{line_starts, AreLines}
use Rattle.sx_span.proofs.Starts.{are_lines}
use Rattle.sx_token.specs.Sound.{RiseTo, IsKind, AreDistinct}
use Rattle.sx_token.specs.declared.kinds.Token.{Token}
use Rattle.sx_token.specs.declared.spellings.Word.{Word}
use Rattle.sx_lexer.specs.declared.gathering.Gathered.{Gathered}
use Rattle.sx_lexer.specs.declared.characters.Begins.{Begins}
use Rattle.sx_lexer.specs.declared.characters.Begins.TheVariants as begin
use Rattle.sx_lexer.specs.declared.characters.RunKind.TheVariants as run_kinds
use Rattle.sx_lexer.specs.declared.pieces.Piece.{Piece}
use Rattle.sx_lexer.specs.declared.pieces.Piece.TheVariants as pieces
use Rattle.sx_lexer.specs.declared.faults.LexKind.{LexKind}
use Rattle.sx_lexer.specs.declared.faults.LexKind.TheVariants as faults
use Rattle.sx_lexer.specs.Characters.{begins, between}
use Rattle.sx_lexer.specs.Words.{among, word_or, reserved, number, number_in, number_behind, base_of, are_digits, digit, value_after, sized, keywords, lookup}
use Rattle.sx_lexer.specs.Lexis.{Token as IsToken, TokenAs, Lexeme, piece, quoted, after, Lexed, lexed, Lexes, lexes_end, lexes_space, lexes_token}
use Rattle.sx_lexer.specs.Shown.{with_lexeme, names_after, names_of, text_in, texts_of, kind_of, shown, shown_all, place_in}
use Rattle.sx_lexer.specs.Gathered.{IsGathered, AreTokens}
use Rattle.sx_lexer.specs.Names.{is_name, with_name, index_of}
use Rattle.sx_lexer.proofs.NameKeys.{itself}
use Rattle.sx_lexer.proofs.TextEnds.{tell, clash}
use Rattle.sx_lexer.proofs.Fewer.{run_fewer, spells_fewer, same_fewer, space_fewer}
use Rattle.sx_lexer.proofs.NameLists.{Named, NamedLexeme, all_named, count_texts}

-- Names differ.

no_name : (names : List (List ℕ)) (w : List ℕ) → is_name names w ≡ false → (k : ℕ) (d : List ℕ) → k < length names → get_or names k d ≢ w
no_name names w h k d i e =
    let b : bytes_eq w (get_or names k d) ≡ true = ap (bytes_eq w) e ∙ itself w in
    clash (is_name names w) (list_any_at (bytes_eq w) names k d i b) h

distinct_with : (names : List (List ℕ)) (w : List ℕ) → AreDistinct names → AreDistinct (with_name names w)
distinct_with names w d =
    elim (tell (is_name names w)) [
      | inl h ↦ subst (λ t. AreDistinct (if t then names else names ++ w ∷ [])) (sym h) d
      | inr h ↦ subst (λ t. AreDistinct (if t then names else names ++ w ∷ [])) (sym h) (all_pairs_push (λ v u. v ≢ u) names w d (no_name names w h))
    ]

distinct_lexeme : (names : List (List ℕ)) (t : Lexeme) (w : List ℕ) → AreDistinct names → AreDistinct (with_lexeme names t w)
distinct_lexeme names (quoted v) w d = d
distinct_lexeme names (piece pieces.Name) w d = distinct_with names w d
distinct_lexeme names (piece pieces.Underscore) w d = d
distinct_lexeme names (piece (pieces.Keyword k)) w d = d
distinct_lexeme names (piece pieces.Reserved) w d = d
distinct_lexeme names (piece (pieces.Int n)) w d = d
distinct_lexeme names (piece pieces.IntMin) w d = d
distinct_lexeme names (piece (pieces.Op o)) w d = d
distinct_lexeme names (piece (pieces.Mark m)) w d = d

distinct_after : (names : List (List ℕ)) (ls : List Lexed) → AreDistinct names → AreDistinct (names_after names ls)
distinct_after names [] d = d
distinct_after names (l ∷ ls) d = distinct_after (with_lexeme names l.lexeme (between l.from l.to)) ls (distinct_lexeme names l.lexeme (between l.from l.to) d)

no_names : AreDistinct []
no_names i j d h k = absurd (omega arith)

-- Spans rise.

pub step_less : (c : ℕ) (s : List ℕ) → length (encode_utf8_all s) < length (encode_utf8_all (c ∷ s))
step_less c s = let e = length-append (encode_utf8 c) (encode_utf8_all s) in let f = length-encode c in let g = (len_utf8_bounds c).0 in omega (arith, e, f, g)

token_after : (x : Begins) (s r : List ℕ) (t : Lexeme) → TokenAs x s r t → length (encode_utf8_all r) ≤ length (encode_utf8_all (after s))
token_after begin.Letter s r t h = run_fewer run_kinds.Word (after s) r h.0
token_after begin.Digit s r t h = run_fewer run_kinds.Word (after s) r h.0
token_after begin.Operator s r t h = run_fewer run_kinds.Operator (after s) r h.0
token_after begin.Quote s r t h = spells_fewer (after s) r h.0 h.1.spells
token_after (begin.Mark m) s r t h = same_fewer (after s) r h.0
token_after begin.Nothing s r t h = absurd h
token_after begin.Space s r t h = absurd h
token_after begin.LineComment s r t h = absurd h
token_after begin.BlockComment s r t h = absurd h
token_after begin.Other s r t h = absurd h

pub token_less : (s r : List ℕ) (t : Lexeme) → IsToken s r t → length (encode_utf8_all r) < length (encode_utf8_all s)
token_less [] r t h = absurd h
token_less (c ∷ s) r t h = let i = token_after (begins (c ∷ s)) (c ∷ s) r t h in let j = step_less c s in omega (arith, i, j)

earlier : (a b end : ℕ) (ts : List Token) → a ≤ b → RiseTo end b ts → RiseTo end a ts
earlier a b end [] h x = omega (arith, h, x)
earlier a b end (t ∷ ts) h x = let i = x.0.0 in ((omega (arith, h, i), x.0.1), x.1)

pub spans_rise : (names : List (List ℕ)) (end n : ℕ) (l p : Bool) (s : List ℕ) (ts : List Lexed) → Lexes l p s ts → length (encode_utf8_all s) ≤ end → RiseTo end (place_in end s) (shown_all names end n ts)
spans_rise names end n l p _ _ lexes_end h = omega arith
spans_rise names end n l p s ts (lexes_space r b k x) h =
    let f = space_fewer (begins s) s r b k in
    earlier (place_in end s) (place_in end r) end (shown_all names end n ts) (omega (arith, f, h)) (spans_rise names end n (l || b) true r ts x (omega (arith, f, h)))
spans_rise names end n l p s _ (lexes_token {r = r} {t = t} {ts = ts} k x) h =
    let f = token_less s r t k in
    ((omega arith, omega (arith, f, h)), spans_rise names end (n + length (text_in t)) false _ r ts x (omega (arith, f, h)))

-- Kinds are sound.

abbrev IsSmall : Piece → Type 0
IsSmall pieces.Name = Unit {0}
IsSmall pieces.Underscore = Unit {0}
IsSmall (pieces.Keyword k) = Unit {0}
IsSmall pieces.Reserved = Unit {0}
IsSmall (pieces.Int n) = n < 2 ^ 63
IsSmall pieces.IntMin = Unit {0}
IsSmall (pieces.Op o) = Unit {0}
IsSmall (pieces.Mark m) = Unit {0}

abbrev SmallIfOk : Result Piece LexKind → Type 0
SmallIfOk (Ok p) = IsSmall p
SmallIfOk (Err k) = Unit {0}

small_big : (b : Bool) → SmallIfOk (cond b (Ok pieces.IntMin) (Err faults.BigLiteral))
small_big true = tt
small_big false = tt

small_sized : (n : ℕ) → SmallIfOk (sized n)
small_sized n =
    elim (tell (nat_lt n (2 ^ 63))) [
      | inl h ↦ subst (λ t. SmallIfOk (cond t (Ok (pieces.Int n)) (cond (nat_eq n (2 ^ 63)) (Ok pieces.IntMin) (Err faults.BigLiteral)))) (sym h) (grind (arith, h))
      | inr h ↦ subst (λ t. SmallIfOk (cond t (Ok (pieces.Int n)) (cond (nat_eq n (2 ^ 63)) (Ok pieces.IntMin) (Err faults.BigLiteral)))) (sym h) (small_big (nat_eq n (2 ^ 63)))
    ]

small_in : (base : ℕ) (w : List ℕ) → SmallIfOk (number_in base w)
small_in base [] = tt
small_in base (c ∷ w) =
    elim (nat_lt (digit c) base && are_digits base w) as (λ t. SmallIfOk (cond t (sized (value_after base 0 (c ∷ w))) (Err faults.BadNumber))) [
      | true ↦ small_sized (value_after base 0 (c ∷ w))
      | false ↦ tt
    ]

small_behind : (o : Option ℕ) (all w : List ℕ) → SmallIfOk (number_behind o all w)
small_behind None all w = small_in 10 all
small_behind (Some base) all w = small_in base w

small_number : (w : List ℕ) → SmallIfOk (number w)
small_number [] = tt
small_number (z ∷ []) = small_in 10 (z ∷ [])
small_number (z ∷ c ∷ w) =
    elim (nat_eq z 48) as (λ t. SmallIfOk (cond t (number_behind (base_of c) (z ∷ c ∷ w) w) (number_in 10 (z ∷ c ∷ w)))) [
      | true ↦ small_behind (base_of c) (z ∷ c ∷ w) w
      | false ↦ small_in 10 (z ∷ c ∷ w)
    ]

small_ok : (w : List ℕ) (p : Piece) → number w ≡ Ok p → IsSmall p
small_ok w p h = subst SmallIfOk h (small_number w)

small_cond : (b : Bool) → IsSmall (cond b pieces.Reserved pieces.Name)
small_cond true = tt
small_cond false = tt

small_or : (o : Option Word) (w : List ℕ) → IsSmall (word_or o w)
small_or (Some k) w = tt
small_or None w = small_cond (among reserved w)

small_word : (b : Bool) (w : List ℕ) → IsSmall (cond b pieces.Underscore (word_or (lookup keywords w) w))
small_word true w = tt
small_word false w = small_or (lookup keywords w) w

abbrev IsSmallLexeme : Lexeme → Type 0
IsSmallLexeme (piece p) = IsSmall p
IsSmallLexeme (quoted v) = Unit {0}

small_token : (x : Begins) (s r : List ℕ) (t : Lexeme) → TokenAs x s r t → IsSmallLexeme t
small_token begin.Letter s r t h = subst IsSmallLexeme (sym h.1) (small_word (bytes_eq (codes "_") (between s r)) (between s r))
small_token begin.Digit s r t h = subst IsSmallLexeme (sym h.3) (small_ok (between s r) h.1 h.2)
small_token begin.Operator s r t h = subst IsSmallLexeme (sym h.3) tt
small_token begin.Quote s r t h = subst IsSmallLexeme (sym h.2) tt
small_token (begin.Mark m) s r t h = subst IsSmallLexeme (sym h.1) tt
small_token begin.Nothing s r t h = absurd h
small_token begin.Space s r t h = absurd h
small_token begin.LineComment s r t h = absurd h
small_token begin.BlockComment s r t h = absurd h
small_token begin.Other s r t h = absurd h

index_less : (names : List (List ℕ)) (w : List ℕ) → is_name names w ≡ true → index_of names w < length names
index_less [] w h = clash false h refl
index_less (v ∷ names) w h =
    elim (bytes_eq w v) as (λ t. (t || is_name names w) ≡ true → cond (not t) (1 + index_of names w) 0 < length (v ∷ names)) [
      | true ↦ λ k. omega arith
      | false ↦ λ k. let i = index_less names w k in omega (arith, i)
    ] h

by_lexeme : (names : List (List ℕ)) (n all : ℕ) (t : Lexeme) (w : List ℕ) → NamedLexeme names t w → IsSmallLexeme t → n + length (text_in t) ≤ all → IsKind all (length names) (kind_of names n t w)
by_lexeme names n all (quoted v) w a b h = omega (arith, h)
by_lexeme names n all (piece pieces.Name) w a b h = index_less names w a
by_lexeme names n all (piece pieces.Underscore) w a b h = tt
by_lexeme names n all (piece (pieces.Keyword k)) w a b h = tt
by_lexeme names n all (piece pieces.Reserved) w a b h = tt
by_lexeme names n all (piece (pieces.Int m)) w a b h = b
by_lexeme names n all (piece pieces.IntMin) w a b h = tt
by_lexeme names n all (piece (pieces.Op o)) w a b h = tt
by_lexeme names n all (piece (pieces.Mark m)) w a b h = tt

kind_lexeme : (names : List (List ℕ)) (n all : ℕ) (l : Lexed) (end : ℕ) → NamedLexeme names l.lexeme (between l.from l.to) → IsSmallLexeme l.lexeme → n + length (text_in l.lexeme) ≤ all → IsKind all (length names) (shown names end n l).kind
kind_lexeme names n all l end a b h = by_lexeme names n all l.lexeme (between l.from l.to) a b h

kinds_sound : (names : List (List ℕ)) (end n all : ℕ) (l p : Bool) (s : List ℕ) (ts : List Lexed) → Lexes l p s ts → Named names ts → n + length (texts_of ts) ≤ all → All (λ t. IsKind all (length names) t.kind) (shown_all names end n ts)
kinds_sound names end n all l p _ _ lexes_end a h = λ k d i. absurd (omega arith)
kinds_sound names end n all l p s ts (lexes_space r b k x) a h = kinds_sound names end n all (l || b) true r ts x a h
kinds_sound names end n all l p s _ (lexes_token {r = r} {t = t} {ts = ts} k x) a h =
    let e = length-append (text_in t) (texts_of ts) in
    All-cons (λ t. IsKind all (length names) t.kind) (shown names end n (lexed t s r l p)) (shown_all names end (n + length (text_in t)) ts)
    (kind_lexeme names n all (lexed t s r l p) end a.0 (small_token (begins s) s r t k) (omega (arith, e, h)))
    (kinds_sound names end (n + length (text_in t)) all false _ r ts x a.1 (omega (arith, e, h)))

pub tokens_sound : (bytes s : List ℕ) (end : ℕ) (g : Gathered) (lines : List ℕ) → IsGathered end s g → length (encode_utf8_all s) ≤ end → end ≤ 262144 → lines ≡ line_starts bytes → AreTokens g.list.items (length g.texts.items) g.names lines end
tokens_sound bytes s end g lines h f e l =
    let names = names_of h.lexed in
    let shows = shown_all names end 0 h.lexed in
    let n : length g.texts.items ≡ length (texts_of h.lexed) = count_texts (λ v. v.items) h.lexed g.texts.items h.holds.texts in
    let k : All (λ t. IsKind (length g.texts.items) (length names) t.kind) shows = kinds_sound names end 0 (length g.texts.items) true true s h.lexed h.lexes (all_named [] h.lexed) (omega (arith, n)) in
    record {
      spans_rise = subst (λ t. RiseTo end 0 t) (sym h.holds.list) (earlier 0 (place_in end s) end shows (omega arith) (spans_rise names end 0 true true s h.lexed h.lexes f));
      short = e;
      kinds = subst (λ ts. All (λ t. IsKind (length g.texts.items) (length g.names) t.kind) ts) (sym h.holds.list) (subst (λ ns. All (λ t. IsKind (length g.texts.items) (length ns) t.kind) shows) (sym h.holds.names) k);
      names_differ = subst AreDistinct (sym h.holds.names) (distinct_after [] h.lexed no_names);
      lines_rise = subst AreLines (sym l) (are_lines bytes);
    }
