-- Lists of names that grow at their end, and what tokens show of them.
use Rattle.std.proofs.Common.{◌≡◌, ℕ, ◌+◌, Bool, true, false, cond, not, ◌||◌, if◌then◌else◌, List, [], ◌∷◌, ◌++◌, length, map, refl, sym, ap, ◌∙◌, subst, bytes_eq, arith, append_assoc, append-nil, length-append, inl, inr}
use Rattle.std.proofs.lemmas.List.{map-append}
use Rattle.sx_token.specs.declared.kinds.Token.{Token}
use Rattle.sx_token.specs.declared.kinds.Kind.TheVariants as Kind
use Rattle.sx_lexer.specs.declared.pieces.Piece.{Piece}
use Rattle.sx_lexer.specs.declared.pieces.Piece.TheVariants as pieces
use Rattle.sx_lexer.specs.Characters.{between}
use Rattle.sx_lexer.specs.Lexis.{Lexeme, piece, quoted, Lexed}
use Rattle.sx_lexer.specs.Shown.{with_lexeme, names_after, names_of, text_in, texts_of, kind_of_piece, kind_of, shown, shown_all, place_in}
use Rattle.sx_lexer.specs.Names.{is_name, with_name, index_of}
use Rattle.sx_lexer.proofs.NameKeys.{itself}
use Rattle.sx_lexer.proofs.TextEnds.{tell, clash}

pub index_stays : (names more : List (List ℕ)) (w : List ℕ) → is_name names w ≡ true → index_of (names ++ more) w ≡ index_of names w
index_stays [] more w h = clash false h refl
index_stays (v ∷ names) more w h =
    elim (bytes_eq w v) as (λ b. (b || is_name names w) ≡ true → cond (not b) (1 + index_of (names ++ more) w) 0 ≡ cond (not b) (1 + index_of names w) 0) [
      | true ↦ λ k. refl
      | false ↦ λ k. ap (λ n. 1 + n) (index_stays names more w k)
    ] h

pub is_name_stays : (names more : List (List ℕ)) (w : List ℕ) → is_name names w ≡ true → is_name (names ++ more) w ≡ true
is_name_stays [] more w h = clash false h refl
is_name_stays (v ∷ names) more w h =
    elim (bytes_eq w v) as (λ b. (b || is_name names w) ≡ true → (b || is_name (names ++ more) w) ≡ true) [
      | true ↦ λ k. refl
      | false ↦ λ k. is_name_stays names more w k
    ] h

is_name_last : (names : List (List ℕ)) (w : List ℕ) → is_name (names ++ w ∷ []) w ≡ true
is_name_last [] w = ap (λ b. b || false) (itself w)
is_name_last (v ∷ names) w =
    elim (bytes_eq w v) as (λ b. (b || is_name (names ++ w ∷ []) w) ≡ true) [ true ↦ refl | false ↦ is_name_last names w ]

-- each name of the tokens is among the names

abbrev pub NamedLexeme : List (List ℕ) → Lexeme → List ℕ → Type 0
NamedLexeme names (piece pieces.Name) w = is_name names w ≡ true
NamedLexeme names t w = Unit {0}

abbrev pub Named : List (List ℕ) → List Lexed → Type 0
Named names [] = Unit {0}
Named names (l ∷ ls) = NamedLexeme names l.lexeme (between l.from l.to) × Named names ls

piece_stays : (names more : List (List ℕ)) (p : Piece) (w : List ℕ) → NamedLexeme names (piece p) w → kind_of_piece (names ++ more) p w ≡ kind_of_piece names p w
piece_stays names more pieces.Name w h = ap Kind.Name (index_stays names more w h)
piece_stays names more pieces.Underscore w h = refl
piece_stays names more (pieces.Keyword k) w h = refl
piece_stays names more pieces.Reserved w h = refl
piece_stays names more (pieces.Int n) w h = refl
piece_stays names more pieces.IntMin w h = refl
piece_stays names more (pieces.Op o) w h = refl
piece_stays names more (pieces.Mark m) w h = refl

kind_stays : (names more : List (List ℕ)) (n : ℕ) (t : Lexeme) (w : List ℕ) → NamedLexeme names t w → kind_of (names ++ more) n t w ≡ kind_of names n t w
kind_stays names more n (piece p) w h = piece_stays names more p w h
kind_stays names more n (quoted v) w h = refl

pub shown_stays : (names more : List (List ℕ)) (end n : ℕ) (ls : List Lexed) → Named names ls → shown_all (names ++ more) end n ls ≡ shown_all names end n ls
shown_stays names more end n [] h = refl
shown_stays names more end n (l ∷ ls) h =
    ap (λ k. record { kind = k; span = record { start = place_in end l.from; end = place_in end l.to }; line_before = l.line_before; space_before = l.space_before; space_after = l.space_after } ∷ shown_all (names ++ more) end (n + length (text_in l.lexeme)) ls) (kind_stays names more n l.lexeme (between l.from l.to) h.0)
    ∙ ap (λ t. shown names end n l ∷ t) (shown_stays names more end (n + length (text_in l.lexeme)) ls h.1)

pub shown_last : (names : List (List ℕ)) (end n : ℕ) (ls : List Lexed) (l : Lexed) → shown_all names end n (ls ++ l ∷ []) ≡ shown_all names end n ls ++ shown names end (n + length (texts_of ls)) l ∷ []
shown_last names end n [] l = ap (λ m. shown names end m l ∷ []) (let e : n ≡ n + 0 = omega arith in e)
shown_last names end n (k ∷ ls) l =
    ap (λ t. shown names end n k ∷ t) (shown_last names end (n + length (text_in k.lexeme)) ls l ∙
    ap (λ m. shown_all names end (n + length (text_in k.lexeme)) ls ++ shown names end m l ∷ []) (let e = length-append (text_in k.lexeme) (texts_of ls) in let g : n + length (text_in k.lexeme) + length (texts_of ls) ≡ n + length (text_in k.lexeme ++ texts_of ls) = omega (arith, e) in g))

pub names_last : (names : List (List ℕ)) (ls : List Lexed) (l : Lexed) → names_after names (ls ++ l ∷ []) ≡ with_lexeme (names_after names ls) l.lexeme (between l.from l.to)
names_last names [] l = refl
names_last names (k ∷ ls) l = names_last (with_lexeme names k.lexeme (between k.from k.to)) ls l

pub texts_last : (ls : List Lexed) (l : Lexed) → texts_of (ls ++ l ∷ []) ≡ texts_of ls ++ text_in l.lexeme
texts_last [] l = append-nil (text_in l.lexeme)
texts_last (k ∷ ls) l = ap (λ t. text_in k.lexeme ++ t) (texts_last ls l) ∙ sym (append_assoc (text_in k.lexeme) (texts_of ls) (text_in l.lexeme))

-- The names only grow, and each name of the tokens is among them.

pub record Grows (old new : List (List ℕ)) : Type 0 where
  pub more : List (List ℕ)
  pub same : new ≡ old ++ more

grown : (b : Bool) (names : List (List ℕ)) (w : List ℕ) → Grows names (if b then names else names ++ w ∷ [])
grown true names w = record { more = []; same = sym (append-nil names) }
grown false names w = record { more = w ∷ []; same = refl }

pub lexeme_grows : (names : List (List ℕ)) (t : Lexeme) (w : List ℕ) → Grows names (with_lexeme names t w)
lexeme_grows names (quoted v) w = record { more = []; same = sym (append-nil names) }
lexeme_grows names (piece pieces.Name) w = grown (is_name names w) names w
lexeme_grows names (piece pieces.Underscore) w = record { more = []; same = sym (append-nil names) }
lexeme_grows names (piece (pieces.Keyword k)) w = record { more = []; same = sym (append-nil names) }
lexeme_grows names (piece pieces.Reserved) w = record { more = []; same = sym (append-nil names) }
lexeme_grows names (piece (pieces.Int n)) w = record { more = []; same = sym (append-nil names) }
lexeme_grows names (piece pieces.IntMin) w = record { more = []; same = sym (append-nil names) }
lexeme_grows names (piece (pieces.Op o)) w = record { more = []; same = sym (append-nil names) }
lexeme_grows names (piece (pieces.Mark m)) w = record { more = []; same = sym (append-nil names) }

pub after_grows : (names : List (List ℕ)) (ls : List Lexed) → Grows names (names_after names ls)
after_grows names [] = record { more = []; same = sym (append-nil names) }
after_grows names (l ∷ ls) =
    let a = lexeme_grows names l.lexeme (between l.from l.to) in
    let b = after_grows (with_lexeme names l.lexeme (between l.from l.to)) ls in
    record { more = a.more ++ b.more; same = b.same ∙ (ap (λ t. t ++ b.more) a.same ∙ append_assoc names a.more b.more) }

found_name : (names : List (List ℕ)) (w : List ℕ) → is_name (with_name names w) w ≡ true
found_name names w =
    elim (tell (is_name names w)) [
      | inl h ↦ ap (λ b. is_name (if b then names else names ++ w ∷ []) w) h ∙ h
      | inr h ↦ ap (λ b. is_name (if b then names else names ++ w ∷ []) w) h ∙ is_name_last names w
    ]

named_now : (names : List (List ℕ)) (t : Lexeme) (w : List ℕ) → NamedLexeme (with_lexeme names t w) t w
named_now names (quoted v) w = tt
named_now names (piece pieces.Name) w = found_name names w
named_now names (piece pieces.Underscore) w = tt
named_now names (piece (pieces.Keyword k)) w = tt
named_now names (piece pieces.Reserved) w = tt
named_now names (piece (pieces.Int n)) w = tt
named_now names (piece pieces.IntMin) w = tt
named_now names (piece (pieces.Op o)) w = tt
named_now names (piece (pieces.Mark m)) w = tt

named_stays : (names more : List (List ℕ)) (t : Lexeme) (w : List ℕ) → NamedLexeme names t w → NamedLexeme (names ++ more) t w
named_stays names more (quoted v) w h = tt
named_stays names more (piece pieces.Name) w h = is_name_stays names more w h
named_stays names more (piece pieces.Underscore) w h = tt
named_stays names more (piece (pieces.Keyword k)) w h = tt
named_stays names more (piece pieces.Reserved) w h = tt
named_stays names more (piece (pieces.Int n)) w h = tt
named_stays names more (piece pieces.IntMin) w h = tt
named_stays names more (piece (pieces.Op o)) w h = tt
named_stays names more (piece (pieces.Mark m)) w h = tt

pub all_named : (names : List (List ℕ)) (ls : List Lexed) → Named (names_after names ls) ls
all_named names [] = tt
all_named names (l ∷ ls) =
    let w = between l.from l.to in
    let n = with_lexeme names l.lexeme w in
    let g = after_grows n ls in
    let h : NamedLexeme (n ++ g.more) l.lexeme w = named_stays n g.more l.lexeme w (named_now names l.lexeme w) in
    (subst (λ t. NamedLexeme t l.lexeme w) (sym g.same) h, all_named n ls)

-- One more token.
pub shows_more : (end : ℕ) (ls : List Lexed) (l : Lexed) →
    shown_all (names_of (ls ++ l ∷ [])) end 0 (ls ++ l ∷ [])
    ≡ shown_all (names_of ls) end 0 ls ++ shown (with_lexeme (names_of ls) l.lexeme (between l.from l.to)) end (length (texts_of ls)) l ∷ []
shows_more end ls l =
    let w = between l.from l.to in
    let n = with_lexeme (names_of ls) l.lexeme w in
    let g = lexeme_grows (names_of ls) l.lexeme w in
    let z : 0 + length (texts_of ls) ≡ length (texts_of ls) = omega arith in
    ap (λ t. shown_all t end 0 (ls ++ l ∷ [])) (names_last [] ls l) ∙
    (shown_last n end 0 ls l ∙
    (ap (λ m. shown_all n end 0 ls ++ shown n end m l ∷ []) z ∙
    ap (λ t. t ++ shown n end (length (texts_of ls)) l ∷ []) (ap (λ t. shown_all t end 0 ls) g.same ∙ shown_stays (names_of ls) g.more end 0 ls (all_named [] ls))))

pub adds_list : (end : ℕ) (ls : List Lexed) (l : Lexed) (names more : List (List ℕ)) (old new : List Token) (t : Token) →
    old ≡ shown_all (names_of ls) end 0 ls → names ≡ names_of ls → more ≡ with_lexeme names l.lexeme (between l.from l.to) → t ≡ shown more end (length (texts_of ls)) l → new ≡ old ++ t ∷ [] →
    new ≡ shown_all (names_of (ls ++ l ∷ [])) end 0 (ls ++ l ∷ [])
adds_list end ls l names more old new t a b d e f =
    let w = between l.from l.to in
    let m : more ≡ with_lexeme (names_of ls) l.lexeme w = d ∙ ap (λ x. with_lexeme x l.lexeme w) b in
    f ∙ (ap (λ x. x ++ t ∷ []) a ∙ (ap (λ x. shown_all (names_of ls) end 0 ls ++ x ∷ []) (e ∙ ap (λ x. shown x end (length (texts_of ls)) l) m) ∙ sym (shows_more end ls l)))

pub adds_names : (ls : List Lexed) (l : Lexed) (names more : List (List ℕ)) → names ≡ names_of ls → more ≡ with_lexeme names l.lexeme (between l.from l.to) → more ≡ names_of (ls ++ l ∷ [])
adds_names ls l names more b d = d ∙ (ap (λ x. with_lexeme x l.lexeme (between l.from l.to)) b ∙ sym (names_last [] ls l))

pub adds_no_text : (ls : List Lexed) (l : Lexed) (p : Piece) → l.lexeme ≡ piece p → texts_of ls ≡ texts_of (ls ++ l ∷ [])
adds_no_text ls l p h = sym (texts_last ls l ∙ (ap (λ x. texts_of ls ++ text_in x) h ∙ append-nil (texts_of ls)))

pub adds_text : {V : Type 0} (f : V → List ℕ) (ls : List Lexed) (l : Lexed) (v : V) (old new : List V) → l.lexeme ≡ quoted (f v) → map f old ≡ texts_of ls → new ≡ old ++ v ∷ [] → map f new ≡ texts_of (ls ++ l ∷ [])
adds_text f ls l v old new h k e = ap (map f) e ∙ (map-append f old (v ∷ []) ∙ (ap (λ x. x ++ f v ∷ []) k ∙ (ap (λ x. texts_of ls ++ text_in x) (sym h) ∙ sym (texts_last ls l))))

pub length_map : {V : Type 0} (f : V → List ℕ) (vs : List V) → length (map f vs) ≡ length vs
length_map f [] = refl
length_map f (v ∷ vs) = let i = length_map f vs in let g : length (f v ∷ map f vs) ≡ length (v ∷ vs) = omega (arith, i) in g

pub count_texts : {V : Type 0} (f : V → List ℕ) (ls : List Lexed) (old : List V) → map f old ≡ texts_of ls → length old ≡ length (texts_of ls)
count_texts f ls old h = sym (length_map f old) ∙ ap length h
