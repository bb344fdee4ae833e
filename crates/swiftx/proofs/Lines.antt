-- Texts of prints, line by line.
use Rattle.std.specs.Prelude.{true, false, ◌==◌}
use Rattle.std.proofs.lemmas.Bool.Decides.{nat_tests}
use denote.Ref.{Bor}
use Rattle.swiftx.specs.Found.{bytes_of_all}
use Rattle.std.proofs.Common.{◌≡◌, ◌≢◌, ℕ, zero, suc, ◌+◌, ◌<◌, drop, slice_index, List, [], ◌∷◌, ◌++◌, length, sym, refl, ap, ◌∙◌, subst, inl, inr, append_assoc, append-nil, arith, length-append, ◌⊎◌}
use Rattle.std.specs.List.{All, AllByRecursion}
use Rattle.std.proofs.lemmas.List.{append_cancel_left, append_cancel_right}
use Rattle.std.proofs.lemmas.List.Elements.{recursion_from_All, All-head, All-tail}
use Rattle.swiftx.specs.Prints.{IsPlain, IsLiteral, opening, closing, line_feed, print_line, print_lines, HasLines, EndsLine, PrintsText, PrintsNothing, StartsWith}

-- the first byte is no byte of a literal
abbrev pub EndsLiteral : List ℕ → Type 0
EndsLiteral [] = Unit {0}
EndsLiteral (c ∷ cs) = IsPlain c → ⊥

head_is : (a b : ℕ) (x y : List ℕ) → a ∷ x ≡ b ∷ y → a ≡ b
head_is a b x y e = cc

tail_is : (a b : ℕ) (x y : List ℕ) → a ∷ x ≡ b ∷ y → x ≡ y
tail_is a b x y e = cc

not_empty : (c : ℕ) (cs : List ℕ) → [] ≡ c ∷ cs → ⊥
not_empty c cs e = absurd (cc)

-- a literal ends at the first quote
split_once : (a c b y : List ℕ) → AllByRecursion IsPlain a → AllByRecursion IsPlain b → EndsLiteral c → a ++ c ≡ b ++ 34 ∷ y → (a ≡ b) × (c ≡ 34 ∷ y)
split_once [] c [] y pa pb end e = (refl, e)
split_once [] [] (p ∷ b) y pa pb end e = absurd (not_empty p (b ++ 34 ∷ y) e)
split_once [] (h ∷ t) (p ∷ b) y pa pb end e = absurd (end (subst IsPlain (sym (head_is h p t (b ++ 34 ∷ y) e)) pb.0))
split_once (p ∷ a) c [] y pa pb end e = absurd (pa.0.2 (head_is p 34 (a ++ c) y e))
split_once (p ∷ a) c (q ∷ b) y pa pb end e =
    let r = split_once a c b y pa.1 pb.1 end (tail_is p q (a ++ c) (b ++ 34 ∷ y) e) in
    (ap (λ x. x ∷ a) (head_is p q (a ++ c) (b ++ 34 ∷ y) e) ∙ ap (λ x. q ∷ x) r.0, r.1)

pub literal_is : (a c b y : List ℕ) → IsLiteral a → IsLiteral b → EndsLiteral c → a ++ c ≡ b ++ 34 ∷ y → (a ≡ b) × (c ≡ 34 ∷ y)
literal_is a c b y pa pb end e = split_once a c b y (recursion_from_All IsPlain a pa) (recursion_from_All IsPlain b pb) end e

quote_ends : (x : List ℕ) → EndsLiteral (34 ∷ x)
quote_ends x = λ p. p.2 refl

behind_is : (tail rest rest' : List ℕ) → EndsLine tail rest → EndsLine tail rest' → rest ≡ rest'
behind_is tail rest rest' (inl a) (inl b) = tail_is line_feed line_feed rest rest' (sym a ∙ b)
behind_is tail rest rest' (inl a) (inr b) = absurd (not_empty line_feed rest (sym b.0 ∙ a))
behind_is tail rest rest' (inr a) (inl b) = absurd (not_empty line_feed rest' (sym a.0 ∙ b))
behind_is tail rest rest' (inr a) (inr b) = a.1 ∙ sym b.1

-- a text has at most one first line
pub starts_once : (text a x b y : List ℕ) → StartsWith text a x → StartsWith text b y → (a ≡ b) × (x ≡ y)
starts_once text a x b y p q =
    let e = append_cancel_left opening (a ++ (closing ++ p.tail)) (b ++ (closing ++ q.tail)) (sym p.is ∙ q.is) in
    let r = literal_is a (closing ++ p.tail) b (41 ∷ q.tail) p.plain q.plain (quote_ends (41 ∷ p.tail)) e in
    let t : p.tail ≡ q.tail = tail_is 41 41 p.tail q.tail (tail_is 34 34 (41 ∷ p.tail) (41 ∷ q.tail) r.1) in
    (r.0, behind_is q.tail x y (subst (λ z. EndsLine z x) t p.behind) q.behind)

-- some lines end with a line feed
lines_end : (literal : List ℕ) (literals : List (List ℕ)) → (front : List ℕ) × (print_lines (literal ∷ literals) ≡ front ++ line_feed ∷ [])
lines_end literal [] = (
  opening ++ (literal ++ closing),
  append-nil (print_line literal) ∙ ap (λ x. opening ++ x) (sym (append_assoc literal closing (line_feed ∷ []))) ∙ sym (append_assoc opening (literal ++ closing) (line_feed ∷ [])),
)
lines_end literal (l ∷ ls) =
    let r = lines_end l ls in
    (print_line literal ++ r.0, ap (λ x. print_line literal ++ x) r.1 ∙ sym (append_assoc (print_line literal) r.0 (line_feed ∷ [])))

line_behind : (literal x : List ℕ) → print_line literal ++ x ≡ opening ++ (literal ++ (closing ++ line_feed ∷ x))
line_behind literal x =
    append_assoc opening (literal ++ (closing ++ line_feed ∷ [])) x
    ∙ ap (λ y. opening ++ y) (append_assoc literal (closing ++ line_feed ∷ []) x)

-- the first of a text's lines, and what is left for the others
pub starts : (text literal : List ℕ) (literals : List (List ℕ)) → IsLiteral literal → HasLines text (literal ∷ literals) → (rest : List ℕ) × StartsWith text literal rest × HasLines rest literals
unfolding lines_end
starts text literal literals plain (inl e) = (
  print_lines literals,
  record { plain = plain; tail = line_feed ∷ print_lines literals; is = e ∙ line_behind literal (print_lines literals); behind = inl refl },
  inl refl,
)
starts text literal [] plain (inr e) =
    let r = lines_end literal [] in
    let is = append_cancel_right text r.0 (line_feed ∷ []) (e ∙ r.1) in
    let nil : opening ++ (literal ++ closing) ≡ opening ++ (literal ++ (closing ++ [])) = refl in
    ([], record { plain = plain; tail = []; is = is ∙ nil; behind = inr (refl, refl) }, inl refl)
starts text literal (l ∷ ls) plain (inr e) =
    let r = lines_end l ls in
    let f : text ++ line_feed ∷ [] ≡ (print_line literal ++ r.0) ++ line_feed ∷ [] = e ∙ ap (λ x. print_line literal ++ x) r.1 ∙ sym (append_assoc (print_line literal) r.0 (line_feed ∷ [])) in
    let is = append_cancel_right text (print_line literal ++ r.0) (line_feed ∷ []) f in (
      r.0,
      record { plain = plain; tail = line_feed ∷ r.0; is = is ∙ line_behind literal r.0; behind = inl refl },
      inr (sym r.1),
    )

-- a text that is not empty has a first line, if it has lines
pub some_lines : (c : ℕ) (cs : List ℕ) (literals : List (List ℕ)) → HasLines (c ∷ cs) literals → (literal : List ℕ) × (others : List (List ℕ)) × (literals ≡ literal ∷ others)
some_lines c cs [] (inl e) = absurd (not_empty c cs (sym e))
some_lines c cs [] (inr e) = absurd (not_empty c (cs ++ line_feed ∷ []) (sym e))
some_lines c cs (l ∷ ls) h = (l, ls, refl)

no_lines : (literal : List ℕ) (literals : List (List ℕ)) → HasLines [] (literal ∷ literals) → ⊥
no_lines literal literals (inl e) = absurd (cc)
no_lines literal literals (inr e) = absurd (cc)

pub empty_lines : (literals : List (List ℕ)) → HasLines [] literals → literals ≡ []
empty_lines [] h = refl
empty_lines (l ∷ ls) h = absurd (no_lines l ls h)

-- what is left when some lines are read
pub HasRead : List ℕ → List (List ℕ) → List ℕ → Type 0
HasRead text literals rest = (text ≡ print_lines literals ++ rest) ⊎ ((text ++ line_feed ∷ [] ≡ print_lines literals) × (rest ≡ []))

lines_push : (literals : List (List ℕ)) (literal x : List ℕ) → print_lines (literals ++ literal ∷ []) ++ x ≡ print_lines literals ++ (print_line literal ++ x)
lines_push [] literal x = ap (λ y. y ++ x) (append-nil (print_line literal))
lines_push (l ∷ ls) literal x =
    append_assoc (print_line l) (print_lines (ls ++ literal ∷ [])) x
    ∙ ap (λ y. print_line l ++ y) (lines_push ls literal x)
    ∙ sym (append_assoc (print_line l) (print_lines ls) (print_line literal ++ x))

pub read_none : (text : List ℕ) → HasRead text [] text
unfolding HasRead
read_none text = inl refl

pub read_line : (text : List ℕ) (literals : List (List ℕ)) (c : ℕ) (cs literal rest : List ℕ) → HasRead text literals (c ∷ cs) → StartsWith (c ∷ cs) literal rest → HasRead text (literals ++ literal ∷ []) rest
unfolding HasRead
read_line text literals c cs literal rest (inr h) s = absurd (not_empty c cs (sym h.1))
read_line text literals c cs literal rest (inl h) s = by s.behind
  where
    by : EndsLine s.tail rest → HasRead text (literals ++ literal ∷ []) rest
    by (inl e) = inl (h ∙ ap (λ x. print_lines literals ++ x) (s.is ∙ ap (λ t. opening ++ (literal ++ (closing ++ t))) e ∙ sym (line_behind literal rest)) ∙ sym (lines_push literals literal rest))
    by (inr e) =
        let line : c ∷ cs ≡ opening ++ (literal ++ closing) = s.is ∙ ap (λ t. opening ++ (literal ++ (closing ++ t))) e.0 in
        let whole : (opening ++ (literal ++ closing)) ++ line_feed ∷ [] ≡ print_line literal = append_assoc opening (literal ++ closing) (line_feed ∷ []) ∙ ap (λ x. opening ++ x) (append_assoc literal closing (line_feed ∷ [])) in
        inr (
          ap (λ x. x ++ line_feed ∷ []) h
              ∙ append_assoc (print_lines literals) (c ∷ cs) (line_feed ∷ [])
              ∙ ap (λ x. print_lines literals ++ x) (ap (λ x. x ++ line_feed ∷ []) line ∙ whole ∙ sym (append-nil (print_line literal)))
              ∙ sym (lines_push literals literal [])
              ∙ append-nil (print_lines (literals ++ literal ∷ [])),
          e.1,
        )

pub read_all : (text : List ℕ) (literals : List (List ℕ)) → HasRead text literals [] → HasLines text literals
unfolding HasRead
read_all text literals (inl h) = inl (h ∙ append-nil (print_lines literals))
read_all text literals (inr h) = inr h.0

-- every way to read the text goes on behind what is read
pub ReadsOn : List ℕ → List (List ℕ) → List ℕ → Type 0
ReadsOn text literals rest = (all : List (List ℕ)) → All IsLiteral all → HasLines text all → (others : List (List ℕ)) × (all ≡ literals ++ others) × HasLines rest others × All IsLiteral others

pub reads_on : (text : List ℕ) → ReadsOn text [] text
unfolding ReadsOn
reads_on text = λ all plain h. (all, refl, h, plain)

-- the next line of a way to read the text
pub next_line : (text : List ℕ) (literals : List (List ℕ)) (c : ℕ) (cs : List ℕ) → ReadsOn text literals (c ∷ cs) → (all : List (List ℕ)) → All IsLiteral all → HasLines text all → (literal : List ℕ) × (others : List (List ℕ)) × (all ≡ literals ++ literal ∷ others) × (rest : List ℕ) × StartsWith (c ∷ cs) literal rest × HasLines rest others × All IsLiteral others
unfolding ReadsOn
next_line text literals c cs on all plain h =
    let r = on all plain h in
    let s = some_lines c cs r.0 r.2 in
    let p : All IsLiteral (s.0 ∷ s.1) = subst (λ x. All IsLiteral x) s.2 r.3 in
    let head : IsLiteral s.0 = All-head IsLiteral s.0 s.1 p in
    let t = starts (c ∷ cs) s.0 s.1 head (subst (λ x. HasLines (c ∷ cs) x) s.2 r.2) in
    (s.0, s.1, r.1 ∙ ap (λ x. literals ++ x) s.2, t.0, t.1, t.2, All-tail IsLiteral s.0 s.1 p)

pub reads_line_on : (text : List ℕ) (literals : List (List ℕ)) (c : ℕ) (cs literal rest : List ℕ) → ReadsOn text literals (c ∷ cs) → StartsWith (c ∷ cs) literal rest → ReadsOn text (literals ++ literal ∷ []) rest
unfolding ReadsOn
reads_line_on text literals c cs literal rest on s = λ all plain h.
    let n = next_line text literals c cs on all plain h in
    let same = starts_once (c ∷ cs) n.0 n.3 literal rest n.4 s in (
      n.1,
      n.2 ∙ ap (λ x. literals ++ x ∷ n.1) same.0 ∙ sym (append_assoc literals (literal ∷ []) n.1),
      subst (λ x. HasLines x n.1) same.1 n.5,
      n.6,
    )

-- a text prints at most one list of literals
pub lines_once : (a b : List (List ℕ)) (text : List ℕ) → All IsLiteral a → All IsLiteral b → HasLines text a → HasLines text b → a ≡ b
lines_once [] [] text pa pb ha hb = refl
lines_once [] (l ∷ ls) text pa pb (inl e) hb = absurd (no_lines l ls (subst (λ t. HasLines t (l ∷ ls)) e hb))
lines_once [] (l ∷ ls) text pa pb (inr e) hb = absurd (omega (arith, ap length e, length-append text (line_feed ∷ [])))
lines_once (k ∷ ks) [] text pa pb ha (inl e) = absurd (no_lines k ks (subst (λ t. HasLines t (k ∷ ks)) e ha))
lines_once (k ∷ ks) [] text pa pb ha (inr e) = absurd (omega (arith, ap length e, length-append text (line_feed ∷ [])))
lines_once (k ∷ ks) (l ∷ ls) text pa pb ha hb =
    let x = starts text k ks (All-head IsLiteral k ks pa) ha in
    let y = starts text l ls (All-head IsLiteral l ls pb) hb in
    let same = starts_once text k x.0 l y.0 x.1 y.1 in
    let rest = lines_once ks ls x.0 (All-tail IsLiteral k ks pa) (All-tail IsLiteral l ls pb) x.2 (subst (λ t. HasLines t ls) (sym same.1) y.2) in
    ap (λ z. z ∷ ks) same.0 ∙ ap (λ z. l ∷ z) rest

pub prints_once : (text : List ℕ) (a b : List (List ℕ)) → PrintsText text a → PrintsText text b → a ≡ b
prints_once text a b p q = lines_once a b text p.plain q.plain p.lines q.lines

-- where the plain bytes end
pub ends_at : (bytes : List ℕ) (n : ℕ) → (n < length bytes → IsPlain (slice_index bytes n) → ⊥) → EndsLiteral (drop n bytes)
ends_at [] zero h = tt
ends_at [] (suc n) h = tt
ends_at (c ∷ cs) zero h = h (omega arith)
ends_at (c ∷ cs) (suc n) h = ends_at cs n (λ l. h (omega (arith, l)))

-- the bytes of a first line are split at the opening, the first quote and the closing
pub starts_here : (text quoted literal closed tail rest : List ℕ) → text ≡ opening ++ quoted → quoted ≡ literal ++ closed → IsLiteral literal → closed ≡ closing ++ tail → EndsLine tail rest → StartsWith text literal rest
starts_here text quoted literal closed tail rest a b plain c behind =
    record { plain = plain; tail = tail; is = a ∙ ap (λ x. opening ++ x) b ∙ ap (λ x. opening ++ (literal ++ x)) c; behind = behind }

pub must_open : (text literal rest : List ℕ) → StartsWith text literal rest → ((x : List ℕ) → text ≢ opening ++ x) → ⊥
must_open text literal rest s none = none (literal ++ (closing ++ s.tail)) s.is

pub must_close : (text quoted front closed literal rest : List ℕ) → text ≡ opening ++ quoted → quoted ≡ front ++ closed → IsLiteral front → EndsLiteral closed → (s : StartsWith text literal rest) → closed ≡ closing ++ s.tail
must_close text quoted front closed literal rest a b plain end s =
    let e = append_cancel_left opening quoted (literal ++ (closing ++ s.tail)) (sym a ∙ s.is) in
    (literal_is front closed literal (41 ∷ s.tail) plain s.plain end (sym b ∙ e)).1

pub must_end : (text quoted front closed tail literal rest : List ℕ) → text ≡ opening ++ quoted → quoted ≡ front ++ closed → IsLiteral front → EndsLiteral closed → closed ≡ closing ++ tail → StartsWith text literal rest → ((x : List ℕ) → EndsLine tail x → ⊥) → ⊥
must_end text quoted front closed tail literal rest a b plain end c s none =
    let t : tail ≡ s.tail = append_cancel_left closing tail s.tail (sym c ∙ must_close text quoted front closed literal rest a b plain end s) in
    none rest (subst (λ x. EndsLine x rest) (sym t) s.behind)

-- the same of a rest that is not empty
pub read_more : (text : List ℕ) (literals : List (List ℕ)) (rest literal behind : List ℕ) → 0 < length rest → HasRead text literals rest → StartsWith rest literal behind → HasRead text (literals ++ literal ∷ []) behind
read_more text literals [] literal behind l h s = absurd (omega (arith, l))
read_more text literals (c ∷ cs) literal behind l h s = read_line text literals c cs literal behind h s

pub reads_more_on : (text : List ℕ) (literals : List (List ℕ)) (rest literal behind : List ℕ) → 0 < length rest → ReadsOn text literals rest → StartsWith rest literal behind → ReadsOn text (literals ++ literal ∷ []) behind
reads_more_on text literals [] literal behind l on s = absurd (omega (arith, l))
reads_more_on text literals (c ∷ cs) literal behind l on s = reads_line_on text literals c cs literal behind on s

-- where there is no further line, the text prints nothing
pub no_line : (text : List ℕ) (literals : List (List ℕ)) (rest : List ℕ) → 0 < length rest → ReadsOn text literals rest → ((literal behind : List ℕ) → StartsWith rest literal behind → ⊥) → PrintsNothing text
no_line text literals [] l on none = absurd (omega (arith, l))
no_line text literals (c ∷ cs) l on none = λ all p.
    let n = next_line text literals c cs on all p.plain p.lines in
    none n.0 n.3 n.4

-- a text with too many lines prints nothing
pub too_many : (text : List ℕ) (literals : List (List ℕ)) (rest : List ℕ) → 0 < length rest → ReadsOn text literals rest → length literals ≡ 16384 → PrintsNothing text
too_many text literals [] l on full = absurd (omega (arith, l))
too_many text literals (c ∷ cs) l on full = λ all p.
    let n = next_line text literals c cs on all p.plain p.lines in
    let e : length all ≡ length literals + length (n.0 ∷ n.1) = ap length n.2 ∙ length-append literals (n.0 ∷ n.1) in
    absurd (omega (arith, e, full, p.count))

-- what the loop's tests say
pub some_bytes : (n : ℕ) → false ≡ (n == 0) → 0 < n
some_bytes zero e = absurd (cc)
some_bytes (suc n) e = omega arith

zero_bytes : (n : ℕ) → true ≡ (n == 0) → n ≡ 0
zero_bytes n e = grind (arith, nat_tests)

pub no_bytes : (l : List ℕ) → true ≡ (length l == 0) → l ≡ []
no_bytes [] e = refl
no_bytes (c ∷ cs) e = let z = zero_bytes (length (c ∷ cs)) e in absurd (omega (arith, z))

pub bytes_push : (literals : List (Bor (List ℕ))) (literal : Bor (List ℕ)) → bytes_of_all (literals ++ literal ∷ []) ≡ bytes_of_all literals ++ literal.now ∷ []
bytes_push [] literal = refl
bytes_push (l ∷ ls) literal = ap (λ x. l.now ∷ x) (bytes_push ls literal)

pub bytes_length : (literals : List (Bor (List ℕ))) → length (bytes_of_all literals) ≡ length literals
bytes_length [] = refl
bytes_length (l ∷ ls) = let e = bytes_length ls in omega (arith, e)
