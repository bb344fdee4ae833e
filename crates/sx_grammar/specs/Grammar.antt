-- Grammars as data, what they derive, and their fronts.
use Rattle.std.specs.Prelude.{◌≡◌, ℕ, zero, suc, List, [], ◌∷◌, ◌++◌, length, Bool, true, false, cond, not, ◌&&◌, ◌||◌, nat_eq}
use Rattle.sx_grammar.specs.declared.lexemes.Lexeme.{Lexeme}
use Rattle.sx_grammar.specs.Value.{Value, nothing, leaf, pair}
use Rattle.sx_grammar.specs.Classes.{class_of, any}
use Rattle.sx_grammar.specs.declared.lexemes.Sort.TheVariants as sorts

-- the right side of a rule
pub data Grammar : Type 0 where
  empty : Grammar
  -- a token of one of these classes
  token : List ℕ → Grammar
  -- one after the other
  both : Grammar → Grammar → Grammar
  either : Grammar → Grammar → Grammar
  -- any number, one after the other
  many : Grammar → Grammar
  -- a token of these classes that opens a level, and what the rule with the number says
  deeper : List ℕ → ℕ → Grammar
  -- one, and then the second or the third, as the test says of what the one stands for
  select : Grammar → (Value → Bool) → Grammar → Grammar → Grammar
  -- one before which the text ends or a token of these classes stands
  begin : List ℕ → Grammar → Grammar
  -- what it stands for
  giving : (Value → Value) → Grammar → Grammar

abbrev pub has : List ℕ → ℕ → Bool
has [] c = false
has (k ∷ ks) c = nat_eq c k || has ks c

abbrev pub starts : List ℕ → List Lexeme → Bool
starts cs [] = false
starts cs (t ∷ ts) = has cs (class_of t)

-- the text's end, or a token of these classes
abbrev pub stands : List ℕ → List Lexeme → Bool
stands cs [] = true
stands cs (t ∷ ts) = has cs (class_of t)

-- What a grammar derives: the tokens of the first list up to the second one, which is its end, stand for the value.
pub data Whole (body : ℕ → Grammar) : Grammar → Value → List Lexeme → List Lexeme → Type 0 where
  whole_empty : {ts : List Lexeme} → Whole body empty nothing ts ts
  whole_token : {cs : List ℕ} {t : Lexeme} {ts : List Lexeme} → has cs (class_of t) ≡ true → Whole body (token cs) (leaf t) (t ∷ ts) ts
  whole_both : {a b : Grammar} {v w : Value} {ts mid rest : List Lexeme} → Whole body a v ts mid → Whole body b w mid rest → Whole body (both a b) (pair v w) ts rest
  whole_left : {a b : Grammar} {v : Value} {ts rest : List Lexeme} → Whole body a v ts rest → Whole body (either a b) v ts rest
  whole_right : {a b : Grammar} {v : Value} {ts rest : List Lexeme} → Whole body b v ts rest → Whole body (either a b) v ts rest
  whole_none : {g : Grammar} {ts : List Lexeme} → Whole body (many g) nothing ts ts
  whole_more : {g : Grammar} {v vs : Value} {ts mid rest : List Lexeme} → Whole body g v ts mid → Whole body (many g) vs mid rest → Whole body (many g) (pair v vs) ts rest
  whole_deeper : {cs : List ℕ} {n : ℕ} {v : Value} {t : Lexeme} {ts rest : List Lexeme} → has cs (class_of t) ≡ true → Whole body (body n) v ts rest → Whole body (deeper cs n) (pair (leaf t) v) (t ∷ ts) rest
  whole_select : {a b c : Grammar} {p : Value → Bool} {v w : Value} {ts mid rest : List Lexeme} → Whole body a v ts mid → Whole body (cond (p v) b c) w mid rest → Whole body (select a p b c) (pair v w) ts rest
  whole_begin : {cs : List ℕ} {g : Grammar} {v : Value} {ts rest : List Lexeme} → stands cs ts ≡ true → Whole body g v ts rest → Whole body (begin cs g) v ts rest
  whole_giving : {f : Value → Value} {g : Grammar} {v : Value} {ts rest : List Lexeme} → Whole body g v ts rest → Whole body (giving f g) (f v) ts rest

-- The lexemes of the first list up to the second one are a front, at whose end so many levels are open: nothing, or whole parts in order and then a front of the part that follows.
pub data Front (body : ℕ → Grammar) : ℕ → Grammar → List Lexeme → List Lexeme → Type 0 where
  front_nothing : {g : Grammar} {ts : List Lexeme} → Front body 0 g ts ts
  front_token : {cs : List ℕ} {t : Lexeme} {ts : List Lexeme} → has cs (class_of t) ≡ true → Front body 0 (token cs) (t ∷ ts) ts
  front_first : {m : ℕ} {a b : Grammar} {ts rest : List Lexeme} → Front body m a ts rest → Front body m (both a b) ts rest
  front_second : {m : ℕ} {a b : Grammar} {v : Value} {ts mid rest : List Lexeme} → Whole body a v ts mid → Front body m b mid rest → Front body m (both a b) ts rest
  front_left : {m : ℕ} {a b : Grammar} {ts rest : List Lexeme} → Front body m a ts rest → Front body m (either a b) ts rest
  front_right : {m : ℕ} {a b : Grammar} {ts rest : List Lexeme} → Front body m b ts rest → Front body m (either a b) ts rest
  front_one : {m : ℕ} {g : Grammar} {ts rest : List Lexeme} → Front body m g ts rest → Front body m (many g) ts rest
  front_more : {m : ℕ} {g : Grammar} {v : Value} {ts mid rest : List Lexeme} → Whole body g v ts mid → Front body m (many g) mid rest → Front body m (many g) ts rest
  front_opening : {m : ℕ} {cs : List ℕ} {n : ℕ} {t : Lexeme} {ts rest : List Lexeme} → has cs (class_of t) ≡ true → Front body m (body n) ts rest → Front body (suc m) (deeper cs n) (t ∷ ts) rest
  front_select_first : {m : ℕ} {a b c : Grammar} {p : Value → Bool} {ts rest : List Lexeme} → Front body m a ts rest → Front body m (select a p b c) ts rest
  front_select : {m : ℕ} {a b c : Grammar} {p : Value → Bool} {v : Value} {ts mid rest : List Lexeme} → Whole body a v ts mid → Front body m (cond (p v) b c) mid rest → Front body m (select a p b c) ts rest
  front_begin : {m : ℕ} {cs : List ℕ} {g : Grammar} {ts rest : List Lexeme} → stands cs ts ≡ true → Front body m g ts rest → Front body m (begin cs g) ts rest
  front_giving : {m : ℕ} {f : Value → Value} {g : Grammar} {ts rest : List Lexeme} → Front body m g ts rest → Front body m (giving f g) ts rest

-- Why reading stops: a token doesn't fit, which may be a bracket that opens a level too much all the same; or it fits and opens one.
pub data Cause : Type 0 where
  misfit : Bool → Cause
  missing : Cause

-- Reading from left to right. At a fault the rest begins with the token at which it stops.
pub data Out : Type 0 where
  done : Value → List Lexeme → Out
  fault : List Lexeme → Cause → Out

infixl 10 ◌>>=◌
abbrev pub ◌>>=◌ : Out → (Value → List Lexeme → Out) → Out
(done v rest) >>= f = f v rest
(fault rest c) >>= f = fault rest c

abbrev pub nullable : Grammar → Bool
nullable empty = true
nullable (token cs) = false
nullable (both a b) = nullable a && nullable b
nullable (either a b) = nullable a || nullable b
nullable (many g) = true
nullable (deeper cs n) = false
nullable (select a p b c) = nullable a && (nullable b || nullable c)
nullable (begin cs g) = nullable g
nullable (giving f g) = nullable g

abbrev pub meet : List ℕ → List ℕ → List ℕ
meet [] ys = []
meet (x ∷ xs) ys = cond (has ys x) (x ∷ meet xs ys) (meet xs ys)

-- those of these classes at which one may be passed with no token
abbrev pub passed : Grammar → List ℕ → List ℕ
passed empty xs = xs
passed (token cs) xs = []
passed (both a b) xs = passed a (passed b xs)
passed (either a b) xs = passed a xs ++ passed b xs
passed (many g) xs = xs
passed (deeper cs n) xs = []
passed (select a p b c) xs = passed a (passed b xs ++ passed c xs)
passed (begin cs g) xs = meet cs (passed g xs)
passed (giving f g) xs = passed g xs

-- the classes of the tokens that may come first
abbrev pub first : Grammar → List ℕ
first empty = []
first (token cs) = cs
first (both a b) = first a ++ passed a (first b)
first (either a b) = first a ++ first b
first (many g) = first g
first (deeper cs n) = cs
first (select a p b c) = first a ++ passed a (first b ++ first c)
first (begin cs g) = meet cs (first g)
first (giving f g) = first g

-- turns of many, at most n
unfoldable pub turns : (List Lexeme → Bool) → (List Lexeme → Out) → ℕ → List Lexeme → Out
turns more turn zero ts = done nothing ts
turns more turn (suc n) ts = cond (more ts) (turn ts >>= λ v r. turns more turn n r >>= λ vs s. done (pair v vs) s) (done nothing ts)

-- the classes of brackets that open
abbrev pub bracket_classes : List ℕ
bracket_classes = any (sorts.OpenRound ∷ sorts.OpenText ∷ sorts.OpenBrace ∷ sorts.OpenObservers ∷ sorts.OpenSquare ∷ [])

-- how a token that opens a level is read, and whether no level is left
pub record Deeper : Type 0 where
  pub none : Bool
  pub opens : ℕ → Lexeme → List Lexeme → Out

unfoldable pub run_with : Deeper → Grammar → List Lexeme → Out
run_with d empty ts = done nothing ts
run_with d (token cs) [] = fault [] (misfit false)
run_with d (token cs) (t ∷ ts) = cond (has cs (class_of t)) (done (leaf t) ts) (fault (t ∷ ts) (misfit (d.none && has bracket_classes (class_of t))))
run_with d (both a b) ts = run_with d a ts >>= λ v mid. run_with d b mid >>= λ w rest. done (pair v w) rest
run_with d (either a b) ts = cond (starts (first a) ts) (run_with d a ts) (run_with d b ts)
run_with d (many g) ts = turns (starts (first g)) (run_with d g) (length ts) ts
run_with d (deeper cs n) [] = fault [] (misfit false)
run_with d (deeper cs n) (t ∷ ts) = cond (has cs (class_of t)) (d.opens n t ts) (fault (t ∷ ts) (misfit (d.none && has bracket_classes (class_of t))))
run_with d (select a p b c) ts = run_with d a ts >>= λ v mid. cond (p v) (run_with d b mid) (run_with d c mid) >>= λ w rest. done (pair v w) rest
run_with d (begin cs g) ts = cond (stands cs ts) (run_with d g ts) (fault ts (misfit (d.none && starts bracket_classes ts)))
run_with d (giving f g) ts = run_with d g ts >>= λ v rest. done (f v) rest

abbrev pub is_none : ℕ → Bool
is_none zero = true
is_none (suc l) = false

unfoldable pub opening_at : (ℕ → Grammar) → ℕ → ℕ → Lexeme → List Lexeme → Out
opening_at body zero n t ts = fault (t ∷ ts) missing
opening_at body (suc l) n t ts = run_with (record { none = is_none l; opens = opening_at body l }) (body n) ts >>= λ v rest. done (pair (leaf t) v) rest

abbrev pub opening : (ℕ → Grammar) → ℕ → Deeper
opening body l = record { none = is_none l; opens = opening_at body l }

-- with so many levels left
unfoldable pub run : (ℕ → Grammar) → ℕ → Grammar → List Lexeme → Out
run body l g ts = run_with (opening body l) g ts

-- Each choice is made by one token: what may go on after a whole part, and what may come next, are apart.
abbrev pub apart : List ℕ → List ℕ → Bool
apart [] ys = true
apart (x ∷ xs) ys = not (has ys x) && apart xs ys

abbrev pub within : List ℕ → List ℕ → Bool
within [] ys = true
within (x ∷ xs) ys = has ys x && within xs ys

-- the classes of the tokens by which a whole part may go on; tail has those of each rule
abbrev pub more : (ℕ → List ℕ) → Grammar → List ℕ
more tail empty = []
more tail (token cs) = []
more tail (both a b) = more tail b ++ passed b (more tail a)
more tail (either a b) = more tail a ++ (more tail b ++ passed b (first a))
more tail (many g) = first g ++ more tail g
more tail (deeper cs n) = tail n
more tail (select a p b c) = (more tail b ++ more tail c) ++ (passed b (more tail a) ++ passed c (more tail a))
more tail (begin cs g) = more tail g
more tail (giving f g) = more tail g

abbrev pub fine : (ℕ → List ℕ) → Grammar → Bool
fine tail empty = true
fine tail (token cs) = true
fine tail (both a b) = fine tail a && (fine tail b && apart (more tail a) (first b))
fine tail (either a b) = fine tail a && (fine tail b && (apart (first a) (first b) && not (nullable a)))
fine tail (many g) = fine tail g && (apart (more tail g) (first g) && not (nullable g))
fine tail (deeper cs n) = true
fine tail (select a p b c) = fine tail a && ((fine tail b && fine tail c) && (apart (more tail a) (first b ++ first c) && not (nullable a)))
fine tail (begin cs g) = fine tail g
fine tail (giving f g) = fine tail g

pub record IsFine (body : ℕ → Grammar) (tail : ℕ → List ℕ) : Type 0 where
  pub rules : (n : ℕ) → fine tail (body n) ≡ true
  pub tails : (n : ℕ) → within (more tail (body n)) (tail n) ≡ true
  pub quiet : (n : ℕ) → apart (tail n) bracket_classes ≡ true

-- The lexemes of the first list up to the second one are a front, and the second one begins with a token that opens a level, where so many are open.
pub data Opens (body : ℕ → Grammar) : ℕ → Grammar → List Lexeme → List Lexeme → Type 0 where
  opens_here : {cs : List ℕ} {n : ℕ} {t : Lexeme} {ts : List Lexeme} → has cs (class_of t) ≡ true → Opens body zero (deeper cs n) (t ∷ ts) (t ∷ ts)
  opens_inside : {l : ℕ} {cs : List ℕ} {n : ℕ} {t : Lexeme} {ts rest : List Lexeme} → has cs (class_of t) ≡ true → Opens body l (body n) ts rest → Opens body (suc l) (deeper cs n) (t ∷ ts) rest
  opens_first : {l : ℕ} {a b : Grammar} {ts rest : List Lexeme} → Opens body l a ts rest → Opens body l (both a b) ts rest
  opens_second : {l : ℕ} {a b : Grammar} {v : Value} {ts mid rest : List Lexeme} → Whole body a v ts mid → Opens body l b mid rest → Opens body l (both a b) ts rest
  opens_left : {l : ℕ} {a b : Grammar} {ts rest : List Lexeme} → Opens body l a ts rest → Opens body l (either a b) ts rest
  opens_right : {l : ℕ} {a b : Grammar} {ts rest : List Lexeme} → Opens body l b ts rest → Opens body l (either a b) ts rest
  opens_one : {l : ℕ} {g : Grammar} {ts rest : List Lexeme} → Opens body l g ts rest → Opens body l (many g) ts rest
  opens_more : {l : ℕ} {g : Grammar} {v : Value} {ts mid rest : List Lexeme} → Whole body g v ts mid → Opens body l (many g) mid rest → Opens body l (many g) ts rest
  opens_select_first : {l : ℕ} {a b c : Grammar} {p : Value → Bool} {ts rest : List Lexeme} → Opens body l a ts rest → Opens body l (select a p b c) ts rest
  opens_select : {l : ℕ} {a b c : Grammar} {p : Value → Bool} {v : Value} {ts mid rest : List Lexeme} → Whole body a v ts mid → Opens body l (cond (p v) b c) mid rest → Opens body l (select a p b c) ts rest
  opens_begin : {l : ℕ} {cs : List ℕ} {g : Grammar} {ts rest : List Lexeme} → stands cs ts ≡ true → Opens body l g ts rest → Opens body l (begin cs g) ts rest
  opens_giving : {l : ℕ} {f : Value → Value} {g : Grammar} {ts rest : List Lexeme} → Opens body l g ts rest → Opens body l (giving f g) ts rest
