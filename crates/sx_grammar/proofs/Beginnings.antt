-- Reading finds exactly what the grammar derives, and goes exactly as far as a front does.
use Rattle.std.proofs.Common.{◌≡◌, ℕ, ◌≤◌, ◌<◌, List, ◌∷◌, ◌++◌, length, Bool, true, false, cond, ◌&&◌, ◌||◌, refl, sym, ap, ◌∙◌, subst, ◌⊎◌, inl, inr, arith}
use Rattle.sx_grammar.specs.declared.lexemes.Lexeme.{Lexeme}
use Rattle.sx_grammar.specs.Value.{Value}
use Rattle.sx_grammar.specs.Classes.{class_of}
use Rattle.sx_grammar.specs.Grammar.{Grammar, both, either, many, deeper, select, begin, giving, has, starts, Whole, whole_empty, whole_token, whole_both, whole_left, whole_right, whole_none, whole_more, whole_deeper, whole_select, whole_begin, whole_giving, Front, front_nothing, front_token, front_first, front_second, front_left, front_right, front_one, front_more, front_opening, front_select_first, front_select, front_begin, front_giving, Out, done, fault, missing, ◌>>=◌, nullable, passed, stands, first, Deeper, run_with, more, fine}
use Rattle.sx_grammar.proofs.Bools.{and_first, and_second, or_first, or_second, in_left, in_right, in_meet}

abbrev pub rest_of : Out → List Lexeme
rest_of (done v rest) = rest
rest_of (fault rest deep) = rest

pub record IsDeep (o : Out) : Type 0 where
  pub at : List Lexeme
  pub is : o ≡ fault at missing

abbrev pub deep_then : (o : Out) (f : Value → List Lexeme → Out) → IsDeep o → IsDeep (o >>= f)
deep_then o f h = record { at = h.at; is = ap (λ (x : Out). x >>= f) h.is }

-- what a test decides
pub decide : (b : Bool) → (b ≡ true) ⊎ (b ≡ false)
decide true = inl refl
decide false = inr refl

-- what holds of either, of the one that is chosen
pub null_cond : (q : Bool) (b c : Grammar) → nullable (cond q b c) ≡ true → (nullable b || nullable c) ≡ true
null_cond true b c h = or_first _ _ h
null_cond false b c h = or_second _ _ h

pub first_cond : (q : Bool) (b c : Grammar) (ts : List Lexeme) → starts (first (cond q b c)) ts ≡ true → starts (first b ++ first c) ts ≡ true
first_cond true b c ts h = in_left (first b) (first c) ts h
first_cond false b c ts h = in_right (first b) (first c) ts h

pub more_cond : (tail : ℕ → List ℕ) (q : Bool) (b c : Grammar) (ts : List Lexeme) → starts (more tail (cond q b c)) ts ≡ true → starts (more tail b ++ more tail c) ts ≡ true
more_cond tail true b c ts h = in_left (more tail b) (more tail c) ts h
more_cond tail false b c ts h = in_right (more tail b) (more tail c) ts h

pub fine_cond : (tail : ℕ → List ℕ) (q : Bool) (b c : Grammar) → (fine tail b && fine tail c) ≡ true → fine tail (cond q b c) ≡ true
fine_cond tail true b c h = and_first _ _ h
fine_cond tail false b c h = and_second (fine tail b) _ h

pub run_cond : (d : Deeper) (q : Bool) (b c : Grammar) (ts : List Lexeme) → cond q (run_with d b ts) (run_with d c ts) ≡ run_with d (cond q b c) ts
run_cond d true b c ts = refl
run_cond d false b c ts = refl

-- with no token
abbrev pub Passes : Grammar → List Lexeme → Type 0
Passes g ts = (xs : List ℕ) → starts xs ts ≡ true → starts (passed g xs) ts ≡ true

pub pass_cond : (q : Bool) (b c : Grammar) (xs : List ℕ) (ts : List Lexeme) → starts (passed (cond q b c) xs) ts ≡ true → starts (passed b xs ++ passed c xs) ts ≡ true
pass_cond true b c xs ts h = in_left (passed b xs) (passed c xs) ts h
pass_cond false b c xs ts h = in_right (passed b xs) (passed c xs) ts h

pub pass_at : (g : Grammar) (ts mid : List Lexeme) → ts ≡ mid → Passes g mid → Passes g ts
pass_at g ts mid e p = subst (Passes g) (sym e) p

-- What comes first, and that something does.
pub data Begins (g : Grammar) (ts rest : List Lexeme) : Type 0 where
  stays : nullable g ≡ true → Passes g ts → ts ≡ rest → Begins g ts rest
  goes : starts (first g) ts ≡ true → length rest < length ts → Begins g ts rest

pub begins_length : (g : Grammar) (ts rest : List Lexeme) → Begins g ts rest → length rest ≤ length ts
begins_length g ts rest (stays n pa e) = let len : length ts ≡ length rest = ap (λ (r : List Lexeme). length r) e in omega arith
begins_length g ts rest (goes h l) = omega arith

module _ (body : ℕ → Grammar) where
  begins_both : (a b : Grammar) (ts mid rest : List Lexeme) → Begins a ts mid → Begins b mid rest → Begins (both a b) ts rest
  begins_both a b ts mid rest (goes h l) k = goes (in_left (first a) _ ts h) (omega (arith, begins_length b mid rest k))
  begins_both a b ts mid rest (stays n pa e) (stays m pb f) = stays (rw (n, m) refl) (λ xs s. pa (passed b xs) (pass_at b ts mid e pb xs s)) (e ∙ f)
  begins_both a b ts mid rest (stays n pa e) (goes h l) = let len : length ts ≡ length mid = ap (λ (r : List Lexeme). length r) e in goes (in_right (first a) _ ts (pa (first b) (rw e h))) (omega arith)

  begins_left : (a b : Grammar) (ts rest : List Lexeme) → Begins a ts rest → Begins (either a b) ts rest
  begins_left a b ts rest (stays n pa e) = stays (or_first _ _ n) (λ xs s. in_left (passed a xs) (passed b xs) ts (pa xs s)) e
  begins_left a b ts rest (goes h l) = goes (in_left (first a) (first b) ts h) l

  begins_right : (a b : Grammar) (ts rest : List Lexeme) → Begins b ts rest → Begins (either a b) ts rest
  begins_right a b ts rest (stays n pa e) = stays (or_second _ _ n) (λ xs s. in_right (passed a xs) (passed b xs) ts (pa xs s)) e
  begins_right a b ts rest (goes h l) = goes (in_right (first a) (first b) ts h) l

  begins_more : (g : Grammar) (ts mid rest : List Lexeme) → Begins g ts mid → Begins (many g) mid rest → Begins (many g) ts rest
  begins_more g ts mid rest (goes h l) k = goes h (omega (arith, begins_length (many g) mid rest k))
  begins_more g ts mid rest (stays n pa e) (stays m pb f) = stays refl (λ xs s. s) (e ∙ f)
  begins_more g ts mid rest (stays n pa e) (goes h l) = let len : length ts ≡ length mid = ap (λ (r : List Lexeme). length r) e in goes (rw e h) (omega arith)

  begins_giving : (f : Value → Value) (g : Grammar) (ts rest : List Lexeme) → Begins g ts rest → Begins (giving f g) ts rest
  begins_giving f g ts rest (stays n pa e) = stays n pa e
  begins_giving f g ts rest (goes h l) = goes h l

  begins_select : (a b c : Grammar) (p : Value → Bool) (v : Value) (ts mid rest : List Lexeme) → Begins a ts mid → Begins (cond (p v) b c) mid rest → Begins (select a p b c) ts rest
  begins_select a b c p v ts mid rest (goes h l) k = goes (in_left (first a) _ ts h) (omega (arith, begins_length (cond (p v) b c) mid rest k))
  begins_select a b c p v ts mid rest (stays n pa e) (stays m pb f) = stays (rw n (null_cond (p v) b c m)) (λ xs s. pa (passed b xs ++ passed c xs) (pass_cond (p v) b c xs ts (pass_at (cond (p v) b c) ts mid e pb xs s))) (e ∙ f)
  begins_select a b c p v ts mid rest (stays n pa e) (goes h l) = let len : length ts ≡ length mid = ap (λ (r : List Lexeme). length r) e in goes (in_right (first a) _ ts (pa (first b ++ first c) (rw e (first_cond (p v) b c mid h)))) (omega arith)

  begins_begin : (cs : List ℕ) (g : Grammar) (ts rest : List Lexeme) → stands cs ts ≡ true → Begins g ts rest → Begins (begin cs g) ts rest
  begins_begin cs g ts rest s (stays n pa e) = stays n (λ xs k. in_meet cs (passed g xs) ts s (pa xs k)) e
  begins_begin cs g ts rest s (goes h l) = goes (in_meet cs (first g) ts s h) l

  begins_deeper : (cs : List ℕ) (n : ℕ) (t : Lexeme) (ts rest : List Lexeme) → has cs (class_of t) ≡ true → Begins (body n) ts rest → Begins (deeper cs n) (t ∷ ts) rest
  begins_deeper cs n t ts rest h k = goes h (omega (arith, begins_length (body n) ts rest k))

  pub whole_begins : {g : Grammar} {v : Value} {ts rest : List Lexeme} → Whole body g v ts rest → Begins g ts rest
  whole_begins whole_empty = stays refl (λ xs s. s) refl
  whole_begins (whole_token h) = goes h (omega arith)
  whole_begins (whole_both p q) = begins_both _ _ _ _ _ (whole_begins p) (whole_begins q)
  whole_begins (whole_left p) = begins_left _ _ _ _ (whole_begins p)
  whole_begins (whole_right p) = begins_right _ _ _ _ (whole_begins p)
  whole_begins whole_none = stays refl (λ xs s. s) refl
  whole_begins (whole_more p q) = begins_more _ _ _ _ (whole_begins p) (whole_begins q)
  whole_begins (whole_deeper {t = t} {ts = ts} h p) = begins_deeper _ _ t ts _ h (whole_begins p)
  whole_begins (whole_select {a = a} {b = b} {c = c} {p = p} {v = v} {ts = ts} {mid = mid} {rest = rest} x y) = begins_select a b c p v ts mid rest (whole_begins x) (whole_begins y)
  whole_begins (whole_begin {cs = cs} s p) = begins_begin cs _ _ _ s (whole_begins p)
  whole_begins (whole_giving {f = f} p) = begins_giving f _ _ _ (whole_begins p)

-- a front that goes nowhere, or begins
pub data Moves (g : Grammar) (ts rest : List Lexeme) : Type 0 where
  still : ts ≡ rest → Moves g ts rest
  moves : starts (first g) ts ≡ true → Moves g ts rest

module _ (body : ℕ → Grammar) where
  moves_first : (a b : Grammar) (ts rest : List Lexeme) → Moves a ts rest → Moves (both a b) ts rest
  moves_first a b ts rest (still e) = still e
  moves_first a b ts rest (moves h) = moves (in_left (first a) _ ts h)

  moves_second : (a b : Grammar) (ts mid rest : List Lexeme) → Begins a ts mid → Moves b mid rest → Moves (both a b) ts rest
  moves_second a b ts mid rest (goes h l) k = moves (in_left (first a) _ ts h)
  moves_second a b ts mid rest (stays n pa e) (still f) = still (e ∙ f)
  moves_second a b ts mid rest (stays n pa e) (moves h) = moves (in_right (first a) _ ts (pa (first b) (rw e h)))

  moves_left : (a b : Grammar) (ts rest : List Lexeme) → Moves a ts rest → Moves (either a b) ts rest
  moves_left a b ts rest (still e) = still e
  moves_left a b ts rest (moves h) = moves (in_left (first a) (first b) ts h)

  moves_right : (a b : Grammar) (ts rest : List Lexeme) → Moves b ts rest → Moves (either a b) ts rest
  moves_right a b ts rest (still e) = still e
  moves_right a b ts rest (moves h) = moves (in_right (first a) (first b) ts h)

  moves_one : (g : Grammar) (ts rest : List Lexeme) → Moves g ts rest → Moves (many g) ts rest
  moves_one g ts rest (still e) = still e
  moves_one g ts rest (moves h) = moves h

  moves_more : (g : Grammar) (ts mid rest : List Lexeme) → Begins g ts mid → Moves (many g) mid rest → Moves (many g) ts rest
  moves_more g ts mid rest (goes h l) k = moves h
  moves_more g ts mid rest (stays n pa e) (still f) = still (e ∙ f)
  moves_more g ts mid rest (stays n pa e) (moves h) = moves (rw e h)

  moves_giving : (f : Value → Value) (g : Grammar) (ts rest : List Lexeme) → Moves g ts rest → Moves (giving f g) ts rest
  moves_giving f g ts rest (still e) = still e
  moves_giving f g ts rest (moves h) = moves h

  moves_select : (a b c : Grammar) (p : Value → Bool) (v : Value) (ts mid rest : List Lexeme) → Begins a ts mid → Moves (cond (p v) b c) mid rest → Moves (select a p b c) ts rest
  moves_select a b c p v ts mid rest (goes h l) k = moves (in_left (first a) _ ts h)
  moves_select a b c p v ts mid rest (stays n pa e) (still f) = still (e ∙ f)
  moves_select a b c p v ts mid rest (stays n pa e) (moves h) = moves (in_right (first a) _ ts (pa (first b ++ first c) (rw e (first_cond (p v) b c mid h))))

  moves_select_first : (a b c : Grammar) (p : Value → Bool) (ts rest : List Lexeme) → Moves a ts rest → Moves (select a p b c) ts rest
  moves_select_first a b c p ts rest (still e) = still e
  moves_select_first a b c p ts rest (moves h) = moves (in_left (first a) _ ts h)

  moves_begin : (cs : List ℕ) (g : Grammar) (ts rest : List Lexeme) → stands cs ts ≡ true → Moves g ts rest → Moves (begin cs g) ts rest
  moves_begin cs g ts rest s (still e) = still e
  moves_begin cs g ts rest s (moves h) = moves (in_meet cs (first g) ts s h)

  pub front_moves : {m : ℕ} {g : Grammar} {ts rest : List Lexeme} → Front body m g ts rest → Moves g ts rest
  front_moves front_nothing = still refl
  front_moves (front_token h) = moves h
  front_moves (front_first p) = moves_first _ _ _ _ (front_moves p)
  front_moves (front_second p q) = moves_second _ _ _ _ _ (whole_begins body p) (front_moves q)
  front_moves (front_left p) = moves_left _ _ _ _ (front_moves p)
  front_moves (front_right p) = moves_right _ _ _ _ (front_moves p)
  front_moves (front_one p) = moves_one _ _ _ (front_moves p)
  front_moves (front_more p q) = moves_more _ _ _ _ (whole_begins body p) (front_moves q)
  front_moves (front_opening h p) = moves h
  front_moves (front_select_first {a = a} {b = b} {c = c} {p = p} {ts = ts} {rest = rest} x) = moves_select_first a b c p ts rest (front_moves x)
  front_moves (front_select {a = a} {b = b} {c = c} {p = p} {v = v} {ts = ts} {mid = mid} {rest = rest} x y) = moves_select a b c p v ts mid rest (whole_begins body x) (front_moves y)
  front_moves (front_begin {cs = cs} s p) = moves_begin cs _ _ _ s (front_moves p)
  front_moves (front_giving {f = f} p) = moves_giving f _ _ _ (front_moves p)
