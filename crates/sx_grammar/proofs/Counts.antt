-- Fronts with many levels open have a token that opens one of them.
use Rattle.std.proofs.Common.{◌≡◌, ℕ, zero, suc, ◌≤◌, ◌<◌, List, ◌∷◌, length, cond, refl, arith, ◌⊎◌, inl, inr}
use Rattle.sx_grammar.specs.declared.lexemes.Lexeme.{Lexeme}
use Rattle.sx_grammar.specs.Value.{Value}
use Rattle.sx_grammar.specs.Grammar.{Grammar, both, either, many, deeper, select, begin, giving, Whole, Front, front_nothing, front_token, front_first, front_second, front_left, front_right, front_one, front_more, front_opening, front_select_first, front_select, front_begin, front_giving, Opens, opens_here, opens_inside, opens_first, opens_second, opens_left, opens_right, opens_one, opens_more, opens_select_first, opens_select, opens_begin, opens_giving}
use Rattle.sx_grammar.proofs.Beginnings.{begins_length, whole_begins}

pub order : (m l : ℕ) → (m ≤ l) ⊎ (l < m)
order zero l = inl (omega arith)
order (suc m) zero = inr (omega arith)
order (suc m) (suc l) = elim (order m l) [ inl h ↦ inl (omega (arith, h)) | inr h ↦ inr (omega (arith, h)) ]

module _ (body : ℕ → Grammar) where
  whole_length : {g : Grammar} {v : Value} {ts rest : List Lexeme} → Whole body g v ts rest → length rest ≤ length ts
  whole_length {g} {v} {ts} {rest} p = begins_length g ts rest (whole_begins body p)

  pub front_length : {m : ℕ} {g : Grammar} {ts rest : List Lexeme} → Front body m g ts rest → length rest ≤ length ts
  front_length front_nothing = omega arith
  front_length (front_token h) = omega arith
  front_length (front_first p) = front_length p
  front_length (front_second p q) = let x = whole_length p in let y = front_length q in omega (arith, x, y)
  front_length (front_left p) = front_length p
  front_length (front_right p) = front_length p
  front_length (front_one p) = front_length p
  front_length (front_more p q) = let x = whole_length p in let y = front_length q in omega (arith, x, y)
  front_length (front_opening h p) = let x = front_length p in omega (arith, x)
  front_length (front_select_first p) = front_length p
  front_length (front_select p q) = let x = whole_length p in let y = front_length q in omega (arith, x, y)
  front_length (front_begin s p) = front_length p
  front_length (front_giving p) = front_length p

  pub record Opened (l : ℕ) (g : Grammar) (ts rest : List Lexeme) : Type 0 where
    pub at : List Lexeme
    pub opens : Opens body l g ts at
    pub before : length rest < length at

  opened_as : (l : ℕ) (g h : Grammar) (ts us rest : List Lexeme) → ((s : List Lexeme) → Opens body l g ts s → Opens body l h us s) → Opened l g ts rest → Opened l h us rest
  opened_as l g h ts us rest k o = record { at = o.at; opens = k o.at o.opens; before = o.before }

  opened_inside : (m l : ℕ) (cs : List ℕ) (n : ℕ) (t : Lexeme) (ts rest : List Lexeme) → Opened l (body n) ts rest → ((s : List Lexeme) → Opens body l (body n) ts s → Opens body (suc l) (deeper cs n) (t ∷ ts) s) → Opened (suc l) (deeper cs n) (t ∷ ts) rest
  opened_inside m l cs n t ts rest o k = record { at = o.at; opens = k o.at o.opens; before = o.before }

  pub front_opens : {m : ℕ} {g : Grammar} {ts rest : List Lexeme} → Front body m g ts rest → (l : ℕ) → l < m → Opened l g ts rest
  front_opens front_nothing l h = absurd (omega arith)
  front_opens (front_token k) l h = absurd (omega arith)
  front_opens (front_first {a = a} {b = b} {ts = ts} {rest = rest} p) l h = opened_as l a (both a b) ts ts rest (λ s o. opens_first o) (front_opens p l h)
  front_opens (front_second {a = a} {b = b} {ts = ts} {mid = mid} {rest = rest} p q) l h = opened_as l b (both a b) mid ts rest (λ s o. opens_second p o) (front_opens q l h)
  front_opens (front_left {a = a} {b = b} {ts = ts} {rest = rest} p) l h = opened_as l a (either a b) ts ts rest (λ s o. opens_left o) (front_opens p l h)
  front_opens (front_right {a = a} {b = b} {ts = ts} {rest = rest} p) l h = opened_as l b (either a b) ts ts rest (λ s o. opens_right o) (front_opens p l h)
  front_opens (front_one {g = g} {ts = ts} {rest = rest} p) l h = opened_as l g (many g) ts ts rest (λ s o. opens_one o) (front_opens p l h)
  front_opens (front_more {g = g} {ts = ts} {mid = mid} {rest = rest} p q) l h = opened_as l (many g) (many g) mid ts rest (λ s o. opens_more p o) (front_opens q l h)
  front_opens (front_opening {cs = cs} {n = n} {t = t} {ts = ts} {rest = rest} k p) zero h = record { at = t ∷ ts; opens = opens_here k; before = let x = front_length p in omega (arith, x) }
  front_opens (front_opening {m = m} {cs = cs} {n = n} {t = t} {ts = ts} {rest = rest} k p) (suc l) h = opened_inside m l cs n t ts rest (front_opens p l (omega (arith, h))) (λ s o. opens_inside k o)
  front_opens (front_select_first {a = a} {b = b} {c = c} {p = q} {ts = ts} {rest = rest} p) l h = opened_as l a (select a q b c) ts ts rest (λ s o. opens_select_first o) (front_opens p l h)
  front_opens (front_select {a = a} {b = b} {c = c} {p = q} {v = v} {ts = ts} {mid = mid} {rest = rest} x y) l h = opened_as l (cond (q v) b c) (select a q b c) mid ts rest (λ s o. opens_select x o) (front_opens y l h)
  front_opens (front_begin {cs = cs} {g = g} {ts = ts} {rest = rest} s p) l h = opened_as l g (begin cs g) ts ts rest (λ r o. opens_begin s o) (front_opens p l h)
  front_opens (front_giving {f = f} {g = g} {ts = ts} {rest = rest} p) l h = opened_as l g (giving f g) ts ts rest (λ s o. opens_giving o) (front_opens p l h)

  -- with the token that opens a level it is open
  pub record Open (l : ℕ) (g : Grammar) (ts rest : List Lexeme) : Type 0 where
    pub token : Lexeme
    pub behind : List Lexeme
    pub there : rest ≡ token ∷ behind
    pub front : Front body (suc l) g ts behind

  open_as : (l k : ℕ) (g h : Grammar) (ts us rest : List Lexeme) → ((s : List Lexeme) → Front body (suc l) g ts s → Front body (suc k) h us s) → Open l g ts rest → Open k h us rest
  open_as l k g h ts us rest f o = record { token = o.token; behind = o.behind; there = o.there; front = f o.behind o.front }

  pub opens_front : {l : ℕ} {g : Grammar} {ts rest : List Lexeme} → Opens body l g ts rest → Open l g ts rest
  opens_front (opens_here {t = t} {ts = ts} h) = record { token = t; behind = ts; there = refl; front = front_opening h front_nothing }
  opens_front (opens_inside {l = l} {cs = cs} {n = n} {t = t} {ts = ts} {rest = rest} h p) = open_as l (suc l) (body n) (deeper cs n) ts (t ∷ ts) rest (λ s o. front_opening h o) (opens_front p)
  opens_front (opens_first {l = l} {a = a} {b = b} {ts = ts} {rest = rest} p) = open_as l l a (both a b) ts ts rest (λ s o. front_first o) (opens_front p)
  opens_front (opens_second {l = l} {a = a} {b = b} {ts = ts} {mid = mid} {rest = rest} p q) = open_as l l b (both a b) mid ts rest (λ s o. front_second p o) (opens_front q)
  opens_front (opens_left {l = l} {a = a} {b = b} {ts = ts} {rest = rest} p) = open_as l l a (either a b) ts ts rest (λ s o. front_left o) (opens_front p)
  opens_front (opens_right {l = l} {a = a} {b = b} {ts = ts} {rest = rest} p) = open_as l l b (either a b) ts ts rest (λ s o. front_right o) (opens_front p)
  opens_front (opens_one {l = l} {g = g} {ts = ts} {rest = rest} p) = open_as l l g (many g) ts ts rest (λ s o. front_one o) (opens_front p)
  opens_front (opens_more {l = l} {g = g} {ts = ts} {mid = mid} {rest = rest} p q) = open_as l l (many g) (many g) mid ts rest (λ s o. front_more p o) (opens_front q)
  opens_front (opens_select_first {l = l} {a = a} {b = b} {c = c} {p = q} {ts = ts} {rest = rest} p) = open_as l l a (select a q b c) ts ts rest (λ s o. front_select_first o) (opens_front p)
  opens_front (opens_select {l = l} {a = a} {b = b} {c = c} {p = q} {v = v} {ts = ts} {mid = mid} {rest = rest} x y) = open_as l l (cond (q v) b c) (select a q b c) mid ts rest (λ s o. front_select x o) (opens_front y)
  opens_front (opens_begin {l = l} {cs = cs} {g = g} {ts = ts} {rest = rest} s p) = open_as l l g (begin cs g) ts ts rest (λ r o. front_begin s o) (opens_front p)
  opens_front (opens_giving {l = l} {f = f} {g = g} {ts = ts} {rest = rest} p) = open_as l l g (giving f g) ts ts rest (λ s o. front_giving o) (opens_front p)
