-- What is left of a front, or of a whole part, when the last tokens are cut off.
use Rattle.std.proofs.Common.{◌≡◌, ℕ, zero, suc, ◌+◌, ◌-◌, ◌≤◌, ◌<◌, List, [], ◌∷◌, length, take, Bool, true, cond, refl, sym, ap, ◌∙◌, subst, ◌⊎◌, inl, inr, arith}
use Rattle.sx_grammar.specs.declared.lexemes.Lexeme.{Lexeme}
use Rattle.sx_grammar.specs.Value.{Value, leaf, pair}
use Rattle.sx_grammar.specs.Classes.{class_of}
use Rattle.sx_grammar.specs.Grammar.{Grammar, empty, token, both, either, many, deeper, select, begin, giving, has, stands, Whole, whole_empty, whole_token, whole_both, whole_left, whole_right, whole_none, whole_more, whole_deeper, whole_select, whole_begin, whole_giving, Front, front_nothing, front_token, front_first, front_second, front_left, front_right, front_one, front_more, front_opening, front_select_first, front_select, front_begin, front_giving}
use Rattle.sx_grammar.proofs.Suffixes.{whole_suffix, suffix_length}

-- without the last ones
abbrev pub cut : ℕ → List Lexeme → List Lexeme
cut n ts = take (length ts - n) ts

cut_step : (n : ℕ) (t : Lexeme) (ts : List Lexeme) → n ≤ length ts → cut n (t ∷ ts) ≡ t ∷ cut n ts
cut_step n t ts h = let e : length (t ∷ ts) - n ≡ suc (length ts - n) = omega (arith, h) in ap (λ (k : ℕ). take k (t ∷ ts)) e

cut_all : (n : ℕ) (ts : List Lexeme) → length ts ≤ n → cut n ts ≡ []
cut_all n ts h = let e : length ts - n ≡ 0 = omega (arith, h) in ap (λ (k : ℕ). take k ts) e

stands_cut : (cs : List ℕ) (n : ℕ) (ts : List Lexeme) → stands cs ts ≡ true → stands cs (cut n ts) ≡ true
stands_cut cs n ts h = by (length ts - n) ts h where
  by : (k : ℕ) (ts : List Lexeme) → stands cs ts ≡ true → stands cs (take k ts) ≡ true
  by zero ts h = refl
  by (suc k) [] h = refl
  by (suc k) (t ∷ ts) h = h

pub order : (a b : ℕ) → (a ≤ b) ⊎ (b < a)
order zero b = inl (omega arith)
order (suc a) zero = inr (omega arith)
order (suc a) (suc b) = elim (order a b) [ inl h ↦ inl (omega (arith, h)) | inr h ↦ inr (omega (arith, h)) ]

module _ (body : ℕ → Grammar) where
  whole_length : {g : Grammar} {v : Value} {ts rest : List Lexeme} → Whole body g v ts rest → length rest ≤ length ts
  whole_length p = suffix_length (whole_suffix body p)

  -- what is cut off stands behind the part
  pub whole_cut : (n : ℕ) {g : Grammar} {v : Value} {ts rest : List Lexeme} → Whole body g v ts rest → n ≤ length rest → Whole body g v (cut n ts) (cut n rest)
  whole_cut n whole_empty h = whole_empty
  whole_cut n (whole_token {cs = cs} {t = t} {ts = ts} k) h = subst (λ (x : List Lexeme). Whole body (token cs) (leaf t) x (cut n ts)) (sym (cut_step n t ts h)) (whole_token k)
  whole_cut n (whole_both p q) h = whole_both (whole_cut n p (omega (arith, h, whole_length q))) (whole_cut n q h)
  whole_cut n (whole_left p) h = whole_left (whole_cut n p h)
  whole_cut n (whole_right p) h = whole_right (whole_cut n p h)
  whole_cut n whole_none h = whole_none
  whole_cut n (whole_more p q) h = whole_more (whole_cut n p (omega (arith, h, whole_length q))) (whole_cut n q h)
  whole_cut n (whole_deeper {cs = cs} {n = k} {v = v} {t = t} {ts = ts} {rest = rest} c p) h =
      subst (λ (x : List Lexeme). Whole body (deeper cs k) (pair (leaf t) v) x (cut n rest)) (sym (cut_step n t ts (omega (arith, h, whole_length p)))) (whole_deeper c (whole_cut n p h))
  whole_cut n (whole_select {a = a} {b = b} {c = c} {p = p} x y) h = whole_select {p = p} (whole_cut n x (omega (arith, h, whole_length y))) (whole_cut n y h)
  whole_cut n (whole_begin {cs = cs} {ts = ts} s p) h = whole_begin (stands_cut cs n ts s) (whole_cut n p h)
  whole_cut n (whole_giving {f = f} p) h = whole_giving {f = f} (whole_cut n p h)

  -- all of these are a front
  pub record IsBegun (g : Grammar) (ts : List Lexeme) : Type 0 where
    pub open_levels : ℕ
    pub front : Front body open_levels g ts []

  same_levels : (g h : Grammar) (ts us : List Lexeme) → ((m : ℕ) → Front body m g ts [] → Front body m h us []) → IsBegun g ts → IsBegun h us
  same_levels g h ts us f x = record { open_levels = x.open_levels; front = f x.open_levels x.front }

  begun_nothing : (n : ℕ) (g : Grammar) (ts : List Lexeme) → length ts ≤ n → IsBegun g (cut n ts)
  begun_nothing n g ts h = subst (IsBegun g) (sym (cut_all n ts h)) (record { open_levels = 0; front = front_nothing })

  begun_token : (n : ℕ) (cs : List ℕ) (t : Lexeme) (ts : List Lexeme) → has cs (class_of t) ≡ true → length ts ≤ n → IsBegun (token cs) (cut n (t ∷ ts))
  begun_token n cs t ts k h = elim (order (length (t ∷ ts)) n) [
    | inl x ↦ begun_nothing n (token cs) (t ∷ ts) x
    | inr x ↦ subst (IsBegun (token cs)) (sym (cut_step n t ts (omega (arith, x)) ∙ ap (λ (us : List Lexeme). t ∷ us) (cut_all n ts h))) (record { open_levels = 0; front = front_token k })
  ]

  begun_deeper : (n : ℕ) (cs : List ℕ) (k : ℕ) (t : Lexeme) (ts : List Lexeme) → has cs (class_of t) ≡ true → IsBegun (body k) (cut n ts) → IsBegun (deeper cs k) (cut n (t ∷ ts))
  begun_deeper n cs k t ts c x = elim (order (length (t ∷ ts)) n) [
    | inl h ↦ begun_nothing n (deeper cs k) (t ∷ ts) h
    | inr h ↦ subst (IsBegun (deeper cs k)) (sym (cut_step n t ts (omega (arith, h)))) (record { open_levels = suc x.open_levels; front = front_opening c x.front })
  ]

  begun_both : (n : ℕ) (a b : Grammar) (v : Value) (ts mid : List Lexeme) → Whole body a v ts mid → (length mid ≤ n → IsBegun a (cut n ts)) → IsBegun b (cut n mid) → IsBegun (both a b) (cut n ts)
  begun_both n a b v ts mid p f y = elim (order n (length mid)) [
    | inl h ↦ same_levels b (both a b) _ _ (λ m x. front_second (whole_cut n p h) x) y
    | inr h ↦ same_levels a (both a b) _ _ (λ m x. front_first x) (f (omega (arith, h)))
  ]

  begun_more : (n : ℕ) (g : Grammar) (v : Value) (ts mid : List Lexeme) → Whole body g v ts mid → (length mid ≤ n → IsBegun g (cut n ts)) → IsBegun (many g) (cut n mid) → IsBegun (many g) (cut n ts)
  begun_more n g v ts mid p f y = elim (order n (length mid)) [
    | inl h ↦ same_levels (many g) (many g) _ _ (λ m x. front_more (whole_cut n p h) x) y
    | inr h ↦ same_levels g (many g) _ _ (λ m x. front_one x) (f (omega (arith, h)))
  ]

  begun_select : (n : ℕ) (a b c : Grammar) (q : Value → Bool) (v : Value) (ts mid : List Lexeme) → Whole body a v ts mid → (length mid ≤ n → IsBegun a (cut n ts)) → IsBegun (cond (q v) b c) (cut n mid) → IsBegun (select a q b c) (cut n ts)
  begun_select n a b c q v ts mid p f y = elim (order n (length mid)) [
    | inl h ↦ same_levels (cond (q v) b c) (select a q b c) _ _ (λ m x. front_select {p = q} (whole_cut n p h) x) y
    | inr h ↦ same_levels a (select a q b c) _ _ (λ m x. front_select_first {p = q} x) (f (omega (arith, h)))
  ]

  -- a whole part with its end cut off
  pub whole_begun : (n : ℕ) {g : Grammar} {v : Value} {ts rest : List Lexeme} → Whole body g v ts rest → length rest ≤ n → IsBegun g (cut n ts)
  whole_begun n (whole_empty {ts = ts}) h = begun_nothing n empty ts h
  whole_begun n (whole_token {cs = cs} {t = t} {ts = ts} k) h = begun_token n cs t ts k h
  whole_begun n (whole_both {a = a} {b = b} {v = v} {ts = ts} {mid = mid} p q) h = begun_both n a b v ts mid p (whole_begun n p) (whole_begun n q h)
  whole_begun n (whole_left {a = a} {b = b} p) h = same_levels a (either a b) _ _ (λ m x. front_left x) (whole_begun n p h)
  whole_begun n (whole_right {a = a} {b = b} p) h = same_levels b (either a b) _ _ (λ m x. front_right x) (whole_begun n p h)
  whole_begun n (whole_none {g = g} {ts = ts}) h = begun_nothing n (many g) ts h
  whole_begun n (whole_more {g = g} {v = v} {ts = ts} {mid = mid} p q) h = begun_more n g v ts mid p (whole_begun n p) (whole_begun n q h)
  whole_begun n (whole_deeper {cs = cs} {n = k} {t = t} {ts = ts} c p) h = begun_deeper n cs k t ts c (whole_begun n p h)
  whole_begun n (whole_select {a = a} {b = b} {c = c} {p = q} {v = v} {ts = ts} {mid = mid} x y) h = begun_select n a b c q v ts mid x (whole_begun n x) (whole_begun n y h)
  whole_begun n (whole_begin {cs = cs} {g = g} {ts = ts} s p) h = same_levels g (begin cs g) _ _ (λ m x. front_begin (stands_cut cs n ts s) x) (whole_begun n p h)
  whole_begun n (whole_giving {f = f} {g = g} p) h = same_levels g (giving f g) _ _ (λ m x. front_giving {f = f} x) (whole_begun n p h)

  -- a front with its end cut off
  pub front_begun : (n : ℕ) {m : ℕ} {g : Grammar} {ts rest : List Lexeme} → Front body m g ts rest → length rest ≤ n → IsBegun g (cut n ts)
  front_begun n (front_nothing {g = g} {ts = ts}) h = begun_nothing n g ts h
  front_begun n (front_token {cs = cs} {t = t} {ts = ts} k) h = begun_token n cs t ts k h
  front_begun n (front_first {a = a} {b = b} p) h = same_levels a (both a b) _ _ (λ m x. front_first x) (front_begun n p h)
  front_begun n (front_second {a = a} {b = b} {v = v} {ts = ts} {mid = mid} p q) h = begun_both n a b v ts mid p (whole_begun n p) (front_begun n q h)
  front_begun n (front_left {a = a} {b = b} p) h = same_levels a (either a b) _ _ (λ m x. front_left x) (front_begun n p h)
  front_begun n (front_right {a = a} {b = b} p) h = same_levels b (either a b) _ _ (λ m x. front_right x) (front_begun n p h)
  front_begun n (front_one {g = g} p) h = same_levels g (many g) _ _ (λ m x. front_one x) (front_begun n p h)
  front_begun n (front_more {g = g} {v = v} {ts = ts} {mid = mid} p q) h = begun_more n g v ts mid p (whole_begun n p) (front_begun n q h)
  front_begun n (front_opening {cs = cs} {n = k} {t = t} {ts = ts} c p) h = begun_deeper n cs k t ts c (front_begun n p h)
  front_begun n (front_select_first {a = a} {b = b} {c = c} {p = q} x) h = same_levels a (select a q b c) _ _ (λ m x. front_select_first {p = q} x) (front_begun n x h)
  front_begun n (front_select {a = a} {b = b} {c = c} {p = q} {v = v} {ts = ts} {mid = mid} x y) h = begun_select n a b c q v ts mid x (whole_begun n x) (front_begun n y h)
  front_begun n (front_begin {cs = cs} {g = g} {ts = ts} s p) h = same_levels g (begin cs g) _ _ (λ m x. front_begin (stands_cut cs n ts s) x) (front_begun n p h)
  front_begun n (front_giving {f = f} {g = g} p) h = same_levels g (giving f g) _ _ (λ m x. front_giving {f = f} x) (front_begun n p h)

  -- each level is opened by a token
  pub front_levels : {m : ℕ} {g : Grammar} {ts rest : List Lexeme} → Front body m g ts rest → m + length rest ≤ length ts
  front_levels front_nothing = omega arith
  front_levels (front_token h) = omega arith
  front_levels (front_first p) = front_levels p
  front_levels (front_second p q) = omega (arith, whole_length p, front_levels q)
  front_levels (front_left p) = front_levels p
  front_levels (front_right p) = front_levels p
  front_levels (front_one p) = front_levels p
  front_levels (front_more p q) = omega (arith, whole_length p, front_levels q)
  front_levels (front_opening h p) = omega (arith, front_levels p)
  front_levels (front_select_first p) = front_levels p
  front_levels (front_select p q) = omega (arith, whole_length p, front_levels q)
  front_levels (front_begin s p) = front_levels p
  front_levels (front_giving p) = front_levels p
