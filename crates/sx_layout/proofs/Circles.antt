-- A structure that holds itself has no words.
use Rattle.std.proofs.Common.{◌≡◌, ℕ, zero, suc, ◌≤◌, max, List, [], ◌∷◌, map, length, slice_get, Option, Some, None, option_map, option_and_then, arith, refl, sym, ap, ◌∙◌}
use Rattle.sx_types.specs.declared.types.Field.{Field}
use Rattle.sx_types.specs.declared.types.Structure.{Structure}
use Rattle.sx_types.specs.declared.types.Ty.TheVariants.{Struct}
use Rattle.sx_types.specs.Words.{words_by, words_of, total, stored_words, structure_within}
use Rattle.sx_layout.specs.Holding.{HoldsDirectly, Holds, directly, through}
use Rattle.sx_layout.proofs.Sums.{add}

first_told : (a b : Option ℕ) (n : ℕ) → add a b ≡ Some n → (m : ℕ) × (a ≡ Some m)
first_told None b n e = cc
first_told (Some m) b n e = (m, refl)

rest_told : (a b : Option ℕ) (n : ℕ) → add a b ≡ Some n → (m : ℕ) × (b ≡ Some m)
rest_told None b n e = cc
rest_told (Some m) None n e = cc
rest_told (Some m) (Some r) n e = (r, refl)

each_told : (g : Field → Option ℕ) (fields : List Field) (n : ℕ) → total (map g fields) ≡ Some n → (i : ℕ) (f : Field) → slice_get fields i ≡ Some f → (m : ℕ) × (g f ≡ Some m)
each_told g [] n e i f at = cc
each_told g (h ∷ fields) n e zero f at = let same : h ≡ f = cc in let told = first_told (g h) (total (map g fields)) n e in (told.0, rw (← same) told.1)
each_told g (h ∷ fields) n e (suc i) f at = let told = rest_told (g h) (total (map g fields)) n e in each_told g fields told.0 told.1 i f at

before_max : (o : Option ℕ) (n : ℕ) → option_map (max 1) o ≡ Some n → (m : ℕ) × (o ≡ Some m)
before_max None n e = cc
before_max (Some m) n e = (m, refl)

module _ (structures : List Structure) where
  abbrev words_in : ℕ → ℕ → Option ℕ
  words_in = structure_within structures

  direct : (depth i j n : ℕ) → HoldsDirectly structures i j → words_in (suc depth) i ≡ Some n → (m : ℕ) × (words_in depth j ≡ Some m)
  unfolding structure_within
  direct depth i j n holds e =
      let s : Structure = holds.0 in
      let here : stored_words (words_by (words_in depth)) s.stored ≡ Some n =
      sym (ap (λ o. option_and_then (λ (s : Structure). stored_words (words_by (words_in depth)) s.stored) o) holds.3) ∙ e in
      let sum = before_max (total (map (λ (f : Field). option_and_then (words_by (words_in depth)) f.ty) s.stored)) n here in
      let part = each_told (λ (f : Field). option_and_then (words_by (words_in depth)) f.ty) s.stored sum.0 sum.1 holds.2 holds.1 holds.4 in
      (part.0, sym (ap (λ ty. option_and_then (words_by (words_in depth)) ty) holds.5) ∙ part.1)

  none_at_zero : (k n : ℕ) → words_in zero k ≡ Some n → ⊥
  unfolding structure_within
  none_at_zero k n e = cc

  along : (i j : ℕ) → Holds structures i j → (depth n : ℕ) → words_in (suc depth) i ≡ Some n → (d : ℕ) × (m : ℕ) × (d ≤ depth) × (words_in d j ≡ Some m)
  along i j (directly _ _ holds) depth n e = let part = direct depth i j n holds e in (depth, part.0, omega arith, part.1)
  along i k (through _ j _ holds more) zero n e = let part = direct zero i j n holds e in absurd (none_at_zero j part.0 part.1)
  along i k (through _ j _ holds more) (suc depth) n e =
      let part = direct (suc depth) i j n holds e in
      let rest = along j k more depth part.0 part.1 in
      (rest.0, rest.1, let h = rest.2 in omega arith, rest.3)

  circle : (bound depth i n : ℕ) → depth ≤ bound → Holds structures i i → words_in depth i ≡ Some n → ⊥
  circle bound zero i n h holds e = none_at_zero i n e
  circle zero (suc depth) i n h holds e = absurd (omega arith)
  circle (suc bound) (suc depth) i n h holds e =
      let part = along i i holds depth n e in
      circle bound part.0 i part.1 (let k = part.2 in omega arith) holds part.3

  pub no_words : (i : ℕ) → Holds structures i i → words_of structures (Struct i) ≡ None
  no_words i holds = by (words_of structures (Struct i)) refl
    where
      by : (o : Option ℕ) → words_of structures (Struct i) ≡ o → o ≡ None
      by None e = refl
      by (Some n) e = absurd (circle (length structures) (length structures) i n (omega arith) holds e)

  pub joined : (i j k : ℕ) → Holds structures i j → Holds structures j k → Holds structures i k
  joined i j k (directly _ _ holds) more = through i j k holds more
  joined i j k (through _ l _ holds rest) more = through i l k holds (joined l j k rest more)
