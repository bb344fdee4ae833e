-- What follows a part of a text is the end of the text.
use Rattle.std.proofs.Common.{◌≡◌, ℕ, suc, ◌-◌, ◌≤◌, List, ◌∷◌, length, drop, ap, ◌∙◌, arith}
use Rattle.sx_grammar.specs.declared.lexemes.Lexeme.{Lexeme}
use Rattle.sx_grammar.specs.Value.{Value}
use Rattle.sx_grammar.specs.Grammar.{Grammar, Whole, whole_empty, whole_token, whole_both, whole_left, whole_right, whole_none, whole_more, whole_deeper, whole_select, whole_begin, whole_giving, Front, front_nothing, front_token, front_first, front_second, front_left, front_right, front_one, front_more, front_opening, front_select_first, front_select, front_begin, front_giving}

pub data Suffix : List Lexeme → List Lexeme → Type 0 where
  here : {ts : List Lexeme} → Suffix ts ts
  there : {t : Lexeme} {ts rest : List Lexeme} → Suffix ts rest → Suffix (t ∷ ts) rest

join : {ts mid rest : List Lexeme} → Suffix ts mid → Suffix mid rest → Suffix ts rest
join here q = q
join (there p) q = there (join p q)

module _ (body : ℕ → Grammar) where
  pub whole_suffix : {g : Grammar} {v : Value} {ts rest : List Lexeme} → Whole body g v ts rest → Suffix ts rest
  whole_suffix whole_empty = here
  whole_suffix (whole_token h) = there here
  whole_suffix (whole_both p q) = join (whole_suffix p) (whole_suffix q)
  whole_suffix (whole_left p) = whole_suffix p
  whole_suffix (whole_right p) = whole_suffix p
  whole_suffix whole_none = here
  whole_suffix (whole_more p q) = join (whole_suffix p) (whole_suffix q)
  whole_suffix (whole_deeper h p) = there (whole_suffix p)
  whole_suffix (whole_select p q) = join (whole_suffix p) (whole_suffix q)
  whole_suffix (whole_begin s p) = whole_suffix p
  whole_suffix (whole_giving p) = whole_suffix p

  pub front_suffix : {m : ℕ} {g : Grammar} {ts rest : List Lexeme} → Front body m g ts rest → Suffix ts rest
  front_suffix front_nothing = here
  front_suffix (front_token h) = there here
  front_suffix (front_first p) = front_suffix p
  front_suffix (front_second p q) = join (whole_suffix p) (front_suffix q)
  front_suffix (front_left p) = front_suffix p
  front_suffix (front_right p) = front_suffix p
  front_suffix (front_one p) = front_suffix p
  front_suffix (front_more p q) = join (whole_suffix p) (front_suffix q)
  front_suffix (front_opening h p) = there (front_suffix p)
  front_suffix (front_select_first p) = front_suffix p
  front_suffix (front_select p q) = join (whole_suffix p) (front_suffix q)
  front_suffix (front_begin s p) = front_suffix p
  front_suffix (front_giving p) = front_suffix p

pub suffix_length : {ts rest : List Lexeme} → Suffix ts rest → length rest ≤ length ts
suffix_length here = omega arith
suffix_length (there p) = let x = suffix_length p in omega (arith, x)

drop_step : (t : Lexeme) (ts rest : List Lexeme) → length rest ≤ length ts → drop (length (t ∷ ts) - length rest) (t ∷ ts) ≡ drop (length ts - length rest) ts
drop_step t ts rest le = let e : length (t ∷ ts) - length rest ≡ suc (length ts - length rest) = omega (arith, le) in ap (λ (n : ℕ). drop n (t ∷ ts)) e

drop_none : (ts : List Lexeme) → drop (length ts - length ts) ts ≡ ts
drop_none ts = let e : length ts - length ts ≡ 0 = omega arith in ap (λ (n : ℕ). drop n ts) e

pub suffix_drop : {ts rest : List Lexeme} → Suffix ts rest → drop (length ts - length rest) ts ≡ rest
suffix_drop (here {ts = ts}) = drop_none ts
suffix_drop (there {t = t} {ts = ts} {rest = rest} p) = drop_step t ts rest (suffix_length p) ∙ suffix_drop p
