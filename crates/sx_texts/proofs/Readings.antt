-- A list of lexemes is read in one way: it is whole, or a token at one place doesn't fit, or one at one place opens a level too much.
use Rattle.std.proofs.Common.{◌≡◌, ℕ, suc, ◌-◌, ◌≤◌, ◌<◌, List, [], length, drop, true, sym, ap, subst, ◌∙◌, arith, le_antisymm}
use Rattle.std.proofs.lemmas.List.{nil_from_length}
use Rattle.sx_grammar.specs.declared.lexemes.Lexeme.{Lexeme}
use Rattle.sx_grammar.specs.Value.{Value}
use Rattle.sx_grammar.specs.Answer.{IsMisfit, IsRead, IsTooDeep, OpensTooMuch, is_blocked, opens_too_much}
use Rattle.sx_grammar.specs.Grammar.{Front, Grammar, Whole, bracket_classes, front_begin, front_giving, front_left, front_more, front_nothing, front_opening, front_right, front_second, front_select, front_token, starts, whole_begin, whole_both, whole_deeper, whole_empty, whole_giving, whole_left, whole_more, whole_none, whole_right, whole_select, whole_token}
use Rattle.sx_grammar.specs.Rules.{body}
use Rattle.sx_grammar.proofs.Suffixes.{front_suffix, suffix_drop}

-- what is whole is a front of itself
whole_front : {g : Grammar} {v : Value} {ts rest : List Lexeme} → Whole body g v ts rest → (m : ℕ) × Front body m g ts rest
whole_front whole_empty = (0, front_nothing)
whole_front (whole_token h) = (0, front_token h)
whole_front (whole_both p q) = let (m, f) = whole_front q in (m, front_second p f)
whole_front (whole_left p) = let (m, f) = whole_front p in (m, front_left f)
whole_front (whole_right p) = let (m, f) = whole_front p in (m, front_right f)
whole_front whole_none = (0, front_nothing)
whole_front (whole_more p q) = let (m, f) = whole_front q in (m, front_more p f)
whole_front (whole_deeper h p) = let (m, f) = whole_front p in (suc m, front_opening h f)
whole_front (whole_select p q) = let (m, f) = whole_front q in (m, front_select p f)
whole_front (whole_begin s p) = let (m, f) = whole_front p in (m, front_begin s f)
whole_front (whole_giving p) = let (m, f) = whole_front p in (m, front_giving f)

module _ (l : ℕ) (g : Grammar) (ts : List Lexeme) where
  same_rest : (m n : ℕ) (r s : List Lexeme) → Front body m g ts r → Front body n g ts s → length r ≡ length s → r ≡ s
  same_rest m n r s p q e = sym (suffix_drop (front_suffix body p)) ∙ ap (λ k. drop (length ts - k) ts) e ∙ suffix_drop (front_suffix body q)

  no_misfit : {P : Type 0} (v : Value) (rest : List Lexeme) → Whole body g v ts [] → ((m : ℕ) (other : List Lexeme) → Front body m g ts other → length rest ≤ length other) → ((w : Value) → Whole body g w ts rest → ⊥) → P
  no_misfit v rest whole farthest not_whole =
      let (m, f) = whole_front whole in
      let none : rest ≡ [] = nil_from_length rest (omega (arith, farthest m [] f)) in
      absurd (not_whole v (subst (λ r. Whole body g v ts r) (sym none) whole))

  pub read_misfit : {P : Type 0} (v : Value) (rest : List Lexeme) → IsRead l g ts v [] → IsMisfit l g ts rest → P
  read_misfit v rest a b = no_misfit v rest a.whole b.farthest b.not_whole

  pub read_deep : {P : Type 0} (v : Value) (rest : List Lexeme) → IsRead l g ts v [] → IsTooDeep l g ts rest → P
  read_deep v rest a (opens_too_much o) = absurd (omega (arith, a.shallow (suc l) o.behind o.front))
  read_deep v rest a (is_blocked b) = no_misfit v rest a.whole b.farthest b.not_whole

  pub misfit_deep : {P : Type 0} (r s : List Lexeme) → IsMisfit l g ts r → IsTooDeep l g ts s → P
  misfit_deep r s a (opens_too_much o) = absurd (omega (arith, a.shallow (suc l) o.behind o.front))
  misfit_deep r s a (is_blocked b) =
      let same : r ≡ s = same_rest a.open_levels b.open_levels r s a.front b.front (le_antisymm (a.farthest b.open_levels s b.front) (b.farthest a.open_levels r a.front)) in
      let room = a.room (subst (λ x. starts bracket_classes x ≡ true) (sym same) b.bracket) in
      let full = b.full room.open_levels (subst (λ x. Front body room.open_levels g ts x) same room.front) in
      absurd (omega (arith, room.fewer, full))

  both_open : (r s : List Lexeme) → OpensTooMuch l g ts r → OpensTooMuch l g ts s → r ≡ s
  both_open r s a b =
      let one : length b.behind < length r = a.earliest (suc l) b.behind b.front (omega arith) in
      let two : length a.behind < length s = b.earliest (suc l) a.behind a.front (omega arith) in
      let first : length r ≡ suc (length a.behind) = ap length a.there in
      let second : length s ≡ suc (length b.behind) = ap length b.there in
      same_rest a.open_levels b.open_levels r s a.before b.before (omega (arith, one, two, first, second))

  pub deep_deep : (r s : List Lexeme) → IsTooDeep l g ts r → IsTooDeep l g ts s → r ≡ s
  deep_deep r s (opens_too_much a) (opens_too_much b) = both_open r s a b
  deep_deep r s (opens_too_much a) (is_blocked b) = absurd (omega (arith, b.shallow (suc l) a.behind a.front))
  deep_deep r s (is_blocked a) (opens_too_much b) = absurd (omega (arith, a.shallow (suc l) b.behind b.front))
  deep_deep r s (is_blocked a) (is_blocked b) =
      same_rest a.open_levels b.open_levels r s a.front b.front (le_antisymm (a.farthest b.open_levels s b.front) (b.farthest a.open_levels r a.front))
