-- Structures with other words have the same stored properties, and so the same words.
use Rattle.std.proofs.Common.{◌≡◌, ℕ, zero, suc, ◌+◌, ◌≤◌, List, [], ◌∷◌, ◌++◌, append_assoc, reverse, map, drop, length, slice_get, Option, Some, None, option_map, option_and_then, arith, refl, sym, ap, ◌∙◌}
use Rattle.std.proofs.lemmas.Option.{slice_get-map}
use Rattle.sx_types.specs.declared.types.Field.{Field}
use Rattle.sx_types.specs.declared.types.Structure.{Structure}
use Rattle.sx_types.specs.declared.types.Ty.TheVariants.{Struct}
use Rattle.sx_types.specs.Words.{words_by, words_of, stored_words, structure_within, most_words, AreCounted}
use Rattle.sx_layout.specs.Measured.{without_words, with_words, AreMeasured, AreWidths, words_told, words_together}
use Rattle.sx_layout.proofs.Lists.{length_map, drop_past, drop_item, append_nil, reverse_last}
use Rattle.sx_layout.proofs.Sums.{narrow, narrow_some, add, twice}

-- ---- the same but for words
module _ (before after : List Structure) (same : map without_words after ≡ map without_words before) where
  same_at : (k : ℕ) → option_map without_words (slice_get after k) ≡ option_map without_words (slice_get before k)
  same_at k = sym (slice_get-map without_words after k) ∙ ap (λ ss. slice_get ss k) same ∙ slice_get-map without_words before k

  through_stored : (f : List Field → Option ℕ) (o : Option Structure) → option_and_then (λ (s : Structure). f s.stored) (option_map without_words o) ≡ option_and_then (λ (s : Structure). f s.stored) o
  through_stored f None = refl
  through_stored f (Some s) = refl

  same_within : (depth k : ℕ) → structure_within after depth k ≡ structure_within before depth k
  unfolding structure_within
  same_within zero k = refl
  same_within (suc depth) k =
      (λ i. option_and_then (λ (s : Structure). stored_words (words_by (λ j. same_within depth j i)) s.stored) (slice_get after k))
      ∙ sym (through_stored (stored_words (words_by (structure_within before depth))) (slice_get after k))
      ∙ ap (option_and_then (λ (s : Structure). stored_words (words_by (structure_within before depth)) s.stored)) (same_at k)
      ∙ through_stored (stored_words (words_by (structure_within before depth))) (slice_get before k)

  same_length : length after ≡ length before
  same_length = sym (length_map without_words after) ∙ ap length same ∙ length_map without_words before

  pub same_words : (k : ℕ) → words_of after (Struct k) ≡ words_of before (Struct k)
  same_words k = ap (λ depth. structure_within after depth k) same_length ∙ same_within (length before) k

-- ---- with other words
rest_without : (ss : List Structure) (ws : List (Option ℕ)) → length ws ≡ length ss → map without_words (with_words ss ws) ≡ map without_words ss
rest_without [] ws e = refl
rest_without (s ∷ ss) [] e = absurd (omega arith)
rest_without (s ∷ ss) (w ∷ ws) e = ap (λ rest. without_words s ∷ rest) (rest_without ss ws (omega arith))

words_at : (ss : List Structure) (ws : List (Option ℕ)) → length ws ≡ length ss → (k : ℕ) → option_and_then (λ (s : Structure). s.words) (slice_get (with_words ss ws) k) ≡ option_and_then (λ (w : Option ℕ). w) (slice_get ws k)
words_at [] [] e k = refl
words_at [] (w ∷ ws) e k = absurd (omega arith)
words_at (s ∷ ss) [] e k = absurd (omega arith)
words_at (s ∷ ss) (w ∷ ws) e zero = refl
words_at (s ∷ ss) (w ∷ ws) e (suc k) = words_at ss ws (omega arith) k

pub written : (before : List Structure) (widths : List (Option ℕ)) → AreWidths before widths → AreMeasured before (with_words before widths)
written before widths are =
    let same = rest_without before widths are.0 in
    (same, λ k. words_at before widths are.0 k ∙ are.1 k ∙ ap narrow (sym (same_words before (with_words before widths) same k)))

-- ---- the words that stand with a structure are not too many
pub told_few : (structures : List Structure) → AreCounted structures → (k n : ℕ) → words_told structures k ≡ Some n → n ≤ most_words
told_few structures counted k n e = (narrow_some (words_of structures (Struct k)) n (sym (counted k) ∙ e)).1

-- ---- the words of stored properties together
pub none_added : (o : Option ℕ) → o ≡ option_map (λ rest. 0 + rest) o
none_added None = refl
none_added (Some n) = ap Some (omega arith)

module _ (structures : List Structure) (stored : List Field) (i words : ℕ) (so_far : words_together structures stored ≡ option_map (λ rest. words + rest) (words_together structures (drop i stored))) where
  abbrev words_of_field : Field → Option ℕ
  words_of_field f = option_and_then (words_by (words_told structures)) f.ty

  one_opened : (f : Field) → slice_get stored i ≡ Some f → words_together structures stored ≡ option_map (λ rest. words + rest) (add (words_of_field f) (words_together structures (drop (suc i) stored)))
  one_opened f at = so_far ∙ ap (λ fields. option_map (λ rest. words + rest) (words_together structures fields)) (drop_item stored i f at)

  pub one_added : (f : Field) (more : ℕ) → slice_get stored i ≡ Some f → words_of_field f ≡ Some more → words_together structures stored ≡ option_map (λ rest. (words + more) + rest) (words_together structures (drop (i + 1) stored))
  one_added f more at e =
      let next : suc i ≡ i + 1 = omega arith in
      one_opened f at ∙ ap (λ p. option_map (λ rest. words + rest) (add p (words_together structures (drop (suc i) stored)))) e ∙ twice words more (words_together structures (drop (suc i) stored))
      ∙ ap (λ j. option_map (λ rest. (words + more) + rest) (words_together structures (drop j stored))) next

  pub none_told : (f : Field) → slice_get stored i ≡ Some f → words_of_field f ≡ None → words_together structures stored ≡ None
  none_told f at e = one_opened f at ∙ ap (λ p. option_map (λ rest. words + rest) (add p (words_together structures (drop (suc i) stored)))) e

  pub all_added : length stored ≤ i → words_together structures stored ≡ Some words
  all_added h = so_far ∙ ap (λ fields. option_map (λ rest. words + rest) (words_together structures fields)) (drop_past stored i h) ∙ ap Some (omega arith)

-- ---- structures that are written one after the other
pub no_more : (ss : List Structure) → with_words ss [] ≡ []
no_more [] = refl
no_more (s ∷ ss) = refl

module _ (ss reversed rest whole : List Structure) (ws : List (Option ℕ)) (i : ℕ) (so_far : ss ++ with_words (reverse reversed) (drop i ws) ≡ whole) where
  pub one_written : (s after : Structure) (w : Option ℕ) → reversed ≡ rest ++ s ∷ [] → slice_get ws i ≡ Some w → after ≡ record s { words = w }
      → (ss ++ after ∷ []) ++ with_words (reverse rest) (drop (i + 1) ws) ≡ whole
  one_written s after w last at is =
      let next : suc i ≡ i + 1 = omega arith in
      append_assoc ss (after ∷ []) (with_words (reverse rest) (drop (i + 1) ws))
      ∙ ap (λ t. ss ++ t ∷ with_words (reverse rest) (drop (i + 1) ws)) is
      ∙ ap (λ j. ss ++ (record s { words = w }) ∷ with_words (reverse rest) (drop j ws)) (sym next)
      ∙ ap (λ vs. ss ++ with_words (s ∷ reverse rest) vs) (sym (drop_item ws i w at))
      ∙ ap (λ rs. ss ++ with_words rs (drop i ws)) (sym (ap reverse last ∙ reverse_last rest s))
      ∙ so_far

  pub none_written : reversed ≡ [] → rest ≡ [] → ss ++ with_words (reverse rest) (drop (i + 1) ws) ≡ whole
  none_written none same =
      ap (λ rs. ss ++ with_words (reverse rs) (drop (i + 1) ws)) same ∙ ap (λ rs. ss ++ with_words (reverse rs) (drop i ws)) (sym none) ∙ so_far

  pub all_written : length ws ≤ i → ss ≡ whole
  all_written h = sym (append_nil ss) ∙ ap (λ rs. ss ++ rs) (sym (ap (with_words (reverse reversed)) (drop_past ws i h) ∙ no_more (reverse reversed))) ∙ so_far

-- ---- structures that are taken from the end
pub one_taken : (ss front reversed whole : List Structure) (s : Structure) → ss ++ reverse reversed ≡ whole → ss ≡ front ++ s ∷ [] → front ++ reverse (reversed ++ s ∷ []) ≡ whole
one_taken ss front reversed whole s so_far last =
    ap (λ rs. front ++ rs) (reverse_last reversed s) ∙ sym (append_assoc front (s ∷ []) (reverse reversed)) ∙ ap (λ rs. rs ++ reverse reversed) (sym last) ∙ so_far
