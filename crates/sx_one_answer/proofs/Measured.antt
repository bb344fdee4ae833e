-- Structures have one width each, and hold themselves or don't.
use Rattle.std.proofs.Common.{◌≡◌, ℕ, zero, suc, Bool, true, false, List, [], ◌∷◌, map, length, slice_get, Option, Some, None, option_map, option_and_then, refl, sym, ap, ap₂, ◌∙◌, arith, true≢false}
use Rattle.std.proofs.lemmas.List.{length-map}
use Rattle.std.proofs.lemmas.Option.{slice_get-map, same_Some}
use mathlib.Core.Path.{fun_ext}
use Rattle.sx_types.specs.declared.types.Structure.{Structure}
use Rattle.sx_types.specs.declared.types.Ty.{Ty}
use Rattle.sx_types.specs.declared.types.Ty.TheVariants.{Struct}
use Rattle.sx_types.specs.Words.{if_narrow, stored_words, structure_within, words_by, words_of}
use Rattle.sx_layout.specs.Holding.{TellHolders}
use Rattle.sx_layout.specs.Measured.{AreMeasured, without_words}

-- ---- words come from the stored properties alone
abbrev words_here : (Ty → Option ℕ) → Option Structure → Option ℕ
words_here words o = option_and_then (λ (s : Structure). stored_words words s.stored) o

here_without : (words : Ty → Option ℕ) (o : Option Structure) → words_here words o ≡ words_here words (option_map without_words o)
here_without words None = refl
here_without words (Some s) = refl

within_without : (ss : List Structure) (depth k : ℕ) → structure_within ss depth k ≡ structure_within (map without_words ss) depth k
unfolding structure_within
within_without ss zero k = refl
within_without ss (suc depth) k =
    let inside : structure_within ss depth ≡ structure_within (map without_words ss) depth = fun_ext (λ j. within_without ss depth j) in
    ap (λ f. words_here (words_by f) (slice_get ss k)) inside
    ∙ here_without (words_by (structure_within (map without_words ss) depth)) (slice_get ss k)
    ∙ ap (words_here (words_by (structure_within (map without_words ss) depth))) (sym (slice_get-map without_words ss k))

words_without : (ss : List Structure) (k : ℕ) → words_of ss (Struct k) ≡ words_of (map without_words ss) (Struct k)
words_without ss k =
    within_without ss (length ss) k ∙ ap (λ n. structure_within (map without_words ss) n k) (sym (length-map ss without_words))

same_words : (xs ys : List Structure) (k : ℕ) → map without_words xs ≡ map without_words ys → words_of xs (Struct k) ≡ words_of ys (Struct k)
same_words xs ys k e = words_without xs k ∙ ap (λ ss. words_of ss (Struct k)) e ∙ sym (words_without ys k)

-- ---- structures with their words
abbrev words_at : List Structure → ℕ → Option ℕ
words_at ss k = option_and_then (λ (s : Structure). s.words) (slice_get ss k)

abbrev first_bare : Structure → List Structure → Structure
first_bare d [] = d
first_bare d (s ∷ ss) = s

abbrev behind_first : List Structure → List Structure
behind_first [] = []
behind_first (s ∷ ss) = ss

same_structure : (s t : Structure) → without_words s ≡ without_words t → s.words ≡ t.words → s ≡ t
same_structure s t e w = λ i. record { name = (e i).name; stored = (e i).stored; words = w i }

abbrev is_cons : List Structure → Bool
is_cons [] = false
is_cons (s ∷ ss) = true

same_structures : (xs ys : List Structure) → map without_words xs ≡ map without_words ys → ((k : ℕ) → words_at xs k ≡ words_at ys k) → xs ≡ ys
same_structures [] [] e w = refl
same_structures [] (y ∷ ys) e w = absurd (true≢false (sym (ap is_cons e)))
same_structures (x ∷ xs) [] e w = absurd (true≢false (ap is_cons e))
same_structures (x ∷ xs) (y ∷ ys) e w =
    ap₂ (λ s ss. s ∷ ss) (same_structure x y (ap (first_bare x) e) (w 0)) (same_structures xs ys (ap behind_first e) (λ k. w (suc k)))

pub measured_once : (bare xs ys : List Structure) → AreMeasured bare xs → AreMeasured bare ys → xs ≡ ys
measured_once bare xs ys (e, counted) (f, told) =
    let same : map without_words xs ≡ map without_words ys = e ∙ sym f in
    same_structures xs ys same (λ k. counted k ∙ ap (option_and_then if_narrow) (same_words xs ys k same) ∙ sym (told k))

-- ---- which of them hold themselves
same_bool : (a b : Bool) → (a ≡ true → b ≡ true) → (b ≡ true → a ≡ true) → a ≡ b
same_bool true b h k = sym (h refl)
same_bool false true h k = k refl
same_bool false false h k = refl

same_marks : (xs ys : List Bool) → length xs ≡ length ys → ((k : ℕ) → slice_get xs k ≡ Some true → slice_get ys k ≡ Some true) → ((k : ℕ) → slice_get ys k ≡ Some true → slice_get xs k ≡ Some true) → xs ≡ ys
same_marks [] [] l h k = refl
same_marks [] (y ∷ ys) l h k = absurd (omega (arith, l))
same_marks (x ∷ xs) [] l h k = absurd (omega (arith, l))
same_marks (x ∷ xs) (y ∷ ys) l h k =
    ap₂ (λ b bs. b ∷ bs)
    (same_bool x y (λ e. same_Some y true (h 0 (ap Some e))) (λ e. same_Some x true (k 0 (ap Some e))))
    (same_marks xs ys (omega (arith, l)) (λ n. h (suc n)) (λ n. k (suc n)))

pub holders_once : (ss : List Structure) (xs ys : List Bool) → TellHolders ss xs → TellHolders ss ys → xs ≡ ys
holders_once ss xs ys (l, h) (m, k) = same_marks xs ys (l ∙ sym m) (λ n e. (k n).1 ((h n).0 e)) (λ n e. (h n).1 ((k n).0 e))
