-- How the words of stored properties add up to those of a structure.
use Rattle.std.proofs.Common.{◌≡◌, ◌⊎◌, inl, inr, ℕ, suc, ◌+◌, ◌<◌, ◌≤◌, max, Bool, true, false, List, [], ◌∷◌, drop, length, get_or, slice_get, Option, Some, None, option_map, option_and_then, if◌then◌else◌, arith, refl, sym, ap, ◌∙◌}
use Rattle.std.proofs.lemmas.Bool.{leb-true, leb-false, le-leb, lt-leb}
use Rattle.std.proofs.lemmas.Option.{slice_get_past, slice_get_within, slice_get-get_or, get_or_from_slice_get}
use Rattle.std.specs.Bool.{nat_le}
use Rattle.sx_types.specs.declared.types.Field.{Field}
use Rattle.sx_types.specs.declared.types.Structure.{Structure}
use Rattle.sx_types.specs.declared.types.Ty.TheVariants.{Struct}
use Rattle.sx_types.specs.Words.{words_of, most_words, if_narrow, structure_within}
use Rattle.sx_types.proofs.Nesting.{number_is_enough}
use Rattle.sx_layout.specs.Walking.{together, IsSum}
use Rattle.sx_layout.specs.declared.walking.Sum.{Sum}
use Rattle.sx_layout.proofs.Lists.{drop_item}

abbrev pub narrow : Option ℕ → Option ℕ
narrow o = option_and_then if_narrow o

pub narrow_most : (n : ℕ) → n ≤ most_words → if_narrow n ≡ Some n
narrow_most n h = ap (λ b. if b then Some n else None) (le-leb n most_words h)

pub narrow_past : (n : ℕ) → most_words < n → if_narrow n ≡ None
narrow_past n h = ap (λ b. if b then Some n else None) (lt-leb n most_words h)

kept : (n m : ℕ) (b : Bool) → nat_le n most_words ≡ b → (if b then Some n else None) ≡ Some m → (n ≡ m) × (n ≤ most_words)
kept n m true h e = (cc, leb-true n most_words h)
kept n m false h e = cc

pub narrow_some : (o : Option ℕ) (n : ℕ) → narrow o ≡ Some n → (o ≡ Some n) × (n ≤ most_words)
narrow_some None n e = cc
narrow_some (Some m) n e = let k = kept m n (nat_le m most_words) refl e in (ap Some k.0, rw (← k.0) k.1)

lost : (n : ℕ) (b : Bool) → nat_le n most_words ≡ b → (if b then Some n else None) ≡ None → most_words < n
lost n true h e = cc
lost n false h e = leb-false n most_words h

pub narrow_none : (o : Option ℕ) → narrow o ≡ None → (o ≡ None) ⊎ ((n : ℕ) × (o ≡ Some n) × (most_words < n))
narrow_none None e = inl refl
narrow_none (Some m) e = inr (m, refl, lost m (nat_le m most_words) refl e)

-- ---- the rule for structures
pub rule : (structures : List Structure) (k : ℕ) → words_of structures (Struct k) ≡ option_and_then (λ (s : Structure). option_map (max 1) (together structures s.stored)) (slice_get structures k)
unfolding structure_within
rule structures k = sym (number_is_enough structures k)

pub rule_at : (structures : List Structure) (k : ℕ) (s : Structure) → slice_get structures k ≡ Some s → words_of structures (Struct k) ≡ option_map (max 1) (together structures s.stored)
rule_at structures k s at = rule structures k ∙ ap (λ o. option_and_then (λ (s : Structure). option_map (max 1) (together structures s.stored)) o) at

pub none_past : (structures : List Structure) (k : ℕ) → length structures ≤ k → words_of structures (Struct k) ≡ None
none_past structures k h = rule structures k ∙ ap (λ o. option_and_then (λ (s : Structure). option_map (max 1) (together structures s.stored)) o) (slice_get_past structures k h)

-- ---- sums that are too large, or can't be told
past_max : (o : Option ℕ) (w : ℕ) → most_words < w → narrow (option_map (max 1) (option_map (λ rest. w + rest) o)) ≡ None
past_max None w h = refl
past_max (Some n) w h = narrow_past (max 1 (w + n)) (omega arith)

pub too_wide : (structures : List Structure) (k : ℕ) (s : Structure) (w : ℕ) (o : Option ℕ) → slice_get structures k ≡ Some s → together structures s.stored ≡ option_map (λ rest. w + rest) o → most_words < w
    → narrow (words_of structures (Struct k)) ≡ None
too_wide structures k s w o at adds h = ap narrow (rule_at structures k s at ∙ ap (option_map (max 1)) adds) ∙ past_max o w h

-- ---- one more stored property
pub drop_all : (fields : List Field) → drop (length fields) fields ≡ []
drop_all [] = refl
drop_all (f ∷ fields) = drop_all fields

abbrev pub add : Option ℕ → Option ℕ → Option ℕ
add m r = option_and_then (λ first. option_map (λ rest. first + rest) r) m

pub twice : (w n : ℕ) (o : Option ℕ) → option_map (λ rest. w + rest) (option_map (λ rest. n + rest) o) ≡ option_map (λ rest. (w + n) + rest) o
twice w n None = refl
twice w n (Some m) = ap Some (omega arith)

module _ (structures : List Structure) (sum : Sum) (is : IsSum structures sum) (f : Field) (at : slice_get is.holder.stored sum.next ≡ Some f) where
  abbrev part : Option ℕ
  part = option_and_then (words_of structures) f.ty

  abbrev left : Option ℕ
  left = together structures (drop (suc sum.next) is.holder.stored)

  opened : together structures is.holder.stored ≡ option_map (λ rest. sum.words + rest) (add part left)
  opened = is.adds ∙ ap (λ fields. option_map (λ rest. sum.words + rest) (together structures fields)) (drop_item is.holder.stored sum.next f at)

  pub goes_on : (more : ℕ) → narrow part ≡ Some more → together structures is.holder.stored ≡ option_map (λ rest. (sum.words + more) + rest) left
  goes_on more e = opened ∙ ap (λ p. option_map (λ rest. sum.words + rest) (add p left)) (narrow_some part more e).0 ∙ twice sum.words more left

  pub stops : narrow part ≡ None → narrow (words_of structures (Struct sum.structure)) ≡ None
  stops e = by (narrow_none part e)
    where
      by : (part ≡ None) ⊎ ((n : ℕ) × (part ≡ Some n) × (most_words < n)) → narrow (words_of structures (Struct sum.structure)) ≡ None
      by (inl none) = ap narrow (rule_at structures sum.structure is.holder is.found ∙ ap (option_map (max 1)) (opened ∙ ap (λ p. option_map (λ rest. sum.words + rest) (add p left)) none))
      by (inr more) = too_wide structures sum.structure is.holder (sum.words + more.0) left is.found
          (opened ∙ ap (λ p. option_map (λ rest. sum.words + rest) (add p left)) more.1 ∙ twice sum.words more.0 left) (let h = more.2 in omega arith)

-- ---- all stored properties
pub ends : (structures : List Structure) (sum : Sum) (is : IsSum structures sum) → sum.next ≡ length is.holder.stored → narrow (words_of structures (Struct sum.structure)) ≡ Some (max sum.words 1)
ends structures sum is e =
    let none : drop sum.next is.holder.stored ≡ [] = rw e (drop_all is.holder.stored) in
    let whole : together structures is.holder.stored ≡ Some (sum.words + 0) = is.adds ∙ ap (λ fields. option_map (λ rest. sum.words + rest) (together structures fields)) none in
    let few = is.few in
    let one : max 1 (sum.words + 0) ≡ max sum.words 1 = omega arith in
    ap narrow (rule_at structures sum.structure is.holder is.found ∙ ap (option_map (max 1)) whole ∙ ap Some one) ∙ narrow_most (max sum.words 1) (omega arith)

pub sum_within : (structures : List Structure) (sum : Sum) → IsSum structures sum → sum.structure < length structures
sum_within structures sum is = slice_get_within structures sum.structure is.holder is.found

-- ---- as the code reads them
module _ (structures : List Structure) (sum : Sum) (is : IsSum structures sum) (d : Structure) (stored : List Field) (same : stored ≡ (get_or structures sum.structure d).stored) where
  stored_is : stored ≡ is.holder.stored
  stored_is = same ∙ ap (λ (s : Structure). s.stored) (get_or_from_slice_get structures sum.structure is.holder d is.found)

  pub reads : (e : Field) → sum.next < length stored → slice_get is.holder.stored sum.next ≡ Some (get_or stored sum.next e)
  reads e lt = sym (ap (λ fields. slice_get fields sum.next) stored_is) ∙ slice_get-get_or stored sum.next e lt

  pub all_read : length stored ≤ sum.next → sum.next ≡ length is.holder.stored
  all_read h = let e = ap length stored_is in let w = is.within in omega arith

pub next_sum : (structures : List Structure) (sum : Sum) (is : IsSum structures sum) (f : Field) (more : ℕ) → slice_get is.holder.stored sum.next ≡ Some f
    → narrow (option_and_then (words_of structures) f.ty) ≡ Some more → sum.words + more ≤ most_words
    → IsSum structures (record { structure = sum.structure; next = sum.next + 1; words = sum.words + more })
next_sum structures sum is f more at e few =
    let lt = slice_get_within is.holder.stored sum.next f at in
    let one : suc sum.next ≡ sum.next + 1 = omega arith in
    record {
      holder = is.holder;
      found = is.found;
      within = omega arith;
      few = few;
      adds = goes_on structures sum is f at more e ∙ ap (λ n. option_map (λ rest. (sum.words + more) + rest) (together structures (drop n is.holder.stored))) one;
    }
