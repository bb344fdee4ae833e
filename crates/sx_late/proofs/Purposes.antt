-- What the parts of a path are evaluated for.
use Rattle.std.proofs.Common.{◌≡◌, ℕ, ◌+◌, ◌<◌, List, [], ◌∷◌, ◌++◌, map, drop, length, get_or, refl, sym, ap, ◌∙◌, append_assoc, drop-cons, length-drop, take, take_all, ◌-◌, suc, arith}
use Rattle.sx_late.specs.declared.mentions.Purpose.{Purpose}
use Rattle.sx_late.specs.Mentions.{Mentions, ByPurpose, parts_mention, purpose_before}

-- it depends only on whether others stand behind
purpose_of_map : {X Y : Type 0} (f : X → Y) (xs : List X) (p : Purpose) → purpose_before (map f xs) p ≡ purpose_before xs p
purpose_of_map f [] p = refl
purpose_of_map f (x ∷ xs) p = refl

-- ---- one more part
rest_is : {X : Type 0} (xs : List X) (n : ℕ) → take (length xs - n) (drop n xs) ≡ drop n xs
rest_is xs n = let e = length-drop n xs in take_all (length xs - n) (drop n xs) (omega (arith, e))

pub next_part : {X : Type 0} (f : X → ByPurpose) (xs : List X) (i : ℕ) (x d : X) (p q : Purpose) (whole before after : Mentions)
    → before ++ parts_mention (map f (drop i xs)) p ≡ whole → i < length xs → q ≡ purpose_before (take (length xs - (i + 1)) (drop (i + 1) xs)) p → x ≡ get_or xs i d → after ≡ before ++ f x q
    → after ++ parts_mention (map f (drop (i + 1) xs)) p ≡ whole
next_part f xs i x d p q whole before after so_far less for_part is more =
    let one : suc i ≡ i + 1 = omega arith in
    let parted : drop i xs ≡ x ∷ drop (i + 1) xs = drop-cons xs i d less ∙ ap (λ n. get_or xs i d ∷ drop n xs) one ∙ ap (λ y. y ∷ drop (i + 1) xs) (sym is) in
    let purpose : q ≡ purpose_before (map f (drop (i + 1) xs)) p = for_part ∙ ap (λ ys. purpose_before ys p) (rest_is xs (i + 1)) ∙ sym (purpose_of_map f (drop (i + 1) xs) p) in
    ap (λ ms. ms ++ parts_mention (map f (drop (i + 1) xs)) p) more
    ∙ append_assoc before (f x q) (parts_mention (map f (drop (i + 1) xs)) p)
    ∙ ap (λ r. before ++ (f x r ++ parts_mention (map f (drop (i + 1) xs)) p)) purpose
    ∙ ap (λ ys. before ++ parts_mention (map f ys) p) (sym parted)
    ∙ so_far
