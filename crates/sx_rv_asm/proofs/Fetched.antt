-- The words of an item lie where it stands.
use Rattle.std.proofs.Common.{◌≡◌, ℕ, ◌+◌, ◌%◌, List, [], ◌∷◌, ◌++◌, length, take, Bool, Some, refl, sym, ap, ◌∙◌, subst, append_assoc, length-append, arith, append-nil}
use Rattle.std.specs.Int.{w32, from_le_bytes, to_le_bytes}
use Rattle.std.proofs.Math.Seq.{drop-append_seam, take-append_seam}
use Rattle.std.proofs.lemmas.Nat.{from_le_bytes-to_le_bytes_4}
use Rattle.sx_rv_isa.specs.declared.instructions.Instr.{Instr}
use Rattle.sx_rv_isa.specs.Words.{decoded, word_of}
use Rattle.sx_rv_isa.proofs.Forth.{forth, fits as word_fits}
use Rattle.sx_rv_asm.specs.declared.items.Item.{Item}
use Rattle.sx_rv_asm.specs.declared.items.Item.TheVariants.{Plain, Label, Branch, Jump, Address, Bytes}
use Rattle.sx_rv_asm.specs.Items.{form_size, AllWhole}
use Rattle.sx_rv_asm.specs.Forms.{instructions, bytes_of, data_of, form_of}
use Rattle.sx_rv_asm.specs.Layout.{Fits, Stands, IsProgram, place_of, code_of}
use Rattle.sx_rv_asm.specs.Fetching.{part, Fetches, LiesAt, Lies, LieInParts}
use Rattle.sx_rv_asm.proofs.Sizes.{length_form}
use Rattle.sx_rv_asm.proofs.Standing.{stands, whole}

-- the bytes between others
part_of : (front bytes behind : List ℕ) → part (front ++ (bytes ++ behind)) (length front) (length bytes) ≡ bytes
part_of front bytes behind = ap (take (length bytes)) (drop-append_seam front (bytes ++ behind)) ∙ take-append_seam bytes behind

fetched : (front behind : List ℕ) (is : List Instr) → Fetches (front ++ (bytes_of is ++ behind)) (length front) is
fetched front behind [] = tt
fetched front behind (i ∷ is) =
    let w : List ℕ = to_le_bytes w32 (word_of i) in
    let whole : front ++ ((w ++ bytes_of is) ++ behind) ≡ front ++ (w ++ (bytes_of is ++ behind)) = ap (λ x. front ++ x) (append_assoc w (bytes_of is) behind) in
    let shifted : front ++ (w ++ (bytes_of is ++ behind)) ≡ (front ++ w) ++ (bytes_of is ++ behind) = sym (append_assoc front w (bytes_of is ++ behind)) in
    let here : decoded (from_le_bytes w32 (part (front ++ (w ++ (bytes_of is ++ behind))) (length front) 4)) ≡ Some i =
    ap (λ x. decoded (from_le_bytes w32 x)) (part_of front w (bytes_of is ++ behind)) ∙ ap decoded (from_le_bytes-to_le_bytes_4 (word_of i) (word_fits i)) ∙ forth i in
    let further : Fetches (front ++ (w ++ (bytes_of is ++ behind))) (length front + 4) is =
    subst (λ (c : List ℕ). Fetches c (length front + 4) is) (sym shifted) (subst (λ (n : ℕ). Fetches ((front ++ w) ++ (bytes_of is ++ behind)) n is) (length-append front w) (fetched (front ++ w) behind is)) in
    subst (λ (c : List ℕ). Fetches c (length front) (i ∷ is)) (sym whole) (here, further)

-- an item has instructions or data
apart : (place : ℕ → ℕ) (at : ℕ) (near : Bool) (item : Item) (front behind : List ℕ) → part (front ++ ((bytes_of (instructions place at near item) ++ data_of item) ++ behind)) (length front) (length (data_of item)) ≡ data_of item
apart place at near (Plain i) front behind = refl
apart place at near (Label m) front behind = refl
apart place at near (Branch c r s to) front behind = refl
apart place at near (Jump rd to) front behind = refl
apart place at near (Address rd to) front behind = refl
apart place at near (Bytes bytes) front behind = part_of front bytes behind

lies_at : (place : ℕ → ℕ) (near : Bool) (item : Item) (front behind : List ℕ) → Fits place (length front) near item → length front % 4 ≡ 0 → LiesAt (front ++ (form_of place (length front) near item ++ behind)) place (length front) near item
unfolding form_of
lies_at place near item front behind f even =
    let at : ℕ = length front in
    let is : List Instr = instructions place at near item in
    let form : List ℕ = bytes_of is ++ data_of item in
    let size : length form ≡ form_size near item = length_form place at near item in
    let whole : length (front ++ (form ++ behind)) ≡ at + (length form + length behind) = length-append front (form ++ behind) ∙ ap (λ n. at + n) (length-append form behind) in
    record {
      fits = f;
      fetches = subst (λ (c : List ℕ). Fetches (front ++ c) at is) (sym (append_assoc (bytes_of is) (data_of item) behind)) (fetched front (data_of item ++ behind) is);
      bytes = apart place at near item front behind;
      aligned = even;
      inside = omega (arith, size, whole);
    }

lies_from : (place : ℕ → ℕ) (items : List Item) (front bytes : List ℕ) → AllWhole items → length front % 4 ≡ 0 → Stands place (length front) items bytes → Lies (front ++ bytes) place (length front) items (length (front ++ bytes))
unfolding Stands Lies AllWhole
lies_from place [] front bytes w even s = ap length (sym (append-nil front)) ∙ ap (λ b. length (front ++ b)) (sym s)
lies_from place (i ∷ is) front bytes w even s =
    let near = s.0 in
    let rest = s.1 in
    let at : ℕ = length front in
    let form : List ℕ = form_of place at near i in
    let size : form_size near i % 4 ≡ 0 = whole near i w.0 in
    let next : length (front ++ form) ≡ at + form_size near i = length-append front form ∙ ap (λ n. at + n) (length_form place at near i) in
    let still : length (front ++ form) % 4 ≡ 0 = omega (arith, next, size, even) in
    let all : front ++ (form ++ rest) ≡ front ++ bytes = ap (λ x. front ++ x) (sym s.2) in
    let after : Stands place (length (front ++ form)) is rest = subst (λ (n : ℕ). Stands place n is rest) (sym next) s.4 in
    let further : Lies (front ++ (form ++ rest)) place (at + form_size near i) is (length (front ++ (form ++ rest))) =
    subst (λ (n : ℕ). Lies (front ++ (form ++ rest)) place n is (length (front ++ (form ++ rest)))) next (subst (λ (c : List ℕ). Lies c place (length (front ++ form)) is (length c)) (append_assoc front form rest) (lies_from place is (front ++ form) rest w.1 still after)) in (
      near,
      subst (λ (c : List ℕ). LiesAt c place at near i) all (lies_at place near i front rest s.3 even),
      subst (λ (c : List ℕ). Lies c place (at + form_size near i) is (length c)) all further,
    )

pub lies : (items : List Item) → IsProgram items → Lies (code_of items) (place_of items) 0 items (length (code_of items))
lies items h = lies_from (place_of items) items [] (code_of items) h.whole refl (stands items h)

-- ---- parts
pub parts : (code : List ℕ) (place : ℕ → ℕ) (at : ℕ) (xs ys : List Item) (behind : ℕ) → Lies code place at (xs ++ ys) behind → LieInParts code place at xs ys behind
unfolding Lies
parts code place at [] ys behind h = record { between = at; first_lies = refl; second_lies = h }
parts code place at (x ∷ xs) ys behind h =
    let p : LieInParts code place (at + form_size h.0 x) xs ys behind = parts code place (at + form_size h.0 x) xs ys behind h.2 in
    record { between = p.between; first_lies = (h.0, h.1, p.first_lies); second_lies = p.second_lies }
