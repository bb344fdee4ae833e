-- What a search keeps.
use Rattle.std.proofs.Common.{◌≡◌, ◌≢◌, ◌⊎◌, inl, inr, ℕ, zero, suc, ◌+◌, ◌<◌, Bool, true, false, List, [], ◌∷◌, ◌++◌, length, replicate, set, get_or, slice_get, Option, Some, option_and_then, arith, refl, sym, ap, subst, ◌∙◌}
use Rattle.std.proofs.lemmas.Bool.{cases_order}
use Rattle.std.proofs.lemmas.List.Sums.{sum_by-set}
use Rattle.std.proofs.lemmas.Option.{slice_get_within, get_or_from_slice_get}
use Rattle.sx_types.specs.declared.types.Field.{Field}
use Rattle.sx_types.specs.declared.types.Structure.{Structure}
use Rattle.sx_types.specs.declared.types.Ty.TheVariants.{Struct}
use Rattle.sx_layout.specs.Holding.{HoldsDirectly, Holds, directly, through}
use Rattle.sx_layout.specs.Measured.{AreWidths}
use Rattle.sx_layout.specs.Searching.{IsMarked, IsUntold, IsListed, IsThrough, IsSearch, IsPartMarked, MarksPart, turns_left, left_to_search}
use Rattle.sx_layout.proofs.Circles.{joined, no_words}
use Rattle.sx_layout.proofs.Lists.{at_front, at_last, front_or_last, set_or_other, set_other, set_same, length_last, length_set, length_replicate, in_range}
use Rattle.sx_layout.proofs.Sums.{narrow}

-- ---- what holds something is a structure
pub holder_within : (structures : List Structure) (i j : ℕ) → Holds structures i j → i < length structures
holder_within structures i j (directly _ _ holds) = slice_get_within structures i holds.0 holds.3
holder_within structures i j (through _ k _ holds rest) = slice_get_within structures i holds.0 holds.3

nothing_at : {A : Type 0} (i : ℕ) (x : A) → slice_get [] i ≡ Some x → ⊥
nothing_at i x e = cc

module _ (structures : List Structure) (widths : List (Option ℕ)) (are : AreWidths structures widths) where
  -- ---- the words of one that holds itself aren't told
  untold : (k : ℕ) → Holds structures k k → IsUntold widths k
  untold k holds = here.1 ∙ ap Some (sym (ap (option_and_then (λ (w : Option ℕ). w)) here.1) ∙ are.1 k ∙ ap narrow (no_words structures k holds))
    where
      here : (w : Option ℕ) × (slice_get widths k ≡ Some w)
      here = in_range widths k (let h = holder_within structures k k holds in let e = are.0 in omega arith)

  pub told_not_held : (k : ℕ) (w : Option ℕ) (n : ℕ) → slice_get widths k ≡ Some w → w ≡ Some n → Holds structures k k → ⊥
  told_not_held k w n at e holds = let h = untold k holds in cc

  module _ (root : ℕ) (marks : List Bool) (search : IsSearch structures widths root marks []) where
    reached : (k : ℕ) → IsMarked marks k → IsThrough structures widths marks k
    reached k marked = by (search.through k marked)
      where
        by : IsListed [] k ⊎ IsThrough structures widths marks k → IsThrough structures widths marks k
        by (inl listed) = absurd (nothing_at listed.0 k listed.1)
        by (inr is) = is

    root_reached : IsThrough structures widths marks root
    root_reached = by search.root_through
      where
        by : IsListed [] root ⊎ IsThrough structures widths marks root → IsThrough structures widths marks root
        by (inl listed) = absurd (nothing_at listed.0 root listed.1)
        by (inr is) = is

    on_circle : (i : ℕ) → IsThrough structures widths marks i → (i ≡ root) ⊎ Holds structures root i → Holds structures root root → (j : ℕ) → Holds structures i j → j ≡ root → IsMarked marks root
    on_circle i is from circle j (directly _ _ holds) same =
        is root (subst (λ k. HoldsDirectly structures i k) same holds) (untold root circle)
    on_circle i is from circle j (through _ k _ holds rest) same =
        on_circle k (reached k (is k holds (untold k (joined structures k root k to_root here)))) (inr here) circle j rest same
      where
        from_root : (i ≡ root) ⊎ Holds structures root i → Holds structures root k
        from_root (inl e) = directly root k (subst (λ n. HoldsDirectly structures n k) e holds)
        from_root (inr before) = joined structures root i k before (directly i k holds)

        here : Holds structures root k
        here = from_root from

        to_root : Holds structures k root
        to_root = subst (λ n. Holds structures k n) same rest

    pub found : Holds structures root root → IsMarked marks root
    found circle = on_circle root root_reached (inl refl) circle root circle refl

-- ---- a search begins
pub search_begins : (structures : List Structure) (widths : List (Option ℕ)) (root n : ℕ) → n ≡ length structures → IsSearch structures widths root (replicate n false) (root ∷ [])
search_begins structures widths root n many = record {
  many = length_replicate n false ∙ many;
  held = λ k marked. absurd (none n k marked);
  opens = λ k listed. inl (alone k (front_or_last [] root listed.0 k listed.1));
  root_through = inl (0, refl);
  through = λ k marked. absurd (none n k marked);
}
  where
    none : (n k : ℕ) → slice_get (replicate n false) k ≡ Some true → ⊥
    none zero k e = cc
    none (suc n) zero e = cc
    none (suc n) (suc k) e = none n k e

    alone : {i : ℕ} (k : ℕ) → (slice_get [] i ≡ Some k) ⊎ ((i ≡ 0) × (k ≡ root)) → k ≡ root
    alone k (inl at) = cc
    alone k (inr e) = e.1

-- ---- one more stored property
module _ (structures : List Structure) (widths : List (Option ℕ)) (root number : ℕ) (marks : List Bool) (opened : List ℕ) (search : IsSearch structures widths root marks (opened ++ number ∷ [])) where
  pub number_within : root < length structures → number < length structures
  number_within less = by (search.opens number (length opened, at_last opened number))
    where
      by : (number ≡ root) ⊎ IsMarked marks number → number < length structures
      by (inl e) = omega arith
      by (inr marked) = let h = slice_get_within marks number true marked in let m = search.many in omega arith

  -- it is marked, or its words are told
  pub part_skipped : (stored : List Field) (i : ℕ) (f : Field) → slice_get stored i ≡ Some f
      → ((n : ℕ) (g : Field) → n < i → slice_get stored n ≡ Some g → IsPartMarked widths marks g.ty) → IsPartMarked widths marks f.ty
      → (n : ℕ) (g : Field) → n < i + 1 → slice_get stored n ≡ Some g → IsPartMarked widths marks g.ty
  part_skipped stored i f at before here n g less at_n = by (cases_order n i)
    where
      by : (n ≡ i) ⊎ ((n < i) ⊎ (i < n)) → IsPartMarked widths marks g.ty
      by (inl e) = let same : f ≡ g = cc in subst (λ (h : Field). IsPartMarked widths marks h.ty) same here
      by (inr (inl lower)) = before n g lower at_n
      by (inr (inr higher)) = absurd (omega arith)

  -- it is marked now
  module _ (j : ℕ) (holds : HoldsDirectly structures number j) (unmarked : slice_get marks j ≡ Some false) where
    abbrev after : List Bool
    after = set marks j true

    still : (k : ℕ) → IsMarked marks k → IsMarked after k
    still k marked = set_other marks j true k true (λ same. let e : k ≡ j = same in cc) marked

    here : IsMarked after j
    here = set_same marks j true (slice_get_within marks j false unmarked)

    through_still : (k : ℕ) → IsThrough structures widths marks k → IsThrough structures widths after k
    through_still k is i part untold = still i (is i part untold)

    listed_still : (k : ℕ) → IsListed (opened ++ number ∷ []) k → IsListed ((opened ++ j ∷ []) ++ number ∷ []) k
    listed_still k listed = by (front_or_last opened number listed.0 k listed.1)
      where
        by : (slice_get opened listed.0 ≡ Some k) ⊎ ((listed.0 ≡ length opened) × (k ≡ number)) → IsListed ((opened ++ j ∷ []) ++ number ∷ []) k
        by (inl at) = (listed.0, at_front (opened ++ j ∷ []) (number ∷ []) listed.0 k (at_front opened (j ∷ []) listed.0 k at))
        by (inr last) = (length (opened ++ j ∷ []), at_last (opened ++ j ∷ []) number ∙ ap Some (sym last.1))

    listed_here : IsListed ((opened ++ j ∷ []) ++ number ∷ []) j
    listed_here = (length opened, at_front (opened ++ j ∷ []) (number ∷ []) (length opened) j (at_last opened j))

    from_root : Holds structures root j
    from_root = by (search.opens number (length opened, at_last opened number))
      where
        by : (number ≡ root) ⊎ IsMarked marks number → Holds structures root j
        by (inl e) = directly root j (subst (λ n. HoldsDirectly structures n j) e holds)
        by (inr marked) = joined structures root number j (search.held number marked) (directly number j holds)

    pub marked_search : IsSearch structures widths root after ((opened ++ j ∷ []) ++ number ∷ [])
    marked_search = record {
      many = length_set marks j true ∙ search.many;
      held = λ k marked. held k (set_or_other marks j true k true marked);
      opens = λ k listed. opens k listed.0 (front_or_last (opened ++ j ∷ []) number listed.0 k listed.1);
      root_through = root_still search.root_through;
      through = λ k marked. through_more k (set_or_other marks j true k true marked);
    }
      where
        held : (k : ℕ) → ((k ≡ j) × (true ≡ true)) ⊎ ((k ≢ j) × (slice_get marks k ≡ Some true)) → Holds structures root k
        held k (inl same) = subst (λ n. Holds structures root n) (sym same.0) from_root
        held k (inr other) = search.held k other.1

        number_opens : (k : ℕ) → k ≡ number → (k ≡ root) ⊎ IsMarked after k
        number_opens k same = more k (search.opens k (length opened, at_last opened number ∙ ap Some (sym same)))
          where
            more : (k : ℕ) → (k ≡ root) ⊎ IsMarked marks k → (k ≡ root) ⊎ IsMarked after k
            more k (inl e) = inl e
            more k (inr marked) = inr (still k marked)

        front_opens : (k i : ℕ) → (slice_get opened i ≡ Some k) ⊎ ((i ≡ length opened) × (k ≡ j)) → (k ≡ root) ⊎ IsMarked after k
        front_opens k i (inl at) = more (search.opens k (i, at_front opened (number ∷ []) i k at))
          where
            more : (k ≡ root) ⊎ IsMarked marks k → (k ≡ root) ⊎ IsMarked after k
            more (inl e) = inl e
            more (inr marked) = inr (still k marked)
        front_opens k i (inr last) = inr (subst (λ n. IsMarked after n) (sym last.1) here)

        opens : (k i : ℕ) → (slice_get (opened ++ j ∷ []) i ≡ Some k) ⊎ ((i ≡ length (opened ++ j ∷ [])) × (k ≡ number)) → (k ≡ root) ⊎ IsMarked after k
        opens k i (inl at) = front_opens k i (front_or_last opened j i k at)
        opens k i (inr last) = number_opens k last.1

        root_still : IsListed (opened ++ number ∷ []) root ⊎ IsThrough structures widths marks root → IsListed ((opened ++ j ∷ []) ++ number ∷ []) root ⊎ IsThrough structures widths after root
        root_still (inl listed) = inl (listed_still root listed)
        root_still (inr is) = inr (through_still root is)

        kept : (k : ℕ) → IsListed (opened ++ number ∷ []) k ⊎ IsThrough structures widths marks k → IsListed ((opened ++ j ∷ []) ++ number ∷ []) k ⊎ IsThrough structures widths after k
        kept k (inl listed) = inl (listed_still k listed)
        kept k (inr is) = inr (through_still k is)

        through_more : (k : ℕ) → ((k ≡ j) × (true ≡ true)) ⊎ ((k ≢ j) × (slice_get marks k ≡ Some true)) → IsListed ((opened ++ j ∷ []) ++ number ∷ []) k ⊎ IsThrough structures widths after k
        through_more k (inl same) = inl (subst (λ n. IsListed ((opened ++ j ∷ []) ++ number ∷ []) n) (sym same.0) listed_here)
        through_more k (inr other) = kept k (search.through k other.1)

    pub part_marked : (stored : List Field) (i : ℕ) (f : Field) → slice_get stored i ≡ Some f → f.ty ≡ Some (Struct j)
        → ((n : ℕ) (g : Field) → n < i → slice_get stored n ≡ Some g → IsPartMarked widths marks g.ty)
        → (n : ℕ) (g : Field) → n < i + 1 → slice_get stored n ≡ Some g → IsPartMarked widths after g.ty
    part_marked stored i f at ty before n g less at_n = by (cases_order n i)
      where
        by : (n ≡ i) ⊎ ((n < i) ⊎ (i < n)) → IsPartMarked widths after g.ty
        by (inl e) = λ k is left. let same : f ≡ g = cc in let one : k ≡ j = cc in subst (λ m. IsMarked after m) (sym one) here
        by (inr (inl lower)) = λ k is left. still k (before n g lower at_n k is left)
        by (inr (inr higher)) = absurd (omega arith)

    pub same_left : left_to_search after (opened ++ j ∷ []) ≡ left_to_search marks opened
    same_left =
        let e = sum_by-set turns_left marks j true false (slice_get_within marks j false unmarked) in
        let one : turns_left (get_or marks j false) ≡ 1 = ap turns_left (get_or_from_slice_get marks j false false unmarked) in
        let l = length_last opened j in
        omega arith

  pub after_part : (s : Structure) (stored : List Field) (i : ℕ) (f : Field) → slice_get structures number ≡ Some s → stored ≡ s.stored → slice_get stored i ≡ Some f
      → ((n : ℕ) (g : Field) → n < i → slice_get stored n ≡ Some g → IsPartMarked widths marks g.ty)
      → (left : ℕ) → left_to_search marks opened ≡ left → (marks_after : List Bool) (opened_after : List ℕ) → MarksPart widths f.ty marks opened marks_after opened_after
      → IsSearch structures widths root marks_after (opened_after ++ number ∷ [])
      × ((n : ℕ) (g : Field) → n < i + 1 → slice_get stored n ≡ Some g → IsPartMarked widths marks_after g.ty)
      × (left_to_search marks_after opened_after ≡ left)
  after_part s stored i f at same at_i before left is marks_after opened_after (inl skipped) =
      rw (skipped.0, skipped.1) (search, part_skipped stored i f at_i before skipped.2, is)
  after_part s stored i f at same at_i before left is marks_after opened_after (inr marked) =
      let j = marked.0 in
      let holds : HoldsDirectly structures number j = (s, f, i, at, ap (λ fields. slice_get fields i) (sym same) ∙ at_i, marked.1.0) in
      rw (marked.2, marked.3) (marked_search j holds marked.1.1, part_marked j holds marked.1.1 stored i f at_i marked.1.0 before, same_left j holds marked.1.1 ∙ is)

  -- ---- all stored properties are looked at
  pub number_done : (stored : List Field) (s : Structure) → slice_get structures number ≡ Some s → stored ≡ s.stored
      → ((n : ℕ) (g : Field) → n < length stored → slice_get stored n ≡ Some g → IsPartMarked widths marks g.ty) → IsSearch structures widths root marks opened
  number_done stored s at same all = record {
    many = search.many;
    held = search.held;
    opens = λ k listed. search.opens k (listed.0, at_front opened (number ∷ []) listed.0 k listed.1);
    root_through = left root search.root_through;
    through = λ k marked. left k (search.through k marked);
  }
    where
      number_through : IsThrough structures widths marks number
      number_through j holds untold =
          let one : holds.0 ≡ s = let e = holds.3 in cc in
          let at_stored : slice_get stored holds.2 ≡ Some holds.1 = ap (λ fields. slice_get fields holds.2) (same ∙ ap (λ (s : Structure). s.stored) (sym one)) ∙ holds.4 in
          all holds.2 holds.1 (slice_get_within stored holds.2 holds.1 at_stored) at_stored j holds.5 untold

      front : (k i : ℕ) → (slice_get opened i ≡ Some k) ⊎ ((i ≡ length opened) × (k ≡ number)) → IsListed opened k ⊎ IsThrough structures widths marks k
      front k i (inl at) = inl (i, at)
      front k i (inr last) = inr (subst (λ n. IsThrough structures widths marks n) (sym last.1) number_through)

      left : (k : ℕ) → IsListed (opened ++ number ∷ []) k ⊎ IsThrough structures widths marks k → IsListed opened k ⊎ IsThrough structures widths marks k
      left k (inl listed) = front k listed.0 (front_or_last opened number listed.0 k listed.1)
      left k (inr is) = inr is
