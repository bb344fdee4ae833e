-- Chains of operators and parts behind an operand: each front is code by itself, whose nodes stand in those of the whole.
use Rattle.std.proofs.Common.{◌≡◌, ℕ, zero, suc, ◌+◌, ◌-◌, ◌≤◌, ◌<◌, List, [], ◌∷◌, ◌++◌, map, length, take, drop, replicate, slice_get, Option, Some, None, refl, sym, ap, subst, ◌∙◌, arith, length-append, append_assoc, append-nil, option_map}
use Rattle.std.proofs.lemmas.List.{length-drop, length-map, length-replicate, take_all, take-append-drop}
use Rattle.std.proofs.lemmas.Option.{none-some, same_Some, slice_get_within, slice_get-map}
use Rattle.sx_span.specs.declared.places.Span.{Span}
use Rattle.sx_tree.specs.declared.nodes.FaultOf.{FaultOf}
use Rattle.sx_tree.specs.declared.written_types.Name.{Name}
use Rattle.sx_tree.specs.declared.code.Expr.{Expr, roll-Expr}
use Rattle.sx_tree.specs.declared.code.ExprForm.{ExprForm}
use Rattle.sx_tree.specs.declared.code.ExprForm.TheVariants as forms
use Rattle.sx_tree.specs.declared.code.Link.{Link, out-Link}
use Rattle.sx_tree.specs.declared.code.Part.{Part, Part-F, out-Part}
use Rattle.sx_tree.specs.declared.code.Part.TheVariants as parts
use Rattle.sx_tree.specs.Nodes.{Places, PartNodes, all, expr_places, form_places, link_places, own_of_links, part_nodes, part_step}
use Rattle.sx_nodes.specs.declared.code.Code.{Code}
use Rattle.sx_nodes.specs.declared.code.Code.TheVariants as code
use Rattle.sx_nodes.specs.Pieces.{Piece, Level, a_front, fronts, in_parts, part_fronts, uncalled, uncalled_level}
use Rattle.sx_nodes.proofs.Fronts.{chain_at, chains, chains_length, postfixes}
use Rattle.sx_node_places.specs.Places.{code_places, StandFrom}
use Rattle.sx_node_places.proofs.Lists.{all-append, front_stands, none_within, take_next}
use Rattle.sx_node_places.proofs.Layers.{chain_is, link_is, made_expr_is, member_is, part_is, placed_part, postfix_is}
use Rattle.sx_node_places.proofs.Placed.{Splits, placed_first, placed_map}
use Rattle.sx_node_places.proofs.Behind.{in_parts_placed, inner_places, inner_places_next, own_count, own_counts, own_counts_next, own_of_parts_are}

-- a front as code
pub front_code : (s : Span) (f : ExprForm) (c : Code) → Some (a_front s f) ≡ Some (Some c) → code_places c ≡ form_places f s.start
front_code s f c e =
    let same : code.Expression (roll-Expr (record { span = s; form = f })) ≡ c = same_Some (code.Expression (roll-Expr (record { span = s; form = f }))) c (same_Some (a_front s f) (Some c) e) in
    ap code_places (sym same) ∙ made_expr_is s f

-- ---- chains
own_of_links_are : (ls : List Link) (start : ℕ) → own_of_links (map link_places ls) start ≡ replicate (length ls) start
own_of_links_are [] start = refl
own_of_links_are (l ∷ ls) start = ap (λ xs. start ∷ xs) (own_of_links_are ls start)

abbrev pub chain_places : ℕ → Expr → List Link → Places
chain_places start e ls = replicate (length ls) start ++ (expr_places e ++ all (map link_places ls))

pub chain_places_are : (start : ℕ) (e : Expr) (ls : List Link) → form_places (forms.Chain e ls) start ≡ chain_places start e ls
chain_places_are start e ls = chain_is e ls start ∙ ap (λ xs. xs ++ (expr_places e ++ all (map link_places ls))) (own_of_links_are ls start)

-- a chain of the first links stands behind as many nodes as there are further links
front_of_chain : (start : ℕ) (e : Expr) (one two : List Link) → StandFrom (length two) (chain_places start e one) (chain_places start e (one ++ two))
front_of_chain start e one two =
    let count : length two + length one ≡ length (one ++ two) = omega (arith, length-append one two) in
    subst (λ k. StandFrom (length two) (chain_places start e one) (replicate k start ++ (expr_places e ++ all (map link_places (one ++ two))))) count
    (subst (λ xs. StandFrom (length two) (chain_places start e one) (replicate (length two + length one) start ++ (expr_places e ++ xs))) (sym (all-append link_places one two))
    (front_stands start (length two) (length one) (expr_places e) (all (map link_places one)) (all (map link_places two))))

chain_code : (s : Span) (e : Expr) (ls : List Link) (n : ℕ) (c : Code) → slice_get (chains s e (fronts (length ls) ls)) n ≡ Some (Some c) → StandFrom n (code_places c) (chain_places s.start e ls)
chain_code s e ls n c h =
    let count = chains_length s e ls in
    let within : n < length ls = omega (arith, slice_get_within (chains s e (fronts (length ls) ls)) n (Some c) h, count) in
    let one : List Link = take (length ls - n) ls in
    let two : List Link = drop (length ls - n) ls in
    let places : code_places c ≡ chain_places s.start e one = front_code s (forms.Chain e one) c (sym (chain_at s e ls n within) ∙ h) ∙ chain_places_are s.start e one in
    let behind : length two ≡ n = omega (arith, within, length-drop (length ls - n) ls) in
    subst (λ (xs : List Link). StandFrom n (code_places c) (chain_places s.start e xs)) (take-append-drop (length ls - n) ls)
    (subst (λ k. StandFrom k (code_places c) (chain_places s.start e (one ++ two))) behind
    (subst (λ xs. StandFrom (length two) xs (chain_places s.start e (one ++ two))) (sym places) (front_of_chain s.start e one two)))

pub chain_splits : (of : FaultOf) (s : Span) (e : Expr) (ls : List Link) →
    Splits of (chains s e (fronts (length ls) ls)) (Piece.expression e ∷ map (λ l. Piece.expression (out-Link l).operand) ls) (chain_places s.start e ls)
chain_splits of s e ls = (
  replicate (length ls) s.start,
  expr_places e ++ all (map link_places ls),
  refl,
  length-replicate (length ls) s.start ∙ sym (chains_length s e ls),
  placed_first of (Piece.expression e) (map (λ l. Piece.expression (out-Link l).operand) ls) (expr_places e) (all (map link_places ls)) refl
      (placed_map of (λ l. Piece.expression (out-Link l).operand) link_places (λ l. link_is l) ls),
  λ n c h. chain_code s e ls n c h,
)

-- ---- parts behind an operand
-- the nodes of a front stand in those of the whole, behind so many
abbrev IsFront : ℕ → List Part → List Part → Type 0
IsFront n front ps = (more : Places) × (n + own_counts front ≡ own_counts ps) × (inner_places ps ≡ inner_places front ++ more)

is_itself : (ps : List Part) → IsFront 0 ps ps
is_itself ps = ([], omega arith, sym (append-nil (inner_places ps)))

-- with one part more
longer : (n m : ℕ) (front ps : List Part) (p : Part) → n ≡ own_count p + m → IsFront m front ps → IsFront n front (ps ++ p ∷ [])
longer n m front ps p i (more, count, inner) = (
  more ++ (part_nodes p).inner,
  omega (arith, i, count, own_counts_next ps p),
  inner_places_next ps p ∙ ap (λ xs. xs ++ (part_nodes p).inner) inner ∙ append_assoc (inner_places front) more (part_nodes p).inner,
)

-- how many nodes a part makes at the operand's place
counted : (p : Part) (x : Level Part-F) → out-Part p ≡ x → own_count p ≡ length ((part_step (placed_part x)).own 0)
counted p x e = ap (λ (y : PartNodes). length (y.own 0)) (part_is p ∙ ap (λ y. part_step (placed_part y)) e)

uncalled_is_front : (before : List Part) (p : Part) (end : ℕ) (x : Name) → own_count p ≡ 2 → IsFront 1 (before ++ parts.Member end x None ∷ []) (before ++ p ∷ [])
uncalled_is_front before p end x two =
    let member : Part = parts.Member end x None in
    let one : own_count member ≡ 1 = ap (λ (y : PartNodes). length (y.own 0)) (member_is end x) in
    let nothing : (part_nodes member).inner ≡ [] = ap (λ (y : PartNodes). y.inner) (member_is end x) in (
      (part_nodes p).inner,
      omega (arith, one, two, own_counts_next before p, own_counts_next before member),
      inner_places_next before p ∙ ap (λ xs. xs ++ (part_nodes p).inner) (sym (inner_places_next before member ∙ ap (λ xs. inner_places before ++ xs) nothing ∙ append-nil (inner_places before))),
    )

-- the fronts that end at a part and aren't the longest, and those before it
behind_longest : (before : List Part) (p : Part) (x : Level Part-F) (rest : List (List Part)) (n : ℕ) (front : List Part) → out-Part p ≡ x →
    ((m : ℕ) → slice_get rest m ≡ Some front → IsFront m front before) → slice_get (uncalled_level before x ++ rest) n ≡ Some front → IsFront (suc n) front (before ++ p ∷ [])
behind_longest before p (Part-F.Member end y None) rest n front e h i = longer (suc n) n front before p (omega (arith, counted p (Part-F.Member end y None) e)) (h n i)
behind_longest before p (Part-F.Member end y (Some c)) rest zero front e h i =
    subst (λ f. IsFront 1 f (before ++ p ∷ [])) (same_Some (before ++ parts.Member end y None ∷ []) front i) (uncalled_is_front before p end y (counted p (Part-F.Member end y (Some c)) e))
behind_longest before p (Part-F.Member end y (Some c)) rest (suc n) front e h i =
    longer (suc (suc n)) n front before p (omega (arith, counted p (Part-F.Member end y (Some c)) e)) (h n i)
behind_longest before p (Part-F.Index end es) rest n front e h i = longer (suc n) n front before p (omega (arith, counted p (Part-F.Index end es) e)) (h n i)
behind_longest before p (Part-F.Call end as_ c) rest n front e h i = longer (suc n) n front before p (omega (arith, counted p (Part-F.Call end as_ c) e)) (h n i)

next_front : (ps : List Part) (k n : ℕ) (front : List Part) (o : Option Part) → suc k ≤ length ps → slice_get ps k ≡ o →
    ((m : ℕ) → slice_get (part_fronts k ps) m ≡ Some front → IsFront m front (take k ps)) → slice_get (uncalled (take k ps) o ++ part_fronts k ps) n ≡ Some front → IsFront (suc n) front (take (suc k) ps)
next_front ps k n front None l e h i = none_within ps k (omega (arith, l)) e
next_front ps k n front (Some p) l e h i =
    subst (λ (xs : List Part). IsFront (suc n) front xs) (sym (take_next ps k p e)) (behind_longest (take k ps) p (out-Part p) (part_fronts k ps) n front refl h i)

is_front : (ps : List Part) (k n : ℕ) (front : List Part) → k ≤ length ps → slice_get (part_fronts k ps) n ≡ Some front → IsFront n front (take k ps)
is_front ps zero n front l e = absurd (none-some front e)
is_front ps (suc k) zero front l e = subst (λ (f : List Part). IsFront 0 f (take (suc k) ps)) (same_Some (take (suc k) ps) front e) (is_itself (take (suc k) ps))
is_front ps (suc k) (suc n) front l e = next_front ps k n front (slice_get ps k) l refl (λ m i. is_front ps k m front (omega (arith, l)) i) e

uncalled_count : (before : List Part) (p : Part) (x : Level Part-F) → out-Part p ≡ x → suc (length (uncalled_level before x)) ≡ own_count p
uncalled_count before p (Part-F.Member end y None) e = omega (arith, counted p (Part-F.Member end y None) e)
uncalled_count before p (Part-F.Member end y (Some c)) e = omega (arith, counted p (Part-F.Member end y (Some c)) e)
uncalled_count before p (Part-F.Index end es) e = omega (arith, counted p (Part-F.Index end es) e)
uncalled_count before p (Part-F.Call end as_ c) e = omega (arith, counted p (Part-F.Call end as_ c) e)

next_count : (ps : List Part) (k : ℕ) (o : Option Part) → suc k ≤ length ps → slice_get ps k ≡ o → length (part_fronts k ps) ≡ own_counts (take k ps) →
    suc (length (uncalled (take k ps) o ++ part_fronts k ps)) ≡ own_counts (take (suc k) ps)
next_count ps k None l e h = none_within ps k (omega (arith, l)) e
next_count ps k (Some p) l e h =
    let more : List (List Part) = uncalled_level (take k ps) (out-Part p) in
    let all_of : own_counts (take (suc k) ps) ≡ own_counts (take k ps) + own_count p = ap own_counts (take_next ps k p e) ∙ own_counts_next (take k ps) p in
    omega (arith, all_of, h, uncalled_count (take k ps) p (out-Part p) refl, length-append more (part_fronts k ps))

fronts_count : (ps : List Part) (k : ℕ) → k ≤ length ps → length (part_fronts k ps) ≡ own_counts (take k ps)
fronts_count ps zero l = refl
fronts_count ps (suc k) l = next_count ps k (slice_get ps k) l refl (fronts_count ps k (omega (arith, l)))

abbrev pub postfix_places : ℕ → Expr → List Part → Places
postfix_places start e ps = replicate (own_counts ps) start ++ (expr_places e ++ inner_places ps)

pub postfix_places_are : (start : ℕ) (e : Expr) (ps : List Part) → form_places (forms.Postfix e ps) start ≡ postfix_places start e ps
postfix_places_are start e ps = postfix_is e ps start ∙ ap (λ xs. xs ++ (expr_places e ++ inner_places ps)) (own_of_parts_are ps start)

front_of_parts : (start n : ℕ) (e : Expr) (front ps : List Part) → IsFront n front ps → StandFrom n (postfix_places start e front) (postfix_places start e ps)
front_of_parts start n e front ps (more, count, inner) =
    subst (λ k. StandFrom n (postfix_places start e front) (replicate k start ++ (expr_places e ++ inner_places ps))) count
    (subst (λ xs. StandFrom n (postfix_places start e front) (replicate (n + own_counts front) start ++ (expr_places e ++ xs))) (sym inner)
    (front_stands start n (own_counts front) (expr_places e) (inner_places front) more))

postfix_code : (s : Span) (e : Expr) (ps : List Part) (n : ℕ) (c : Code) (o : Option (List Part)) → slice_get (part_fronts (length ps) ps) n ≡ o →
    option_map (a_front s) (option_map (λ front. forms.Postfix e front) o) ≡ Some (Some c) → StandFrom n (code_places c) (postfix_places s.start e ps)
postfix_code s e ps n c None i h = absurd (none-some (Some c) h)
postfix_code s e ps n c (Some front) i h =
    let places : code_places c ≡ postfix_places s.start e front = front_code s (forms.Postfix e front) c h ∙ postfix_places_are s.start e front in
    let found : IsFront n front ps = subst (λ (xs : List Part). IsFront n front xs) (take_all (length ps) ps (omega arith)) (is_front ps (length ps) n front (omega arith) i) in
    subst (λ xs. StandFrom n xs (postfix_places s.start e ps)) (sym places) (front_of_parts s.start n e front ps found)

pub postfix_splits : (of : FaultOf) (s : Span) (e : Expr) (ps : List Part) →
    Splits of (postfixes s e (part_fronts (length ps) ps)) (Piece.expression e ∷ in_parts ps) (postfix_places s.start e ps)
postfix_splits of s e ps =
    let fs : List (List Part) = part_fronts (length ps) ps in
    let count : length fs ≡ own_counts ps = fronts_count ps (length ps) (omega arith) ∙ ap own_counts (take_all (length ps) ps (omega arith)) in (
      replicate (own_counts ps) s.start,
      expr_places e ++ inner_places ps,
      refl,
      length-replicate (own_counts ps) s.start ∙ sym (length-map (map (λ front. forms.Postfix e front) fs) (a_front s) ∙ length-map fs (λ front. forms.Postfix e front) ∙ count),
      placed_first of (Piece.expression e) (in_parts ps) (expr_places e) (inner_places ps) refl (in_parts_placed of ps),
      λ n c h. postfix_code s e ps n c (slice_get fs n) refl
          (sym (slice_get-map (a_front s) (map (λ front. forms.Postfix e front) fs) n ∙ ap (option_map (a_front s)) (slice_get-map (λ front. forms.Postfix e front) fs n)) ∙ h),
    )
