-- Where chains of parts and of operands end.
use Rattle.std.proofs.Common.{◌≡◌, ℕ, ◌+◌, ◌-◌, ◌≤◌, List, [], ◌∷◌, ◌++◌, length, take, get_or, arith, refl, sym, ap, ◌∙◌}
use Rattle.std.proofs.lemmas.List.{take_more, take_all}
use Rattle.sx_tree.specs.declared.code.Expr.{Expr}
use Rattle.sx_tree.specs.declared.code.ExprForm.TheVariants as forms
use Rattle.sx_tree.specs.declared.code.Link.{Link}
use Rattle.sx_tree.specs.declared.code.Part.{Part}
use Rattle.sx_grammar.specs.Rules.{chained, last_link, last_part, part_end, postfixed}

-- a list up to its last item
last_split : {X : Type 0} (xs : List X) (x : X) → 1 ≤ length xs → x ≡ get_or xs (length xs - 1) x → xs ≡ take (length xs - 1) xs ++ x ∷ []
last_split xs x h e =
    let n : (length xs - 1) + 1 ≡ length xs = omega (arith, h) in
    sym (take_all (length xs) xs (omega arith)) ∙ ap (λ (k : ℕ). take k xs) (sym n) ∙ take_more xs (length xs - 1) x (omega (arith, h)) ∙ ap (λ y. take (length xs - 1) xs ++ y ∷ []) (sym e)

last_part_behind : (end : ℕ) (ps : List Part) (p : Part) → last_part end (ps ++ p ∷ []) ≡ part_end p
last_part_behind end [] p = refl
last_part_behind end (q ∷ ps) p = last_part_behind (part_end q) ps p

pub last_part_is : (ps : List Part) (p : Part) → 1 ≤ length ps → p ≡ get_or ps (length ps - 1) p → part_end p ≡ last_part 0 ps
last_part_is ps p h e = sym (ap (λ (qs : List Part). last_part 0 qs) (last_split ps p h e) ∙ last_part_behind 0 (take (length ps - 1) ps) p)

pub postfixed_is : (e : Expr) (ps : List Part) → (ps ≡ [] → ⊥) → postfixed e ps ≡ record { span = record { start = e.span.start; end = last_part 0 ps }; form = forms.Postfix e ps }
postfixed_is e [] h = absurd (h refl)
postfixed_is e (p ∷ ps) h = refl

last_link_behind : (end : ℕ) (ls : List Link) (l : Link) → last_link end (ls ++ l ∷ []) ≡ l.operand.span.end
last_link_behind end [] l = refl
last_link_behind end (k ∷ ls) l = last_link_behind k.operand.span.end ls l

pub last_link_is : (ls : List Link) (l : Link) → 1 ≤ length ls → l ≡ get_or ls (length ls - 1) l → l.operand.span.end ≡ last_link 0 ls
last_link_is ls l h e = sym (ap (λ (ks : List Link). last_link 0 ks) (last_split ls l h e) ∙ last_link_behind 0 (take (length ls - 1) ls) l)

pub chained_is : (e : Expr) (ls : List Link) → (ls ≡ [] → ⊥) → chained e ls ≡ record { span = record { start = e.span.start; end = last_link 0 ls }; form = forms.Chain e ls }
chained_is e [] h = absurd (h refl)
chained_is e (l ∷ ls) h = refl
