use Rattle.std.proofs.Common.{◌≡◌, ◌++◌, [], ◌∷◌, List, length, Result, Ok, Err, IfOk, Bool, false, refl, sym, ap, ◌∙◌, subst, arith, IsTrue, ◌↔◌}
use Rattle.std.proofs.lemmas.List.{length-append}
use Rattle.sx_token.specs.Sound.{contents}
use Rattle.sx_grammar.specs.declared.lexemes.Lexeme.{Lexeme}
use Rattle.sx_grammar.specs.Lexemes.{lexemes}
use Rattle.sx_tree.specs.declared.nodes.NoMemory.{NoMemory}
use Rattle.sx_parse_decl.proofs.Declared.{length_lexemes}
use Rattle.sx_parser.specs.Fronts.{AreFront, IsFront}
use Rattle.sx_parser.proofs.Behind.{as_they_stand, none_behind, by_other, then_other, no_tokens, with_sort}
use Rattle.sx_parser.proofs.fronts.is_front.Goals as goal

denied : (b : Bool) (P Q : Type 0) → b ≡ false → IsTrue b ↔ P → (Q → P) → IsTrue false ↔ Q
denied b P Q e h k = ((λ x. absurd (cc x)), (λ q. sym e ∙ h.1 (k q)))

refuted : (b : Bool) (P Q : Type 0) → b ≡ false → IsTrue b ↔ P → (Q → P) → Q → ⊥
refuted b P Q e h k q = let x = sym e ∙ h.1 (k q) in cc x

same_answer : (r : Result Bool NoMemory) (P Q : Type 0) → (P → Q) → (Q → P) → IfOk r (λ b. IsTrue b ↔ P) → IfOk r (λ b. IsTrue b ↔ Q)
same_answer (Ok b) P Q f g h = ((λ x. f (h.0 x)), (λ q. h.1 (g q)))
same_answer (Err e) P Q f g h = tt

no_items : (ls : List Lexeme) → length ls ≡ 0 → ls ≡ []
no_items [] h = refl
no_items (l ∷ ls) h = absurd (omega (arith, h))

pub are_front-requires : goal.are_front-requires
are_front-requires c =
    let n = length_lexemes (contents c.args.names.now.items) c.args.tokens.now in
    let e = ap (λ (ls : List Lexeme). length ls) (c.as_slice.ensures.value ∙ c.in_ok-lexemes.ensures) in
    record { few = omega (arith, n, e) }

pub returns-then-branch : goal.returns-then-branch
returns-then-branch c =
    let e : c.as_slice.result.now ≡ lexemes (contents c.args.names.now.items) c.args.tokens.now = c.as_slice.ensures.value ∙ c.in_ok-lexemes.ensures in
    ((λ x. as_they_stand (contents c.args.names.now.items) c.args.tokens.now (subst AreFront e (c.in_ok-are_front.ensures.0 c.if-branch.true))), (λ x. refl))

pub returns-in_default : goal.returns-in_default
returns-in_default c =
    let e : c.as_slice.result.now ≡ lexemes (contents c.args.names.now.items) c.args.tokens.now = c.as_slice.ensures.value ∙ c.in_ok-lexemes.ensures in
    let n : c.in_ok-lexemes.lexemes.items ≡ [] = no_items c.in_ok-lexemes.lexemes.items (sym c.in_ok-lexemes.lexemes.ok.0 ∙ c.in_default.ensures.cases.0) in
    denied c.in_ok-are_front.field-0 (AreFront c.as_slice.result.now) (IsFront (contents c.args.names.now.items) c.args.tokens.now) c.if-branch.false c.in_ok-are_front.ensures
    (λ x. subst AreFront (sym e) (no_tokens (contents c.args.names.now.items) c.args.tokens.now (sym c.in_ok-lexemes.ensures ∙ n) x))

pub returns-in_default-other_sort : goal.returns-in_default-other_sort
returns-in_default-other_sort c =
    let e : c.as_slice.result.now ≡ lexemes (contents c.args.names.now.items) c.args.tokens.now = c.as_slice.ensures.value ∙ c.in_ok-lexemes.ensures in
    denied c.in_ok-are_front.field-0 (AreFront c.as_slice.result.now) (IsFront (contents c.args.names.now.items) c.args.tokens.now) c.if-branch.false c.in_ok-are_front.ensures
    (λ x. subst AreFront (sym e) (none_behind (contents c.args.names.now.items) c.args.tokens.now c.pop.new.self.items c.in-Some.field-0 (sym c.in_ok-lexemes.ensures ∙ c.in-Some.ensures.items) (sym c.other_sort.ensures ∙ c.in_default-other_sort.is) x))

pub are_front-requires-2 : goal.are_front-requires-2
are_front-requires-2 c =
    let n = length_lexemes (contents c.args.names.now.items) c.args.tokens.now in
    let e : length (lexemes (contents c.args.names.now.items) c.args.tokens.now) ≡ length (c.pop.new.self.items ++ c.in-Some.field-0 ∷ []) = ap (λ (ls : List Lexeme). length ls) (sym c.in_ok-lexemes.ensures ∙ c.in-Some.ensures.items) in
    let l = with_sort c.in-Some.field-0 c.in-Some-other_sort.sort in
    let f : length c.as_slice-2.result.now ≡ length (c.pop.new.self.items ++ l ∷ []) = ap (λ (ls : List Lexeme). length ls) (c.as_slice-2.ensures.value ∙ c.in_ok-push.ensures.items) in
    let a = length-append c.pop.new.self.items (c.in-Some.field-0 ∷ []) in
    let b = length-append c.pop.new.self.items (l ∷ []) in
    record { few = omega (arith, n, e, f, a, b) }

pub returns : goal.returns
returns c =
    let names = contents c.args.names.now.items in
    let e : c.as_slice.result.now ≡ lexemes names c.args.tokens.now = c.as_slice.ensures.value ∙ c.in_ok-lexemes.ensures in
    let ends : lexemes names c.args.tokens.now ≡ c.pop.new.self.items ++ c.in-Some.field-0 ∷ [] = sym c.in_ok-lexemes.ensures ∙ c.in-Some.ensures.items in
    let l = with_sort c.in-Some.field-0 c.in-Some-other_sort.sort in
    let s : c.as_slice-2.result.now ≡ c.pop.new.self.items ++ l ∷ [] = c.as_slice-2.ensures.value ∙ c.in_ok-push.ensures.items in
    same_answer c.are_front-2.result (AreFront c.as_slice-2.result.now) (IsFront names c.args.tokens.now)
    (λ x. by_other names c.args.tokens.now c.pop.new.self.items c.in-Some.field-0 c.in-Some-other_sort.sort ends (sym c.in-Some-other_sort.ensures) (subst AreFront s x))
    (λ x. subst AreFront (sym s) (then_other names c.args.tokens.now c.pop.new.self.items c.in-Some.field-0 c.in-Some-other_sort.sort ends (sym c.in-Some-other_sort.ensures)
    (λ y. refuted c.in_ok-are_front.field-0 (AreFront c.as_slice.result.now) (AreFront (lexemes names c.args.tokens.now)) c.if-branch.false c.in_ok-are_front.ensures (λ z. subst AreFront (sym e) z) y) x))
    c.are_front-2.ensures
