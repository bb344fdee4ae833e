-- A turn of the loop that gathers tokens.
use Rattle.std.proofs.Common.{◌≡◌, ℕ, ◌+◌, ◌≤◌, List, [], ◌∷◌, ◌++◌, length, Bool, true, false, ◌||◌, refl, sym, ap, subst, arith, append_assoc, append-nil, encode_utf8_all, slice_get, Option, Some, None}
use Rattle.sx_token.specs.declared.kinds.Token.{Token}
use Rattle.sx_lexer.specs.Shown.{shown, shown_all, text_in, place_in}
use Rattle.sx_lexer.specs.declared.faults.LexKind.{LexKind}
use Rattle.sx_lexer.specs.Characters.{begins}
use Rattle.sx_lexer.specs.Lexis.{Space, Token as IsToken, Faulty, Lexeme, Lexed, lexed, is_space_behind, Lexes, lexes_end, lexes_space, lexes_token}
use Rattle.sx_lexer.proofs.Fewer.{space_fewer, token_fewer, faulty_fewer}

module _ (start : List ℕ) (line space : Bool) (s : List ℕ) (done : List Lexed) where
  abbrev pub Goes : Type 0
  Goes = (ts : List Lexed) → Lexes line space s ts → Lexes true true start (done ++ ts)

  pub at_end : Goes → s ≡ [] → Lexes true true start done
  at_end g e = subst (λ t. Lexes true true start t) (append-nil done) (g [] (subst (λ t. Lexes line space t []) (sym e) lexes_end))

  pub past_space : Goes → (r : List ℕ) (b : Bool) → Space s r b → (ts : List Lexed) → Lexes (line || b) true r ts → Lexes true true start (done ++ ts)
  past_space g r b h ts x = g ts (lexes_space r b h x)

  pub past_token : Goes → (r : List ℕ) (t : Lexeme) (b : Bool) → b ≡ is_space_behind t → IsToken s r t → (ts : List Lexed) → Lexes false b r ts → Lexes true true start ((done ++ lexed t s r line space ∷ []) ++ ts)
  past_token g r t b e h ts x =
      subst (λ y. Lexes true true start y) (sym (append_assoc done (lexed t s r line space ∷ []) ts))
      (g (lexed t s r line space ∷ ts) (lexes_token h (subst (λ y. Lexes false y r ts) e x)))

-- how the bytes of a place compare
pub space_within : (s r : List ℕ) (b : Bool) (p q : List ℕ) → p ≡ encode_utf8_all s → q ≡ encode_utf8_all r → Space s r b → length q ≤ length p
space_within s r b p q e f h = let i = space_fewer (begins s) s r b h in let g = ap length e in let k = ap length f in omega (arith, i, g, k)

pub token_within : (s r : List ℕ) (t : Lexeme) (p q : List ℕ) → p ≡ encode_utf8_all s → q ≡ encode_utf8_all r → IsToken s r t → length q ≤ length p
token_within s r t p q e f h = let i = token_fewer (begins s) s r t h in let g = ap length e in let k = ap length f in omega (arith, i, g, k)

pub fault_within : (s r : List ℕ) (n : LexKind) (p q : List ℕ) → p ≡ encode_utf8_all s → q ≡ encode_utf8_all r → Faulty s n r → length q ≤ length p
fault_within s r n p q e f h = let i = faulty_fewer (begins s) s r n h in let g = ap length e in let k = ap length f in omega (arith, i, g, k)

-- What the list of tokens shows at a place.

pub count_shown : (names : List (List ℕ)) (end n : ℕ) (ls : List Lexed) → length (shown_all names end n ls) ≡ length ls
count_shown names end n [] = refl
count_shown names end n (l ∷ ls) =
    let i = count_shown names end (n + length (text_in l.lexeme)) ls in
    let g : length (shown names end n l ∷ shown_all names end (n + length (text_in l.lexeme)) ls) ≡ length (l ∷ ls) = omega (arith, i) in g

pub record At (end : ℕ) (ls : List Lexed) (k : ℕ) (t : Token) : Type 0 where
  pub lexed : Lexed
  pub there : slice_get ls k ≡ Some lexed
  pub start : t.span.start ≡ place_in end lexed.from

pub some_same : {X : Type 0} (a b : X) → Some a ≡ Some b → a ≡ b
some_same {X = X} a b h = ap (λ o. elim o as (λ _. X) [ Some x ↦ x | None ↦ a ]) h

pub none_some : {X Y : Type 0} (x : X) → let o : Option X = None in o ≡ Some x → Y
none_some x h = absurd (cc)
