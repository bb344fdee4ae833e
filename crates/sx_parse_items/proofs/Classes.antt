-- Classes of two lists together.
use Rattle.std.proofs.Common.{◌≡◌, ℕ, List, [], ◌∷◌, ◌++◌, Bool, true, false, ◌||◌, nat_eq, refl, sym, ap, ◌∙◌}
use Rattle.sx_grammar.specs.declared.lexemes.Lexeme.{Lexeme}
use Rattle.sx_grammar.specs.Classes.{class_of}
use Rattle.sx_grammar.specs.Grammar.{has, starts}

either_of : (a b c : Bool) → (a || (b || c)) ≡ ((a || b) || c)
either_of true b c = refl
either_of false b c = refl

has_append : (cs ds : List ℕ) (c : ℕ) → has (cs ++ ds) c ≡ (has cs c || has ds c)
has_append [] ds c = refl
has_append (k ∷ ks) ds c = ap (λ (b : Bool). nat_eq c k || b) (has_append ks ds c) ∙ either_of (nat_eq c k) (has ks c) (has ds c)

starts_append : (cs ds : List ℕ) (ts : List Lexeme) → starts (cs ++ ds) ts ≡ (starts cs ts || starts ds ts)
starts_append cs ds [] = refl
starts_append cs ds (t ∷ ts) = has_append cs ds (class_of t)

pub starts_first : (cs ds : List ℕ) (ts : List Lexeme) → starts cs ts ≡ true → true ≡ starts (cs ++ ds) ts
starts_first cs ds ts h = sym (starts_append cs ds ts ∙ ap (λ (b : Bool). b || starts ds ts) h)

pub starts_second : (cs ds : List ℕ) (ts : List Lexeme) (b : Bool) → starts cs ts ≡ false → b ≡ starts ds ts → b ≡ starts (cs ++ ds) ts
starts_second cs ds ts b h k = k ∙ sym (starts_append cs ds ts ∙ ap (λ (b : Bool). b || starts ds ts) h)
