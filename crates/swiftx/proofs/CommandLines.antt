-- Command lines, word by word.
use Rattle.std.proofs.Common.{◌≡◌, inl, inr, ℕ, ◌<◌, ◌≤◌, List, [], ◌∷◌, length, get_or, Option, Some, None, sym, ap, ◌∙◌, subst, refl, arith}
use Rattle.std.specs.Prelude.{IfSome, IfNone, String, string_bytes, codes, bytes_eq, Bool, true, false, not}
use Rattle.std.proofs.lemmas.Slice.Eq.{bytes_eq-Decides}
use Rattle.std.specs.declared.alloc.Global.{Global}
use Rattle.std.proofs.lemmas.Bool.{false≢true}
use Rattle.std.proofs.lemmas.Fmt.{decimal_injective}
use Rattle.swiftx.specs.Commands.{Command, Check, Run, Exec, IsFileName, IsStepLimit, IsLine, IsCommand, default_steps}
use Rattle.swiftx.specs.Words.{texts, meaning, IsNamed, IsNamedAlone}
use Rattle.swiftx.specs.declared.command.Command.{Command as Parsed}
use Rattle.swiftx.proofs.Numerals.{limit_small}

abbrev Word : Type 0
Word = String Global

pub two_words : (ws : List Word) (a b : Word) → 2 ≤ length ws → length ws < 3 → a ≡ get_or ws 0 a → b ≡ get_or ws 1 b → texts ws ≡ string_bytes a ∷ string_bytes b ∷ []
two_words [] a b l h e f = absurd (omega (arith, l))
two_words (x ∷ []) a b l h e f = absurd (omega (arith, l))
two_words (x ∷ y ∷ []) a b l h e f = ap (λ (z : Word). string_bytes z ∷ string_bytes y ∷ []) (sym e) ∙ ap (λ (z : Word). string_bytes a ∷ string_bytes z ∷ []) (sym f)
two_words (x ∷ y ∷ z ∷ ws) a b l h e f = absurd (omega (arith, h))

pub four_words : (ws : List Word) (a b c d : Word) → 4 ≤ length ws → length ws < 5 → a ≡ get_or ws 0 a → b ≡ get_or ws 1 b → c ≡ get_or ws 2 c → d ≡ get_or ws 3 d → texts ws ≡ string_bytes a ∷ string_bytes b ∷ string_bytes c ∷ string_bytes d ∷ []
four_words [] a b c d l h e f g i = absurd (omega (arith, l))
four_words (x ∷ []) a b c d l h e f g i = absurd (omega (arith, l))
four_words (x ∷ y ∷ []) a b c d l h e f g i = absurd (omega (arith, l))
four_words (x ∷ y ∷ z ∷ []) a b c d l h e f g i = absurd (omega (arith, l))
four_words (x ∷ y ∷ z ∷ w ∷ []) a b c d l h e f g i =
    ap (λ (v : Word). string_bytes v ∷ string_bytes y ∷ string_bytes z ∷ string_bytes w ∷ []) (sym e)
    ∙ ap (λ (v : Word). string_bytes a ∷ string_bytes v ∷ string_bytes z ∷ string_bytes w ∷ []) (sym f)
    ∙ ap (λ (v : Word). string_bytes a ∷ string_bytes b ∷ string_bytes v ∷ string_bytes w ∷ []) (sym g)
    ∙ ap (λ (v : Word). string_bytes a ∷ string_bytes b ∷ string_bytes c ∷ string_bytes v ∷ []) (sym i)
four_words (x ∷ y ∷ z ∷ w ∷ v ∷ ws) a b c d l h e f g i = absurd (omega (arith, h))

-- the test of the option's word
option_is : (word : List ℕ) → false ≡ not (bytes_eq word (codes "--steps")) → word ≡ codes "--steps"
option_is word e = (bytes_eq-Decides word (codes "--steps")).0 (by (bytes_eq word (codes "--steps")) e)
  where
    by : (b : Bool) → false ≡ not b → b ≡ true
    by true h = refl
    by false h = h

-- what some words are, where they have two words
pub Short : List (List ℕ) → List ℕ → List ℕ → Type 0
Short words name file = words ≡ name ∷ file ∷ []

pub Long : List (List ℕ) → List ℕ → List ℕ → List ℕ → Type 0
Long words name file number = words ≡ name ∷ file ∷ codes "--steps" ∷ number ∷ []

same_first : (a b x y : List ℕ) → a ∷ x ∷ [] ≡ b ∷ y ∷ [] → (a ≡ b) × (x ≡ y)
same_first a b x y e = (cc, cc)

same_four : (a b x y o p q : List ℕ) → a ∷ x ∷ o ∷ p ∷ [] ≡ b ∷ y ∷ o ∷ q ∷ [] → (a ≡ b) × (x ≡ y) × (p ≡ q)
same_four a b x y o p q e = (cc, cc, cc)

two_is_not_four : (a b x y o p : List ℕ) → a ∷ x ∷ [] ≡ b ∷ y ∷ o ∷ p ∷ [] → ⊥
two_is_not_four a b x y o p e = absurd (omega (arith, ap length e))

short_line : (words : List (List ℕ)) (name file f : List ℕ) (n : ℕ) (known : List ℕ) → Short words name file → (name ≡ known) × IsFileName file × (f ≡ file) × (n ≡ default_steps) → IsLine known words f n
unfolding Short
short_line words name file f n known e h =
    (subst IsFileName (sym h.2) h.1, inl (e ∙ ap (λ x. x ∷ file ∷ []) h.0 ∙ ap (λ x. known ∷ x ∷ []) (sym h.2), h.3))

long_line : (words : List (List ℕ)) (name file number f : List ℕ) (n steps : ℕ) (known : List ℕ) → Long words name file number → IsStepLimit number steps → (name ≡ known) × IsFileName file × (f ≡ file) × (n ≡ steps) → IsLine known words f n
unfolding Long
long_line words name file number f n steps known e limit h =
    (subst IsFileName (sym h.2) h.1, inr (number, e ∙ ap (λ x. x ∷ file ∷ codes "--steps" ∷ number ∷ []) h.0 ∙ ap (λ x. known ∷ x ∷ codes "--steps" ∷ number ∷ []) (sym h.2), subst (λ k. IsStepLimit number k) (sym h.3) limit))

short_back : (words : List (List ℕ)) (name file f : List ℕ) (n : ℕ) (known : List ℕ) → Short words name file → IsLine known words f n → (name ≡ known) × IsFileName file × (f ≡ file) × (n ≡ default_steps)
unfolding Short
short_back words name file f n known e (h, inl p) =
    let s = same_first name known file f (sym e ∙ p.0) in (s.0, subst IsFileName (sym s.1) h, sym s.1, p.1)
short_back words name file f n known e (h, inr p) = absurd (two_is_not_four name known file f (codes "--steps") p.0 (sym e ∙ p.1))

long_back : (words : List (List ℕ)) (name file number f : List ℕ) (n : ℕ) (known : List ℕ) → Long words name file number → IsLine known words f n → (name ≡ known) × IsFileName file × (f ≡ file) × IsStepLimit number n
unfolding Long
long_back words name file number f n known e (h, inl p) = absurd (two_is_not_four known name f file (codes "--steps") number (sym p.0 ∙ e))
long_back words name file number f n known e (h, inr p) =
    let s = same_four name known file f (codes "--steps") number p.0 (sym e ∙ p.1) in (s.0, subst IsFileName (sym s.1) h, sym s.1, subst (λ k. IsStepLimit k n) (sym s.2) p.2)

one_limit : (number : List ℕ) (m n : ℕ) → IsStepLimit number m → IsStepLimit number n → m ≡ n
one_limit number m n p q = decimal_injective m n (limit_small m p.1) (limit_small n q.1) (sym p.0 ∙ q.0)

short_is : (words : List (List ℕ)) (name file : List ℕ) (c : Command) → Short words name file → IsNamedAlone name file c → IsCommand words c
unfolding Short
short_is words name file (Check f) e h = (subst IsFileName (sym h.2) h.1, e ∙ ap (λ x. x ∷ file ∷ []) h.0 ∙ ap (λ x. codes "check" ∷ x ∷ []) (sym h.2))
short_is words name file (Run f n) e h = short_line words name file f n (codes "run") e h
short_is words name file (Exec f n) e h = short_line words name file f n (codes "exec") e h

short_was : (words : List (List ℕ)) (name file : List ℕ) (c : Command) → Short words name file → IsCommand words c → IsNamedAlone name file c
unfolding Short
short_was words name file (Check f) e h = let s = same_first name (codes "check") file f (sym e ∙ h.1) in (s.0, subst IsFileName (sym s.1) h.0, sym s.1)
short_was words name file (Run f n) e h = short_back words name file f n (codes "run") e h
short_was words name file (Exec f n) e h = short_back words name file f n (codes "exec") e h

long_is : (words : List (List ℕ)) (name file number : List ℕ) (steps : ℕ) (c : Command) → Long words name file number → IsStepLimit number steps → IsNamed name file steps c → IsCommand words c
long_is words name file number steps (Check f) e l h = absurd h
long_is words name file number steps (Run f n) e l h = long_line words name file number f n steps (codes "run") e l h
long_is words name file number steps (Exec f n) e l h = long_line words name file number f n steps (codes "exec") e l h

long_was : (words : List (List ℕ)) (name file number : List ℕ) (steps : ℕ) (c : Command) → Long words name file number → IsStepLimit number steps → IsCommand words c → IsNamed name file steps c
unfolding Long
long_was words name file number steps (Check f) e l h = absurd (two_is_not_four (codes "check") name f file (codes "--steps") number (sym h.1 ∙ e))
long_was words name file number steps (Run f n) e l h =
    let b = long_back words name file number f n (codes "run") e h in (b.0, b.1, b.2, one_limit number n steps b.3 l)
long_was words name file number steps (Exec f n) e l h =
    let b = long_back words name file number f n (codes "exec") e h in (b.0, b.1, b.2, one_limit number n steps b.3 l)

-- a name that is another one, and no limit of steps
pub alone_some : (name file : List ℕ) (o : Option Parsed) → IfSome o (λ p. IsNamed name file 200000000 (meaning p)) → IfSome o (λ p. IsNamedAlone name file (meaning p))
unfolding default_steps
alone_some name file None h = tt
alone_some name file (Some p) h = by (meaning p) h
  where
    by : (c : Command) → IsNamed name file 200000000 c → IsNamedAlone name file c
    by (Check f) h = absurd h
    by (Run f n) h = h
    by (Exec f n) h = h

pub alone_none : (name file : List ℕ) (o : Option Parsed) → false ≡ bytes_eq name (codes "check") → IfNone o ((c : Command) → IsNamed name file 200000000 c → ⊥) → IfNone o ((c : Command) → IsNamedAlone name file c → ⊥)
unfolding default_steps
alone_none name file None e h = by
  where
    by : (c : Command) → IsNamedAlone name file c → ⊥
    by (Check f) i = false≢true (e ∙ (bytes_eq-Decides name (codes "check")).1 i.0)
    by (Run f n) i = h (Run f n) i
    by (Exec f n) i = h (Exec f n) i
alone_none name file (Some p) e h = tt

-- what is found for the words, and that nothing else is
pub short_some : (words : List (List ℕ)) (name file : List ℕ) (o : Option Parsed) → words ≡ name ∷ file ∷ [] → IfSome o (λ p. IsNamedAlone name file (meaning p)) → IfSome o (λ p. IsCommand words (meaning p))
unfolding Short default_steps
short_some words name file None e h = tt
short_some words name file (Some p) e h = short_is words name file (meaning p) e h

pub short_none : (words : List (List ℕ)) (name file : List ℕ) (o : Option Parsed) → words ≡ name ∷ file ∷ [] → IfNone o ((c : Command) → IsNamedAlone name file c → ⊥) → IfNone o ((c : Command) → IsCommand words c → ⊥)
unfolding Short default_steps
short_none words name file None e h = λ c i. h c (short_was words name file c e i)
short_none words name file (Some p) e h = tt

pub long_some : (words : List (List ℕ)) (name file number : List ℕ) (steps : ℕ) (o : Option Parsed) → words ≡ name ∷ file ∷ codes "--steps" ∷ number ∷ [] → IsStepLimit number steps → IfSome o (λ p. IsNamed name file steps (meaning p)) → IfSome o (λ p. IsCommand words (meaning p))
unfolding Long
long_some words name file number steps None e l h = tt
long_some words name file number steps (Some p) e l h = long_is words name file number steps (meaning p) e l h

pub long_none : (words : List (List ℕ)) (name file number : List ℕ) (steps : ℕ) (o : Option Parsed) → words ≡ name ∷ file ∷ codes "--steps" ∷ number ∷ [] → IsStepLimit number steps → IfNone o ((c : Command) → IsNamed name file steps c → ⊥) → IfNone o ((c : Command) → IsCommand words c → ⊥)
unfolding Long
long_none words name file number steps None e l h = λ c i. h c (long_was words name file number steps c e l i)
long_none words name file number steps (Some p) e l h = tt

pub no_limit : (words : List (List ℕ)) (name file number : List ℕ) (c : Command) → words ≡ name ∷ file ∷ codes "--steps" ∷ number ∷ [] → ((n : ℕ) → IsStepLimit number n → ⊥) → IsCommand words c → ⊥
unfolding Long
no_limit words name file number (Check f) e none h = absurd (two_is_not_four (codes "check") name f file (codes "--steps") number (sym h.1 ∙ e))
no_limit words name file number (Run f n) e none h = none n (long_back words name file number f n (codes "run") e h).3
no_limit words name file number (Exec f n) e none h = none n (long_back words name file number f n (codes "exec") e h).3

-- four words of which the third is the option
pub four_texts : (ws : List Word) (a b c d : Word) (name file option number : List ℕ) → 4 ≤ length ws → length ws < 5 → a ≡ get_or ws 0 a → b ≡ get_or ws 1 b → c ≡ get_or ws 2 c → d ≡ get_or ws 3 d → name ≡ string_bytes a → file ≡ string_bytes b → option ≡ string_bytes c → number ≡ string_bytes d → false ≡ not (bytes_eq option (codes "--steps")) → texts ws ≡ name ∷ file ∷ codes "--steps" ∷ number ∷ []
four_texts ws a b c d name file option number l h e f g i na fi op nu test =
    four_words ws a b c d l h e f g i
    ∙ ap (λ x. x ∷ string_bytes b ∷ string_bytes c ∷ string_bytes d ∷ []) (sym na)
    ∙ ap (λ x. name ∷ x ∷ string_bytes c ∷ string_bytes d ∷ []) (sym fi)
    ∙ ap (λ x. name ∷ file ∷ x ∷ string_bytes d ∷ []) (sym op ∙ option_is option test)
    ∙ ap (λ x. name ∷ file ∷ codes "--steps" ∷ x ∷ []) (sym nu)
