-- Mentions in lists that are joined, and where they lead.
use Rattle.std.proofs.Common.{◌≡◌, ◌⊎◌, inl, inr, ℕ, zero, suc, [], ◌∷◌, ◌++◌, slice_get, Some, subst}
use Rattle.sx_typed.specs.declared.program.Typed.{Typed}
use Rattle.sx_late.specs.Mentions.{Mentions}
use Rattle.sx_late.specs.Reaching.{IsMentioned, Reaches, itself, through}
use Rattle.sx_late.specs.declared.mentions.Mentioned.{Mentioned}
use Rattle.sx_late.specs.declared.mentions.Mentioned.TheVariants.{Function, Global}

pub none_mentioned : (m : Mentioned) → IsMentioned [] m → ⊥
none_mentioned m is = by is.0 is.1
  where
    by : (i : ℕ) → slice_get [] i ≡ Some m → ⊥
    by i e = cc

pub in_right : (xs ys : Mentions) (m : Mentioned) → IsMentioned ys m → IsMentioned (xs ++ ys) m
in_right [] ys m is = is
in_right (x ∷ xs) ys m is = let r = in_right xs ys m is in (suc r.0, r.1)

at_front : (xs ys : Mentions) (i : ℕ) (m : Mentioned) → slice_get xs i ≡ Some m → slice_get (xs ++ ys) i ≡ Some m
at_front [] ys i m e = cc
at_front (x ∷ xs) ys zero m e = e
at_front (x ∷ xs) ys (suc i) m e = at_front xs ys i m e

pub in_left : (xs ys : Mentions) (m : Mentioned) → IsMentioned xs m → IsMentioned (xs ++ ys) m
in_left xs ys m is = (is.0, at_front xs ys is.0 m is.1)

parted : (xs ys : Mentions) (i : ℕ) (m : Mentioned) → slice_get (xs ++ ys) i ≡ Some m → IsMentioned xs m ⊎ IsMentioned ys m
parted [] ys i m e = inr (i, e)
parted (x ∷ xs) ys zero m e = inl (0, e)
parted (x ∷ xs) ys (suc i) m e = by (parted xs ys i m e)
  where
    by : IsMentioned xs m ⊎ IsMentioned ys m → IsMentioned (x ∷ xs) m ⊎ IsMentioned ys m
    by (inl left) = inl (suc left.0, left.1)
    by (inr right) = inr right

pub left_or_right : (xs ys : Mentions) (m : Mentioned) → IsMentioned (xs ++ ys) m → IsMentioned xs m ⊎ IsMentioned ys m
left_or_right xs ys m is = parted xs ys is.0 m is.1

pub alone : (x m : Mentioned) → IsMentioned (x ∷ []) m → x ≡ m
alone x m is = by is.0 is.1
  where
    by : (i : ℕ) → slice_get (x ∷ []) i ≡ Some m → x ≡ m
    by zero e = cc
    by (suc i) e = cc

pub here : (m : Mentioned) → IsMentioned (m ∷ []) m
here m = (0, refl_some)
  where
    refl_some : slice_get (m ∷ []) 0 ≡ Some m
    refl_some = cc

-- ---- more mentions lead to more
pub leads_more : (typed : Typed) (ms more : Mentions) (g : ℕ) → ((m : Mentioned) → IsMentioned ms m → IsMentioned more m) → Reaches typed ms g → Reaches typed more g
leads_more typed ms more g among (itself _ _ is) = itself more g (among (Global g) is)
leads_more typed ms more g among (through _ n _ is rest) = through more n g (among (Function n) is) rest

pub leads_from : (typed : Typed) (ms : Mentions) (m : Mentioned) (g : ℕ) → IsMentioned ms m → Reaches typed (m ∷ []) g → Reaches typed ms g
leads_from typed ms m g is = leads_more typed (m ∷ []) ms g (λ k in_m. subst (λ x. IsMentioned ms x) (alone m k in_m) is)
