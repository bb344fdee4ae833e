-- What holds of the tokens of a text.
use Rattle.std.specs.Prelude.{◌≢◌, ℕ, ◌<◌, ◌≤◌, ◌^◌, List, [], ◌∷◌, map, All, AllPairs, slice_index_or, Vec}
use Rattle.std.specs.Global.{Global}
use Rattle.std.specs.Coded.{×_prop, Π_prop, →_prop, Unit-prop, le_prop}
use Rattle.sx_token.specs.declared.kinds.Token.{Token}
use Rattle.sx_token.specs.declared.kinds.Kind.{Kind}
use Rattle.sx_token.specs.declared.kinds.Kind.TheVariants as kinds

-- the lists in a list of vectors
abbrev pub contents : List (Vec ℕ Global) → List (List ℕ)
contents vs = map (λ v. v.items) vs

-- tokens of at least one byte, each behind the one before it, from a place up to the end
abbrev pub RiseTo : ℕ → ℕ → List Token → Type 0
RiseTo end at [] = at ≤ end
RiseTo end at (t ∷ ts) = ((at ≤ t.span.start) × (t.span.start < t.span.end)) × RiseTo end t.span.end ts

pub RiseTo-prop : (end at : ℕ) (ts : List Token) → IsProp (RiseTo end at ts)
RiseTo-prop end at [] = le_prop
RiseTo-prop end at (t ∷ ts) = ×_prop (×_prop le_prop le_prop) (RiseTo-prop end t.span.end ts)

-- a kind that refers to one of so many texts and names, or to an integer that fits
abbrev pub IsKind : ℕ → ℕ → Kind → Type 0
IsKind texts names (kinds.Name k) = k < names
IsKind texts names kinds.Underscore = Unit {0}
IsKind texts names (kinds.Keyword w) = Unit {0}
IsKind texts names kinds.Reserved = Unit {0}
IsKind texts names (kinds.Int n) = n < 2 ^ 63
IsKind texts names kinds.IntMin = Unit {0}
IsKind texts names (kinds.Text k) = k < texts
IsKind texts names (kinds.Op o) = Unit {0}
IsKind texts names (kinds.Mark m) = Unit {0}

IsKind-prop : (texts names : ℕ) (k : Kind) → IsProp (IsKind texts names k)
IsKind-prop texts names (kinds.Name k) = le_prop
IsKind-prop texts names kinds.Underscore = Unit-prop
IsKind-prop texts names (kinds.Keyword w) = Unit-prop
IsKind-prop texts names kinds.Reserved = Unit-prop
IsKind-prop texts names (kinds.Int n) = le_prop
IsKind-prop texts names kinds.IntMin = Unit-prop
IsKind-prop texts names (kinds.Text k) = le_prop
IsKind-prop texts names (kinds.Op o) = Unit-prop
IsKind-prop texts names (kinds.Mark m) = Unit-prop

pub Kinds-prop : (texts names : ℕ) (ts : List Token) → IsProp (All (λ t. IsKind texts names t.kind) ts)
Kinds-prop texts names ts = Π_prop (λ k. Π_prop (λ d. →_prop (IsKind-prop texts names (slice_index_or ts k d).kind)))

-- no two names are the same
abbrev pub AreDistinct : List (List ℕ) → Type 0
AreDistinct names = AllPairs (λ v w. v ≢ w) names
