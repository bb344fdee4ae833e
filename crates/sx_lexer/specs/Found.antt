-- What the functions find at a place.
use Rattle.std.specs.Prelude.{◌≡◌, ℕ, ◌<◌, ◌≤◌, List, [], length}
use Rattle.sx_lexer.specs.declared.place.Place.{Place}
use Rattle.sx_lexer.specs.declared.texts.Spelling.{Spelling}
use Rattle.sx_lexer.specs.declared.texts.Spelling.TheVariants as spellings
use Rattle.sx_lexer.specs.Lexis.{Spells, BadEscapeAt, Space, Token, Faulty, piece, quoted, after}
use Rattle.sx_lexer.specs.declared.next.Found.{Found}
use Rattle.sx_lexer.specs.declared.next.Found.TheVariants as found

-- a place no earlier than the other
abbrev pub IsLater : List ℕ → Place → Type 0
IsLater s p = length p.rest.now ≤ length s

-- what the text literal that is open at a place stands for, and where it ends, or its first bad escape
abbrev pub IsSpelling : List ℕ → Spelling → Type 0
IsSpelling s (spellings.Text v r) = Spells s r.rest.now v.items × IsLater s r
IsSpelling s (spellings.Bad p) = BadEscapeAt s p.rest.now × IsLater s p

-- the second place is one character behind the first
pub record Follows (p q : Place) : Type 0 where
  pub next : q.rest.now ≡ after p.rest.now
  pub shorter : length q.rest.now < length p.rest.now
  pub fewer_bytes : length q.bytes.now ≤ length p.bytes.now

-- a place behind the other
abbrev pub IsBehind : List ℕ → Place → Type 0
IsBehind s p = length p.rest.now < length s

-- what stands at a place, and where what is found there ends or is faulty
abbrev pub IsFound : List ℕ → Found → Type 0
IsFound s found.Nothing = s ≡ []
IsFound s (found.Space p b) = Space s p.rest.now b × IsBehind s p
IsFound s (found.Token k p) = Token s p.rest.now (piece k) × IsBehind s p
IsFound s (found.Text v p) = Token s p.rest.now (quoted v.items) × IsBehind s p
IsFound s (found.Fault k p) = Faulty s k p.rest.now × IsLater s p
