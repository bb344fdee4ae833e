-- A walk into what structures hold, that tells how many words they have.
use Rattle.std.specs.List.{sum_by}
use Rattle.std.specs.Prelude.{◌≡◌, ◌⊎◌, ℕ, ◌+◌, ◌<◌, ◌≤◌, List, map, drop, length, slice_get, Option, Some, None, option_map, option_and_then}
use Rattle.sx_types.specs.declared.types.Field.{Field}
use Rattle.sx_types.specs.declared.types.Structure.{Structure}
use Rattle.sx_types.specs.declared.types.Ty.{Ty}
use Rattle.sx_types.specs.declared.types.Ty.TheVariants.{Struct}
use Rattle.sx_types.specs.Words.{words_by, total, words_of, most_words, if_narrow}
use Rattle.sx_layout.specs.Holding.{HoldsDirectly, Holds}
use Rattle.sx_layout.specs.declared.walking.Progress.{Progress}
use Rattle.sx_layout.specs.declared.walking.Progress.TheVariants.{Unseen, Open, Measured}
use Rattle.sx_layout.specs.declared.walking.Sum.{Sum}
use Rattle.sx_layout.specs.declared.walking.Part.{Part}
use Rattle.sx_layout.specs.declared.walking.Part.TheVariants as part
use Rattle.sx_layout.specs.declared.walking.Found.{Found}
use Rattle.sx_layout.specs.declared.walking.Found.TheVariants as found

-- ---- what is known of each structure
-- structure k stands at this
abbrev pub StandsAt : List Progress → ℕ → Progress → Type 0
StandsAt progress k p = slice_get progress k ≡ Some p

-- structure k is not measured yet
abbrev pub IsUnmeasured : List Progress → ℕ → Type 0
IsUnmeasured progress k = StandsAt progress k Unseen ⊎ StandsAt progress k Open

abbrev pub words_if_measured : Progress → Option ℕ
words_if_measured (Measured words) = words
words_if_measured Unseen = None
words_if_measured Open = None

-- the words of structure k, as far as they are told
abbrev pub words_so_far : List Progress → ℕ → Option ℕ
words_so_far progress k = option_and_then words_if_measured (slice_get progress k)

-- the words of structure k are known, or there is no such structure
abbrev pub IsKnown : List Progress → Option Ty → Type 0
IsKnown progress ty = (k : ℕ) → ty ≡ Some (Struct k) → ¬ IsUnmeasured progress k

-- the words of a stored property, or a structure that must be measured before
abbrev pub PartIs : List Progress → Option Ty → Part → Type 0
PartIs progress ty (part.Words words) = IsKnown progress ty × (words ≡ option_and_then (words_by (words_so_far progress)) ty)
PartIs progress ty (part.Structure k) = (ty ≡ Some (Struct k)) × IsUnmeasured progress k

-- each that is measured has these words
abbrev pub AreRight : List Structure → List Progress → Type 0
AreRight structures progress = (k : ℕ) (words : Option ℕ) → StandsAt progress k (Measured words) → words ≡ option_and_then if_narrow (words_of structures (Struct k))

-- ---- structures whose stored properties are being added up
abbrev pub together : List Structure → List Field → Option ℕ
together structures stored = total (map (λ f. option_and_then (words_of structures) f.ty) stored)

-- the sum so far, with the words of the stored properties that are left, gives that of all
pub record IsSum (structures : List Structure) (sum : Sum) : Type 0 where
  pub holder : Structure
  pub found : slice_get structures sum.structure ≡ Some holder
  pub within : sum.next ≤ length holder.stored
  pub few : sum.words ≤ most_words
  pub adds : together structures holder.stored ≡ option_map (λ rest. sum.words + rest) (together structures (drop sum.next holder.stored))

-- the words of the structure, or where its sum stands and what must be measured before it goes on
abbrev pub FoundIs : List Structure → List Progress → ℕ → Found → Type 0
FoundIs structures progress k (found.Words words) = words ≡ option_and_then if_narrow (words_of structures (Struct k))
FoundIs structures progress k (found.Structure sum j) = (sum.structure ≡ k) × IsSum structures sum × HoldsDirectly structures k j × IsUnmeasured progress j

-- each structure of the chain holds those behind it, and those that are open are in it
pub record IsNested (structures : List Structure) (progress : List Progress) (chain : List ℕ) : Type 0 where
  pub nested : (i j a b : ℕ) → i < j → slice_get chain i ≡ Some a → slice_get chain j ≡ Some b → Holds structures a b
  pub listed : (k : ℕ) → StandsAt progress k Open → (i : ℕ) × (slice_get chain i ≡ Some k)

abbrev pub chain_of : List Sum → List ℕ
chain_of stack = map (λ (sum : Sum). sum.structure) stack

-- each sum in the stack waits for the next
pub record IsWalk (structures : List Structure) (progress : List Progress) (stack : List Sum) : Type 0 where
  pub many : length progress ≡ length structures
  pub right : AreRight structures progress
  pub sums : (i : ℕ) (sum : Sum) → slice_get stack i ≡ Some sum → IsSum structures sum
  pub chain : IsNested structures progress (chain_of stack)

-- what was seen stays so
abbrev pub StaySeen : List Progress → List Progress → Type 0
StaySeen before after = (k : ℕ) → StandsAt after k Unseen → StandsAt before k Unseen

-- each turn of the walk leaves less to do
abbrev pub turns_for : Progress → ℕ
turns_for Unseen = 2
turns_for Open = 0
turns_for (Measured words) = 0

abbrev pub left_to_do : List Progress → List Sum → ℕ
left_to_do progress stack = sum_by turns_for progress + length stack
