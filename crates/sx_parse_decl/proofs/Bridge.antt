-- What a level that is left, or none, means to a stop.
use Rattle.std.proofs.Common.{◌≡◌, ℕ, zero, suc, ◌&&◌, false, refl, ap, List, length}
use Rattle.sx_grammar.specs.declared.lexemes.Lexeme.{Lexeme}
use Rattle.sx_grammar.specs.Grammar.{Out, fault, misfit, is_none, starts, bracket_classes}
use Rattle.sx_parse_decl.specs.Reading.{blame, Stops}
use Rattle.sx_parse_decl.specs.declared.stop.Stop.{Stop}
use Rattle.sx_parse_decl.specs.declared.stop.Stop.TheVariants as stops

pub some_level : (l : ℕ) → (l ≡ 0 → ⊥) → is_none l ≡ false
some_level zero h = absurd (h refl)
some_level (suc l) h = refl

pub stops_here : (e : Stop) (l : ℕ) (ts : List Lexeme) (o : Out) → e ≡ stops.Fault (length ts) (is_none l && starts bracket_classes ts) → o ≡ fault ts (misfit (is_none l && starts bracket_classes ts)) → Stops e o
stops_here e l ts o p q = rw p (ap blame q)
