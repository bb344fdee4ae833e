-- Each choice of the grammar of a text is made by one token.
use Rattle.std.proofs.Common.{◌≡◌, ℕ, List, [], ◌∷◌, true, refl}
use Rattle.sx_grammar.specs.Grammar.{apart, more, fine}
use Rattle.sx_grammar.specs.Rules.{program, tail}
use Rattle.sx_grammar.proofs.Table.{program_fine}
use Rattle.sx_parser.specs.Text.{text}

apart_none : (xs : List ℕ) → apart xs [] ≡ true
apart_none [] = refl
apart_none (x ∷ xs) = apart_none xs

pub text_fine : fine tail text ≡ true
unfolding text
text_fine = rw program_fine (apart_none (more tail program))
