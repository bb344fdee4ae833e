use Rattle.std.proofs.Common.{◌≡◌, ◌++◌, length}
use Rattle.sx_grammar.specs.Lexemes.{lexemes}
use Rattle.sx_token.specs.Sound.{contents}
use Rattle.sx_parse_decl.proofs.lexing.lexemes.Given as goal

abbrev pub invariant-tokens : goal.invariant-tokens
invariant-tokens l = l.lexemes.items ++ lexemes (contents l.names.items) l.rest ≡ lexemes (contents l.names.items) l.tokens

abbrev pub decreases-tokens : goal.decreases-tokens
decreases-tokens l = length l.rest
