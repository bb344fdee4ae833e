-- A text is a program, and then ends.
use Rattle.std.specs.Prelude.{[]}
use Rattle.sx_grammar.specs.Grammar.{Grammar, empty, both, begin, giving}
use Rattle.sx_grammar.specs.Rules.{first_of, program}

unfoldable pub text : Grammar
text = giving first_of (both program (begin [] empty))
