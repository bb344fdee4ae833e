-- The productions between those of the table.
use Rattle.std.specs.Prelude.{[], ◌∷◌}
use Rattle.sx_grammar.specs.declared.lexemes.Mode.{Mode}
use Rattle.sx_grammar.specs.declared.lexemes.Mode.TheVariants as modes
use Rattle.sx_grammar.specs.declared.lexemes.Sort.TheVariants as sorts
use Rattle.sx_grammar.specs.Classes.{any, here}
use Rattle.sx_grammar.specs.Value.{arguments, exprs}
use Rattle.sx_grammar.specs.Grammar.{Grammar, empty, token, both, either, deeper, select, giving}
use Rattle.sx_grammar.specs.Rules.{a_name, argument, argument_in, argument_value, expr, expr_in, is_name, listed, listed_in, optional, reference, trailing, postfix, constant_value, named_value, print_value, bracketed_value, member_value, index_value, call_value, negated, inverted, bracket_rule, text_rule, arguments_rule, indices_rule}

-- Operands.
abbrev pub constant : Grammar
constant = giving constant_value (token (any (sorts.Int ∷ sorts.True ∷ sorts.False ∷ sorts.SelfWord ∷ [])))

abbrev pub named : Mode → Grammar
named m = giving named_value (both (token (any (sorts.Name ∷ sorts.Get ∷ sorts.Set ∷ sorts.WillSet ∷ sorts.DidSet ∷ sorts.Escaping ∷ []))) (trailing m))

abbrev pub printed : Mode → Grammar
printed m = giving print_value (both (token (any (sorts.Print ∷ []))) (either (deeper (any (sorts.OpenText ∷ [])) text_rule) (trailing m)))

abbrev pub bracketed : Grammar
bracketed = giving bracketed_value (deeper (any (sorts.OpenRound ∷ [])) bracket_rule)

-- Parts behind an operand.
abbrev pub member : Mode → Grammar
member m = giving member_value (both (token (any (sorts.Dot ∷ []))) (both a_name (trailing m)))

abbrev pub index : Grammar
index = giving index_value (deeper (here (sorts.OpenSquare ∷ [])) indices_rule)

abbrev pub call : Mode → Grammar
call m = giving call_value (both (deeper (here (sorts.OpenRound ∷ [])) arguments_rule) (trailing m))

-- Signs before an operand.
abbrev pub negation : Mode → Grammar
negation m = giving negated (both (token (any (sorts.Negate ∷ []))) (either (token (any (sorts.LeastInt ∷ []))) (postfix m)))

abbrev pub inversion : Mode → Grammar
inversion m = giving inverted (both (token (any (sorts.Not ∷ []))) (postfix m))

-- Arguments.
abbrev pub labelled_or_plain : Grammar
labelled_or_plain = giving argument_value (select (expr modes.Free) is_name (optional (both (token (any (sorts.Colon ∷ []))) (either reference (expr modes.Free)))) empty)

abbrev pub argument_items : Grammar
argument_items = either (giving (λ v. arguments (listed_in argument_in v)) (listed argument)) (giving (λ v. arguments []) empty)

abbrev pub index_items : Grammar
index_items = giving (λ v. exprs (listed_in expr_in v)) (listed (expr modes.Free))
