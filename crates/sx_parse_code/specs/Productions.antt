-- The productions between those of the table.
use Rattle.std.specs.Prelude.{List, [], ◌∷◌}
use Rattle.sx_tree.specs.declared.code.Expr.{Expr}
use Rattle.sx_tree.specs.declared.code.Statement.{Statement}
use Rattle.sx_tree.specs.declared.written_types.ClosureParameter.{ClosureParameter}
use Rattle.sx_tree.specs.declared.written_types.Name.{Name}
use Rattle.sx_tree.specs.declared.written_types.Signature.TheVariants as signatures
use Rattle.sx_grammar.specs.declared.lexemes.Sort.TheVariants as sorts
use Rattle.sx_grammar.specs.declared.lexemes.Mode.TheVariants as modes
use Rattle.sx_grammar.specs.Classes.{any, here}
use Rattle.sx_grammar.specs.Value.{Value, a_literal}
use Rattle.sx_grammar.specs.Grammar.{Grammar, empty, token, both, either, begin, select, giving}
use Rattle.sx_grammar.specs.Rules.{optional, expr, block, if_tail, if_value, while_value, return_value, jump_value, starters, is_name, closure_parameter_type, closure_parameters_behind, local, keyword_statement, literal_of, statement_in, statements_in, names_in, option_in, type_in, first_of, second_of, assigned_of, chained, links_in, postfixed, parts_in, links, compare, conjunction, product, relation, assigned, others}

-- statements by their words
abbrev pub if_from_word : Grammar
if_from_word = giving if_value (both (token (any (sorts.If ∷ []))) if_tail)

abbrev pub while_loop : Grammar
while_loop = giving while_value (both (token (any (sorts.While ∷ []))) (both (expr modes.Condition) block))

abbrev pub returned : Grammar
returned = optional (begin (here starters) (expr modes.Free))

abbrev pub return_from_word : Grammar
return_from_word = giving return_value (both (token (any (sorts.Return ∷ []))) returned)

abbrev pub jump : Grammar
jump = giving jump_value (token (any (sorts.Break ∷ sorts.Continue ∷ [])))

-- The inside of a first bracket where it isn't empty.
abbrev pub in_first_bracket : Grammar
in_first_bracket = select (expr modes.Free) is_name (optional (both closure_parameter_type closure_parameters_behind)) empty

-- Literals by what they begin with: a statement that is no expression, names, a signature in brackets, an expression in brackets.
abbrev pub first_statement : Grammar
first_statement = either local keyword_statement

abbrev pub statement_literal : Grammar
statement_literal = giving (λ v. literal_of (statement_in (first_of v)) (statements_in (second_of v))) (both first_statement others)

abbrev pub with_others : Statement → Value → Value
with_others s v = literal_of s (statements_in v)

abbrev pub with_names : Name → Value → Value
with_names n v = a_literal (signatures.Names (n ∷ names_in (first_of v))) (statements_in (second_of (second_of v)))

abbrev pub with_types : List ClosureParameter → Value → Value
with_types ps v = a_literal (signatures.Typed ps (option_in type_in (second_of (first_of v)))) (statements_in (second_of (second_of v)))

abbrev pub with_assigned : Expr → Value → Value
with_assigned e v = literal_of (statement_in (assigned_of e (first_of v))) (statements_in (second_of v))

abbrev pub with_conditions : Expr → Value → Value
with_conditions e v = with_assigned (chained (chained e (links_in (first_of v))) (links_in (first_of (second_of v)))) (second_of (second_of v))

abbrev pub with_terms : Expr → Value → Value
with_terms e v = with_conditions (chained (chained e (links_in (first_of v))) (links_in (first_of (second_of v)))) (second_of (second_of v))

abbrev pub with_parts : Expr → Value → Value
with_parts e v = with_terms (chained (postfixed e (parts_in (first_of v))) (links_in (first_of (second_of v)))) (second_of (second_of v))

-- What stands behind an operand in brackets that begins a literal, less and less of it.
abbrev pub behind_relation : Grammar
behind_relation = both (links (sorts.And ∷ []) (compare modes.Free)) (both (links (sorts.Or ∷ []) (conjunction modes.Free)) (both assigned others))

abbrev pub behind_product : Grammar
behind_product = both (links (sorts.Plus ∷ sorts.Minus ∷ []) (product modes.Free)) (both (relation modes.Free) behind_relation)
