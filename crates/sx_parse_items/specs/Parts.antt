-- Parts of productions that have readers of their own.
use Rattle.sx_grammar.specs.Grammar.{Grammar, both, either, many, giving}
use Rattle.sx_grammar.specs.Value.{members}
use Rattle.sx_grammar.specs.Rules.{block, global, item, list_in, member_in, method, method_value, mutating_head, property, row_item, subscript_member}

abbrev pub mutating_method : Grammar
mutating_method = giving method_value (both mutating_head block)

abbrev pub method_or_subscript : Grammar
method_or_subscript = either method subscript_member

abbrev pub structure_member : Grammar
structure_member = either property (either mutating_method method_or_subscript)

abbrev pub class_member : Grammar
class_member = either property method_or_subscript

abbrev pub member_rows : Grammar → Grammar
member_rows member = giving (λ v. members (list_in member_in v)) (many (row_item member))

abbrev pub program_item : Grammar
program_item = either global (row_item item)
