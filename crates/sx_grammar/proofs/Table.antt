-- Each choice of the table is made by one token.
use Rattle.std.proofs.Common.{◌≡◌, ℕ, zero, suc, true, refl}
use Rattle.sx_grammar.specs.Grammar.{within, apart, more, fine, IsFine, bracket_classes}
use Rattle.sx_grammar.specs.Rules.{arrow, any_type, type_parameter, type_parameter_list, type_bracket, parameter_names, parameter_type, parameter, parameter_list, parameter_bracket, subscript_parameter, subscript_parameter_list, subscript_bracket, typed, function_rest, function_head, mutating_head, type_head, variable_head, subscript_head, head, closure_at, trailing, primary, part, parts_behind, postfix, operand, unary, link, links, product, sum, relation, compare, conjunction, expr, bracket, reference, argument, argument_list, indices, block, local, else_part, if_tail, keyword_statement, assigned, expr_statement, statement, separator, block_item, block_items, block_list, others, names_behind, named_signature, from_other, closure_parameter_type, closure_parameter, closure_parameters_behind, first_bracket, first_part, signature_tail, bracket_tail, from_bracket, literal_inside, literal, accessor_name_in_brackets, accessor_name, get_part, accessor_with, accessor_list, observer_list, observed, accessed, initialised, property, plain_separator, value_end, initialised_item, global, subscript_member, method, structure_members, class_members, type_declaration, function, item, program, text_in_brackets, body, tail}

rules_fine : (n : ℕ) → fine tail (body n) ≡ true
unfolding arrow any_type type_parameter type_parameter_list type_bracket parameter_names parameter_type parameter parameter_list parameter_bracket subscript_parameter subscript_parameter_list subscript_bracket typed function_rest function_head mutating_head type_head variable_head subscript_head head closure_at trailing primary part parts_behind postfix operand unary link links product sum relation compare conjunction expr bracket reference argument argument_list indices block local else_part if_tail keyword_statement assigned expr_statement statement separator block_item block_items block_list others names_behind named_signature from_other closure_parameter_type closure_parameter closure_parameters_behind first_bracket first_part signature_tail bracket_tail from_bracket literal_inside literal accessor_name_in_brackets accessor_name get_part accessor_with accessor_list observer_list observed accessed initialised property plain_separator value_end initialised_item global subscript_member method structure_members class_members type_declaration function item program text_in_brackets body tail
rules_fine zero = refl
rules_fine (suc zero) = refl
rules_fine (suc (suc zero)) = refl
rules_fine (suc (suc (suc zero))) = refl
rules_fine (suc (suc (suc (suc zero)))) = refl
rules_fine (suc (suc (suc (suc (suc zero))))) = refl
rules_fine (suc (suc (suc (suc (suc (suc zero)))))) = refl
rules_fine (suc (suc (suc (suc (suc (suc (suc zero))))))) = refl
rules_fine (suc (suc (suc (suc (suc (suc (suc (suc zero)))))))) = refl
rules_fine (suc (suc (suc (suc (suc (suc (suc (suc (suc zero))))))))) = refl
rules_fine (suc (suc (suc (suc (suc (suc (suc (suc (suc (suc zero)))))))))) = refl
rules_fine (suc (suc (suc (suc (suc (suc (suc (suc (suc (suc (suc zero))))))))))) = refl
rules_fine (suc (suc (suc (suc (suc (suc (suc (suc (suc (suc (suc (suc zero)))))))))))) = refl
rules_fine (suc (suc (suc (suc (suc (suc (suc (suc (suc (suc (suc (suc (suc zero))))))))))))) = refl
rules_fine (suc (suc (suc (suc (suc (suc (suc (suc (suc (suc (suc (suc (suc (suc zero)))))))))))))) = refl
rules_fine (suc (suc (suc (suc (suc (suc (suc (suc (suc (suc (suc (suc (suc (suc (suc zero))))))))))))))) = refl
rules_fine (suc (suc (suc (suc (suc (suc (suc (suc (suc (suc (suc (suc (suc (suc (suc (suc n)))))))))))))))) = refl

tails_fine : (n : ℕ) → within (more tail (body n)) (tail n) ≡ true
unfolding arrow any_type type_parameter type_parameter_list type_bracket parameter_names parameter_type parameter parameter_list parameter_bracket subscript_parameter subscript_parameter_list subscript_bracket typed function_rest function_head mutating_head type_head variable_head subscript_head head closure_at trailing primary part parts_behind postfix operand unary link links product sum relation compare conjunction expr bracket reference argument argument_list indices block local else_part if_tail keyword_statement assigned expr_statement statement separator block_item block_items block_list others names_behind named_signature from_other closure_parameter_type closure_parameter closure_parameters_behind first_bracket first_part signature_tail bracket_tail from_bracket literal_inside literal accessor_name_in_brackets accessor_name get_part accessor_with accessor_list observer_list observed accessed initialised property plain_separator value_end initialised_item global subscript_member method structure_members class_members type_declaration function item program text_in_brackets body tail
tails_fine zero = refl
tails_fine (suc zero) = refl
tails_fine (suc (suc zero)) = refl
tails_fine (suc (suc (suc zero))) = refl
tails_fine (suc (suc (suc (suc zero)))) = refl
tails_fine (suc (suc (suc (suc (suc zero))))) = refl
tails_fine (suc (suc (suc (suc (suc (suc zero)))))) = refl
tails_fine (suc (suc (suc (suc (suc (suc (suc zero))))))) = refl
tails_fine (suc (suc (suc (suc (suc (suc (suc (suc zero)))))))) = refl
tails_fine (suc (suc (suc (suc (suc (suc (suc (suc (suc zero))))))))) = refl
tails_fine (suc (suc (suc (suc (suc (suc (suc (suc (suc (suc zero)))))))))) = refl
tails_fine (suc (suc (suc (suc (suc (suc (suc (suc (suc (suc (suc zero))))))))))) = refl
tails_fine (suc (suc (suc (suc (suc (suc (suc (suc (suc (suc (suc (suc zero)))))))))))) = refl
tails_fine (suc (suc (suc (suc (suc (suc (suc (suc (suc (suc (suc (suc (suc zero))))))))))))) = refl
tails_fine (suc (suc (suc (suc (suc (suc (suc (suc (suc (suc (suc (suc (suc (suc zero)))))))))))))) = refl
tails_fine (suc (suc (suc (suc (suc (suc (suc (suc (suc (suc (suc (suc (suc (suc (suc zero))))))))))))))) = refl
tails_fine (suc (suc (suc (suc (suc (suc (suc (suc (suc (suc (suc (suc (suc (suc (suc (suc n)))))))))))))))) = refl

tails_quiet : (n : ℕ) → apart (tail n) bracket_classes ≡ true
unfolding arrow any_type type_parameter type_parameter_list type_bracket parameter_names parameter_type parameter parameter_list parameter_bracket subscript_parameter subscript_parameter_list subscript_bracket typed function_rest function_head mutating_head type_head variable_head subscript_head head closure_at trailing primary part parts_behind postfix operand unary link links product sum relation compare conjunction expr bracket reference argument argument_list indices block local else_part if_tail keyword_statement assigned expr_statement statement separator block_item block_items block_list others names_behind named_signature from_other closure_parameter_type closure_parameter closure_parameters_behind first_bracket first_part signature_tail bracket_tail from_bracket literal_inside literal accessor_name_in_brackets accessor_name get_part accessor_with accessor_list observer_list observed accessed initialised property plain_separator value_end initialised_item global subscript_member method structure_members class_members type_declaration function item program text_in_brackets body tail
tails_quiet zero = refl
tails_quiet (suc zero) = refl
tails_quiet (suc (suc zero)) = refl
tails_quiet (suc (suc (suc zero))) = refl
tails_quiet (suc (suc (suc (suc zero)))) = refl
tails_quiet (suc (suc (suc (suc (suc zero))))) = refl
tails_quiet (suc (suc (suc (suc (suc (suc zero)))))) = refl
tails_quiet (suc (suc (suc (suc (suc (suc (suc zero))))))) = refl
tails_quiet (suc (suc (suc (suc (suc (suc (suc (suc zero)))))))) = refl
tails_quiet (suc (suc (suc (suc (suc (suc (suc (suc (suc zero))))))))) = refl
tails_quiet (suc (suc (suc (suc (suc (suc (suc (suc (suc (suc zero)))))))))) = refl
tails_quiet (suc (suc (suc (suc (suc (suc (suc (suc (suc (suc (suc zero))))))))))) = refl
tails_quiet (suc (suc (suc (suc (suc (suc (suc (suc (suc (suc (suc (suc zero)))))))))))) = refl
tails_quiet (suc (suc (suc (suc (suc (suc (suc (suc (suc (suc (suc (suc (suc zero))))))))))))) = refl
tails_quiet (suc (suc (suc (suc (suc (suc (suc (suc (suc (suc (suc (suc (suc (suc zero)))))))))))))) = refl
tails_quiet (suc (suc (suc (suc (suc (suc (suc (suc (suc (suc (suc (suc (suc (suc (suc zero))))))))))))))) = refl
tails_quiet (suc (suc (suc (suc (suc (suc (suc (suc (suc (suc (suc (suc (suc (suc (suc (suc n)))))))))))))))) = refl

pub is_fine : IsFine body tail
is_fine = record { rules = rules_fine; tails = tails_fine; quiet = tails_quiet }

pub program_fine : fine tail program ≡ true
unfolding arrow any_type type_parameter type_parameter_list type_bracket parameter_names parameter_type parameter parameter_list parameter_bracket subscript_parameter subscript_parameter_list subscript_bracket typed function_rest function_head mutating_head type_head variable_head subscript_head head closure_at trailing primary part parts_behind postfix operand unary link links product sum relation compare conjunction expr bracket reference argument argument_list indices block local else_part if_tail keyword_statement assigned expr_statement statement separator block_item block_items block_list others names_behind named_signature from_other closure_parameter_type closure_parameter closure_parameters_behind first_bracket first_part signature_tail bracket_tail from_bracket literal_inside literal accessor_name_in_brackets accessor_name get_part accessor_with accessor_list observer_list observed accessed initialised property plain_separator value_end initialised_item global subscript_member method structure_members class_members type_declaration function item program text_in_brackets body tail
program_fine = refl

pub head_fine : fine tail head ≡ true
unfolding arrow any_type type_parameter type_parameter_list type_bracket parameter_names parameter_type parameter parameter_list parameter_bracket subscript_parameter subscript_parameter_list subscript_bracket typed function_rest function_head mutating_head type_head variable_head subscript_head head closure_at trailing primary part parts_behind postfix operand unary link links product sum relation compare conjunction expr bracket reference argument argument_list indices block local else_part if_tail keyword_statement assigned expr_statement statement separator block_item block_items block_list others names_behind named_signature from_other closure_parameter_type closure_parameter closure_parameters_behind first_bracket first_part signature_tail bracket_tail from_bracket literal_inside literal accessor_name_in_brackets accessor_name get_part accessor_with accessor_list observer_list observed accessed initialised property plain_separator value_end initialised_item global subscript_member method structure_members class_members type_declaration function item program text_in_brackets body tail
head_fine = refl
