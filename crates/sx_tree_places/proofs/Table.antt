-- Each rule behind a token that opens a level makes something placed of what is placed.
use Rattle.std.proofs.Common.{ℕ, zero, suc}
use Rattle.sx_grammar.specs.Rules.{body, text_in_brackets}
use Rattle.sx_tree_places.proofs.Keeps.{Keeps}
use Rattle.sx_tree_places.proofs.TypeRules.{keeps_any_type, keeps_parameter_bracket, keeps_subscript_bracket, keeps_type_bracket}
use Rattle.sx_tree_places.proofs.ExprRules.{keeps_argument_list, keeps_bracket, keeps_indices}
use Rattle.sx_tree_places.proofs.StatementRules.{keeps_block_list, keeps_if_tail}
use Rattle.sx_tree_places.proofs.SignatureRules.{keeps_first_bracket}
use Rattle.sx_tree_places.proofs.LiteralRules.{keeps_literal}
use Rattle.sx_tree_places.proofs.VariableRules.{keeps_accessor_list, keeps_accessor_name_in_brackets, keeps_observer_list}
use Rattle.sx_tree_places.proofs.ItemRules.{keeps_class_members, keeps_structure_members}

module _ (P : ℕ → Type 0) (least : P 0) where
  keeps_text_in_brackets : Keeps P text_in_brackets
  unfolding text_in_brackets
  keeps_text_in_brackets = (tt, tt)

  pub keeps_body : (n : ℕ) → Keeps P (body n)
  unfolding body
  keeps_body zero = keeps_bracket P least
  keeps_body (suc zero) = keeps_argument_list P least
  keeps_body (suc (suc zero)) = keeps_indices P least
  keeps_body (suc (suc (suc zero))) = keeps_literal P least
  keeps_body (suc (suc (suc (suc zero)))) = keeps_block_list P least
  keeps_body (suc (suc (suc (suc (suc zero))))) = keeps_structure_members P least
  keeps_body (suc (suc (suc (suc (suc (suc zero)))))) = keeps_class_members P least
  keeps_body (suc (suc (suc (suc (suc (suc (suc zero))))))) = keeps_accessor_list P least
  keeps_body (suc (suc (suc (suc (suc (suc (suc (suc zero)))))))) = keeps_observer_list P least
  keeps_body (suc (suc (suc (suc (suc (suc (suc (suc (suc zero))))))))) = keeps_if_tail P least
  keeps_body (suc (suc (suc (suc (suc (suc (suc (suc (suc (suc zero)))))))))) = keeps_any_type P least
  keeps_body (suc (suc (suc (suc (suc (suc (suc (suc (suc (suc (suc zero))))))))))) = keeps_type_bracket P least
  keeps_body (suc (suc (suc (suc (suc (suc (suc (suc (suc (suc (suc (suc zero)))))))))))) = keeps_parameter_bracket P least
  keeps_body (suc (suc (suc (suc (suc (suc (suc (suc (suc (suc (suc (suc (suc zero))))))))))))) = keeps_subscript_bracket P least
  keeps_body (suc (suc (suc (suc (suc (suc (suc (suc (suc (suc (suc (suc (suc (suc zero)))))))))))))) = keeps_accessor_name_in_brackets P least
  keeps_body (suc (suc (suc (suc (suc (suc (suc (suc (suc (suc (suc (suc (suc (suc (suc zero))))))))))))))) = keeps_text_in_brackets
  keeps_body (suc (suc (suc (suc (suc (suc (suc (suc (suc (suc (suc (suc (suc (suc (suc (suc n)))))))))))))))) = keeps_first_bracket P least
