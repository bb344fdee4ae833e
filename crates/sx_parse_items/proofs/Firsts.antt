-- How items begin.
use Rattle.std.proofs.Common.{◌≡◌, [], ◌∷◌, true, not, refl}
use Rattle.sx_grammar.specs.Classes.{any}
use Rattle.sx_grammar.specs.Grammar.{first, nullable}
use Rattle.sx_grammar.specs.Rules.{global, variable_head, item, function, function_head, type_declaration, type_head, statement, keyword_statement, expr_statement, expr, conjunction, compare, sum, product, unary, operand, closure_at, postfix, primary}
use Rattle.sx_grammar.specs.declared.lexemes.Sort.TheVariants as sorts
use Rattle.sx_parse_items.specs.Parts.{program_item}

pub first_global : any (sorts.Let ∷ sorts.Var ∷ []) ≡ first global
unfolding global variable_head
first_global = refl

pub first_program_item : any (sorts.Let ∷ sorts.Var ∷ sorts.Func ∷ sorts.Struct ∷ sorts.Class ∷ sorts.If ∷ sorts.While ∷ sorts.Return ∷ sorts.Break ∷ sorts.Continue ∷ sorts.Negate ∷ sorts.Not ∷ sorts.OpenBrace ∷ sorts.OpenObservers ∷ sorts.Int ∷ sorts.True ∷ sorts.False ∷ sorts.SelfWord ∷ sorts.Name ∷ sorts.Get ∷ sorts.Set ∷ sorts.WillSet ∷ sorts.DidSet ∷ sorts.Escaping ∷ sorts.Print ∷ sorts.OpenRound ∷ []) ≡ first program_item
unfolding global variable_head item function function_head type_declaration type_head statement keyword_statement expr_statement expr conjunction compare sum product unary operand closure_at postfix primary
first_program_item = refl

pub item_is_some : not (nullable program_item) ≡ true
unfolding global variable_head item function function_head type_declaration type_head statement keyword_statement expr_statement expr conjunction compare sum product unary operand closure_at postfix primary
item_is_some = refl
