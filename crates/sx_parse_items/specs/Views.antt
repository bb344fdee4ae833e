-- What readers answer, as values of the grammar.
use Rattle.std.specs.Prelude.{◌≡◌, List, [], ◌∷◌, ◌++◌, Option, Some, None, Result, Ok, Err}
use denote.Ref.{Bor}
use Rattle.sx_grammar.specs.declared.lexemes.Lexeme.{Lexeme}
use Rattle.sx_grammar.specs.Grammar.{Out, done}
use Rattle.sx_parse_decl.specs.Reading.{Stops}
use Rattle.sx_parse_decl.specs.declared.stop.Stop.{Stop}
use Rattle.sx_tree.specs.declared.declarations.Item.{Item}
use Rattle.sx_grammar.specs.Value.{Value, nothing, leaf, pair, an_expr, statements, a_block, accessors, an_item}
use Rattle.sx_grammar.specs.Rules.{block_of}
use Rattle.sx_parse_items.specs.declared.accessors.AccessorList.{AccessorList}
use Rattle.sx_parse_items.specs.declared.accessors.AccessorBraces.{AccessorBraces}
use Rattle.sx_parse_items.specs.declared.accessors.AccessorBraces.TheVariants as braces
use Rattle.sx_parse_items.specs.declared.variables.VariableTail.{VariableTail}
use Rattle.sx_parse_items.specs.declared.variables.VariableTail.TheVariants as tails

-- accessors with the place where they stand
abbrev pub list_value : AccessorList → Value
list_value l = pair (accessors l.accessors) (a_block (block_of l.span []))

abbrev pub list_or_nothing : Option AccessorList → Value
list_or_nothing None = nothing
list_or_nothing (Some l) = list_value l

abbrev pub braces_value : AccessorBraces → Value
braces_value (braces.Written xs) = accessors xs
braces_value (braces.Getter ss) = statements ss

-- what follows the head of a variable
abbrev pub tail_value : VariableTail → Value
tail_value tails.Absent = nothing
tail_value (tails.Accessors l) = list_value l
tail_value (tails.Value sign e l) = pair (leaf sign) (pair (an_expr e) (list_or_nothing l))

-- One more item, and what follows it, are those of a run, unless memory ran out.
abbrev pub Adds : List Item → List Item → Result (Bor (List Lexeme)) Stop → Out → Type 0
Adds old new (Ok rest) o = (item : Item) × (new ≡ old ++ item ∷ []) × (o ≡ done (an_item item) rest.now)
Adds old new (Err e) o = Stops e o
