-- What is in a value whose places have a property has it too: statements and declarations.
use Rattle.std.proofs.Common.{ℕ, []}
use Rattle.sx_tree.specs.declared.code.StatementForm.TheVariants as forms
use Rattle.sx_grammar.specs.Value.{Value, a_statement, statements, a_block, an_accessor, accessors, a_member, members, an_item}
use Rattle.sx_grammar.specs.Rules.{accessor_in, accessors_in, block_in, item_in, member_in, members_in, no_block, no_span, no_statement, statement_in, statements_in}
use Rattle.sx_tree_places.proofs.Each.{Each}
use Rattle.sx_tree_places.proofs.Placed.{AccessorPlaced, BlockPlaced, ItemPlaced, MemberPlaced, Placed, StatementPlaced}
use Rattle.sx_tree_places.proofs.MadeStatements.{block_made, leave, statement_made}

module _ (P : ℕ → Type 0) (least : P 0) where
  no_statement_placed : StatementPlaced P no_statement
  no_statement_placed = statement_made P least no_span forms.Break least (leave P least)

  pub statement_placed : (v : Value) → Placed P v → StatementPlaced P (statement_in v)
  statement_placed (a_statement s) h = h
  statement_placed v h = no_statement_placed

  pub statements_placed : (v : Value) → Placed P v → Each (StatementPlaced P) (statements_in v)
  statements_placed (statements ss) h = h
  statements_placed v h = tt

  pub no_block_placed : BlockPlaced P no_block
  no_block_placed = block_made P least no_span [] least tt

  pub block_placed : (v : Value) → Placed P v → BlockPlaced P (block_in v)
  block_placed (a_block b) h = h
  block_placed v h = no_block_placed

  pub accessor_placed : (v : Value) → Placed P v → AccessorPlaced P (accessor_in v)
  accessor_placed (an_accessor a) h = h
  accessor_placed v h = (tt, no_block_placed.1)

  pub accessors_placed : (v : Value) → Placed P v → Each (AccessorPlaced P) (accessors_in v)
  accessors_placed (accessors xs) h = h
  accessors_placed v h = tt

  pub member_placed : (v : Value) → Placed P v → MemberPlaced P (member_in v)
  member_placed (a_member m) h = h
  member_placed v h = λ of. (least, tt)

  pub members_placed : (v : Value) → Placed P v → Each (MemberPlaced P) (members_in v)
  members_placed (members ms) h = h
  members_placed v h = tt

  pub item_placed : (v : Value) → Placed P v → ItemPlaced P (item_in v)
  item_placed (an_item i) h = h
  item_placed v h = λ of. (least, tt)
