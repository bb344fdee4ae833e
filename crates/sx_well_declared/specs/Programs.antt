-- What programs are well typed, and what the typed trees of trees are.
use Rattle.std.specs.Prelude.{◌≡◌, List, [], Some, None}
use Rattle.sx_tree.specs.declared.declarations.Item.{Item}
use Rattle.sx_tree.specs.declared.tree.Tree.{Tree}
use Rattle.sx_typed.specs.declared.program.Typed.{Typed}
use Rattle.sx_late.specs.Reaching.{NoneLate}
use Rattle.sx_scope.specs.declared.walk.Walk.{Walk}
use Rattle.sx_heads.specs.Heads.{at}
use Rattle.sx_tables.specs.Names.{no_numbers}
use Rattle.sx_functions.specs.declared.accessing.OwnNames.{OwnNames}
use Rattle.sx_check_decl.specs.declared.items.Blame.TheVariants as blames
use Rattle.sx_check_decl.specs.declared.items.Program.{Program}
use Rattle.sx_check_decl.specs.declared.items.Settled.{Settled}
use Rattle.sx_check_decl.specs.Captures.{crowded}
use Rattle.sx_check_decl.specs.Checked.{IsSettled}
use Rattle.sx_check_decl.specs.Items.{no_program, program}
use Rattle.sx_check_decl.specs.Looks.{IsDecided, plain}
use Rattle.sx_check_decl.specs.Program.{IsTyped}
use Rattle.sx_check_decl.specs.Special.{own_names, special_names}
use Rattle.sx_well_declared.specs.Items.{ItemsDeclared}

-- all items of a program, by what its declarations have settled to
abbrev pub AllDeclared : Settled → OwnNames → List Item → Program → Walk → Type 0
AllDeclared x names is p v = ItemsDeclared x names [] no_numbers (Some 0) is no_program (at 0) p v

-- a program
pub data ProgramDeclared (x : Settled) (names : OwnNames) (is : List Item) : Program → Walk → Type 0 where
  -- Its items are well typed where each declaration counts as failed that stands in a circle.
  a_program : (p : Program) (v : Walk) →
      AllDeclared (plain x) names is p v →
      ProgramDeclared x names is p v
  -- Or no node in them fails so, they aren't well typed, and yet are where what stands in a circle doesn't count as failed. No
  -- program is known that needs this rule.
  a_program_with_circles : (p : Program) (v : Walk) →
      ¬ IsDecided (program (plain x) names blames.Others is) →
      AllDeclared x names is p v →
      ProgramDeclared x names is p v

-- The typed tree of a tree: by what its declarations settle to its items are a well typed program, no closure literal captures too
-- much, and no statement of the outermost level reaches a global too late.
pub record TreeDeclared (tree : Tree) (t : Typed) : Type 0 where
  pub settled : Settled
  pub are_settled : IsSettled (special_names tree.names.items) tree.items settled
  pub program : Program
  pub walk : Walk
  pub declared : ProgramDeclared settled (own_names tree.names.items) tree.items program walk
  pub narrow : crowded settled.declarations.types walk.literals ≡ None
  pub is_typed : IsTyped tree settled.declarations.types program walk t
  pub none_late : NoneLate t
