-- Trees without written initialisers: no text gives one, and the walk takes none of its nodes.
use Rattle.std.specs.Prelude.{List, [], ◌∷◌}
use Rattle.sx_tree.specs.declared.declarations.Item.{Item}
use Rattle.sx_tree.specs.declared.declarations.Item.TheVariants as items
use Rattle.sx_tree.specs.declared.declarations.Member.{Member}
use Rattle.sx_tree.specs.declared.declarations.Member.TheVariants as members

abbrev pub IsNoInitialiser : Member → Type 0
IsNoInitialiser (members.Property v) = Unit {0}
IsNoInitialiser (members.Method f) = Unit {0}
IsNoInitialiser (members.Subscript s) = Unit {0}
IsNoInitialiser (members.Initialiser i) = ⊥

abbrev pub NoInitialisersIn : List Member → Type 0
NoInitialisersIn [] = Unit {0}
NoInitialisersIn (m ∷ ms) = IsNoInitialiser m × NoInitialisersIn ms

abbrev pub HasNoInitialiser : Item → Type 0
HasNoInitialiser (items.Function f) = Unit {0}
HasNoInitialiser (items.Type t) = NoInitialisersIn t.members
HasNoInitialiser (items.Global v) = Unit {0}
HasNoInitialiser (items.Statement s) = Unit {0}

abbrev pub NoInitialisers : List Item → Type 0
NoInitialisers [] = Unit {0}
NoInitialisers (i ∷ is) = HasNoInitialiser i × NoInitialisers is
