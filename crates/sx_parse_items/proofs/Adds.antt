-- One more item, by what a run is.
use Rattle.std.proofs.Common.{◌≡◌, List, Result, subst, sym}
use denote.Ref.{Bor}
use Rattle.sx_grammar.specs.declared.lexemes.Lexeme.{Lexeme}
use Rattle.sx_grammar.specs.Grammar.{Out}
use Rattle.sx_tree.specs.declared.declarations.Item.{Item}
use Rattle.sx_parse_decl.specs.declared.stop.Stop.{Stop}
use Rattle.sx_parse_items.specs.Views.{Adds}

pub adds_at : (old new : List Item) (r : Result (Bor (List Lexeme)) Stop) (o p : Out) → p ≡ o → Adds old new r o → Adds old new r p
adds_at old new r o p e h = subst (Adds old new r) (sym e) h
