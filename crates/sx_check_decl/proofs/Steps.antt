-- A program is settled where each step gives what it should.
use Rattle.std.proofs.Common.{◌≡◌, ℕ, List, [], Option, ap, sym, subst, ◌∙◌}
use Rattle.sx_tree.specs.declared.declarations.Item.{Item}
use Rattle.sx_types.specs.declared.types.Ty.{Ty}
use Rattle.sx_types.specs.declared.types.Types.{Types}
use Rattle.sx_scope.specs.declared.stop.TypeStop.{TypeStop}
use Rattle.sx_scope.specs.declared.declarations.Declarations.{Declarations}
use Rattle.sx_scope.specs.Tables.{entry}
use Rattle.sx_outline.specs.declared.outline.Outline.{Outline}
use Rattle.sx_outline.specs.Outline.{outlined}
use Rattle.sx_tables.specs.declared.names.SpecialNames.{SpecialNames}
use Rattle.sx_tables.specs.Named.{named_types}
use Rattle.sx_settle.specs.Settled.{Settling, giving_items, settling, unsettled}
use Rattle.sx_check_decl.specs.declared.items.Settled.{Settled}
use Rattle.sx_check_decl.specs.Checked.{AreFirst, AreSecond, IsSettled, IsSettledWith, declared, outline, settled_with}
use Rattle.sx_check_decl.proofs.Kept.{settling_keeps_types}

module _ (s : SpecialNames) (is : List Item) (first second : Types) (d : Declarations) (os : List (Option TypeStop)) (x : Settled) where
  -- where these are the nodes and the function types
  abbrev Settles : Outline → Type 0
  Settles o =
      AreFirst is o.functions first
      → settling d os ≡ settled_with s [] [] first o.nodes is o.items
      → AreSecond is d d.types.functions second
      → IsSettledWith s second o.nodes is o.items x
      → IsSettled s is x

  settles_there : Settles (outline s is)
  settles_there a b c w =
      let o : Outline = outline s is in
      let is_first : d ≡ (settled_with s [] [] first o.nodes is o.items).declarations = ap (λ (z : Settling). z.declarations) b in
      let types : d.types ≡ first = ap (λ (z : Declarations). z.types) is_first ∙ settling_keeps_types (giving_items is o.items) (unsettled (declared s [] [] first o.nodes is o.items)) in
      let functions : d.types.functions ≡ o.functions = ap (λ (t : Types). t.functions) types ∙ a.2 in
      (first, second, a, subst (λ (z : Declarations). AreSecond is z o.functions second) is_first (subst (λ f. AreSecond is d f second) functions c), w)

  pub settles : (names : List (ℕ × Ty)) (o : Outline) → names ≡ named_types s is → o ≡ outlined (λ n. entry names n) is → Settles o
  settles names o e f = subst Settles (sym (f ∙ ap (λ (ns : List (ℕ × Ty)). outlined (λ n. entry ns n) is) e)) settles_there
