use Rattle.std.proofs.Common.{◌≡◌, List, [], ◌∷◌, ◌++◌, ap, sym, ◌∙◌, append_assoc, append-nil}
use Rattle.sx_tree.specs.declared.code.Part.{Part}
use Rattle.sx_nodes.specs.Pieces.{Piece, in_part, in_parts}
use Rattle.sx_nodes.specs.Stacks.{walked}
use Rattle.sx_nodes.proofs.Lists.{in_parts_append}
use Rattle.sx_nodes.proofs.stacks.push_in_parts.Goals as goal

pub parts-preserved : goal.parts-preserved
parts-preserved c =
    let rest : List Part = c.in-Some.rest.now in
    let last : Part = c.in-Some.last.now in
    let before : List Piece = walked c.parts.open.items in
    let is : c.parts.parts.now ≡ rest ++ last ∷ [] = c.in-Some.ensures.cases.0 in
    let moved : in_parts rest ++ (in_part last ++ before) ≡ in_parts (rest ++ last ∷ []) ++ before =
    sym (append_assoc (in_parts rest) (in_part last) before) ∙ ap (λ x. (in_parts rest ++ x) ++ before) (sym (append-nil (in_part last))) ∙ ap (λ x. x ++ before) (sym (in_parts_append rest (last ∷ []))) in
    ap (λ x. in_parts rest ++ x) c.in_ok-push_in_part.ensures ∙ moved ∙ ap (λ x. in_parts x ++ before) (sym is) ∙ c.parts.invariant
