use Rattle.std.proofs.Common.{arith, ◌≡◌, ◌∷◌, None, subst, sym, ap, ◌∙◌}
use Rattle.sx_nodes.specs.Own.{Stands}
use Rattle.sx_nodes.specs.Pieces.{own}
use Rattle.sx_nodes.specs.Stacks.{piece, walked}
use Rattle.sx_nodes.specs.Walks.{Numbered, beyond}
use Rattle.sx_nodes.proofs.Steps.{walked_last, is_here, goes_further, no_pieces}
use Rattle.sx_nodes.proofs.search.code_at.Goals as goal

pub returns-in_default : goal.returns-in_default
returns-in_default c = c.pieces.invariant None (subst (λ hs. Numbered (walked hs) c.pieces.left None) (sym (no_pieces c.pieces.open.items (omega (arith, c.in_default.ensures.cases.0, c.pieces.open.ok.0)))) beyond)

pub returns-in-Is : goal.returns-in-Is
returns-in-Is c =
    let next : walked c.pieces.open.items ≡ piece c.in-Some.piece ∷ walked c.pop.new.self.items = ap walked c.in-Some.ensures.items ∙ walked_last c.pop.new.self.items c.in-Some.piece in
    c.pieces.invariant c.in-Is.code
    (is_here (walked c.pieces.open.items) (piece c.in-Some.piece) (walked c.pop.new.self.items) c.pieces.left c.in-Is.code next
    (subst (λ o. Stands (own (piece c.in-Some.piece)) c.pieces.left o) c.in-Is.is c.in_ok-code.ensures))

pub pieces-preserved : goal.pieces-preserved
pieces-preserved c x h =
    let next : walked c.pieces.open.items ≡ piece c.in-Some.piece ∷ walked c.pop.new.self.items = ap walked c.in-Some.ensures.items ∙ walked_last c.pop.new.self.items c.in-Some.piece in
    c.pieces.invariant x
    (goes_further (walked c.pieces.open.items) (walked c.push_inner.new.open.items) (piece c.in-Some.piece) (walked c.pop.new.self.items) c.pieces.left c.in-Past.behind x next c.in_ok-push_inner.ensures
    (subst (λ o. Stands (own (piece c.in-Some.piece)) c.pieces.left o) c.in-Past.is c.in_ok-code.ensures) h)
