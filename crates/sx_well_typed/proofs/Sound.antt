-- What is derived is judged so: by induction over derivations.
use Rattle.std.proofs.Common.{◌∙◌, refl}
use Rattle.sx_scope.specs.declared.declarations.Declarations.{Declarations}
use Rattle.sx_well_typed.specs.Claims.{Claim}
use Rattle.sx_well_typed.specs.Rules.{Typed}
use Rattle.sx_tree.specs.declared.code.Closure.{out-Closure}
use Rattle.sx_well_typed.proofs.EndingTree.{returns-told}
use Rattle.sx_well_typed.proofs.Holds.{Holds}
use Rattle.sx_well_typed.proofs.SoundExpressions.{integer-sound, least_integer-sound, truth-sound, printed_text-sound, name-sound, named_call-sound, self_word-sound, bracketed-sound, negate-sound, invert-sound, chain-sound, links_more-sound, array-sound, elements_more-sound}
use Rattle.sx_well_typed.proofs.SoundCalls.{called_by_name-sound, called_value-sound, a_call-sound, arguments_closure-sound, arguments_more-sound, indices_more-sound}
use Rattle.sx_well_typed.proofs.SoundBodies.{a_closure-sound, statements_more-sound, a_block-sound, body_value-sound, body_statements-sound}
use Rattle.sx_well_typed.proofs.SoundStatements.{an_expression-sound, literal-sound, a_statement-sound, expression_statement-sound, assign-sound, if-sound, while-sound, return_value-sound, return_none-sound, break-sound, continue-sound, local_statement-sound, a_local-sound, no_else-sound, else_block-sound, else_if-sound}
use Rattle.sx_well_typed.proofs.Told.{member_closure-told, member_called-told, member-told, subscripted-told, value_called-told, operand_called-told, operand-told}
use Rattle.sx_well_typed.proofs.Trees.{name-is, none-of}

module _ (d : Declarations) where
  pub sound : (c : Claim) → Typed d c → Holds d c
  sound _ (Typed.an_expression e p q u w v t h0) = an_expression-sound d e p q u w v t (sound _ h0)
  sound _ (Typed.integer n site p q u w h0) = integer-sound d n site p q u w h0
  sound _ (Typed.least_integer site p q u w h0) = least_integer-sound d site p q u w h0
  sound _ (Typed.truth b site p q u w h0) = truth-sound d b site p q u w h0
  sound _ (Typed.printed_text n site p q u w h0) = printed_text-sound d n site p q u w h0
  sound _ (Typed.name x site p q u w v t h0) = name-sound d x site p q u w v t h0
  sound _ (Typed.named_call x site c p q u w w₁ v f t h0 h1) = named_call-sound d x site c p q u w w₁ v f t h0 (sound _ h1)
  sound _ (Typed.self_word site p q u w v t h0) = self_word-sound d site p q u w v t h0
  sound _ (Typed.bracketed e site p q u w v x h0) = bracketed-sound d e site p q u w v x (sound _ h0)
  sound _ (Typed.negate e site p q u w v x h0 h1) = negate-sound d e site p q u w v x (sound _ h0) h1
  sound _ (Typed.invert e site p q u w v x h0 h1) = invert-sound d e site p q u w v x (sound _ h0) h1
  sound _ (Typed.chain e ls site p q u w w₁ v x t h0 h1 h2) = chain-sound d e ls site p q u w w₁ v x t (sound _ h0) (sound _ h1) h2
  sound _ (Typed.links_end p start site x w) = refl
  sound _ (Typed.links_more l ls p start site x y t w w₁ v h0 h1 h2) = links_more-sound d l ls p start site x y t w w₁ v h0 (sound _ h1) (sound _ h2)
  sound _ (Typed.array es site p q u w v ts h0 h1) = array-sound d es site p q u w v ts (sound _ h0) h1
  sound _ (Typed.elements_end p ts w) = refl
  sound _ (Typed.elements_more e es p before ts t w w₁ v h0 h1) = elements_more-sound d e es p before ts t w w₁ v (sound _ h0) (sound _ h1)
  sound _ (Typed.operand_called e end as_ c ps site p q u w w₁ w₂ v f x t h0 h1 h2) = operand_called-told d e end as_ c ps site p q u w w₁ w₂ v f x t (sound _ h0) (sound _ h1) (sound _ h2)
  sound _ (Typed.operand e ps site p q u w w₁ v x t h0 h1 h2) = operand-told d e ps site p q u w w₁ v x t h0 (sound _ h1) (sound _ h2)
  sound _ (Typed.literal c site p q u w v t h0) = literal-sound d c site p q u w v t (sound _ h0)
  sound _ (Typed.called_by_name e x p site w v f h0 h1) = called_by_name-sound d e x p site w v f (name-is d e ∙ h0) h1
  sound _ (Typed.called_value e p site w w₁ v x f h0 h1 h2) = called_value-sound d e p site w w₁ v x f (name-is d e ∙ h0) (sound _ h1) h2
  sound _ (Typed.a_call as_ c p q n site f a w v t h0 h1 h2) = a_call-sound d as_ c p q n site f a w v t h0 (sound _ h1) h2
  sound _ (Typed.arguments_end p ss a w) = refl
  sound _ (Typed.arguments_closure c p s ss a w v t h0 h1 h2 h3) = arguments_closure-sound d c p s ss a w v t h0 (sound _ h1) h2 h3
  sound _ (Typed.arguments_more x as_ c p s ss a b w w₁ v t h0 h1 h2 h3 h4) = arguments_more-sound d x as_ c p s ss a b w w₁ v t h0 (sound _ h1) h2 h3 (sound _ h4)
  sound _ (Typed.parts_end p q start site this x w) = refl
  sound _ (Typed.member_closure end m c ps p q start site this x y t f w w₁ w₂ v h0 h1 h2) = member_closure-told d end m c ps p q start site this x y t f w w₁ w₂ v h0 (sound _ h1) (sound _ h2)
  sound _ (Typed.member_called end behind m as_ c ps p q start site this x y t f w w₁ w₂ v h0 h1 h2) = member_called-told d end behind m as_ c ps p q start site this x y t f w w₁ w₂ v h0 (sound _ h1) (sound _ h2)
  sound _ (Typed.member end m ps p q start site this x y t w w₁ v h0 h1 h2) = member-told d end m ps p q start site this x y t w w₁ v h0 h1 (sound _ h2)
  sound _ (Typed.subscripted end is ps p q start site this x t o es w w₁ v h0 h1 h2 h3 h4 h5) = subscripted-told d end is ps p q start site this x t o es w w₁ v h0 h1 h2 (sound _ h3) h4 (sound _ h5)
  sound _ (Typed.value_called end as_ c ps p q start site this x y t f w w₁ w₂ v h0 h1 h2) = value_called-told d end as_ c ps p q start site this x y t f w w₁ w₂ v h0 (sound _ h1) (sound _ h2)
  sound _ (Typed.indices_end p es w) = refl
  sound _ (Typed.indices_more i is p t ts before es x w w₁ v h0 h1) = indices_more-sound d i is p t ts before es x w w₁ v (sound _ h0) (sound _ h1)
  sound _ (Typed.a_closure c p q u w w₁ w₂ w₃ v ps r ss k h0 h1 h2 h3 h4 h5) = a_closure-sound d c p q u w w₁ w₂ w₃ v ps r ss k h0 h1 (sound _ h2) h3 (returns-told d r (out-Closure c).body h4) h5
  sound _ (Typed.a_statement s p w v t h0) = a_statement-sound d s p w v t (sound _ h0)
  sound _ (Typed.expression_statement e site p w v x h0) = expression_statement-sound d e site p w v x (sound _ h0)
  sound _ (Typed.assign a l e site p w w₁ v x y h0 h1 h2) = assign-sound d a l e site p w w₁ v x y (sound _ h0) h1 (sound _ h2)
  sound _ (Typed.if_ c a b site p w w₁ w₂ v x ss ts h0 h1 h2) = if-sound d c a b site p w w₁ w₂ v x ss ts (sound _ h0) (sound _ h1) (sound _ h2)
  sound _ (Typed.while_ c a site p w w₁ v x ss h0 h1) = while-sound d c a site p w w₁ v x ss (sound _ h0) (sound _ h1)
  sound _ (Typed.return_value e site p w v x h0 h1) = return_value-sound d e site p w v x h0 (sound _ h1)
  sound _ (Typed.return_none site p w h0) = return_none-sound d site p w h0
  sound _ (Typed.break site p w h0) = break-sound d site p w h0
  sound _ (Typed.continue site p w h0) = continue-sound d site p w h0
  sound _ (Typed.local_statement l site p w v t h0) = local_statement-sound d l site p w v t (sound _ h0)
  sound _ (Typed.a_local l site p w w₁ w₂ o x h0 h1 h2 h3 h4) = a_local-sound d l site p w w₁ w₂ o x h0 h1 h2 (sound _ h3) h4
  sound _ (Typed.statements_end p ts w) = refl
  sound _ (Typed.statements_more s ss p before ts t w w₁ v h0 h1) = statements_more-sound d s ss p before ts t w w₁ v (sound _ h0) (sound _ h1)
  sound _ (Typed.a_block b p w v ts h0) = a_block-sound d b p w v ts (sound _ h0)
  sound _ (Typed.no_else p w) = no_else-sound d p w
  sound _ (Typed.else_block b p w v ts h0) = else_block-sound d b p w v ts (sound _ h0)
  sound _ (Typed.else_if s p w v t h0) = else_if-sound d s p w v t (sound _ h0)
  sound _ (Typed.body_value e s p w v x h0 h1 h2) = body_value-sound d e s p w v x h0 h1 (sound _ h2)
  sound _ (Typed.body_statements ss p w v ts h0 h1) = body_statements-sound d ss p w v ts (none-of d p.gives ss h0) (sound _ h1)
