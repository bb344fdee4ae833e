-- What a claim says of the judgement.
use Rattle.std.proofs.Common.{◌≡◌, map}
use Rattle.sx_scope.specs.declared.declarations.Declarations.{Declarations}
use Rattle.sx_scope.specs.Verdict.{typed}
use Rattle.sx_calls.specs.Operators.{run_links}
use Rattle.sx_calls.specs.Calls.{call_value, run_arguments, run_indices}
use Rattle.sx_bodies.specs.Statements as bodies
use Rattle.sx_bodies.specs.Statements.{run_statements}
use Rattle.sx_check_expr.specs.Arguments.{judged_arguments}
use Rattle.sx_check_expr.specs.Judge.{callee, run_elements, run_parts, judged_else, judged_form, judged_part, judged_statement_form, judged_block, judged_closure, judged_expr, judged_link, judged_local, judged_statement, judged_statements}
use Rattle.sx_well_typed.specs.Claims.{Claim}

abbrev pub Holds : Declarations → Claim → Type 0
Holds d (Claim.expression e p q u w t v) = (judged_expr d e).value p q u w ≡ typed t v
Holds d (Claim.form f site p q u w t v) = (judged_form d f site).value p q u w ≡ typed t v
Holds d (Claim.closure c p q u w t v) = (judged_closure d c).value p q u w ≡ typed t v
Holds d (Claim.links ls p start site x w t v) = run_links p start site (typed x w) (map (judged_link d) ls) ≡ typed t v
Holds d (Claim.elements es p before w ts v) = run_elements p (typed before w) (map (judged_expr d) es) ≡ typed ts v
Holds d (Claim.called e p site w f v) = callee d p site (judged_expr d e) w ≡ typed f v
Holds d (Claim.call as_ c p q n site f w t v) = call_value d p q n site (judged_arguments d as_ c) (typed f w) ≡ typed t v
Holds d (Claim.arguments as_ c p ss a w b v) = run_arguments p (typed a w) ss (judged_arguments d as_ c) ≡ typed b v
Holds d (Claim.indices is p ts before w es v) = run_indices d p (typed before w) ts (map (judged_expr d) is) ≡ typed es v
Holds d (Claim.parts ps p q start site this x w t v) = run_parts d p q start site this (typed x w) (map (judged_part d) ps) ≡ typed t v
Holds d (Claim.statement s p w t v) = (judged_statement d s).value p w ≡ typed t v
Holds d (Claim.statement_form f site p w t v) = (judged_statement_form d f site).value p w ≡ typed t v
Holds d (Claim.local l site p w t v) = (judged_local d l site).value p w ≡ typed t v
Holds d (Claim.statements ss p before w ts v) = run_statements p (typed before w) (map (judged_statement d) ss) ≡ typed ts v
Holds d (Claim.block b p w ts v) = bodies.block p (judged_block d b) w ≡ typed ts v
Holds d (Claim.otherwise e p w ts v) = bodies.else_block p (judged_else d e) w ≡ typed ts v
Holds d (Claim.body ss p w ts v) = bodies.body p (judged_statements d ss) w ≡ typed ts v
