-- One level of an expression: where its parts take as many nodes as they have places, so does the whole.
use Rattle.std.proofs.Common.{◌≡◌, ℕ, suc, ◌+◌, List, [], ◌∷◌, ◌++◌, map, length, length-append, Some, None, refl, arith}
use Rattle.sx_tree.specs.declared.code.Closure.{Closure-F}
use Rattle.sx_tree.specs.declared.code.ExprForm.{ExprForm-F}
use Rattle.sx_tree.specs.declared.code.Part.{Part-F}
use Rattle.sx_tree.specs.Nodes as nodes
use Rattle.sx_tree.specs.Nodes.{Places, PartNodes}
use Rattle.sx_types.specs.declared.types.Ty.TheVariants as ty
use Rattle.sx_typed.specs.declared.code.Form.TheVariants as typed_forms
use Rattle.sx_scope.specs.declared.declarations.Declarations.{Declarations}
use Rattle.sx_bodies.specs.Literals.{judged_signature}
use Rattle.sx_calls.specs.Parts.{JudgedExpr, JudgedLink, JudgedPart, JudgedStatement, own_nodes}
use Rattle.sx_check_expr.specs.Judge.{chain_value, postfix_value, other, named, judged_closure, judged_expr, judged_link, judged_part, judged_statement, form_step, part_step, closure_step}
use Rattle.sx_order.proofs.Places.{trailing-length}
use Rattle.sx_order_code.specs.Tied.{TiedForm, TiedExpr, TiedPart, TiedClosure}
use Rattle.sx_order_code.specs.Layers.{OfKnown, KnownClosure, KnownExpr, KnownLink, KnownPart, placed_form, placed_part, placed_closure, judged_in_form, judged_in_part, judged_in_closure, parts_of_form, parts_of_part, parts_of_closure}
use Rattle.sx_order_code.proofs.Expressions.{constant-takes, bracketed-takes, negated-takes, inverted-takes, chain_value-takes, array-takes, name-takes, self-takes, named-takes}
use Rattle.sx_order_code.proofs.Postfix.{postfix-takes}
use Rattle.sx_order_code.proofs.Literals.{literal-takes}
use Rattle.sx_order_code.proofs.Signatures.{signature-spans}
use Rattle.sx_order_code.proofs.Known.{expr-as, exprs-span, links-span, links-own, arguments-span, trailing-spans, parts-own, parts-span, statements-span}

module _ (d : Declarations) where
  -- a name with a closure literal behind it
  pub named-tied : (x site start : ℕ) (c : KnownClosure d) → TiedExpr (named d x (Some (judged_closure d c.0)) site) (start ∷ (start ∷ nodes.trailing (Some (nodes.closure_places c.0))))
  named-tied x site start c =
      let inner : Places = nodes.closure_places c.0 in
      let sum : length (nodes.trailing (Some inner)) ≡ suc (length inner) = trailing-length inner c.1.1 in (
        expr-as (named d x (Some (judged_closure d c.0)) site) (suc (suc (length inner) + 1)) (suc (suc (length (nodes.trailing (Some inner))))) (omega (arith, sum))
            (record { takes = λ p q u. named-takes d x (judged_closure d c.0) site (length inner) p q u c.1.0.0 }),
        tt,
      )

  pub chain-tied : (e : KnownExpr d) (ls : List (KnownLink d)) (site start : ℕ) →
      TiedExpr (other (chain_value (judged_expr d e.0) (map (judged_link d) (map (λ l. l.0) ls)) site)) (nodes.own_of_links (map nodes.link_places (map (λ l. l.0) ls)) start ++ (nodes.expr_places e.0 ++ nodes.all (map nodes.link_places (map (λ l. l.0) ls))))
  chain-tied e ls site start =
      let own : Places = nodes.own_of_links (map nodes.link_places (map (λ l. l.0) ls)) start in
      let first : Places = nodes.expr_places e.0 in
      let others : Places = nodes.all (map nodes.link_places (map (λ l. l.0) ls)) in
      let js : List JudgedLink = map (judged_link d) (map (λ l. l.0) ls) in
      let outer : length (own ++ (first ++ others)) ≡ length own + length (first ++ others) = length-append own (first ++ others) in
      let inner : length (first ++ others) ≡ length first + length others = length-append first others in
      let same : length own ≡ length js = links-own d ls start in (
        expr-as (other (chain_value (judged_expr d e.0) js site)) (length js + (length first + length others)) (length (own ++ (first ++ others))) (omega (arith, outer, inner, same))
            (record { takes = λ p q u. chain_value-takes (judged_expr d e.0) js site (length first) (length others) p q u e.1.0 (links-span d ls) }),
        tt,
      )

  pub postfix-tied : (e : KnownExpr d) (ps : List (KnownPart d)) (site start : ℕ) →
      TiedExpr (other (postfix_value d (judged_expr d e.0) (map (judged_part d) (map (λ p. p.0) ps)) site))
      (nodes.own_of_parts (map nodes.part_nodes (map (λ p. p.0) ps)) start ++ (nodes.expr_places e.0 ++ nodes.inner_of_parts (map nodes.part_nodes (map (λ p. p.0) ps))))
  postfix-tied e ps site start =
      let own : Places = nodes.own_of_parts (map nodes.part_nodes (map (λ p. p.0) ps)) start in
      let first : Places = nodes.expr_places e.0 in
      let others : Places = nodes.inner_of_parts (map nodes.part_nodes (map (λ p. p.0) ps)) in
      let js : List JudgedPart = map (judged_part d) (map (λ p. p.0) ps) in
      let outer : length (own ++ (first ++ others)) ≡ length own + length (first ++ others) = length-append own (first ++ others) in
      let inner : length (first ++ others) ≡ length first + length others = length-append first others in
      let same : length own ≡ own_nodes js = parts-own d ps start in (
        expr-as (other (postfix_value d (judged_expr d e.0) js site)) (own_nodes js + (length first + length others)) (length (own ++ (first ++ others))) (omega (arith, outer, inner, same))
            (record { takes = λ p q u. postfix-takes d (judged_expr d e.0) js site (length first) (length others) p q u e.1.0 e.1.1 (parts-span d ps) }),
        tt,
      )

  pub form_level : (y : OfKnown d ExprForm-F) → TiedForm (form_step d (judged_in_form d (parts_of_form d y))) (nodes.form_step (placed_form (parts_of_form d y)))
  form_level (ExprForm-F.Int v) site start = (record { takes = λ p q u. constant-takes site ty.Int (typed_forms.Int v) p q u }, tt)
  form_level ExprForm-F.LeastInt site start = (record { takes = λ p q u. constant-takes site ty.Int typed_forms.LeastInt p q u }, tt)
  form_level (ExprForm-F.Bool b) site start = (record { takes = λ p q u. constant-takes site ty.Bool (typed_forms.Bool b) p q u }, tt)
  form_level (ExprForm-F.Named x None) site start = (record { takes = λ p q u. name-takes d x site p q u }, refl)
  form_level (ExprForm-F.Named x (Some c)) site start = named-tied x site start c
  form_level ExprForm-F.SelfWord site start = (record { takes = λ p q u. self-takes d site p q }, tt)
  form_level (ExprForm-F.Bracketed e) site start = (record { takes = λ p q u. bracketed-takes (judged_expr d e.0) site (length (nodes.expr_places e.0)) p q u e.1.0 }, tt)
  form_level (ExprForm-F.PrintText t) site start = (record { takes = λ p q u. constant-takes site ty.Void (typed_forms.PrintText t) p q u }, tt)
  form_level (ExprForm-F.Negate e) site start = (record { takes = λ p q u. negated-takes (judged_expr d e.0) site (length (nodes.expr_places e.0)) p q u e.1.0 }, tt)
  form_level (ExprForm-F.Not e) site start = (record { takes = λ p q u. inverted-takes (judged_expr d e.0) site (length (nodes.expr_places e.0)) p q u e.1.0 }, tt)
  form_level (ExprForm-F.Chain e ls) site start = chain-tied e ls site start
  form_level (ExprForm-F.Postfix e ps) site start = postfix-tied e ps site start
  form_level (ExprForm-F.Closure c) site start = c.1.0
  form_level (ExprForm-F.Array es) site start =
      (record { takes = λ p q u. array-takes (map (judged_expr d) (map (λ e. e.0) es)) site (length (nodes.all (map nodes.expr_places (map (λ e. e.0) es)))) p q u (exprs-span d es) }, tt)

  pub part_level : (y : OfKnown d Part-F) → TiedPart (part_step d (judged_in_part d (parts_of_part d y))) (nodes.part_step (placed_part (parts_of_part d y)))
  part_level (Part-F.Member end x None) = (λ start. refl, refl)
  part_level (Part-F.Member end x (Some c)) = (λ start. refl, trailing-spans d c)
  part_level (Part-F.Index end es) = (λ start. refl, exprs-span d es)
  part_level (Part-F.Call end as_ None) =
      let before : Places = nodes.all (map nodes.argument_places (map (λ a. a.0) as_)) in
      (λ start. refl, (length before, 0, length-append before [], arguments-span d as_, refl))
  part_level (Part-F.Call end as_ (Some c)) =
      let before : Places = nodes.all (map nodes.argument_places (map (λ a. a.0) as_)) in
      let behind : Places = nodes.trailing (Some (nodes.closure_places c.0)) in
      (λ start. refl, (length before, length behind, length-append before behind, arguments-span d as_, trailing-spans d c))

  pub closure_level : (y : OfKnown d Closure-F) → TiedClosure (closure_step d (judged_in_closure d (parts_of_closure d y))) (nodes.closure_step (placed_closure (parts_of_closure d y)))
  closure_level y =
      let before : Places = nodes.signature_places y.signature in
      let behind : Places = nodes.all (map nodes.statement_places (map (λ s. s.0) y.body)) in
      let ss : List JudgedStatement = map (judged_statement d) (map (λ s. s.0) y.body) in
      let e : JudgedExpr = closure_step d (judged_in_closure d (parts_of_closure d y)) in
      let sum : length (before ++ behind) ≡ length before + length behind = length-append before behind in (
        (
          expr-as e (suc (length before + length behind)) (suc (length (before ++ behind))) (omega (arith, sum))
              (record { takes = λ p q u. literal-takes d y.span.start (judged_signature d y.signature) ss (length before) (length behind) p q u (signature-spans d y.signature) (statements-span d y.body) }),
          tt,
        ),
        omega arith,
      )
