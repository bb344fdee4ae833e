-- Lists of parts of which it is known that they take as many nodes as they have places.
use Rattle.std.proofs.Common.{◌≡◌, ℕ, suc, ◌+◌, List, [], ◌∷◌, ◌++◌, map, length, length-append, Some, refl, ap, subst, arith}
use Rattle.sx_tree.specs.Nodes as nodes
use Rattle.sx_tree.specs.Nodes.{Places, PartNodes}
use Rattle.sx_scope.specs.declared.declarations.Declarations.{Declarations}
use Rattle.sx_calls.specs.Parts.{JudgedExpr, JudgedStatement, own_nodes}
use Rattle.sx_check_expr.specs.Judge.{judged_argument, judged_closure, judged_expr, judged_link, judged_part, judged_statement}
use Rattle.sx_order.specs.Parts.{SpansExpr, SpanExprs, SpanLinks, SpanArguments, SpansTrailing, SpanParts, SpansStatement, SpanStatements}
use Rattle.sx_order.proofs.Places.{trailing-length}
use Rattle.sx_order_code.specs.Layers.{KnownArgument, KnownClosure, KnownExpr, KnownLink, KnownPart, KnownStatement}

-- the number is told otherwise
pub expr-as : (e : JudgedExpr) (n m : ℕ) → n ≡ m → SpansExpr n e → SpansExpr m e
expr-as e n m s h = subst (λ k. SpansExpr k e) s h

pub statement-as : (s : JudgedStatement) (n m : ℕ) → n ≡ m → SpansStatement n s → SpansStatement m s
statement-as s n m e h = subst (λ k. SpansStatement k s) e h

module _ (d : Declarations) where
  pub exprs-span : (es : List (KnownExpr d)) → SpanExprs (length (nodes.all (map nodes.expr_places (map (λ e. e.0) es)))) (map (judged_expr d) (map (λ e. e.0) es))
  exprs-span [] = refl
  exprs-span (e ∷ es) =
      let here : Places = nodes.expr_places e.0 in
      let others : Places = nodes.all (map nodes.expr_places (map (λ e. e.0) es)) in
      (length here, length others, length-append here others, e.1.0, exprs-span es)

  pub links-span : (ls : List (KnownLink d)) → SpanLinks (length (nodes.all (map nodes.link_places (map (λ l. l.0) ls)))) (map (judged_link d) (map (λ l. l.0) ls))
  links-span [] = refl
  links-span (l ∷ ls) =
      let here : Places = nodes.link_places l.0 in
      let others : Places = nodes.all (map nodes.link_places (map (λ l. l.0) ls)) in
      (length here, length others, length-append here others, l.1, links-span ls)

  -- each operator has a node of its own
  pub links-own : (ls : List (KnownLink d)) (start : ℕ) → length (nodes.own_of_links (map nodes.link_places (map (λ l. l.0) ls)) start) ≡ length (map (judged_link d) (map (λ l. l.0) ls))
  links-own [] start = refl
  links-own (l ∷ ls) start = ap suc (links-own ls start)

  pub arguments-span : (as_ : List (KnownArgument d)) → SpanArguments (length (nodes.all (map nodes.argument_places (map (λ a. a.0) as_)))) (map (judged_argument d) (map (λ a. a.0) as_))
  arguments-span [] = refl
  arguments-span (a ∷ as_) =
      let here : Places = nodes.argument_places a.0 in
      let others : Places = nodes.all (map nodes.argument_places (map (λ a. a.0) as_)) in
      let (k, e, value) = a.1 in
      let sum : length (here ++ others) ≡ length here + length others = length-append here others in
      (k, length others, omega (arith, sum, e), value, arguments-span as_)

  -- a closure literal behind a call
  pub trailing-spans : (c : KnownClosure d) → SpansTrailing (length (nodes.trailing (Some (nodes.closure_places c.0)))) (Some (judged_closure d c.0))
  trailing-spans c = (length (nodes.closure_places c.0), trailing-length (nodes.closure_places c.0) c.1.1, c.1.0.0)

  -- the nodes of the parts that start at the operand, and those in the parts
  pub parts-own : (ps : List (KnownPart d)) (start : ℕ) → length (nodes.own_of_parts (map nodes.part_nodes (map (λ p. p.0) ps)) start) ≡ own_nodes (map (judged_part d) (map (λ p. p.0) ps))
  parts-own [] start = refl
  parts-own (p ∷ ps) start =
      let n : PartNodes = nodes.part_nodes p.0 in
      let here : Places = n.own start in
      let others : Places = nodes.own_of_parts (map nodes.part_nodes (map (λ p. p.0) ps)) start in
      let sum : length (here ++ others) ≡ length here + length others = length-append here others in
      omega (arith, sum, p.1.0 start, parts-own ps start)

  pub parts-span : (ps : List (KnownPart d)) → SpanParts (length (nodes.inner_of_parts (map nodes.part_nodes (map (λ p. p.0) ps)))) (map (judged_part d) (map (λ p. p.0) ps))
  parts-span [] = refl
  parts-span (p ∷ ps) =
      let n : PartNodes = nodes.part_nodes p.0 in
      let others : Places = nodes.inner_of_parts (map nodes.part_nodes (map (λ p. p.0) ps)) in
      (length n.inner, length others, length-append n.inner others, p.1.1, parts-span ps)

  pub statements-span : (ss : List (KnownStatement d)) → SpanStatements (length (nodes.all (map nodes.statement_places (map (λ s. s.0) ss)))) (map (judged_statement d) (map (λ s. s.0) ss))
  statements-span [] = refl
  statements-span (s ∷ ss) =
      let here : Places = nodes.statement_places s.0 in
      let others : Places = nodes.all (map nodes.statement_places (map (λ s. s.0) ss)) in
      (length here, length others, length-append here others, s.1, statements-span ss)
