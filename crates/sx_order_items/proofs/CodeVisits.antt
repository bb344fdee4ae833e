-- A visit of expressions and statements counts as many nodes as they have places.
use Rattle.std.proofs.Common.{◌≡◌, ℕ, List, [], ◌∷◌, ◌++◌, Option, Some, None, length, length-append, map, refl, subst, arith}
use Rattle.sx_tree.specs.declared.code.Else.{Else, Else-F, roll-Else}
use Rattle.sx_tree.specs.declared.code.ExprForm.{ExprForm, ExprForm-F, roll-ExprForm}
use Rattle.sx_tree.specs.declared.code.Part.{Part, Part-F, roll-Part}
use Rattle.sx_tree.specs.declared.code.StatementForm.{StatementForm, StatementForm-F, roll-StatementForm}
use Rattle.sx_tree.specs.declared.code.Argument.{Argument, Argument-F, roll-Argument}
use Rattle.sx_tree.specs.declared.code.Block.{Block, Block-F, ind-Block, roll-Block}
use Rattle.sx_tree.specs.declared.code.Closure.{Closure, Closure-F, roll-Closure}
use Rattle.sx_tree.specs.declared.code.Expr.{Expr, Expr-F, ind-Expr, roll-Expr}
use Rattle.sx_tree.specs.declared.code.Link.{Link, Link-F, roll-Link}
use Rattle.sx_tree.specs.declared.code.Local.{Local, Local-F, roll-Local}
use Rattle.sx_tree.specs.declared.code.Statement.{Statement, Statement-F, ind-Statement, roll-Statement}
use Rattle.sx_tree.specs.Nodes as nodes
use Rattle.sx_types.specs.declared.types.Ty.{Ty}
use Rattle.sx_outline.specs.Visit.{Visiting, PartVisit, all, counted, trailing, own_of, inner_of, signature_visit, type_passed, else_visit, part_visit, argument_visit, block_visit, closure_visit, expr_visit, link_visit, statement_visit}
use Rattle.sx_order.proofs.Places.{own_of_links-length}
use Rattle.sx_order_items.specs.Counts.{Counts}
use Rattle.sx_order_items.proofs.CodeLayers.{ElseLayer, ExprFormLayer, PartLayer, StatementFormLayer, ArgumentLayer, BlockLayer, ClosureLayer, ExprLayer, LinkLayer, LocalLayer, StatementLayer, plain_else, plain_form, plain_part, plain_statement_form, plain_argument, plain_block, plain_closure, plain_expr, plain_link, plain_local, plain_statement, ElseCounts, ExprFormCounts, PartCounts, StatementFormCounts, ArgumentCounts, BlockCounts, ClosureCounts, ExprCounts, LinkCounts, LocalCounts, StatementCounts, SomePart, SomeClosure, SomeExpr, SomeLink, placed_form, visited_form, at_else, at_form, at_part, at_statement_form, at_argument, at_block, at_closure, at_expr, at_link, at_local, at_statement}
use Rattle.sx_order_items.proofs.Counted.{alike-lengths, list-counts, trailing-counts, two-counts}
use Rattle.sx_order_items.proofs.Signatures.{signature_visit-counts}
use Rattle.sx_order_items.proofs.TypeVisits.{type_passed-counts}

module _ (names : ℕ → Option Ty) where
  -- ---- each layer
  pub else-counts : (y : ElseLayer names) (x : Else-F Else ExprForm Part StatementForm Argument Block Closure Expr Link Local Statement) → plain_else names y ≡ x → ElseCounts names (roll-Else x)
  else-counts Else-F.Absent x p = subst (λ z. ElseCounts names (roll-Else z)) p (at_else names Else-F.Absent (λ v. omega arith))
  else-counts (Else-F.Block b) x p = subst (λ z. ElseCounts names (roll-Else z)) p (at_else names (Else-F.Block b.0) b.1)
  else-counts (Else-F.ElseIf s) x p = subst (λ z. ElseCounts names (roll-Else z)) p (at_else names (Else-F.ElseIf s.0) s.1)

  pub named-count : (start : ℕ) (c : SomeClosure names) → Counts (length (nodes.called (Some (nodes.closure_places c.0)) start ++ start ∷ nodes.trailing (Some (nodes.closure_places c.0)))) (λ v. trailing (Some (closure_visit names c.0)) (counted 2 v))
  named-count start c v = omega (arith, trailing-counts (nodes.closure_places c.0) (closure_visit names c.0) c.1 (counted 2 v))

  pub one-more : (start : ℕ) (p : nodes.Places) (f : Visiting) → Counts (length p) f → Counts (length (start ∷ p)) (λ v. f (counted 1 v))
  one-more start p f h v = omega (arith, h (counted 1 v))

  pub chain-count : (start : ℕ) (e : SomeExpr names) (ls : List (SomeLink names)) → Counts (length (placed_form names (ExprForm-F.Chain e.0 (map (λ p. p.0) ls)) start)) (visited_form names (ExprForm-F.Chain e.0 (map (λ p. p.0) ls)))
  chain-count start e ls v =
      let ps : List nodes.Places = map nodes.link_places (map (λ p. p.0) ls) in
      let fs : List Visiting = map (link_visit names) (map (λ p. p.0) ls) in
      let own : length (nodes.own_of_links ps start) ≡ length ps = own_of_links-length ps start in
      let both : length ps ≡ length fs = alike-lengths nodes.link_places (link_visit names) (map (λ p. p.0) ls) in
      let first : List ℕ = nodes.own_of_links ps start in
      let rest : List ℕ = nodes.expr_places e.0 ++ nodes.all ps in
      omega (
        arith,
        own,
        both,
        length-append first rest,
        two-counts (nodes.expr_places e.0) (nodes.all ps) (expr_visit names e.0) (all fs) e.1 (list-counts nodes.link_places (link_visit names) ls) (counted (length fs) v),
      )

  pub own-of-parts : (ps : List (SomePart names)) (start : ℕ) → length (nodes.own_of_parts (map nodes.part_nodes (map (λ p. p.0) ps)) start) ≡ own_of (map (part_visit names) (map (λ p. p.0) ps))
  own-of-parts [] start = refl
  own-of-parts (p ∷ ps) start =
      omega (arith, p.1.own start, own-of-parts ps start, length-append ((nodes.part_nodes p.0).own start) (nodes.own_of_parts (map nodes.part_nodes (map (λ p. p.0) ps)) start))

  pub inner-of-parts : (ps : List (SomePart names)) → Counts (length (nodes.inner_of_parts (map nodes.part_nodes (map (λ p. p.0) ps)))) (inner_of (map (part_visit names) (map (λ p. p.0) ps)))
  inner-of-parts [] v = omega arith
  inner-of-parts (p ∷ ps) v =
      two-counts (nodes.part_nodes p.0).inner (nodes.inner_of_parts (map nodes.part_nodes (map (λ p. p.0) ps))) (part_visit names p.0).inner (inner_of (map (part_visit names) (map (λ p. p.0) ps))) p.1.inner (inner-of-parts ps) v

  pub postfix-count : (start : ℕ) (e : SomeExpr names) (ps : List (SomePart names)) → Counts (length (placed_form names (ExprForm-F.Postfix e.0 (map (λ p. p.0) ps)) start)) (visited_form names (ExprForm-F.Postfix e.0 (map (λ p. p.0) ps)))
  postfix-count start e ps v =
      let qs : List nodes.PartNodes = map nodes.part_nodes (map (λ p. p.0) ps) in
      let fs : List PartVisit = map (part_visit names) (map (λ p. p.0) ps) in
      let first : List ℕ = nodes.own_of_parts qs start in
      let rest : List ℕ = nodes.expr_places e.0 ++ nodes.inner_of_parts qs in
      omega (
        arith,
        own-of-parts ps start,
        length-append first rest,
        two-counts (nodes.expr_places e.0) (nodes.inner_of_parts qs) (expr_visit names e.0) (inner_of fs) e.1 (inner-of-parts ps) (counted (own_of fs) v),
      )

  pub form-counts : (y : ExprFormLayer names) (x : ExprForm-F Else ExprForm Part StatementForm Argument Block Closure Expr Link Local Statement) → plain_form names y ≡ x → ExprFormCounts names (roll-ExprForm x)
  form-counts (ExprForm-F.Int n) x p = subst (λ z. ExprFormCounts names (roll-ExprForm z)) p (at_form names (ExprForm-F.Int n) (λ start v. refl))
  form-counts ExprForm-F.LeastInt x p = subst (λ z. ExprFormCounts names (roll-ExprForm z)) p (at_form names ExprForm-F.LeastInt (λ start v. refl))
  form-counts (ExprForm-F.Bool n) x p = subst (λ z. ExprFormCounts names (roll-ExprForm z)) p (at_form names (ExprForm-F.Bool n) (λ start v. refl))
  form-counts ExprForm-F.SelfWord x p = subst (λ z. ExprFormCounts names (roll-ExprForm z)) p (at_form names ExprForm-F.SelfWord (λ start v. refl))
  form-counts (ExprForm-F.PrintText n) x p = subst (λ z. ExprFormCounts names (roll-ExprForm z)) p (at_form names (ExprForm-F.PrintText n) (λ start v. refl))
  form-counts (ExprForm-F.Named n None) x p = subst (λ z. ExprFormCounts names (roll-ExprForm z)) p (at_form names (ExprForm-F.Named n None) (λ start v. omega arith))
  form-counts (ExprForm-F.Named n (Some c)) x p = subst (λ z. ExprFormCounts names (roll-ExprForm z)) p (at_form names (ExprForm-F.Named n (Some c.0)) (λ start. named-count start c))
  form-counts (ExprForm-F.Bracketed e) x p = subst (λ z. ExprFormCounts names (roll-ExprForm z)) p (at_form names (ExprForm-F.Bracketed e.0) (λ start. one-more start (nodes.expr_places e.0) (expr_visit names e.0) e.1))
  form-counts (ExprForm-F.Negate e) x p = subst (λ z. ExprFormCounts names (roll-ExprForm z)) p (at_form names (ExprForm-F.Negate e.0) (λ start. one-more start (nodes.expr_places e.0) (expr_visit names e.0) e.1))
  form-counts (ExprForm-F.Not e) x p = subst (λ z. ExprFormCounts names (roll-ExprForm z)) p (at_form names (ExprForm-F.Not e.0) (λ start. one-more start (nodes.expr_places e.0) (expr_visit names e.0) e.1))
  form-counts (ExprForm-F.Chain e ls) x p = subst (λ z. ExprFormCounts names (roll-ExprForm z)) p (at_form names (ExprForm-F.Chain e.0 (map (λ p. p.0) ls)) (λ start. chain-count start e ls))
  form-counts (ExprForm-F.Postfix e ps) x p = subst (λ z. ExprFormCounts names (roll-ExprForm z)) p (at_form names (ExprForm-F.Postfix e.0 (map (λ p. p.0) ps)) (λ start. postfix-count start e ps))
  form-counts (ExprForm-F.Closure c) x p = subst (λ z. ExprFormCounts names (roll-ExprForm z)) p (at_form names (ExprForm-F.Closure c.0) (λ start. c.1.counts))
  form-counts (ExprForm-F.Array es) x p = subst (λ z. ExprFormCounts names (roll-ExprForm z)) p (at_form names (ExprForm-F.Array (map (λ p. p.0) es)) (λ start. one-more start (nodes.all (map nodes.expr_places (map (λ p. p.0) es))) (all (map (expr_visit names) (map (λ p. p.0) es))) (list-counts nodes.expr_places (expr_visit names) es)))

  pub part-counts : (y : PartLayer names) (x : Part-F Else ExprForm Part StatementForm Argument Block Closure Expr Link Local Statement) → plain_part names y ≡ x → PartCounts names (roll-Part x)
  part-counts (Part-F.Member end n None) x p = subst (λ z. PartCounts names (roll-Part z)) p (at_part names (Part-F.Member end n None) (record { own = λ start. refl; inner = λ v. omega arith }))
  part-counts (Part-F.Member end n (Some c)) x p = subst (λ z. PartCounts names (roll-Part z)) p (at_part names (Part-F.Member end n (Some c.0)) (record { own = λ start. refl; inner = trailing-counts (nodes.closure_places c.0) (closure_visit names c.0) c.1 }))
  part-counts (Part-F.Index end es) x p = subst (λ z. PartCounts names (roll-Part z)) p (at_part names (Part-F.Index end (map (λ p. p.0) es)) (record { own = λ start. refl; inner = list-counts nodes.expr_places (expr_visit names) es }))
  part-counts (Part-F.Call end as_ None) x p = subst (λ z. PartCounts names (roll-Part z)) p (at_part names (Part-F.Call end (map (λ p. p.0) as_) None) (record { own = λ start. refl; inner = two-counts (nodes.all (map nodes.argument_places (map (λ p. p.0) as_))) [] (all (map (argument_visit names) (map (λ p. p.0) as_))) (λ v. v) (list-counts nodes.argument_places (argument_visit names) as_) (λ v. omega arith) }))
  part-counts (Part-F.Call end as_ (Some c)) x p = subst (λ z. PartCounts names (roll-Part z)) p (at_part names (Part-F.Call end (map (λ p. p.0) as_) (Some c.0)) (record { own = λ start. refl; inner = two-counts (nodes.all (map nodes.argument_places (map (λ p. p.0) as_))) (nodes.trailing (Some (nodes.closure_places c.0))) (all (map (argument_visit names) (map (λ p. p.0) as_))) (trailing (Some (closure_visit names c.0))) (list-counts nodes.argument_places (argument_visit names) as_) (trailing-counts (nodes.closure_places c.0) (closure_visit names c.0) c.1) }))

  pub statement_form-counts : (y : StatementFormLayer names) (x : StatementForm-F Else ExprForm Part StatementForm Argument Block Closure Expr Link Local Statement) → plain_statement_form names y ≡ x → StatementFormCounts names (roll-StatementForm x)
  statement_form-counts (StatementForm-F.Expr e) x p = subst (λ z. StatementFormCounts names (roll-StatementForm z)) p (at_statement_form names (StatementForm-F.Expr e.0) (λ start. one-more start (nodes.expr_places e.0) (expr_visit names e.0) e.1))
  statement_form-counts (StatementForm-F.Assign o a b) x p = subst (λ z. StatementFormCounts names (roll-StatementForm z)) p (at_statement_form names (StatementForm-F.Assign o a.0 b.0) (λ start v. omega (arith, two-counts (nodes.expr_places a.0) (nodes.expr_places b.0) (expr_visit names a.0) (expr_visit names b.0) a.1 b.1 (counted 1 v))))
  statement_form-counts (StatementForm-F.If c b e) x p = subst (λ z. StatementFormCounts names (roll-StatementForm z)) p (at_statement_form names (StatementForm-F.If c.0 b.0 e.0) (λ start v. omega (arith, two-counts (nodes.expr_places c.0) ((nodes.block_places b.0) ++ nodes.else_places e.0) (expr_visit names c.0) (λ u. else_visit names e.0 ((block_visit names b.0) u)) c.1 (two-counts (nodes.block_places b.0) (nodes.else_places e.0) (block_visit names b.0) (else_visit names e.0) b.1 e.1) (counted 1 v))))
  statement_form-counts (StatementForm-F.While c b) x p = subst (λ z. StatementFormCounts names (roll-StatementForm z)) p (at_statement_form names (StatementForm-F.While c.0 b.0) (λ start v. omega (arith, two-counts (nodes.expr_places c.0) (nodes.block_places b.0) (expr_visit names c.0) (block_visit names b.0) c.1 b.1 (counted 1 v))))
  statement_form-counts (StatementForm-F.Return None) x p = subst (λ z. StatementFormCounts names (roll-StatementForm z)) p (at_statement_form names (StatementForm-F.Return None) (λ start v. refl))
  statement_form-counts (StatementForm-F.Return (Some e)) x p = subst (λ z. StatementFormCounts names (roll-StatementForm z)) p (at_statement_form names (StatementForm-F.Return (Some e.0)) (λ start. one-more start (nodes.expr_places e.0) (expr_visit names e.0) e.1))
  statement_form-counts StatementForm-F.Break x p = subst (λ z. StatementFormCounts names (roll-StatementForm z)) p (at_statement_form names StatementForm-F.Break (λ start v. refl))
  statement_form-counts StatementForm-F.Continue x p = subst (λ z. StatementFormCounts names (roll-StatementForm z)) p (at_statement_form names StatementForm-F.Continue (λ start v. refl))
  statement_form-counts (StatementForm-F.Local l) x p = subst (λ z. StatementFormCounts names (roll-StatementForm z)) p (at_statement_form names (StatementForm-F.Local l.0) (λ start. l.1))

  pub argument-counts : (y : ArgumentLayer names) (x : Argument-F Else ExprForm Part StatementForm Argument Block Closure Expr Link Local Statement) → plain_argument names y ≡ x → ArgumentCounts names (roll-Argument x)
  argument-counts y x p =
      let z : Argument-F Else ExprForm Part StatementForm Argument Block Closure Expr Link Local Statement = plain_argument names y in
      subst (λ z. ArgumentCounts names (roll-Argument z)) p (at_argument names z (one-more z.span.start (nodes.expr_places y.value.0) (expr_visit names y.value.0) y.value.1))

  pub block-counts : (y : BlockLayer names) (x : Block-F Else ExprForm Part StatementForm Argument Block Closure Expr Link Local Statement) → plain_block names y ≡ x → BlockCounts names (roll-Block x)
  block-counts y x p =
      let z : Block-F Else ExprForm Part StatementForm Argument Block Closure Expr Link Local Statement = plain_block names y in
      subst (λ z. BlockCounts names (roll-Block z)) p (at_block names z (one-more z.span.start (nodes.all (map nodes.statement_places (map (λ p. p.0) y.statements))) (all (map (statement_visit names) (map (λ p. p.0) y.statements))) (list-counts nodes.statement_places (statement_visit names) y.statements)))

  pub closure-counts : (y : ClosureLayer names) (x : Closure-F Else ExprForm Part StatementForm Argument Block Closure Expr Link Local Statement) → plain_closure names y ≡ x → ClosureCounts names (roll-Closure x)
  closure-counts y x p =
      let z : Closure-F Else ExprForm Part StatementForm Argument Block Closure Expr Link Local Statement = plain_closure names y in
      subst (λ z. ClosureCounts names (roll-Closure z)) p (at_closure names z (record { some = omega arith; counts = one-more z.span.start (nodes.signature_places z.signature ++ nodes.all (map nodes.statement_places (map (λ p. p.0) y.body))) (λ v. all (map (statement_visit names) (map (λ p. p.0) y.body)) (signature_visit names z.signature v)) (two-counts (nodes.signature_places z.signature) (nodes.all (map nodes.statement_places (map (λ p. p.0) y.body))) (signature_visit names z.signature) (all (map (statement_visit names) (map (λ p. p.0) y.body))) (signature_visit-counts names z.signature) (list-counts nodes.statement_places (statement_visit names) y.body)) }))

  pub expr-counts : (y : ExprLayer names) (x : Expr-F Else ExprForm Part StatementForm Argument Block Closure Expr Link Local Statement) → plain_expr names y ≡ x → ExprCounts names (roll-Expr x)
  expr-counts y x p =
      let z : Expr-F Else ExprForm Part StatementForm Argument Block Closure Expr Link Local Statement = plain_expr names y in
      subst (λ z. ExprCounts names (roll-Expr z)) p (at_expr names z (y.form.1 z.span.start))

  pub link-counts : (y : LinkLayer names) (x : Link-F Else ExprForm Part StatementForm Argument Block Closure Expr Link Local Statement) → plain_link names y ≡ x → LinkCounts names (roll-Link x)
  link-counts y x p =
      let z : Link-F Else ExprForm Part StatementForm Argument Block Closure Expr Link Local Statement = plain_link names y in
      subst (λ z. LinkCounts names (roll-Link z)) p (at_link names z y.operand.1)

  pub local-counts : (y : LocalLayer names) (x : Local-F Else ExprForm Part StatementForm Argument Block Closure Expr Link Local Statement) → plain_local names y ≡ x → LocalCounts names (roll-Local x)
  local-counts y x p =
      let z : Local-F Else ExprForm Part StatementForm Argument Block Closure Expr Link Local Statement = plain_local names y in
      subst (λ z. LocalCounts names (roll-Local z)) p (at_local names z (one-more z.name.span.start (nodes.option_places nodes.type_places z.ty ++ nodes.expr_places y.value.0) (λ v. expr_visit names y.value.0 (type_passed names z.ty v)) (two-counts (nodes.option_places nodes.type_places z.ty) (nodes.expr_places y.value.0) (type_passed names z.ty) (expr_visit names y.value.0) (type_passed-counts names z.ty) y.value.1)))

  pub statement-counts : (y : StatementLayer names) (x : Statement-F Else ExprForm Part StatementForm Argument Block Closure Expr Link Local Statement) → plain_statement names y ≡ x → StatementCounts names (roll-Statement x)
  statement-counts y x p =
      let z : Statement-F Else ExprForm Part StatementForm Argument Block Closure Expr Link Local Statement = plain_statement names y in
      subst (λ z. StatementCounts names (roll-Statement z)) p (at_statement names z (y.form.1 z.span.start))

  -- ---- of whole expressions, statements and blocks
  pub expr_visit-counts : (x : Expr) → Counts (length (nodes.expr_places x)) (expr_visit names x)
  expr_visit-counts = ind-Expr (ElseCounts names) (ExprFormCounts names) (PartCounts names) (StatementFormCounts names) (ArgumentCounts names) (BlockCounts names) (ClosureCounts names) (ExprCounts names) (LinkCounts names) (LocalCounts names) (StatementCounts names) (λ x y p. else-counts y x p) (λ x y p. form-counts y x p) (λ x y p. part-counts y x p) (λ x y p. statement_form-counts y x p) (λ x y p. argument-counts y x p) (λ x y p. block-counts y x p) (λ x y p. closure-counts y x p) (λ x y p. expr-counts y x p) (λ x y p. link-counts y x p) (λ x y p. local-counts y x p) (λ x y p. statement-counts y x p)

  pub statement_visit-counts : (x : Statement) → Counts (length (nodes.statement_places x)) (statement_visit names x)
  statement_visit-counts = ind-Statement (ElseCounts names) (ExprFormCounts names) (PartCounts names) (StatementFormCounts names) (ArgumentCounts names) (BlockCounts names) (ClosureCounts names) (ExprCounts names) (LinkCounts names) (LocalCounts names) (StatementCounts names) (λ x y p. else-counts y x p) (λ x y p. form-counts y x p) (λ x y p. part-counts y x p) (λ x y p. statement_form-counts y x p) (λ x y p. argument-counts y x p) (λ x y p. block-counts y x p) (λ x y p. closure-counts y x p) (λ x y p. expr-counts y x p) (λ x y p. link-counts y x p) (λ x y p. local-counts y x p) (λ x y p. statement-counts y x p)

  pub block_visit-counts : (x : Block) → Counts (length (nodes.block_places x)) (block_visit names x)
  block_visit-counts = ind-Block (ElseCounts names) (ExprFormCounts names) (PartCounts names) (StatementFormCounts names) (ArgumentCounts names) (BlockCounts names) (ClosureCounts names) (ExprCounts names) (LinkCounts names) (LocalCounts names) (StatementCounts names) (λ x y p. else-counts y x p) (λ x y p. form-counts y x p) (λ x y p. part-counts y x p) (λ x y p. statement_form-counts y x p) (λ x y p. argument-counts y x p) (λ x y p. block-counts y x p) (λ x y p. closure-counts y x p) (λ x y p. expr-counts y x p) (λ x y p. link-counts y x p) (λ x y p. local-counts y x p) (λ x y p. statement-counts y x p)
