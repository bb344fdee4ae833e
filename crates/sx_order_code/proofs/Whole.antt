-- Whole expressions, statements and blocks take as many nodes as they have places.
use Rattle.std.proofs.Common.{◌≡◌, ℕ, suc, List, [], ◌∷◌, map, length, length-append, refl, sym}
use Rattle.sx_tree.specs.declared.code.Block.{Block}
use Rattle.sx_tree.specs.declared.code.Expr.{Expr}
use Rattle.sx_tree.specs.declared.code.Statement.{Statement}
use Rattle.sx_tree.specs.Nodes.{Places, all, block_places, expr_places, statement_places}
use Rattle.sx_scope.specs.declared.declarations.Declarations.{Declarations}
use Rattle.sx_scope.specs.declared.walk.Place.{Place}
use Rattle.sx_scope.specs.Walks.{numbered}
use Rattle.sx_bodies.specs.Statements.{block, body}
use Rattle.sx_check_expr.specs.Judge.{judged_block, judged_expr, judged_statement, judged_statements}
use Rattle.sx_order_code.specs.Code.{CodeSpans}
use Rattle.sx_order.specs.Order.{Takes, Anywhere}
use Rattle.sx_order.specs.Parts.{SpansExpr, SpansStatement, SpanStatements}
use Rattle.sx_order.proofs.Spans.{numbered-takes, takes-as}
use Rattle.sx_order.proofs.Own.{first-spans}
use Rattle.sx_order_code.proofs.Statements.{block-takes, body-takes}
use Rattle.sx_order_code.proofs.Tree.{block-tied, expr-tied, statement-tied}

module _ (d : Declarations) where
  pub judged_expr-spans : (e : Expr) → SpansExpr (length (expr_places e)) (judged_expr d e)
  judged_expr-spans e =
      let (spans, one) = expr-tied d e in
      spans

  pub judged_statement-spans : (s : Statement) → SpansStatement (length (statement_places s)) (judged_statement d s)
  judged_statement-spans s = statement-tied d s

  pub judged_statements-span : (ss : List Statement) → SpanStatements (length (all (map statement_places ss))) (judged_statements d ss)
  judged_statements-span [] = refl
  judged_statements-span (s ∷ ss) =
      let here : Places = statement_places s in
      let others : Places = all (map statement_places ss) in
      (length here, length others, length-append here others, judged_statement-spans s, judged_statements-span ss)

  -- a block has a place, and those of its statements
  pub judged_block-spans : (b : Block) → (k : ℕ) × (length (block_places b) ≡ suc k) × SpanStatements k (judged_block d b)
  judged_block-spans b = block-tied d b

  pub judged_block-takes : (b : Block) (p : Place) → Takes (length (block_places b)) Anywhere (block p (judged_block d b))
  judged_block-takes b p =
      let (k, e, ss) = judged_block-spans b in
      takes-as Anywhere (block p (judged_block d b)) (sym e) (block-takes p (judged_block d b) k ss)

  -- the body of a function is such a block
  pub judged_body-takes : (b : Block) (p : Place) → Takes (length (block_places b)) Anywhere (numbered (λ n. body p (judged_block d b)))
  judged_body-takes b p =
      let (k, e, ss) = judged_block-spans b in
      takes-as Anywhere (numbered (λ n. body p (judged_block d b))) (sym e)
      (numbered-takes Anywhere k (λ n. body p (judged_block d b)) (λ lo hi n at sum w f. first-spans (body p (judged_block d b)) k lo hi w sum f (body-takes p (judged_block d b) k ss)))

pub code-spans : (d : Declarations) → CodeSpans d
code-spans d = record { exprs = judged_expr-spans d; statements = judged_statement-spans d; bodies = λ p b. judged_body-takes d b p }
