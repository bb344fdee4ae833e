-- Expressions, closure literals, statements and blocks: the nodes that each makes itself, and what stands in it.
use Rattle.std.proofs.Common.{◌≡◌, ℕ, zero, suc, List, [], ◌∷◌, ◌++◌, map, slice_get, Some, None, refl, sym, subst, ◌∙◌}
use Rattle.std.proofs.lemmas.Option.{none-some}
use Rattle.sx_span.specs.declared.places.Span.{Span}
use Rattle.sx_tree.specs.declared.nodes.FaultOf.{FaultOf}
use Rattle.sx_tree.specs.declared.code.Argument.{Argument, out-Argument}
use Rattle.sx_tree.specs.declared.code.Block.{Block, out-Block}
use Rattle.sx_tree.specs.declared.code.Closure.{Closure, out-Closure}
use Rattle.sx_tree.specs.declared.code.Else.{Else, Else-F, out-Else}
use Rattle.sx_tree.specs.declared.code.Expr.{Expr, out-Expr, roll-Expr}
use Rattle.sx_tree.specs.declared.code.ExprForm.{ExprForm, ExprForm-F, out-ExprForm}
use Rattle.sx_tree.specs.declared.code.ExprForm.TheVariants as forms
use Rattle.sx_tree.specs.declared.code.Local.{Local, out-Local}
use Rattle.sx_tree.specs.declared.code.Statement.{Statement, out-Statement}
use Rattle.sx_tree.specs.declared.code.StatementForm.{StatementForm, StatementForm-F, out-StatementForm}
use Rattle.sx_tree.specs.Nodes.{Places, all, argument_places, block_places, closure_places, else_places, else_step, expr_places, form_places, form_step, option_places, signature_places, statement_form_step, statement_places, trailing, type_places}
use Rattle.sx_nodes.specs.declared.code.Code.{Code}
use Rattle.sx_nodes.specs.declared.code.Code.TheVariants as code
use Rattle.sx_nodes.specs.Pieces.{Piece, Level, a_front, front_forms, in_closure, in_else, in_else_level, in_form_level, in_local, in_signature, in_statement_level, inner, optional, own}
use Rattle.sx_node_places.specs.Places.{code_places, StandFrom}
use Rattle.sx_node_places.proofs.Lists.{whole}
use Rattle.sx_node_places.proofs.Layers.{argument_is, block_is, chain_is, closure_is, else_is, expr_is, form_is, literal_is, local_is, made_expr_is, name_is, placed_else, placed_form, placed_statement_form, postfix_is, statement_form_is, statement_is}
use Rattle.sx_node_places.proofs.Placed.{Placed, Splits, no_code, one_code, placed_append, placed_first, placed_map, placed_one, placed_optional}
use Rattle.sx_node_places.proofs.Signatures.{signature_placed}
use Rattle.sx_node_places.proofs.Behind.{expressions_placed, trailing_placed}
use Rattle.sx_node_places.proofs.Fronts.{chain_places_are, chain_splits, front_code, postfix_places_are, postfix_splits}

module _ (of : FaultOf) where
  pub statements_placed : (ss : List Statement) → Placed of (map Piece.statement ss) (all (map statement_places ss))
  statements_placed ss = placed_map of Piece.statement statement_places (λ s. refl) ss

  -- ---- closure literals
  pub closure_rest_placed : (c : Closure) → Placed of (in_closure c) (signature_places (out-Closure c).signature ++ all (map statement_places (out-Closure c).body))
  closure_rest_placed c =
      placed_append of (in_signature (out-Closure c).signature) (map Piece.statement (out-Closure c).body) (signature_places (out-Closure c).signature) (all (map statement_places (out-Closure c).body))
      (signature_placed of (out-Closure c).signature) (statements_placed (out-Closure c).body)

  -- a literal in an expression, as this expression
  literal_splits : (s : Span) (c : Closure) → Splits of (a_front s (forms.Closure c) ∷ []) (in_closure c) (closure_places c)
  literal_splits s c =
      let made : Expr = roll-Expr (record { span = s; form = forms.Closure c }) in
      let is : expr_places made ≡ closure_places c = made_expr_is s (forms.Closure c) ∙ literal_is c s.start in
      subst (λ xs. Splits of (a_front s (forms.Closure c) ∷ []) (in_closure c) xs) (sym (closure_is c))
      (one_code of (code.Expression made) (out-Closure c).span.start (in_closure c) (signature_places (out-Closure c).signature ++ all (map statement_places (out-Closure c).body)) (sym (is ∙ closure_is c)) (closure_rest_placed c))

  pub closure_splits : (c : Closure) → Splits of (own (Piece.closure c)) (inner (Piece.closure c)) (closure_places c)
  closure_splits c = literal_splits (out-Closure c).span c

  -- a literal behind a call: the argument starts where the literal does
  pub trailing_splits : (c : Closure) → Splits of (None ∷ []) (Piece.closure c ∷ []) (trailing (Some (closure_places c)))
  trailing_splits c =
      let rest : Places = signature_places (out-Closure c).signature ++ all (map statement_places (out-Closure c).body) in
      let start : ℕ = (out-Closure c).span.start in
      subst (λ xs. Splits of (None ∷ []) (Piece.closure c ∷ []) (trailing (Some xs))) (sym (closure_is c))
      (no_code of start (Piece.closure c ∷ []) (start ∷ rest) (placed_one of (Piece.closure c) (start ∷ rest) (sym (closure_is c))))

  -- ---- expressions: by their forms
  abbrev FormSplits : Span → ExprForm → Level ExprForm-F → Type 0
  FormSplits s f x = Splits of (map (a_front s) (front_forms f x)) (in_form_level x) (form_places f s.start)

  -- a form whose expression alone is code here
  alone : (s : Span) (f : ExprForm) (start : ℕ) (ps : List Piece) (rest : Places) → form_places f s.start ≡ start ∷ rest → Placed of ps rest → Splits of (a_front s f ∷ []) ps (form_places f s.start)
  alone s f start ps rest e h =
      subst (λ xs. Splits of (a_front s f ∷ []) ps xs) (sym e)
      (one_code of (code.Expression (roll-Expr (record { span = s; form = f }))) start ps rest (sym (made_expr_is s f ∙ e)) h)

  -- a name that is called with a closure literal alone: the call, and the name
  called_code : (s : Span) (f : ExprForm) (x : ℕ) (rest : Places) (n : ℕ) (c : Code) → form_places f s.start ≡ s.start ∷ (s.start ∷ rest) →
      slice_get (a_front s f ∷ (a_front s (forms.Named x None) ∷ [])) n ≡ Some (Some c) → StandFrom n (code_places c) (s.start ∷ (s.start ∷ rest))
  called_code s f x rest zero c e h = whole (code_places c) (s.start ∷ (s.start ∷ rest)) (sym (front_code s f c h ∙ e))
  called_code s f x rest (suc zero) c e h =
      subst (λ xs. StandFrom 1 xs (s.start ∷ (s.start ∷ rest))) (sym (front_code s (forms.Named x None) c h ∙ name_is x s.start)) (s.start ∷ [], rest, refl, refl)
  called_code s f x rest (suc (suc n)) c e h = absurd (none-some (Some c) h)

  form_level : (s : Span) (f : ExprForm) (x : Level ExprForm-F) → form_places f s.start ≡ form_step (placed_form x) s.start → FormSplits s f x
  form_level s f (ExprForm-F.Int n) e = alone s f s.start [] [] e refl
  form_level s f ExprForm-F.LeastInt e = alone s f s.start [] [] e refl
  form_level s f (ExprForm-F.Bool b) e = alone s f s.start [] [] e refl
  form_level s f (ExprForm-F.Named x None) e = alone s f s.start [] [] e refl
  form_level s f (ExprForm-F.Named x (Some c)) e =
      let rest : Places = trailing (Some (closure_places c)) in
      subst (λ xs. Splits of (a_front s f ∷ (a_front s (forms.Named x None) ∷ [])) (Piece.trailing c ∷ []) xs) (sym e)
      (s.start ∷ (s.start ∷ []), rest, refl, refl, trailing_placed of c, λ n d h. called_code s f x rest n d e h)
  form_level s f ExprForm-F.SelfWord e = alone s f s.start [] [] e refl
  form_level s f (ExprForm-F.Bracketed a) e = alone s f s.start (Piece.expression a ∷ []) (expr_places a) e (placed_one of (Piece.expression a) (expr_places a) refl)
  form_level s f (ExprForm-F.PrintText n) e = alone s f s.start [] [] e refl
  form_level s f (ExprForm-F.Negate a) e = alone s f s.start (Piece.expression a ∷ []) (expr_places a) e (placed_one of (Piece.expression a) (expr_places a) refl)
  form_level s f (ExprForm-F.Not a) e = alone s f s.start (Piece.expression a ∷ []) (expr_places a) e (placed_one of (Piece.expression a) (expr_places a) refl)
  form_level s f (ExprForm-F.Chain a ls) e =
      subst (λ xs. Splits of (map (a_front s) (front_forms f (ExprForm-F.Chain a ls))) (in_form_level (ExprForm-F.Chain a ls)) xs)
      (sym (e ∙ sym (chain_is a ls s.start) ∙ chain_places_are s.start a ls)) (chain_splits of s a ls)
  form_level s f (ExprForm-F.Postfix a ps) e =
      subst (λ xs. Splits of (map (a_front s) (front_forms f (ExprForm-F.Postfix a ps))) (in_form_level (ExprForm-F.Postfix a ps)) xs)
      (sym (e ∙ sym (postfix_is a ps s.start) ∙ postfix_places_are s.start a ps)) (postfix_splits of s a ps)
  form_level s f (ExprForm-F.Closure c) e =
      let rest : Places = signature_places (out-Closure c).signature ++ all (map statement_places (out-Closure c).body) in
      alone s f (out-Closure c).span.start (in_closure c) rest (e ∙ closure_is c) (closure_rest_placed c)
  form_level s f (ExprForm-F.Array es) e = alone s f s.start (map Piece.expression es) (all (map expr_places es)) e (expressions_placed of es)

  pub expression_splits : (e : Expr) → Splits of (own (Piece.expression e)) (inner (Piece.expression e)) (expr_places e)
  expression_splits e =
      let s : Span = (out-Expr e).span in
      let f : ExprForm = (out-Expr e).form in
      subst (λ xs. Splits of (own (Piece.expression e)) (inner (Piece.expression e)) xs) (sym (expr_is e)) (form_level s f (out-ExprForm f) (form_is f s.start))

  pub argument_splits : (a : Argument) → Splits of (None ∷ []) (Piece.expression (out-Argument a).value ∷ []) (argument_places a)
  argument_splits a =
      subst (λ xs. Splits of (None ∷ []) (Piece.expression (out-Argument a).value ∷ []) xs) (sym (argument_is a))
      (no_code of (out-Argument a).span.start (Piece.expression (out-Argument a).value ∷ []) (expr_places (out-Argument a).value) (placed_one of (Piece.expression (out-Argument a).value) (expr_places (out-Argument a).value) refl))

  -- ---- statements and blocks
  two_placed : (a b : Expr) → Placed of (Piece.expression a ∷ (Piece.expression b ∷ [])) (expr_places a ++ expr_places b)
  two_placed a b = placed_first of (Piece.expression a) (Piece.expression b ∷ []) (expr_places a) (expr_places b) refl (placed_one of (Piece.expression b) (expr_places b) refl)

  else_level : (x : Level Else-F) → Placed of (in_else_level x) (else_step (placed_else x))
  else_level Else-F.Absent = refl
  else_level (Else-F.Block b) = placed_one of (Piece.block b) (block_places b) refl
  else_level (Else-F.ElseIf s) = placed_one of (Piece.statement s) (statement_places s) refl

  else_placed : (e : Else) → Placed of (in_else e) (else_places e)
  else_placed e = subst (λ xs. Placed of (in_else e) xs) (sym (else_is e)) (else_level (out-Else e))

  local_rest_placed : (l : Local) → Placed of (in_local l) (option_places type_places (out-Local l).ty ++ expr_places (out-Local l).value)
  local_rest_placed l =
      placed_append of (optional Piece.written (out-Local l).ty) (Piece.expression (out-Local l).value ∷ []) (option_places type_places (out-Local l).ty) (expr_places (out-Local l).value)
      (placed_optional of Piece.written type_places (λ t. refl) (out-Local l).ty) (placed_one of (Piece.expression (out-Local l).value) (expr_places (out-Local l).value) refl)

  -- a statement whose places begin so
  statement_level : (s : Statement) (start : ℕ) (x : Level StatementForm-F) → statement_places s ≡ statement_form_step (placed_statement_form x) start →
      Splits of (Some (code.Statement s) ∷ []) (in_statement_level x) (statement_form_step (placed_statement_form x) start)
  statement_level s start (StatementForm-F.Expr e) i = one_code of (code.Statement s) start (Piece.expression e ∷ []) (expr_places e) (sym i) (placed_one of (Piece.expression e) (expr_places e) refl)
  statement_level s start (StatementForm-F.Assign o a b) i = one_code of (code.Statement s) start (Piece.expression a ∷ (Piece.expression b ∷ [])) (expr_places a ++ expr_places b) (sym i) (two_placed a b)
  statement_level s start (StatementForm-F.If c b e) i =
      one_code of (code.Statement s) start (Piece.expression c ∷ (Piece.block b ∷ in_else e)) (expr_places c ++ (block_places b ++ else_places e)) (sym i)
      (placed_first of (Piece.expression c) (Piece.block b ∷ in_else e) (expr_places c) (block_places b ++ else_places e) refl
      (placed_first of (Piece.block b) (in_else e) (block_places b) (else_places e) refl (else_placed e)))
  statement_level s start (StatementForm-F.While c b) i =
      one_code of (code.Statement s) start (Piece.expression c ∷ (Piece.block b ∷ [])) (expr_places c ++ block_places b) (sym i)
      (placed_first of (Piece.expression c) (Piece.block b ∷ []) (expr_places c) (block_places b) refl (placed_one of (Piece.block b) (block_places b) refl))
  statement_level s start (StatementForm-F.Return None) i = one_code of (code.Statement s) start [] [] (sym i) refl
  statement_level s start (StatementForm-F.Return (Some e)) i = one_code of (code.Statement s) start (Piece.expression e ∷ []) (expr_places e) (sym i) (placed_one of (Piece.expression e) (expr_places e) refl)
  statement_level s start StatementForm-F.Break i = one_code of (code.Statement s) start [] [] (sym i) refl
  statement_level s start StatementForm-F.Continue i = one_code of (code.Statement s) start [] [] (sym i) refl
  statement_level s start (StatementForm-F.Local l) i =
      subst (λ xs. Splits of (Some (code.Statement s) ∷ []) (in_local l) xs) (sym (local_is l))
      (one_code of (code.Statement s) (out-Local l).name.span.start (in_local l) (option_places type_places (out-Local l).ty ++ expr_places (out-Local l).value) (sym (i ∙ local_is l)) (local_rest_placed l))

  pub statement_splits : (s : Statement) → Splits of (own (Piece.statement s)) (inner (Piece.statement s)) (statement_places s)
  statement_splits s =
      let start : ℕ = (out-Statement s).span.start in
      let f : StatementForm = (out-Statement s).form in
      let is : statement_places s ≡ statement_form_step (placed_statement_form (out-StatementForm f)) start = statement_is s ∙ statement_form_is f start in
      subst (λ xs. Splits of (own (Piece.statement s)) (inner (Piece.statement s)) xs) (sym is) (statement_level s start (out-StatementForm f) is)

  pub block_splits : (b : Block) → Splits of (own (Piece.block b)) (inner (Piece.block b)) (block_places b)
  block_splits b =
      subst (λ xs. Splits of (own (Piece.block b)) (inner (Piece.block b)) xs) (sym (block_is b))
      (one_code of (code.Block b) (out-Block b).span.start (map Piece.statement (out-Block b).statements) (all (map statement_places (out-Block b).statements)) (sym (block_is b)) (statements_placed (out-Block b).statements))
