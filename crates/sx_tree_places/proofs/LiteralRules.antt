-- The rules of closure literals.
use Rattle.std.proofs.Common.{ℕ, List, [], ◌∷◌, map}
use Rattle.sx_span.specs.declared.places.Span.{Span}
use Rattle.sx_tree.specs.declared.code.Expr.{Expr}
use Rattle.sx_tree.specs.declared.code.ExprForm.TheVariants as forms
use Rattle.sx_tree.specs.declared.code.Link.{Link}
use Rattle.sx_tree.specs.declared.code.Part.{Part}
use Rattle.sx_tree.specs.declared.written_types.ClosureParameter.{ClosureParameter}
use Rattle.sx_tree.specs.declared.written_types.Signature.TheVariants as signatures
use Rattle.sx_tree.specs.Nodes.{all, closure_parameter_places, option_places, type_places}
use Rattle.sx_grammar.specs.declared.lexemes.Mode.TheVariants as modes
use Rattle.sx_grammar.specs.declared.lexemes.Sort.TheVariants as sorts
use Rattle.sx_grammar.specs.Value.{Value, nothing, pair, an_expr, a_signature}
use Rattle.sx_grammar.specs.Rules.{assigned_of, bracket_literal, bracket_or_signature, bracket_tail, chained, closing, compare, conjunction, expr_in, first_of, first_part, from_bracket, from_to, inside, links_in, literal, literal_inside, name_of_expr, option_in, parts_in, postfixed, product, second_of, signature_tail, span_of, type_in, unary, whole_expr}
use Rattle.sx_tree_places.proofs.Each.{Each, each_all, each_append, each_option}
use Rattle.sx_tree_places.proofs.Placed.{ClosureParameterPlaced, ExprPlaced, LinkPlaced, PartPlaced, Placed, KeptBy, SignaturePlaced, TypePlaced}
use Rattle.sx_tree_places.proofs.MadeExprs.{bracketed, expr_made}
use Rattle.sx_tree_places.proofs.Inside.{closure_parameters_placed, expr_placed, first_placed, inside_placed, links_placed, option_placed, parts_placed, second_placed, span_placed, type_placed}
use Rattle.sx_tree_places.proofs.InsideCode.{statement_placed, statements_placed}
use Rattle.sx_tree_places.proofs.Keeps.{Keeps}
use Rattle.sx_tree_places.proofs.TypeRules.{keeps_arrow}
use Rattle.sx_tree_places.proofs.OperandRules.{keeps_parts_behind, keeps_unary, postfixed_placed}
use Rattle.sx_tree_places.proofs.ExprRules.{chained_placed, keeps_compare, keeps_conjunction, keeps_links, keeps_product, keeps_relation}
use Rattle.sx_tree_places.proofs.SignatureRules.{keeps_from_other, keeps_others, parameter_of_placed}
use Rattle.sx_tree_places.proofs.StatementRules.{assigned_placed, keeps_assigned, keeps_block_items, keeps_keyword_statement, keeps_local}

module _ (P : ℕ → Type 0) (least : P 0) where
  bracket_or_signature_placed : (s : Span) (v : Value) (t : Span) → P s.start → Placed P v → Placed P (bracket_or_signature s v t)
  bracket_or_signature_placed s nothing t h k = tt
  bracket_or_signature_placed s (pair e nothing) t h (k, l) = expr_made P (from_to s t) (forms.Bracketed (expr_in e)) h (bracketed P (expr_in e) (expr_placed P least e k))
  bracket_or_signature_placed s (pair e (pair p ps)) t h (k, (l, m)) = (parameter_of_placed P least (name_of_expr (expr_in e)) p (expr_placed P least e k).0 l, closure_parameters_placed P least ps m)
  bracket_or_signature_placed s v t h k = tt

  keeps_first_part : Keeps P first_part
  unfolding first_part
  keeps_first_part = (
    λ v h. bracket_or_signature_placed (span_of (first_of v)) (inside v) (span_of (closing v)) (span_placed P least (first_of v) (first_placed P least v h)) (inside_placed P least v h),
    tt,
  )

  keeps_signature_tail : Keeps P signature_tail
  unfolding signature_tail
  keeps_signature_tail = ((keeps_arrow P least, tt), (tt, keeps_block_items P least))

  keeps_bracket_tail : Keeps P bracket_tail
  unfolding bracket_tail
  keeps_bracket_tail = (
    keeps_parts_behind P least modes.Free,
    (
      keeps_links P least (sorts.Times ∷ []) (unary modes.Free) (keeps_unary P least modes.Free),
      (
        keeps_links P least (sorts.Plus ∷ sorts.Minus ∷ []) (product modes.Free) (keeps_product P least modes.Free),
        (
          keeps_relation P least modes.Free,
          (
            keeps_links P least (sorts.And ∷ []) (compare modes.Free) (keeps_compare P least modes.Free),
            (keeps_links P least (sorts.Or ∷ []) (conjunction modes.Free) (keeps_conjunction P least modes.Free), (keeps_assigned P least, keeps_others P least)),
          ),
        ),
      ),
    ),
  )

  chained_all : (e : Expr) (ls : List Link) → ExprPlaced P e → Each (LinkPlaced P) ls → ExprPlaced P (chained e ls)
  chained_all e ls h k = chained_placed P least e ls h k

  whole_expr_placed : (e : Expr) (ps : List Part) (a b c d f : List Link) → ExprPlaced P e → Each (PartPlaced P) ps →
      Each (LinkPlaced P) a → Each (LinkPlaced P) b → Each (LinkPlaced P) c → Each (LinkPlaced P) d → Each (LinkPlaced P) f → ExprPlaced P (whole_expr e ps a b c d f)
  whole_expr_placed e ps a b c d f h i j k l m n =
      let zero : Expr = postfixed e ps in
      let one : Expr = chained zero a in
      let two : Expr = chained one b in
      let three : Expr = chained two c in
      let four : Expr = chained three d in
      chained_all four f (chained_all three d (chained_all two c (chained_all one b (chained_all zero a (postfixed_placed P least e ps h i) j) k) l) m) n

  typed_signature : (ps : List ClosureParameter) (v : Value) → Each (ClosureParameterPlaced P) ps → Placed P v → SignaturePlaced P (signatures.Typed ps (option_in type_in v))
  typed_signature ps v h k =
      each_append P (all (map closure_parameter_places ps)) (option_places type_places (option_in type_in v))
      (each_all P (ClosureParameterPlaced P) closure_parameter_places (λ p l. (l.0, l.1.1)) ps h)
      (each_option P (TypePlaced P) type_places (λ t l. l.1) (option_in type_in v) (option_placed P least (TypePlaced P) type_in (λ w l. type_placed P least w l) v k))

  bracket_literal_placed : KeptBy P bracket_literal
  bracket_literal_placed (pair (a_signature ps) (pair r (pair i b))) (h, (k, (l, m))) = (typed_signature ps (second_of r) h (second_placed P least r k), statements_placed P least b m)
  bracket_literal_placed (pair (an_expr e) (pair ps (pair times (pair sums (pair compared (pair ands (pair ors (pair a b)))))))) (h, (i, (j, (k, (l, (m, (n, (o, p)))))))) =
      let whole : Expr = whole_expr e (parts_in ps) (links_in times) (links_in sums) (links_in compared) (links_in ands) (links_in ors) in
      let placed : ExprPlaced P whole =
      whole_expr_placed e (parts_in ps) (links_in times) (links_in sums) (links_in compared) (links_in ands) (links_in ors) h (parts_placed P least ps i)
      (links_placed P least times j) (links_placed P least sums k) (links_placed P least compared l) (links_placed P least ands m) (links_placed P least ors n) in
      (tt, (statement_placed P least (assigned_of whole a) (assigned_placed P least whole a placed o), statements_placed P least b p))
  bracket_literal_placed v h = tt

  keeps_from_bracket : Keeps P from_bracket
  unfolding from_bracket
  keeps_from_bracket = (bracket_literal_placed, (keeps_first_part, keeps_signature_tail, keeps_bracket_tail))

  keeps_literal_inside : Keeps P literal_inside
  unfolding literal_inside
  keeps_literal_inside = (
    (
      λ v h. (tt, (statement_placed P least (first_of v) (first_placed P least v h), statements_placed P least (second_of v) (second_placed P least v h))),
      ((keeps_local P least, keeps_keyword_statement P least), keeps_others P least),
    ),
    (keeps_from_bracket, (keeps_from_other P least, (λ v h. (tt, tt), tt))),
  )

  pub keeps_literal : Keeps P literal
  unfolding literal
  keeps_literal = (keeps_literal_inside, tt)
