-- The rules of closures, operands and the parts behind them.
use Rattle.std.proofs.Common.{ℕ, List, [], ◌∷◌, true, false}
use Rattle.sx_span.specs.declared.places.Span.{Span}
use Rattle.sx_token.specs.declared.kinds.Kind.{Kind}
use Rattle.sx_tree.specs.declared.code.Expr.{Expr}
use Rattle.sx_tree.specs.declared.code.ExprForm.TheVariants as forms
use Rattle.sx_tree.specs.declared.code.Part.{Part}
use Rattle.sx_grammar.specs.declared.lexemes.Mode.{Mode}
use Rattle.sx_grammar.specs.declared.lexemes.Mode.TheVariants as modes
use Rattle.sx_grammar.specs.declared.lexemes.Sort.{Sort}
use Rattle.sx_grammar.specs.declared.lexemes.Sort.TheVariants as sorts
use Rattle.sx_grammar.specs.Value.{Value, leaf, pair, a_literal, an_expr}
use Rattle.sx_grammar.specs.Rules.{arguments_in, bracketed_value, call_value, closing, closure_at, closure_expr, closure_form, closure_in, closure_value, constant_form, constant_of, constant_value, end_of, expr_in, exprs_in, first_of, from_to, index_value, inside, int_of, inverted, last_part, member_value, name_in, named_value, negated, operand, option_in, part, part_in, parts_behind, parts_in, postfix, postfixed, primary, print_value, second_of, span_of, text_in, trailing, unary}
use Rattle.sx_tree_places.proofs.Each.{Each}
use Rattle.sx_tree_places.proofs.Placed.{ClosurePlaced, ExprPlaced, PartPlaced, Placed, KeptBy}
use Rattle.sx_tree_places.proofs.MadeExprs.{FormPlaced, bracketed, expr_made, int, invert, least_int, literal, named, negate, print_text, self_word, truth}
use Rattle.sx_tree_places.proofs.MadeExprs as made
use Rattle.sx_tree_places.proofs.MadeParts.{call, closure_made, index, member}
use Rattle.sx_tree_places.proofs.Inside.{arguments_placed, closure_placed, expr_placed, exprs_placed, first_placed, inside_placed, list_placed, opening_placed, option_placed, part_placed, parts_placed, second_placed, span_placed}
use Rattle.sx_tree_places.proofs.Keeps.{Keeps}

module _ (P : ℕ → Type 0) (least : P 0) where
  -- ---- closures
  closure_form_placed : (s : Span) (v : Value) (t : Span) → P s.start → Placed P v → Placed P (closure_form s v t)
  closure_form_placed s (a_literal g ss) t h (k, l) = closure_made P (from_to s t) g ss h k l
  closure_form_placed s v t h k = tt

  closure_value_placed : KeptBy P closure_value
  closure_value_placed v h = closure_form_placed (span_of (first_of v)) (inside v) (span_of (closing v)) (opening_placed P least v h) (inside_placed P least v h)

  keeps_closure_at : (cs : List ℕ) → Keeps P (closure_at cs)
  unfolding closure_at
  keeps_closure_at cs = (closure_value_placed, tt)

  keeps_trailing : (m : Mode) → Keeps P (trailing m)
  unfolding trailing
  keeps_trailing modes.Free = (keeps_closure_at _, tt)
  keeps_trailing modes.Initial = (keeps_closure_at _, tt)
  keeps_trailing modes.Condition = tt

  -- ---- operands
  constant_placed : (s : Sort) (k : Kind) → FormPlaced P (constant_of s k)
  constant_placed sorts.Int k = int P (int_of k)
  constant_placed sorts.True k = truth P true
  constant_placed sorts.False k = truth P false
  constant_placed s k = self_word P

  constant_value_placed : KeptBy P constant_value
  constant_value_placed (leaf l) h = expr_made P l.token.span (constant_form l) h (constant_placed l.sort l.token.kind)
  constant_value_placed v h = tt

  named_value_placed : KeptBy P named_value
  named_value_placed v h =
      expr_made P (from_to (span_of (first_of v)) (end_of (second_of v) (first_of v))) (forms.Named (name_in (first_of v)).number (option_in closure_in (second_of v))) (opening_placed P least v h)
      (named P (name_in (first_of v)).number (option_in closure_in (second_of v)) (option_placed P least (ClosurePlaced P) closure_in (λ w k. closure_placed P least w k) (second_of v) (second_placed P least v h)))

  print_value_placed : KeptBy P print_value
  print_value_placed (pair n (pair o x)) (h, k) =
      expr_made P (from_to (span_of n) (span_of (second_of x))) (forms.PrintText (text_in (first_of x))) (span_placed P least n h) (print_text P (text_in (first_of x)))
  print_value_placed v h = named_value_placed v h

  bracketed_value_placed : KeptBy P bracketed_value
  bracketed_value_placed v h =
      expr_made P (from_to (span_of (first_of v)) (span_of (closing v))) (forms.Bracketed (expr_in (inside v))) (opening_placed P least v h)
      (bracketed P (expr_in (inside v)) (expr_placed P least (inside v) (inside_placed P least v h)))

  keeps_primary : (m : Mode) → Keeps P (primary m)
  unfolding primary
  keeps_primary m = ((constant_value_placed, tt), ((named_value_placed, (tt, keeps_trailing m)), ((print_value_placed, (tt, (tt, keeps_trailing m))), (bracketed_value_placed, tt))))

  -- ---- parts behind an operand
  member_value_placed : KeptBy P member_value
  member_value_placed v h =
      let n : Value = first_of (second_of v) in
      let c : Value = second_of (second_of v) in
      member P (end_of c n).end (name_in n) (option_in closure_in c)
      (option_placed P least (ClosurePlaced P) closure_in (λ w k. closure_placed P least w k) c (second_placed P least (second_of v) (second_placed P least v h)))

  index_value_placed : KeptBy P index_value
  index_value_placed v h = index P (span_of (closing v)).end (exprs_in (inside v)) (exprs_placed P least (inside v) (inside_placed P least v h))

  call_value_placed : KeptBy P call_value
  call_value_placed v h =
      call P (end_of (second_of v) (closing (first_of v))).end (arguments_in (inside (first_of v))) (option_in closure_in (second_of v))
      (arguments_placed P least (inside (first_of v)) (inside_placed P least (first_of v) (first_placed P least v h)))
      (option_placed P least (ClosurePlaced P) closure_in (λ w k. closure_placed P least w k) (second_of v) (second_placed P least v h))

  keeps_part : (m : Mode) → Keeps P (part m)
  unfolding part
  keeps_part m = ((member_value_placed, (tt, (tt, keeps_trailing m))), ((index_value_placed, tt), (call_value_placed, (tt, keeps_trailing m))))

  pub postfixed_placed : (e : Expr) (ps : List Part) → ExprPlaced P e → Each (PartPlaced P) ps → ExprPlaced P (postfixed e ps)
  postfixed_placed e [] h k = h
  postfixed_placed e (p ∷ ps) h k = expr_made P (record { start = e.span.start; end = last_part 0 (p ∷ ps) }) (forms.Postfix e (p ∷ ps)) h.0 (made.postfix P e (p ∷ ps) h k)

  pub keeps_parts_behind : (m : Mode) → Keeps P (parts_behind m)
  unfolding parts_behind
  keeps_parts_behind m = (λ v h. list_placed P least (PartPlaced P) part_in (λ w k. part_placed P least w k) v h, keeps_part m)

  pub keeps_postfix : (m : Mode) → Keeps P (postfix m)
  unfolding postfix
  keeps_postfix m = (
    λ v h. postfixed_placed (expr_in (first_of v)) (parts_in (second_of v)) (expr_placed P least (first_of v) (first_placed P least v h)) (parts_placed P least (second_of v) (second_placed P least v h)),
    (keeps_primary m, keeps_parts_behind m),
  )

  -- ---- signs before an operand
  negated_placed : KeptBy P negated
  negated_placed (pair m (an_expr e)) (h, k) = expr_made P (from_to (span_of m) e.span) (forms.Negate e) (span_placed P least m h) (negate P e k)
  negated_placed (pair m n) (h, k) = expr_made P (from_to (span_of m) (span_of n)) forms.LeastInt (span_placed P least m h) (least_int P)
  negated_placed v h = tt

  inverted_placed : KeptBy P inverted
  inverted_placed v h =
      expr_made P (from_to (span_of (first_of v)) (span_of (second_of v))) (forms.Not (expr_in (second_of v))) (opening_placed P least v h)
      (invert P (expr_in (second_of v)) (expr_placed P least (second_of v) (second_placed P least v h)))

  closure_expr_placed : KeptBy P closure_expr
  closure_expr_placed v h = expr_made P (span_of v) (forms.Closure (closure_in v)) (span_placed P least v h) (literal P (closure_in v) (closure_placed P least v h))

  keeps_operand : (m : Mode) → Keeps P (operand m)
  unfolding operand
  keeps_operand modes.Free = ((closure_expr_placed, keeps_closure_at _), keeps_postfix modes.Free)
  keeps_operand modes.Initial = ((closure_expr_placed, keeps_closure_at _), keeps_postfix modes.Initial)
  keeps_operand modes.Condition = keeps_postfix modes.Condition

  pub keeps_unary : (m : Mode) → Keeps P (unary m)
  unfolding unary
  keeps_unary m = ((negated_placed, (tt, (tt, keeps_postfix m))), ((inverted_placed, (tt, keeps_postfix m)), keeps_operand m))
