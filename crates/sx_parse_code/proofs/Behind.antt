-- What stands behind the part that begins a closure literal.
use Rattle.std.proofs.Common.{◌≡◌, ℕ, List, [], ◌∷◌, Bool, true, false, cond, refl, sym, ap, ◌∙◌}
use Rattle.sx_grammar.specs.declared.lexemes.Lexeme.{Lexeme}
use Rattle.sx_grammar.specs.declared.lexemes.Sort.TheVariants as sorts
use Rattle.sx_grammar.specs.Classes.{any}
use Rattle.sx_tree.specs.declared.code.Expr.{Expr}
use Rattle.sx_tree.specs.declared.code.Statement.{Statement}
use Rattle.sx_tree.specs.declared.written_types.ClosureParameter.{ClosureParameter}
use Rattle.sx_parse_decl.specs.declared.stop.Stop.{Stop}
use Rattle.sx_parse_decl.specs.Reading.{Stops}
use Rattle.sx_parse_decl.proofs.Parts.{stops_at, stops_then}
use Rattle.sx_grammar.specs.Value.{Value, pair, an_expr, a_statement, a_signature, a_literal, statements}
use Rattle.sx_tree.specs.declared.written_types.Signature.TheVariants as signatures
use Rattle.sx_grammar.specs.Grammar.{Grammar, empty, many, both, either, select, begin, giving, starts, stands, first, Out, done, fault, ◌>>=◌, run, run_with, opening}
use Rattle.sx_grammar.specs.Rules.{body, literal_inside, from_bracket, first_part, bracket_tail, signature_tail, named_signature, others, separator, block_item, block_items, row_item, names, bracket_literal, named_literal, name_of_statement, statement_in, list_in, second_of, from_other, expr_statement, expr, conjunction, compare, sum, product, unary, operand, closure_at, postfix, primary}
use Rattle.sx_grammar.proofs.Equations.{both_is, giving_is, select_is, either_left, either_right}
use Rattle.sx_grammar.proofs.Steps.{chosen, passed}
use Rattle.sx_parse_code.specs.Productions.{statement_literal, with_parts, with_types, with_names, with_others}
use Rattle.sx_parse_code.proofs.Steps.{paired}
use Rattle.sx_parse_code.proofs.Firsts.{starts_stands}

module _ (l : ℕ) where
  -- values that are the same wherever they are asked for
  value_same : (f g : Value → Value) → ((w : Value) → f w ≡ g w) → (o : Out) → (o >>= λ w r. done (f w) r) ≡ (o >>= λ w r. done (g w) r)
  value_same f g h (done w r) = ap (λ (x : Value). done x r) (h w)
  value_same f g h (fault r c) = refl

  giving_same : (a : Grammar) (f g : Value → Value) → ((w : Value) → f w ≡ g w) → (ts : List Lexeme) → run body l (giving f a) ts ≡ run body l (giving g a) ts
  giving_same a f g h ts = giving_is l f a ts ∙ value_same f g h (run body l a ts) ∙ sym (giving_is l g a ts)

  then_same : (b : Grammar) (f g : Value → Value) → ((v : Value) (mid : List Lexeme) → run body l (giving (λ w. f (pair v w)) b) mid ≡ run body l (giving (λ w. g (pair v w)) b) mid) → (o : Out)
      → ((o >>= λ v mid. run body l b mid >>= λ w r. done (pair v w) r) >>= λ u r. done (f u) r) ≡ ((o >>= λ v mid. run body l b mid >>= λ w r. done (pair v w) r) >>= λ u r. done (g u) r)
  then_same b f g h (done v mid) = paired f v (run body l b mid) ∙ sym (giving_is l (λ w. f (pair v w)) b mid) ∙ h v mid ∙ giving_is l (λ w. g (pair v w)) b mid ∙ sym (paired g v (run body l b mid))
  then_same b f g h (fault r c) = refl

  both_same : (a b : Grammar) (f g : Value → Value) → ((v : Value) (mid : List Lexeme) → run body l (giving (λ w. f (pair v w)) b) mid ≡ run body l (giving (λ w. g (pair v w)) b) mid) → (ts : List Lexeme) → run body l (giving f (both a b)) ts ≡ run body l (giving g (both a b)) ts
  both_same a b f g h ts =
      giving_is l f (both a b) ts ∙ ap (λ (o : Out). o >>= λ u r. done (f u) r) (both_is l a b ts)
      ∙ then_same b f g h (run body l a ts)
      ∙ sym (giving_is l g (both a b) ts ∙ ap (λ (o : Out). o >>= λ u r. done (g u) r) (both_is l a b ts))

  -- an expression in brackets
  pub tail_same : (e : Expr) (ts : List Lexeme) → run body l (giving (λ v. bracket_literal (pair (an_expr e) v)) bracket_tail) ts ≡ run body l (giving (with_parts e) bracket_tail) ts
  unfolding bracket_tail
  tail_same e ts =
      both_same _ _ _ _ (λ v1 m1. both_same _ _ _ _ (λ v2 m2. both_same _ _ _ _ (λ v3 m3. both_same _ _ _ _ (λ v4 m4. both_same _ _ _ _ (λ v5 m5. both_same _ _ _ _ (λ v6 m6. both_same _ _ _ _ (λ v7 m7. giving_same _ _ _ (λ w. refl) m7) m6) m5) m4) m3) m2) m1) ts

  pub types_same : (ps : List ClosureParameter) (ts : List Lexeme) → run body l (giving (λ v. bracket_literal (pair (a_signature ps) v)) signature_tail) ts ≡ run body l (giving (with_types ps) signature_tail) ts
  unfolding signature_tail
  types_same ps ts = both_same _ _ _ _ (λ v1 m1. both_same _ _ _ _ (λ v2 m2. giving_same _ _ _ (λ w. refl) m2) m1) ts

  pub names_same : (s : Statement) (ts : List Lexeme) → run body l (giving (λ v. named_literal (pair (a_statement s) v)) named_signature) ts ≡ run body l (giving (with_names (name_of_statement s)) named_signature) ts
  unfolding named_signature
  names_same s ts = both_same _ _ _ _ (λ v1 m1. giving_same _ _ _ (λ w. refl) m1) ts

  row_same : (f g : Value → Value) → ((ss : List Statement) → f (statements ss) ≡ g (statements ss)) → (v : Value) (o : Out)
      → ((((o >>= λ vs r. done (statements (list_in statement_in vs)) r) >>= λ w r. done (pair v w) r) >>= λ u r. done (second_of u) r) >>= λ u r. done (f u) r)
      ≡ ((((o >>= λ vs r. done (statements (list_in statement_in vs)) r) >>= λ w r. done (pair v w) r) >>= λ u r. done (second_of u) r) >>= λ u r. done (g u) r)
  row_same f g h v (done vs r) = ap (λ (x : Value). done x r) (h (list_in statement_in vs))
  row_same f g h v (fault r c) = refl

  behind_same : (f g : Value → Value) → ((ss : List Statement) → f (statements ss) ≡ g (statements ss)) → (k : List Lexeme → Out) (o : Out)
      → (((o >>= λ v m. (k m >>= λ vs r. done (statements (list_in statement_in vs)) r) >>= λ w r. done (pair v w) r) >>= λ u r. done (second_of u) r) >>= λ u r. done (f u) r)
      ≡ (((o >>= λ v m. (k m >>= λ vs r. done (statements (list_in statement_in vs)) r) >>= λ w r. done (pair v w) r) >>= λ u r. done (second_of u) r) >>= λ u r. done (g u) r)
  behind_same f g h k (done v m) = row_same f g h v (k m)
  behind_same f g h k (fault r c) = refl

  pub others_same : (s : Statement) (ts : List Lexeme) → run body l (giving (λ v. named_literal (pair (a_statement s) v)) others) ts ≡ run body l (giving (with_others s) others) ts
  unfolding others block_items run run_with
  others_same s ts = behind_same (λ v. named_literal (pair (a_statement s) v)) (with_others s) (λ ss. refl) (run_with (opening body l) (many (row_item block_item))) (run_with (opening body l) separator ts)

  -- the second part of a choice
  module _ (f : Value → Value) (a : Grammar) (p : Value → Bool) (b c : Grammar) (v : Value) (ts mid : List Lexeme) (h : run body l a ts ≡ done v mid) where
    select_then : run body l (giving f (select a p b c)) ts ≡ (cond (p v) (run body l b mid) (run body l c mid) >>= λ w r. done (f (pair v w)) r)
    select_then = giving_is l f (select a p b c) ts
        ∙ ap (λ (o : Out). o >>= λ u r. done (f u) r) (select_is l a b c p ts ∙ ap (λ (o : Out). o >>= λ v mid. cond (p v) (run body l b mid) (run body l c mid) >>= λ w rest. done (pair v w) rest) h)
        ∙ paired f v (cond (p v) (run body l b mid) (run body l c mid))

    pub select_true : p v ≡ true → run body l (giving f (select a p b c)) ts ≡ run body l (giving (λ w. f (pair v w)) b) mid
    select_true e = select_then ∙ ap (λ (o : Out). o >>= λ w r. done (f (pair v w)) r) (chosen (p v) _ _ e) ∙ sym (giving_is l (λ w. f (pair v w)) b mid)

    pub select_false : p v ≡ false → run body l (giving f (select a p b c)) ts ≡ run body l (giving (λ w. f (pair v w)) c) mid
    select_false e = select_then ∙ ap (λ (o : Out). o >>= λ w r. done (f (pair v w)) r) (passed (p v) _ _ e) ∙ sym (giving_is l (λ w. f (pair v w)) c mid)

  pub select_stops : (e : Stop) (f : Value → Value) (a : Grammar) (p : Value → Bool) (b c : Grammar) (ts : List Lexeme) → Stops e (run body l a ts) → Stops e (run body l (giving f (select a p b c)) ts)
  select_stops e f a p b c ts h = stops_at e _ _ (giving_is l f (select a p b c) ts) (stops_then e (run body l (select a p b c) ts) _ (stops_at e _ _ (select_is l a b c p ts) (stops_then e (run body l a ts) _ h)))

  pub giving_left : (f : Value → Value) (a b : Grammar) (ts : List Lexeme) → starts (first a) ts ≡ true → run body l (giving f (either a b)) ts ≡ run body l (giving f a) ts
  giving_left f a b ts h = giving_is l f (either a b) ts ∙ ap (λ (o : Out). o >>= λ u r. done (f u) r) (either_left l a b ts h) ∙ sym (giving_is l f a ts)

  pub giving_right : (f : Value → Value) (a b : Grammar) (ts : List Lexeme) → starts (first a) ts ≡ false → run body l (giving f (either a b)) ts ≡ run body l (giving f b) ts
  giving_right f a b ts h = giving_is l f (either a b) ts ∙ ap (λ (o : Out). o >>= λ u r. done (f u) r) (either_right l a b ts h) ∙ sym (giving_is l f b ts)

  abbrev pub other_starts : List ℕ
  other_starts = any (sorts.Int ∷ sorts.True ∷ sorts.False ∷ sorts.SelfWord ∷ sorts.Negate ∷ sorts.Not ∷ sorts.OpenBrace ∷ sorts.OpenObservers ∷ names)

  first_other : first from_other ≡ other_starts
  unfolding from_other expr_statement expr conjunction compare sum product unary operand closure_at postfix primary
  first_other = refl

  pub other_begins : (ts : List Lexeme) → starts (first from_other) ts ≡ true → run body l (begin other_starts expr_statement) ts ≡ run body l expr_statement ts
  unfolding run run_with
  other_begins ts h = chosen (stands other_starts ts) _ _ (starts_stands other_starts ts (ap (λ (ks : List ℕ). starts ks ts) (sym first_other) ∙ h))

  pub first_bracket_is : first from_bracket ≡ any (sorts.OpenRound ∷ [])
  unfolding from_bracket first_part
  first_bracket_is = refl

  -- the ways in which a literal may begin
  module _ (ts : List Lexeme) where
    pub inside_statement : starts (first statement_literal) ts ≡ true → run body l literal_inside ts ≡ run body l statement_literal ts
    unfolding literal_inside
    inside_statement h = either_left l _ _ ts h

    bracket_starts : (b : Bool) → starts (any (sorts.OpenRound ∷ [])) ts ≡ b → starts (first from_bracket) ts ≡ b
    bracket_starts b h = ap (λ (ks : List ℕ). starts ks ts) first_bracket_is ∙ h

    pub inside_bracket : starts (first statement_literal) ts ≡ false → starts (any (sorts.OpenRound ∷ [])) ts ≡ true → run body l literal_inside ts ≡ run body l from_bracket ts
    unfolding literal_inside
    inside_bracket h k = either_right l _ _ ts h ∙ either_left l _ _ ts (bracket_starts true k)

    pub inside_other : starts (first statement_literal) ts ≡ false → starts (any (sorts.OpenRound ∷ [])) ts ≡ false → starts (first from_other) ts ≡ true → run body l literal_inside ts ≡ run body l from_other ts
    unfolding literal_inside
    inside_other h k m = either_right l _ _ ts h ∙ either_right l _ _ ts (bracket_starts false k) ∙ either_left l _ _ ts m

    abbrev none : Grammar
    none = giving (λ v. a_literal signatures.Absent []) empty

    pub inside_nothing : starts (first statement_literal) ts ≡ false → starts (any (sorts.OpenRound ∷ [])) ts ≡ false → starts (first from_other) ts ≡ false → run body l literal_inside ts ≡ done (a_literal signatures.Absent []) ts
    unfolding literal_inside run run_with
    inside_nothing h k m =
        either_right l statement_literal (either from_bracket (either from_other none)) ts h
        ∙ either_right l from_bracket (either from_other none) ts (bracket_starts false k)
        ∙ either_right l from_other none ts m
