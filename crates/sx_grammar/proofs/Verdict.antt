-- What a run answers is what the table says.
use Rattle.std.proofs.Common.{◌≡◌, ℕ, ◌≤◌, List, [], length, Bool, true, false, refl, sym, ap, ◌∙◌, subst, inl, inr, arith}
use Rattle.sx_grammar.specs.declared.lexemes.Lexeme.{Lexeme}
use Rattle.sx_grammar.specs.Value.{Value}
use Rattle.sx_grammar.specs.Grammar.{Grammar, Opens, Out, done, fault, Cause, misfit, missing, run, fine, is_none}
use Rattle.sx_grammar.specs.Rules.{body, tail, program, head}
use Rattle.sx_grammar.specs.Answer.{IsFarthest, IsShallow, IsRead, IsMisfit, OpensTooMuch, IsBlocked, IsTooDeep, opens_too_much, is_blocked, AtMostOne}
use Rattle.sx_grammar.proofs.Beginnings.{rest_of, IsDeep}
use Rattle.sx_grammar.proofs.Steps.{fresh_runs}
use Rattle.sx_grammar.proofs.Runs.{Ran, exact, longer, deep, run_finds}
use Rattle.sx_grammar.proofs.Fronts.{Ended, Found, found, Reach, far, missed, run_reaches}
use Rattle.sx_grammar.proofs.Levels.{Deep, run_deep}
use Rattle.sx_grammar.proofs.Earliest.{IsMissing, run_misses}
use Rattle.sx_grammar.proofs.Counts.{order, front_opens, opens_front}
use Rattle.sx_grammar.proofs.Table.{is_fine, program_fine, head_fine}

module _ (l : ℕ) (g : Grammar) (f : fine tail g ≡ true) (ts : List Lexeme) where
  not_deep : (o : Out) (v : Value) (rest : List Lexeme) → o ≡ done v rest → IsDeep o → ⊥
  not_deep o v rest e x = let y = sym e ∙ x.is in cc y

  misfit_not_deep : (o : Out) (b : Bool) (rest : List Lexeme) → o ≡ fault rest (misfit b) → IsDeep o → ⊥
  misfit_not_deep o b rest e x = let y = sym e ∙ x.is in cc y

  missing_deep : (o : Out) (s : List Lexeme) → IsMissing o s → IsDeep o
  missing_deep o s m = record { at = m.at; is = m.is }

  same_value : (v w : Value) (r s : List Lexeme) → done v r ≡ done w s → v ≡ w
  same_value v w r s e = cc

  rest_at : (o p : Out) → o ≡ p → length (rest_of o) ≡ length (rest_of p)
  rest_at o p e = ap (λ (x : Out). length (rest_of x)) e

  shallow_if : (run body l g ts ≡ run body l g ts → IsDeep (run body l g ts) → ⊥) → IsShallow l g ts
  shallow_if n m other p = elim (order m l) [ inl h ↦ h | inr h ↦ let o = front_opens body p l h in absurd (n refl (missing_deep _ _ (run_misses body tail is_fine o.opens f))) ]

  farthest_at : (o : Out) (m : ℕ) (rest other : List Lexeme) → (IsDeep o → ⊥) → length (rest_of o) ≡ length rest → Reach l m o other → length rest ≤ length other
  farthest_at o m rest other n e (far h k) = omega (arith, h, e)
  farthest_at o m rest other n e (missed x) = absurd (n x)

  farthest_if : (rest : List Lexeme) → (IsDeep (run body l g ts) → ⊥) → length (rest_of (run body l g ts)) ≡ length rest → IsFarthest g ts rest
  farthest_if rest n e m other p = farthest_at (run body l g ts) m rest other n e (run_reaches body tail is_fine p l f)

  only_value : (v w : Value) (o : Out) (rest : List Lexeme) → o ≡ done v rest → Ran (is_none l) tail g w o rest → w ≡ v
  only_value v w o rest e (exact q) = same_value w v rest rest (sym q ∙ e)
  only_value v w o rest e (longer s k fr) = let x = rest_at o (done v rest) e in absurd (omega (arith, k, x))
  only_value v w o rest e (deep x le) = absurd (not_deep o v rest e x)

  pub done_is : (v : Value) (rest : List Lexeme) → run body l g ts ≡ done v rest → IsRead l g ts v rest
  done_is v rest h = record {
    whole = subst (Found body l g ts) h (found body l g ts);
    only = λ w p. only_value v w (run body l g ts) rest h (run_finds body tail is_fine p l f);
    farthest = farthest_if rest (not_deep (run body l g ts) v rest h) (rest_at (run body l g ts) (done v rest) h);
    shallow = shallow_if (λ e x. not_deep (run body l g ts) v rest h x);
  }

  no_value : (w : Value) (b : Bool) (o : Out) (rest : List Lexeme) → o ≡ fault rest (misfit b) → Ran (is_none l) tail g w o rest → ⊥
  no_value w b o rest e (exact q) = let y = sym e ∙ q in cc y
  no_value w b o rest e (longer s k fr) = let x = rest_at o (fault rest (misfit b)) e in omega (arith, k, x)
  no_value w b o rest e (deep x le) = misfit_not_deep o b rest e x

  ended : (rest : List Lexeme) (c : Cause) → run body l g ts ≡ fault rest c → Ended body l g ts rest c
  ended rest c h = subst (Found body l g ts) h (found body l g ts)

  pub misfit_is : (rest : List Lexeme) → run body l g ts ≡ fault rest (misfit false) → IsMisfit l g ts rest
  misfit_is rest h = record {
    open_levels = (ended rest (misfit false) h).count;
    front = (ended rest (misfit false) h).front;
    farthest = farthest_if rest (misfit_not_deep (run body l g ts) false rest h) (rest_at (run body l g ts) (fault rest (misfit false)) h);
    not_whole = λ w p. no_value w false (run body l g ts) rest h (run_finds body tail is_fine p l f);
    shallow = shallow_if (λ e x. misfit_not_deep (run body l g ts) false rest h x);
    room = λ s. record { open_levels = (ended rest (misfit false) h).count; front = (ended rest (misfit false) h).front; fewer = (ended rest (misfit false) h).fewer refl s };
  }

  held : (o : Out) (m : ℕ) (rest : List Lexeme) → o ≡ fault rest (misfit true) → Reach l m o rest → l ≤ m
  held o m rest e (far h k) = k e
  held o m rest e (missed x) = absurd (misfit_not_deep o true rest e x)

  blocked : (rest : List Lexeme) → run body l g ts ≡ fault rest (misfit true) → IsBlocked l g ts rest
  unfolding run
  blocked rest h = record {
    open_levels = (ended rest (misfit true) h).count;
    front = (ended rest (misfit true) h).front;
    farthest = farthest_if rest (misfit_not_deep (run body l g ts) true rest h) (rest_at (run body l g ts) (fault rest (misfit true)) h);
    not_whole = λ w p. no_value w true (run body l g ts) rest h (run_finds body tail is_fine p l f);
    shallow = shallow_if (λ e x. misfit_not_deep (run body l g ts) true rest h x);
    bracket = (fresh_runs body l g ts rest h).0;
    full = λ m p. held (run body l g ts) m rest h (run_reaches body tail is_fine p l f);
  }

  before_missing : (o : Out) (s rest : List Lexeme) → o ≡ fault rest missing → IsMissing o s → length s ≤ length rest
  before_missing o s rest e m = let y = sym e ∙ m.is in let z : rest ≡ m.at = cc y in let w = ap (λ (r : List Lexeme). length r) z in let b = m.before in omega (arith, w, b)

  missing_is : (rest : List Lexeme) → run body l g ts ≡ fault rest missing → OpensTooMuch l g ts rest
  missing_is rest h =
      let d : Opens body l g ts rest = (subst (Deep body l g ts) h (run_deep body l g ts)).0 in
      let o = opens_front body d in
      record {
        open_levels = (ended rest missing h).count;
        before = (ended rest missing h).front;
        token = o.token;
        behind = o.behind;
        there = o.there;
        front = o.front;
        earliest = λ m other p k. let q = front_opens body p l k in let x = before_missing (run body l g ts) q.at rest h (run_misses body tail is_fine q.opens f) in let y = q.before in omega (arith, x, y);
      }

  pub too_deep_is : (rest : List Lexeme) (c : Cause) → run body l g ts ≡ fault rest c → (c ≡ misfit false → ⊥) → IsTooDeep l g ts rest
  too_deep_is rest (misfit true) h n = is_blocked (blocked rest h)
  too_deep_is rest (misfit false) h n = absurd (n refl)
  too_deep_is rest missing h n = opens_too_much (missing_is rest h)

-- with as many levels as tokens none is missing
module _ (g : Grammar) (f : fine tail g ≡ true) where
  never_deep : (ts : List Lexeme) → IsDeep (run body (length ts) g ts) → ⊥
  never_deep ts x = let d = subst (Deep body (length ts) g ts) x.is (run_deep body (length ts) g ts) in let y = d.1 in omega (arith, y)

  two : (l : ℕ) (v w : Value) (o : Out) → (IsDeep o → ⊥) → Ran (is_none l) tail g v o [] → Ran (is_none l) tail g w o [] → v ≡ w
  two l v w o n (exact e) (exact q) = let y = sym e ∙ q in cc y
  two l v w o n (longer s le fr) r = absurd (cc)
  two l v w o n (deep x le) r = absurd (n x)
  two l v w o n (exact e) (longer s le fr) = absurd (cc)
  two l v w o n (exact e) (deep x le) = absurd (n x)

  pub at_most_one : AtMostOne g
  at_most_one ts v w p q = two (length ts) v w (run body (length ts) g ts) (never_deep ts) (run_finds body tail is_fine p (length ts) f) (run_finds body tail is_fine q (length ts) f)

pub one_program : AtMostOne program
one_program = at_most_one program program_fine

pub one_head : AtMostOne head
one_head = at_most_one head head_fine
