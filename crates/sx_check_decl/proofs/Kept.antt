-- Settling keeps the types.
use Rattle.std.proofs.Common.{◌≡◌, ℕ, zero, suc, Bool, true, false, cond, List, [], ◌∷◌, Option, Some, None, refl, ◌∙◌}
use Rattle.sx_span.specs.declared.places.Node.{Node}
use Rattle.sx_tree.specs.declared.code.Expr.{Expr}
use Rattle.sx_scope.specs.Names.{given_known}
use Rattle.sx_scope.specs.Verdict.{Verdict, typed, untold, depends, fails}
use Rattle.sx_heads.specs.Heads.{at}
use Rattle.sx_members.specs.Variables.{VariableParts, given_value, stop_of}
use Rattle.sx_settle.specs.declared.taking.Taking.{Taking}
use Rattle.sx_settle.specs.declared.taking.Taking.TheVariants as takings
use Rattle.sx_settle.specs.Settled.{Giving, Settling, enough, judged_again, round_from, rounds, settled, settled_certainly, settled_one, stays, told_by, with_failed}
use Rattle.std.specs.Prelude.{slice_get}

kept_told : (q : Taking) (i : ℕ) (v : Verdict VariableParts) (s : Settling) → (told_by q i v s).declarations.types ≡ s.declarations.types
kept_told takings.Certain i (typed x w) s = refl
kept_told takings.Certain i (untold w) s = refl
kept_told takings.Certain i (depends w) s = refl
kept_told takings.Certain i (fails f fs w) s = refl
kept_told takings.Depending i (typed x w) s = refl
kept_told takings.Depending i (untold w) s = refl
kept_told takings.Depending i (depends w) s = refl
kept_told takings.Depending i (fails f fs w) s = refl
kept_told takings.Everything i (typed x w) s = refl
kept_told takings.Everything i (untold w) s = refl
kept_told takings.Everything i (depends w) s = refl
kept_told takings.Everything i (fails f fs w) s = refl

kept_again : (q : Taking) (i : ℕ) (n : Node) (o : Option Expr) (s : Settling) → (judged_again q i n o s).declarations.types ≡ s.declarations.types
kept_again q i n None s = refl
kept_again q i n (Some e) s = kept_told q i (given_value s.declarations n e (at (suc n.0))) s

kept_unless : (b : Bool) (q : Taking) (i : ℕ) (g : Giving) (s : Settling) → (cond b s (judged_again q i g.node g.value s)).declarations.types ≡ s.declarations.types
kept_unless true q i g s = refl
kept_unless false q i g s = kept_again q i g.node g.value s

kept_one : (q : Taking) (i : ℕ) (g : Giving) (s : Settling) → (settled_one q i g s).declarations.types ≡ s.declarations.types
kept_one q i g s = kept_unless (stays q (given_known (slice_get s.declarations.given i)) (stop_of s.stops i)) q i g s

kept_round : (q : Taking) (i : ℕ) (gs : List Giving) (s : Settling) → (round_from q i gs s).declarations.types ≡ s.declarations.types
kept_round q i [] s = refl
kept_round q i (g ∷ gs) s = kept_round q (suc i) gs (settled_one q i g s) ∙ kept_one q i g s

kept_rounds : (q : Taking) (n : ℕ) (gs : List Giving) (s : Settling) → (rounds q n gs s).declarations.types ≡ s.declarations.types
unfolding rounds
kept_rounds q zero gs s = refl
kept_rounds q (suc n) gs s = kept_rounds q n gs (round_from q 0 gs s) ∙ kept_round q 0 gs s

pub settling_keeps_types : (gs : List Giving) (s : Settling) → (settled gs s).declarations.types ≡ s.declarations.types
settling_keeps_types gs s =
    kept_rounds takings.Everything (enough gs) gs (rounds takings.Depending (enough gs) gs (settled_certainly gs s))
    ∙ kept_rounds takings.Depending (enough gs) gs (settled_certainly gs s)
    ∙ kept_rounds takings.Certain (enough gs) gs (with_failed s)
