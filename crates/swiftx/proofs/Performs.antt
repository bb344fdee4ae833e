-- The code of a text of prints performs as its source.
use Rattle.std.proofs.Common.{◌≡◌, ℕ, suc, ◌+◌, ◌%◌, ◌^◌, ◌<◌, ◌≤◌, List, [], ◌∷◌, ◌++◌, map, length, Some, None, sym, refl, ap, ◌∙◌, arith, length-append, append-nil, append_assoc, subst}
use Rattle.sx_runs.specs.Machine.{Machine, with_endings, option_as}
use Rattle.sx_runs.specs.Performs.{Performs}
use Rattle.sx_runs.specs.Simulation.{Coupling, Reaches, Reply, Simulation, IsGrowing}
use Rattle.sx_runs.specs.Ending.{Ending as End, Status}
use Rattle.sx_runs.proofs.Steps.{reaches_none, reaches_one, reaches_then, prefix_refl}
use Rattle.sx_runs.proofs.Simulate.{simulated}
use Rattle.sx_runs.proofs.Laws.{performs_from_all}
use Rattle.sx_rv_machine.specs.Memory.{Area, bytes_at, readable}
use Rattle.sx_rv_machine.specs.State.{State}
use Rattle.sx_rv_machine.specs.Step.{Stepped, step_of}
use Rattle.sx_rv_machine.specs.Run.{Running, machine_from, next, written_by, bytes_or_none}
use Rattle.sx_rv_machine.specs.declared.machine.Event.{Event}
use Rattle.sx_rv_machine.specs.declared.machine.Event.TheVariants.{Went, Wrote, Exited}
use Rattle.sx_rv_machine.specs.declared.machine.Ending.TheVariants.{Exits}
use Rattle.swiftx.specs.Prints.{line_feed}
use Rattle.swiftx.specs.Source.{Task, Enter, Do, Print, SourceState, going, done_first, source}
use Rattle.swiftx.specs.PrintCode.{line_size, stored_size, print_code, exit_code, code_of, AreShort}
use Rattle.swiftx.specs.Target.{as_end}
use Rattle.swiftx.proofs.Block.{Table, code_area, hart, stepped, running, exited, step0, step1, step2, step3, step4, step5, step6, step7, text_there, exit0, exit1, exit2, length-print, upper_value}

module _ (table : Table) (code : List ℕ) (few : length code < 2 ^ 29) (more : List Area) where
  abbrev pub memory : List Area
  memory = code_area code ∷ more

  unfoldable pub begin : State
  begin = hart memory 0 0 0 0 65536

  abbrev pub machine : Machine Running (Unit {0}) End
  machine = with_endings as_end (machine_from begin)

  abbrev To : Running → Running → ℕ → Type 0
  To r t k = Reaches machine (λ b. 1) (λ b. Unit {0}) r t k k

  next_by : (s : State) (x : Stepped) (out : List ℕ) → step_of s ≡ x → next (running s out) ≡ record { state = x.state; out = out ++ written_by s.memory x.event 1; err = [] ++ written_by s.memory x.event 2 }
  unfolding running
  next_by s x out e = ap (λ (y : Stepped). record { state = y.state; out = out ++ written_by s.memory y.event 1; err = [] ++ written_by s.memory y.event 2 }) e

  going_on : (s : State) (out : List ℕ) → s.ending ≡ None → (machine.see (running s out)).ending ≡ None
  unfolding running
  going_on s out e = ap (option_as as_end) e

  -- a step that writes nothing
  silent : (s t : State) (e : Event) (out : List ℕ) → s.ending ≡ None → step_of s ≡ stepped e t → ((o : ℕ) → written_by s.memory e o ≡ []) → To (running s out) (running t out) 1
  unfolding stepped running
  silent s t e out on is quiet =
      reaches_one machine (λ b. 1) (λ b. Unit {0}) (running s out) (running t out) (going_on s out on) tt
      (next_by s (stepped e t) out is
      ∙ ap (λ x. record { state = t; out = out ++ x; err = written_by s.memory e 2 }) (quiet 1)
      ∙ ap (λ x. record { state = t; out = out ++ []; err = x }) (quiet 2)
      ∙ ap (λ x. running t x) (append-nil out))

  -- a step that writes to the first output
  writes : (s t : State) (at count : ℕ) (bytes out : List ℕ) → s.ending ≡ None → step_of s ≡ stepped (Wrote 1 at count) t → bytes_at s.memory readable at count ≡ Some bytes → To (running s out) (running t (out ++ bytes)) 1
  unfolding stepped running
  writes s t at count bytes out on is there =
      reaches_one machine (λ b. 1) (λ b. Unit {0}) (running s out) (running t (out ++ bytes)) (going_on s out on) tt
      (next_by s (stepped (Wrote 1 at count) t) out is
      ∙ ap (λ x. running t (out ++ bytes_or_none x)) there)

  then : (r s t : Running) (j k : ℕ) → To r s j → To s t k → To r t (j + k)
  then r s t j k p q = reaches_then machine (λ b. 1) (λ b. Unit {0}) r s t j k j k p q

  abbrev at : ℕ → ℕ → ℕ → ℕ → ℕ → List ℕ → Running
  at a b c d pc out = running (hart memory a b c d pc) out

  -- what the machine's state at a source state is: the code from pc on does what is pending
  data Related : SourceState → Running → Type 0 where
    entering : (literals : List (List ℕ)) → code ≡ code_of literals → AreShort literals → Related (going (Enter literals ∷ []) []) (running begin [])
    doing : (front : List ℕ) (literals : List (List ℕ)) (a b c d pc : ℕ) (out : List ℕ) → code ≡ front ++ code_of literals → pc ≡ 65536 + length front → pc % 4 ≡ 0 → AreShort literals → Related (going (map Do literals) out) (at a b c d pc out)
    printing : (front : List ℕ) (literal : List ℕ) (literals : List (List ℕ)) (a b c d pc : ℕ) (out : List ℕ) → code ≡ front ++ (print_code literal ++ code_of literals) → pc ≡ 65536 + length front → pc % 4 ≡ 0 → AreShort (literal ∷ literals) → Related (going (Print literal ∷ map Do literals) out) (at a b c d pc out)
    over : (s : State) (out : List ℕ) → s.ending ≡ Some (Exits 0) → Related (record { tasks = []; out = out; ending = Some (Status 0) }) (running s out)

  -- how far a state is from a step that the machine answers by a step
  abbrev rank : List Task → ℕ
  rank [] = 0
  rank (Enter literals ∷ tasks) = 2
  rank (Do literal ∷ tasks) = 1
  rank (Print literal ∷ tasks) = 0

  abbrev coupling : Coupling SourceState Running
  coupling = record { holds = λ a. Unit {0}; relates = Related; measure = λ a. rank a.tasks; cost = λ a. 8; price = λ b. 1; meanwhile = λ a b. Unit {0} }

  see_same : (literals : List (List ℕ)) (a : SourceState) (b : Running) → Unit {0} → Related a b → (source literals).see a ≡ machine.see b
  unfolding running hart begin
  see_same ls a b i (entering literals e short) = refl
  see_same ls a b i (doing front literals x y z w pc out e f g h) = refl
  see_same ls a b i (printing front literal literals x y z w pc out e f g h) = refl
  see_same ls a b i (over s out e) = ap (λ o. record { out = out; err = []; events = []; ending = option_as as_end o }) (sym e)

  rank_do : (literals : List (List ℕ)) → rank (map Do literals) < 2
  rank_do [] = omega arith
  rank_do (literal ∷ literals) = omega arith

  module _ (program : List (List ℕ)) where
    abbrev Replies : SourceState → Running → Type 0
    Replies a b = Reply (source program) machine coupling a b

    -- no step of the machine
    stays : (a : SourceState) (b : Running) → Related (done_first a.tasks a.out) b → rank (done_first a.tasks a.out).tasks < rank a.tasks → Replies a b
    stays a b r l =
        record { count = 0; most = 0; to = b; reaches = reaches_none machine (λ b. 1) (λ b. Unit {0}) b; related = r; falls = λ z. l; within = omega arith }

    moves : (a : SourceState) (b to : Running) (k : ℕ) → To b to (suc k) → suc k ≤ 8 → Related (done_first a.tasks a.out) to → Replies a b
    moves a b to k g l r = record { count = suc k; most = suc k; to = to; reaches = g; related = r; falls = λ z. absurd (omega arith); within = l }

    replies_enter : (literals : List (List ℕ)) → code ≡ code_of literals → AreShort literals → Replies (going (Enter literals ∷ []) []) (running begin [])
    unfolding begin
    replies_enter literals e short =
        let same : map Do literals ≡ map Do literals ++ [] = sym (append-nil (map Do literals)) in
        stays (going (Enter literals ∷ []) []) (running begin [])
        (subst (λ x. Related (going x []) (running begin [])) same (doing [] literals 0 0 0 0 65536 [] e refl refl short))
        (subst (λ x. rank x < 2) same (rank_do literals))

    near : (front rest : List ℕ) (pc : ℕ) → code ≡ front ++ rest → pc ≡ 65536 + length front → pc < 2 ^ 30
    near front rest pc e at = omega (arith, few, at, ap length e, length-append front rest)

    replies_exit : (front : List ℕ) (a b c d pc : ℕ) (out : List ℕ) → code ≡ front ++ exit_code → pc ≡ 65536 + length front → pc % 4 ≡ 0 → Replies (going [] out) (at a b c d pc out)
    unfolding hart exited
    replies_exit front a b c d pc out e is multiple =
        let low = near front exit_code pc e is in
        let m : List ℕ → List Area = λ x. code_area x ∷ more in
        let s0 = subst (λ x. step_of (hart (m x) a b c d pc) ≡ stepped Went (hart (m x) 0 b c d (pc + 4))) (sym e) (exit0 table front more pc is multiple low a b c d) in
        let s1 = subst (λ x. step_of (hart (m x) 0 b c d (pc + 4)) ≡ stepped Went (hart (m x) 0 b c 93 (pc + 8))) (sym e) (exit1 table front more pc is multiple low b c d) in
        let s2 = subst (λ x. step_of (hart (m x) 0 b c 93 (pc + 8)) ≡ stepped (Exited 0) (record (hart (m x) 0 b c 93 (pc + 8)) { ending = Some (Exits 0) })) (sym e) (exit2 table front more pc is multiple low b c) in
        let last : State = record (hart memory 0 b c 93 (pc + 8)) { ending = Some (Exits 0) } in
        let g0 = silent (hart memory a b c d pc) (hart memory 0 b c d (pc + 4)) Went out refl s0 (λ o. refl) in
        let g1 = silent (hart memory 0 b c d (pc + 4)) (hart memory 0 b c 93 (pc + 8)) Went out refl s1 (λ o. refl) in
        let g2 = silent (hart memory 0 b c 93 (pc + 8)) last (Exited 0) out refl s2 (λ o. refl) in
        moves (going [] out) (at a b c d pc out) (running last out) 2 (then _ _ _ 1 2 g0 (then _ _ _ 1 1 g1 g2)) (omega arith) (over last out refl)

    -- the place behind a line's code
    behind_is : (front literal : List ℕ) (pc : ℕ) → pc ≡ 65536 + length front → pc + (32 + stored_size literal) ≡ 65536 + length (front ++ print_code literal)
    behind_is front literal pc is = omega (arith, is, length-append front (print_code literal), length-print literal)

    behind_multiple : (literal : List ℕ) (pc : ℕ) → pc % 4 ≡ 0 → (pc + (32 + stored_size literal)) % 4 ≡ 0
    behind_multiple literal pc e = omega (arith, e)

    replies_print : (front literal : List ℕ) (literals : List (List ℕ)) (a b c d pc : ℕ) (out : List ℕ) → code ≡ front ++ (print_code literal ++ code_of literals) → pc ≡ 65536 + length front → pc % 4 ≡ 0 → AreShort (literal ∷ literals) → Replies (going (Print literal ∷ map Do literals) out) (at a b c d pc out)
    unfolding hart
    replies_print front literal literals a b c d pc out e is multiple short =
        let rest = code_of literals in
        let low = near front (print_code literal ++ rest) pc e is in
        let m : List ℕ → List Area = λ x. code_area x ∷ more in
        let n = line_size literal in
        let upper = upper_value literal in
        let line = literal ++ line_feed ∷ [] in
        let end = pc + (32 + stored_size literal) in
        let go : (a b c d p a' b' c' d' p' : ℕ) → step_of (hart (m (front ++ (print_code literal ++ rest))) a b c d p) ≡ stepped Went (hart (m (front ++ (print_code literal ++ rest))) a' b' c' d' p') → (o : List ℕ) → To (at a b c d p o) (at a' b' c' d' p' o) 1 =
        λ a b c d p a' b' c' d' p' s o. silent (hart memory a b c d p) (hart memory a' b' c' d' p') Went o refl (subst (λ x. step_of (hart (m x) a b c d p) ≡ stepped Went (hart (m x) a' b' c' d' p')) (sym e) s) (λ o. refl) in
        let g0 = go a b c d pc 1 b c d (pc + 4) (step0 table front rest literal more pc is multiple short.0 low a b c d) out in
        let g1 = go 1 b c d (pc + 4) 1 (pc + 4) c d (pc + 8) (step1 table front rest literal more pc is multiple short.0 low b c d) out in
        let g2 = go 1 (pc + 4) c d (pc + 8) 1 (pc + 32) c d (pc + 12) (step2 table front rest literal more pc is multiple short.0 low c d) out in
        let g3 = go 1 (pc + 32) c d (pc + 12) 1 (pc + 32) upper d (pc + 16) (step3 table front rest literal more pc is multiple short.0 low c d) out in
        let g4 = go 1 (pc + 32) upper d (pc + 16) 1 (pc + 32) n d (pc + 20) (step4 table front rest literal more pc is multiple short.0 low d) out in
        let g5 = go 1 (pc + 32) n d (pc + 20) 1 (pc + 32) n 64 (pc + 24) (step5 table front rest literal more pc is multiple short.0 low d) out in
        let s6 = subst (λ x. step_of (hart (m x) 1 (pc + 32) n 64 (pc + 24)) ≡ stepped (Wrote 1 (pc + 32) n) (hart (m x) n (pc + 32) n 64 (pc + 28))) (sym e) (step6 table front rest literal more pc is multiple short.0 low) in
        let t6 = subst (λ x. bytes_at (m x) readable (pc + 32) n ≡ Some line) (sym e) (text_there table front rest literal more pc is multiple short.0 low) in
        let g6 = writes (hart memory 1 (pc + 32) n 64 (pc + 24)) (hart memory n (pc + 32) n 64 (pc + 28)) (pc + 32) n line out refl s6 t6 in
        let g7 = go n (pc + 32) n 64 (pc + 28) n (pc + 32) n 64 end (step7 table front rest literal more pc is multiple short.0 low) (out ++ line) in
        let all = then _ _ _ 1 7 g0 (then _ _ _ 1 6 g1 (then _ _ _ 1 5 g2 (then _ _ _ 1 4 g3 (then _ _ _ 1 3 g4 (then _ _ _ 1 2 g5 (then _ _ _ 1 1 g6 g7)))))) in
        moves (going (Print literal ∷ map Do literals) out) (at a b c d pc out) (at n (pc + 32) n 64 end (out ++ line)) 7 all (omega arith)
        (doing (front ++ print_code literal) literals n (pc + 32) n 64 end (out ++ line) (e ∙ sym (append_assoc front (print_code literal) rest)) (behind_is front literal pc is) (behind_multiple literal pc multiple) short.1)

    replies : (a : SourceState) (b : Running) → Unit {0} → Unit {0} → Related a b → a.ending ≡ None → Replies a b
    replies a b i i' (entering literals e short) h = replies_enter literals e short
    replies a b i i' (doing front [] x y z w pc out e f g short) h = replies_exit front x y z w pc out e f g
    replies a b i i' (doing front (literal ∷ literals) x y z w pc out e f g short) h =
        stays (going (Do literal ∷ map Do literals) out) (at x y z w pc out) (printing front literal literals x y z w pc out e f g short) (omega arith)
    replies a b i i' (printing front literal literals x y z w pc out e f g short) h = replies_print front literal literals x y z w pc out e f g short
    replies a b i i' (over s out e) h = absurd (cc)

  growing : IsGrowing machine
  growing = record {
    grows = λ r. record {
      out = record { rest = written_by r.state.memory (step_of r.state).event 1; is = refl };
      err = record { rest = written_by r.state.memory (step_of r.state).event 2; is = refl };
      events = prefix_refl [];
    };
  }

  simulation : (literals : List (List ℕ)) → code ≡ code_of literals → AreShort literals → Simulation (source literals) machine coupling
  unfolding running
  simulation literals e short =
      record {
        reached = λ n. tt;
        grows = growing;
        start = entering literals e short;
        see = see_same literals;
        reply = replies literals;
        ended = λ a b e i r h. tt;
      }

  pub performs : (literals : List (List ℕ)) → code ≡ code_of literals → AreShort literals → Performs (source literals) machine
  performs literals e short = performs_from_all (source literals) machine (simulated (source literals) machine coupling (simulation literals e short))
