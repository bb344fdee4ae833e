-- From what the parts of a call do to what the whole answers.
use Rattle.std.proofs.Common.{◌≡◌, ◌⊎◌, inl, inr, ℕ, ◌<◌, List, [], ◌∷◌, ◌++◌, length, Option, Some, None, sym, refl, ap, subst, append-nil}
use Rattle.std.specs.Prelude.{option_map, codes}
use Rattle.sx_io.specs.Outside.{Files, Call, reading, Rose}
use Rattle.sx_runs.specs.Ending.{Ending as End}
use Rattle.sx_rv_machine.specs.Put.{Told, Grew}
use Rattle.sx_rv_machine.proofs.Puts.{grew_none}
use Rattle.sx_rv_machine.specs.declared.machine.Ending.{Ending as MachineEnding}
use Rattle.sx_rv_machine.specs.declared.machine.Ending.TheVariants.{Exits, Faults}
use Rattle.swiftx.specs.Commands.{Command, Check, Run, Exec, IsCommand, file_name}
use Rattle.swiftx.specs.Prints.{PrintsText, PrintsNothing}
use Rattle.swiftx.specs.Lines.{usage_line, store_line}
use Rattle.swiftx.specs.Outside.{Outside, Asked}
use Rattle.swiftx.specs.Due.{Due, line_due, nothing_due, refusal_due, run_due, Holds, ends_as, ended_with, executed, most_of, CheckDue, faulty, sound, TextDue, refused, unbuilt, ran, ElfDue, unloadable, loadable, ReadDue, IsDue, no_command, unread, read}
use Rattle.swiftx.specs.Answer.{Answered, IsDone, StoreCount}
use Rattle.swiftx.specs.Parts.{Said, Settled, RanOut, Judged, FaultSaid, PrintsSettled, CheckSettled, TextSettled, CommandSettled}
use Rattle.swiftx.proofs.Settle.{has_bytes, said_settled}
use Rattle.swiftx.specs.declared.outcome.Outcome.{Outcome}
use Rattle.swiftx.specs.declared.outcome.Outcome.TheVariants.{Done, Exited, Usage, Refused, ElfRefused, Budget, MachineFault, StoreFault, SinkFault, NoMemory}
use Rattle.sx_driver.specs.Faults.{IsFault}
use Rattle.sx_driver.specs.Lines.{fault_line, kind_word, type_word, line_and_column, placed}
use Rattle.sx_span.specs.Lines.{line_col_of, line_starts}
use Rattle.sx_span.specs.declared.places.LineCol.{LineCol}
use Rattle.std.specs.Fmt.{decimal}
use Rattle.sx_driver.specs.declared.fault.Fault.{Fault}
use Rattle.sx_driver.specs.declared.fault.Fault.TheVariants.{TooLong, Encoding, Lexical, TooManyTokens, Syntax, TooDeep, Typing, TooWide, Late, Unbuilt}
use Rattle.swiftx.specs.declared.bench.Bench.{Bench}

-- an outcome that can be due: no put failed, and memory sufficed
abbrev pub IsUsual : Outcome → Type 0
IsUsual Done = Unit {0}
IsUsual (Exited status) = Unit {0}
IsUsual Usage = Unit {0}
IsUsual (Refused fault) = Unit {0}
IsUsual (ElfRefused stop) = Unit {0}
IsUsual Budget = Unit {0}
IsUsual (MachineFault kind pc) = Unit {0}
IsUsual StoreFault = Unit {0}
IsUsual SinkFault = ⊥
IsUsual NoMemory = ⊥

usual_end : (outcome : Outcome) (x : Option End) → ends_as outcome ≡ Some x → IsUsual outcome
usual_end Done x e = tt
usual_end (Exited status) x e = tt
usual_end Usage x e = tt
usual_end (Refused fault) x e = tt
usual_end (ElfRefused stop) x e = tt
usual_end Budget x e = tt
usual_end (MachineFault kind pc) x e = tt
usual_end StoreFault x e = tt
usual_end SinkFault x e = absurd (cc)
usual_end NoMemory x e = absurd (cc)

-- a run's end leaves the store's count
run_count : (outcome : Outcome) (x : Option End) (before now : ℕ) → ends_as outcome ≡ Some x → now ≡ before → StoreCount outcome before now
run_count Done x before now e h = h
run_count (Exited status) x before now e h = h
run_count Usage x before now e h = h
run_count (Refused fault) x before now e h = h
run_count (ElfRefused stop) x before now e h = h
run_count Budget x before now e h = h
run_count (MachineFault kind pc) x before now e h = h
run_count StoreFault x before now e h = absurd (cc)
run_count SinkFault x before now e h = h
run_count NoMemory x before now e h = h

usual_text : (text : List ℕ) (steps : ℕ) (due : Due) → TextDue text steps due → IsUsual due.outcome
usual_text text steps _ (refused fault h) = tt
usual_text text steps _ (unbuilt tree t h) = tt
usual_text text steps _ (ran tree t file outcome b e) = usual_end outcome _ e

text_count : (text : List ℕ) (steps : ℕ) (due : Due) (before now : ℕ) → TextDue text steps due → now ≡ before → StoreCount due.outcome before now
text_count text steps _ before now (refused fault h) same = same
text_count text steps _ before now (unbuilt tree t h) same = same
text_count text steps _ before now (ran tree t file outcome b e) same = run_count outcome _ before now e same

usual_check : (text : List ℕ) (due : Due) → CheckDue text due → IsUsual due.outcome
usual_check text _ (faulty fault h) = tt
usual_check text _ (sound tree h) = tt

check_count : (text : List ℕ) (due : Due) (before now : ℕ) → CheckDue text due → now ≡ before → StoreCount due.outcome before now
check_count text _ before now (faulty fault h) same = same
check_count text _ before now (sound tree h) same = same

-- a machine's own ending, too
usual_own : (o : Option MachineEnding) → IsUsual (ended_with o)
usual_own None = tt
usual_own (Some (Exits status)) = tt
usual_own (Some (Faults kind pc)) = tt

own_count : (o : Option MachineEnding) (before now : ℕ) → now ≡ before → StoreCount (ended_with o) before now
own_count None before now same = same
own_count (Some (Exits status)) before now same = same
own_count (Some (Faults kind pc)) before now same = same

usual_elf : (file : List ℕ) (steps : ℕ) (due : Due) → ElfDue file steps due → IsUsual due.outcome
usual_elf file steps _ (unloadable stop line is said) = tt
usual_elf file steps _ (loadable is) = usual_own (executed file steps).state.ending

elf_count : (file : List ℕ) (steps : ℕ) (due : Due) (before now : ℕ) → ElfDue file steps due → now ≡ before → StoreCount due.outcome before now
elf_count file steps _ before now (unloadable stop line is said) same = same
elf_count file steps _ before now (loadable is) same = own_count (executed file steps).state.ending before now same

-- by the command
usual_read : (command : Command) (bytes : List ℕ) (due : Due) → ReadDue command bytes due → IsUsual due.outcome
usual_read (Check file) bytes due is = usual_check bytes due is
usual_read (Run file steps) bytes due is = usual_text bytes steps due is
usual_read (Exec file steps) bytes due is = usual_elf bytes steps due is

read_count : (command : Command) (bytes : List ℕ) (due : Due) (before now : ℕ) → ReadDue command bytes due → now ≡ before → StoreCount due.outcome before now
read_count (Check file) bytes due before now is same = check_count bytes due before now is same
read_count (Run file steps) bytes due before now is same = text_count bytes steps due before now is same
read_count (Exec file steps) bytes due before now is same = elf_count bytes steps due before now is same

usual : (words : List (List ℕ)) (files : Option Files) (due : Due) (calls : List Call) → IsDue words files due calls → IsUsual due.outcome
usual words files _ _ (no_command h) = tt
usual words files _ _ (unread command h) = tt
usual words files due _ (read command bytes _ h i t) = usual_read command bytes due t

done_answers : (words : List (List ℕ)) (old new : Outside) (bench : Bench) (outcome : Outcome) → IsUsual outcome → IsDone words old new bench outcome → Answered words old new bench outcome
done_answers words old new bench Done u d = d
done_answers words old new bench (Exited status) u d = d
done_answers words old new bench Usage u d = d
done_answers words old new bench (Refused fault) u d = d
done_answers words old new bench (ElfRefused stop) u d = d
done_answers words old new bench Budget u d = d
done_answers words old new bench (MachineFault kind pc) u d = d
done_answers words old new bench StoreFault u d = d
done_answers words old new bench SinkFault u d = absurd u
done_answers words old new bench NoMemory u d = absurd u

-- what was due was settled
pub settled_answers : (words : List (List ℕ)) (old new : Outside) (bench : Bench) (due : Due) (calls : List Call) (result : Outcome) → IsDue words old.files due calls → Asked old new calls → StoreCount due.outcome old.store_faults new.store_faults → Settled due old.out new.out old.err new.err bench result → Answered words old new bench result
settled_answers words old new bench due calls result is asked store (inl all) =
    done_answers words old new bench result (subst IsUsual (sym all.answers) (usual words old.files due calls is))
    (record { due = due; calls = calls; is = is; asked = asked; store = store; all = all })
settled_answers words old new bench due calls result is asked store (inr cut) =
    subst (λ o. Answered words old new bench o) (sym cut.0) (record { due = due; calls = calls; is = is; asked = asked; store = store; part = cut.1 })

pub asked_none : (o : Option (List Call)) → o ≡ option_map (λ (before : List Call). before ++ []) o
asked_none None = refl
asked_none (Some calls) = ap Some (sym (append-nil calls))

-- the lines are not empty
usage_has_bytes : 0 < length usage_line
unfolding usage_line
usage_has_bytes = has_bytes _ _ usage_line refl

store_has_bytes : 0 < length store_line
unfolding store_line
store_has_bytes = has_bytes _ _ store_line refl

placed_has_bytes : (place : LineCol) (what : List ℕ) → 0 < length (placed place what)
placed_has_bytes place what = has_bytes 101 (codes "rror " ++ (decimal place.line ++ (codes ":" ++ (decimal place.column ++ what)))) (placed place what) refl

fault_has_bytes : (text : List ℕ) (fault : Fault) → 0 < length (fault_line text fault)
unfolding fault_line
fault_has_bytes text TooLong = has_bytes 101 (codes "rror too-long" ++ 10 ∷ []) (codes "error too-long" ++ 10 ∷ []) refl
fault_has_bytes text (Encoding at) = placed_has_bytes (line_col_of (line_starts text) at) (codes " encoding" ++ 10 ∷ [])
fault_has_bytes text (Lexical kind at) = placed_has_bytes (line_col_of (line_starts text) at) (codes " lexical " ++ (kind_word kind ++ 10 ∷ []))
fault_has_bytes text (TooManyTokens at) = placed_has_bytes (line_col_of (line_starts text) at) (codes " too-many-tokens" ++ 10 ∷ [])
fault_has_bytes text (Syntax at) = placed_has_bytes (line_col_of (line_starts text) at) (codes " syntax" ++ 10 ∷ [])
fault_has_bytes text (TooDeep at) = placed_has_bytes (line_col_of (line_starts text) at) (codes " too-deep" ++ 10 ∷ [])
fault_has_bytes text (Typing kind at) = placed_has_bytes (line_col_of (line_starts text) at) (codes " type " ++ (type_word kind ++ 10 ∷ []))
fault_has_bytes text (TooWide at) = placed_has_bytes (line_col_of (line_starts text) at) (codes " too-wide" ++ 10 ∷ [])
fault_has_bytes text (Late at global) = placed_has_bytes (line_col_of (line_starts text) at) (codes " late-global with " ++ line_and_column (line_col_of (line_starts text) global) (10 ∷ []))
fault_has_bytes text Unbuilt = has_bytes 101 (codes "rror unbuilt" ++ 10 ∷ []) (codes "error unbuilt" ++ 10 ∷ []) refl

-- the words are no command
pub usage_answers : (words : List (List ℕ)) (files : Option Files) (asked : Option (List Call)) (faults : ℕ) (out err err' : Told) (line : List ℕ) (result : Outcome) (bench : Bench) → line ≡ usage_line → option_map (λ b. b.bytes.items) bench.built ≡ None → bench.machine ≡ None → ((command : Command) → IsCommand words command → ⊥) → Said Usage result line err err'
    → Answered words (record { files = files; asked = asked; store_faults = faults; out = out; err = err }) (record { files = files; asked = asked; store_faults = faults; out = out; err = err' }) bench result
usage_answers words files asked faults out err err' line result bench e b m none said =
    settled_answers words (record { files = files; asked = asked; store_faults = faults; out = out; err = err }) (record { files = files; asked = asked; store_faults = faults; out = out; err = err' }) bench (line_due Usage usage_line) [] result
    (no_command none) (asked_none asked) refl (said_settled Usage result usage_line out err err' bench usage_has_bytes b m (subst (λ l. Said Usage result l err err') e said))

-- the read failed
pub unread_answers : (words : List (List ℕ)) (files files' : Option Files) (asked asked' : Option (List Call)) (faults faults' : ℕ) (out err err' : Told) (line : List ℕ) (result : Outcome) (bench : Bench) (command : Command) (name : List ℕ) → name ≡ file_name command → line ≡ store_line → option_map (λ b. b.bytes.items) bench.built ≡ None → bench.machine ≡ None → IsCommand words command → asked' ≡ option_map (λ (before : List Call). before ++ reading name ∷ []) asked → Rose faults faults' → Said StoreFault result line err err'
    → Answered words (record { files = files; asked = asked; store_faults = faults; out = out; err = err }) (record { files = files'; asked = asked'; store_faults = faults'; out = out; err = err' }) bench result
unread_answers words files files' asked asked' faults faults' out err err' line result bench command name n e b m is added rose said =
    settled_answers words (record { files = files; asked = asked; store_faults = faults; out = out; err = err }) (record { files = files'; asked = asked'; store_faults = faults'; out = out; err = err' }) bench (line_due StoreFault store_line) (reading (file_name command) ∷ []) result
    (unread command is) (subst (λ x. asked' ≡ option_map (λ (before : List Call). before ++ reading x ∷ []) asked) n added) rose (said_settled StoreFault result store_line out err err' bench store_has_bytes b m (subst (λ l. Said StoreFault result l err err') e said))

-- the file was read
pub read_answers : (words : List (List ℕ)) (old new : Outside) (bench : Bench) (result : Outcome) (command : Command) (name bytes : List ℕ) (most : ℕ) → name ≡ file_name command → most ≡ most_of command → IsCommand words command → Holds old.files name most bytes → Asked old new (reading name ∷ []) → new.store_faults ≡ old.store_faults → RanOut old.out new.out old.err new.err result ⊎ CommandSettled command bytes old.out new.out old.err new.err bench result → Answered words old new bench result
read_answers words old new bench result command name bytes most n k is holds asked same (inl out) =
    subst (λ o. Answered words old new bench o) (sym out.answers)
    (record { out = out.out_same; err = out.err_same; store = same; asked = inr (command, is, subst (λ x. Asked old new (reading x ∷ [])) n asked) })
read_answers words old new bench result command name bytes most n k is holds asked same (inr t) =
    settled_answers words old new bench t.due (reading (file_name command) ∷ []) result
    (read command bytes t.due is (subst (λ x. Holds old.files x (most_of command) bytes) n (subst (λ x. Holds old.files name x bytes) k holds)) t.is)
    (subst (λ x. Asked old new (reading x ∷ [])) n asked) (read_count command bytes t.due _ _ t.is same) t.settled

-- the line of a fault of the text was said, or not
module _ (text : List ℕ) (fault : Fault) (out err err' : Told) (bench : Bench) (result : Outcome) (b : option_map (λ b. b.bytes.items) bench.built ≡ None) (m : bench.machine ≡ None) where
  fault_settled : FaultSaid text fault result err err' → Settled (refusal_due text fault) out out err err' bench result
  fault_settled said = said_settled (Refused fault) result (fault_line text fault) out err err' bench (fault_has_bytes text fault) b m said

  ran_out : (result ≡ NoMemory) × Grew err err' [] → RanOut out out err err' result
  ran_out h = record { answers = h.0; out_same = grew_none out; err_same = h.1 }

  pub check_refused : IsFault text fault → ((result ≡ NoMemory) × Grew err err' []) ⊎ FaultSaid text fault result err err' → RanOut out out err err' result ⊎ CheckSettled text out out err err' bench result
  check_refused is (inl h) = inl (ran_out h)
  check_refused is (inr said) = inr (record { due = refusal_due text fault; is = faulty fault is; settled = fault_settled said })

  pub run_refused : (steps : ℕ) → TextDue text steps (refusal_due text fault) → ((result ≡ NoMemory) × Grew err err' []) ⊎ FaultSaid text fault result err err' → RanOut out out err err' result ⊎ TextSettled text steps out out err err' bench result
  run_refused steps is (inl h) = inl (ran_out h)
  run_refused steps is (inr said) = inr (record { due = refusal_due text fault; is = is; settled = fault_settled said })

-- a text without fault that was only checked
pub check_accepted : (text : List ℕ) (out err : Told) (bench : Bench) → option_map (λ b. b.bytes.items) bench.built ≡ None → bench.machine ≡ None → Judged text None → CheckSettled text out out err err bench Done
check_accepted text out err bench b m h =
    record { due = nothing_due Done; is = sound h.0 h.1; settled = inl (record { answers = refl; out_grew = grew_none out; err_grew = grew_none err; bench_holds = record { built = b; machine = m } }) }

pub prints_settled : (text : List ℕ) (literals : List (List ℕ)) (steps : ℕ) (out out' err err' : Told) (bench : Bench) (result : Outcome) → Judged text None → PrintsText text literals → RanOut out out' err err' result ⊎ PrintsSettled literals steps out out' err err' bench result → RanOut out out' err err' result ⊎ TextSettled text steps out out' err err' bench result
prints_settled text literals steps out out' err err' bench result t p (inl x) = inl x
prints_settled text literals steps out out' err err' bench result t p (inr x) =
    inr (record { due = run_due x.settled.outcome x.file steps; is = ran t.0 t.1 x.file x.settled.outcome (record { literals = literals; prints = p; performs = x.performs }) x.settled.ends; settled = x.settled.settled })

pub no_bytes : (bench : Bench) → bench.built ≡ None → option_map (λ b. b.bytes.items) bench.built ≡ None
no_bytes bench e = ap (option_map (λ b. b.bytes.items)) e
