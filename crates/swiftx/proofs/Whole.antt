-- The file of a text of prints performs as its source.
use Rattle.std.proofs.Common.{◌≡◌, ◌⊎◌, inl, inr, ℕ, ◌+◌, ◌-◌, ◌*◌, ◌<◌, ◌≤◌, ◌^◌, List, [], ◌∷◌, ◌++◌, length, Option, Some, None, sym, refl, ap, ◌∙◌, subst, arith, append-nil, length-append}
use Rattle.std.specs.Prelude.{replicate}
use Rattle.sx_runs.specs.Machine.{after, shown, with_endings}
use Rattle.sx_runs.specs.Performs.{Performs}
use Rattle.sx_runs.specs.Ending.{Ending as End, Status, Broken}
use Rattle.sx_runs.proofs.Steps.{always}
use Rattle.sx_runs.proofs.Laws.{never_ends}
use Rattle.sx_elf.specs.Loading.{loaded}
use Rattle.sx_elf.specs.Layout.{file_of, loaded_of}
use Rattle.sx_elf.specs.AddressMap.{memory_size}
use Rattle.sx_rv_machine.specs.Memory.{Area}
use Rattle.sx_rv_machine.specs.Load.{zeros, area_of, start_of}
use Rattle.sx_rv_machine.specs.Run.{machine_from}
use Rattle.swiftx.specs.Prints.{print_line, print_lines, HasLines, PrintsText, opening, closing, line_feed}
use Rattle.swiftx.specs.Source.{Task, Enter, Do, Print, done_first, source}
use Rattle.swiftx.specs.PrintCode.{padding, line_size, print_code, exit_code, code_of, AreShort}
use Rattle.swiftx.specs.Target.{as_end, start, target}
use Rattle.swiftx.proofs.Block.{Table, code_area, hart, length-print}
use Rattle.swiftx.proofs.Performs.{begin, performs}

-- the law of the layout: what was written is loaded
abbrev pub Loads : Type 0
Loads = (code : List ℕ) (words : ℕ) → length code ≤ 138739712 → words ≤ 4259840 → loaded (file_of code words) ≡ loaded_of code words

unfoldable pub data_area : Area
data_area = area_of (record { start = 268435456; flags = 6; bytes = []; size = memory_size 0 })

no_zeros : (code : List ℕ) → code ++ zeros (length code - length code) ≡ code
unfolding zeros
no_zeros code = let e : length code - length code ≡ 0 = omega arith in ap (λ n. code ++ replicate n 0) e ∙ append-nil code

start_is : Loads → (code : List ℕ) → length code ≤ 138739712 → start (file_of code 0) ≡ hart (code_area code ∷ data_area ∷ []) 0 0 0 0 65536
unfolding start hart data_area
start_is loads code few =
    ap start_of (loads code 0 few (omega arith))
    ∙ ap (λ (c : List ℕ). record { registers = replicate 32 0; memory = code_area c ∷ area_of (record { start = 268435456; flags = 6; bytes = []; size = memory_size 0 }) ∷ []; pc = 65536; ending = None }) (no_zeros code)

pub performs_file : Table → Loads → (literals : List (List ℕ)) (file : List ℕ) → AreShort literals → length (code_of literals) < 2 ^ 27 → file ≡ file_of (code_of literals) 0 → Performs (source literals) (target file)
unfolding begin
performs_file table loads literals file short few is =
    let code = code_of literals in
    let same : start file ≡ hart (code_area code ∷ data_area ∷ []) 0 0 0 0 65536 = ap start is ∙ start_is loads code (omega (arith, few)) in
    subst (λ s. Performs (source literals) (with_endings as_end (machine_from s))) (sym same) (performs table code (omega (arith, few)) (data_area ∷ []) literals refl short)

-- the source goes on, or has ended with status 0
abbrev Calm : Option End → Type 0
Calm o = (o ≡ None) ⊎ (o ≡ Some (Status 0))

calm_step : (tasks : List Task) (out : List ℕ) → Calm (done_first tasks out).ending
calm_step [] out = inr refl
calm_step (Enter literals ∷ tasks) out = inl refl
calm_step (Do literal ∷ tasks) out = inl refl
calm_step (Print literal ∷ tasks) out = inl refl

not_broken : (o : Option End) → Calm o → o ≡ Some Broken → ⊥
not_broken o (inl e) b = let x : None ≡ Some Broken = sym e ∙ b in absurd (cc)
not_broken o (inr e) b = let x : Some (Status 0) ≡ Some Broken = sym e ∙ b in absurd (cc)

source_is_calm : (literals : List (List ℕ)) (n : ℕ) → (shown (source literals) n).ending ≡ Some Broken → ⊥
source_is_calm literals n b =
    let calm = always (source literals) (λ s. Calm s.ending) (inl refl) (λ s p e. calm_step s.tasks s.out) n in
    not_broken (after (source literals) n).ending calm b

pub never_broken : (literals : List (List ℕ)) (file : List ℕ) → Performs (source literals) (target file) → (n : ℕ) → (shown (target file) n).ending ≡ Some Broken → ⊥
never_broken literals file p n b = never_ends (source literals) (target file) p Broken (source_is_calm literals) n b

-- literals of a text are short, and their code too
length-line : (literal : List ℕ) → length (print_line literal) ≡ length literal + 10
length-line literal =
    let a = length-append opening (literal ++ (closing ++ line_feed ∷ [])) in
    let b = length-append literal (closing ++ line_feed ∷ []) in
    omega (arith, a, b)

short_lines : (literals : List (List ℕ)) → length (print_lines literals) ≤ 262145 → AreShort literals
short_lines [] h = tt
short_lines (l ∷ ls) h =
    let a = length-append (print_line l) (print_lines ls) in
    let b = length-line l in
    (omega (arith, h, a, b), short_lines ls (omega (arith, h, a)))

size_padding : (n : ℕ) → padding n ≤ 3
size_padding n = omega arith

code_size : (literals : List (List ℕ)) → length (code_of literals) ≤ 4 * length (print_lines literals) + 16
unfolding exit_code
code_size [] = omega arith
code_size (l ∷ ls) =
    let a = length-append (print_line l) (print_lines ls) in
    let b = length-line l in
    let c = length-append (print_code l) (code_of ls) in
    let d = length-print l in
    let e = code_size ls in
    let f = size_padding (line_size l) in
    omega (arith, a, b, c, d, e, f)

lines_size : (text : List ℕ) (literals : List (List ℕ)) → HasLines text literals → length text ≤ 262144 → length (print_lines literals) ≤ 262145
lines_size text literals (inl e) h = omega (arith, h, ap length e)
lines_size text literals (inr e) h = omega (arith, h, ap length e, length-append text (line_feed ∷ []))

pub prints_short : (text : List ℕ) (literals : List (List ℕ)) → PrintsText text literals → AreShort literals
prints_short text literals p = short_lines literals (lines_size text literals p.lines p.size)

pub prints_fit : (text : List ℕ) (literals : List (List ℕ)) → PrintsText text literals → length (code_of literals) < 2 ^ 27
prints_fit text literals p = omega (arith, code_size literals, lines_size text literals p.lines p.size)
