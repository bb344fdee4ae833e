-- The first failing test of two lists of tests.
use Rattle.std.proofs.Common.{◌≡◌, ℕ, zero, suc, ◌+◌, ◌-◌, ◌<◌, Bool, true, false, cond, List, [], ◌∷◌, ◌++◌, length, take, drop, get_or, map, Option, Some, None, refl, sym, ap, ◌∙◌, subst, add-one, arith}
use Rattle.std.proofs.Math.Seq.{drop-cons}
use Rattle.std.proofs.lemmas.List.{take_rest}
use Rattle.sx_elf.specs.declared.program_header.ProgramHeader.{ProgramHeader}
use Rattle.sx_elf.specs.declared.elf_stop.ElfStop.{ElfStop}
use Rattle.sx_elf.specs.declared.elf_stop.ElfStop.TheVariants.{NoMemory}
use Rattle.sx_elf.specs.Tests.{Test, first_failing, overlap_test, overlap_tests, IsRefusal}

-- where the first list passes, the second decides
pub first_failing-passed : (front rest : List Test) → first_failing front ≡ None → first_failing (front ++ rest) ≡ first_failing rest
first_failing-passed [] rest h = refl
first_failing-passed (test ∷ front) rest h = after test.passes test.refusal _ _ _ h (first_failing-passed front rest)
  where
    after : (b : Bool) (stop : ElfStop) (x y z : Option ElfStop) → cond b x (Some stop) ≡ None → (x ≡ None → y ≡ z) → cond b y (Some stop) ≡ z
    after true stop x y z h more = more h
    after false stop x y z h more = cc

-- a test that fails there is the first of both
pub first_failing-failed : (front rest : List Test) (stop : ElfStop) → first_failing front ≡ Some stop → first_failing (front ++ rest) ≡ Some stop
first_failing-failed [] rest stop h = cc
first_failing-failed (test ∷ front) rest stop h = after test.passes test.refusal _ _ h (first_failing-failed front rest stop)
  where
    after : (b : Bool) (other : ElfStop) (x y : Option ElfStop) → cond b x (Some other) ≡ Some stop → (x ≡ Some stop → y ≡ Some stop) → cond b y (Some other) ≡ Some stop
    after true other x y h more = more h
    after false other x y h more = h

pub IsRefusal-failed : (front rest : List Test) (stop : ElfStop) → IsRefusal (first_failing front) stop → IsRefusal (first_failing (front ++ rest)) stop
IsRefusal-failed front rest NoMemory h = tt
IsRefusal-failed front rest stop h = first_failing-failed front rest stop h

-- the tests of the segments from one on
overlap_tests-drop : (segments : List ProgramHeader) (i : ℕ) (d : ProgramHeader) → i < length segments
    → overlap_tests (drop i segments) ≡ map (overlap_test (get_or segments i d)) (drop (i + 1) segments) ++ overlap_tests (drop (i + 1) segments)
overlap_tests-drop segments i d h = ap overlap_tests (drop-cons segments i d h ∙ ap (λ n. get_or segments i d ∷ drop n segments) (sym (add-one i)))

pub overlaps_passed : (segments : List ProgramHeader) (i : ℕ) (d : ProgramHeader) → i < length segments
    → first_failing (overlap_tests (drop i segments)) ≡ first_failing (overlap_tests segments)
    → first_failing (map (overlap_test (get_or segments i d)) (take (length segments - (i + 1)) (drop (i + 1) segments))) ≡ None
    → first_failing (overlap_tests (drop (i + 1) segments)) ≡ first_failing (overlap_tests segments)
overlaps_passed segments i d h whole passed =
    let front = map (overlap_test (get_or segments i d)) (drop (i + 1) segments) in
    let none : first_failing front ≡ None = ap (λ xs. first_failing (map (overlap_test (get_or segments i d)) xs)) (sym (take_rest segments (i + 1))) ∙ passed in
    sym (first_failing-passed front (overlap_tests (drop (i + 1) segments)) none) ∙ ap first_failing (sym (overlap_tests-drop segments i d h)) ∙ whole

pub overlaps_failed : (segments : List ProgramHeader) (i : ℕ) (d : ProgramHeader) (stop : ElfStop) → i < length segments
    → first_failing (overlap_tests (drop i segments)) ≡ first_failing (overlap_tests segments)
    → IsRefusal (first_failing (map (overlap_test (get_or segments i d)) (take (length segments - (i + 1)) (drop (i + 1) segments)))) stop
    → IsRefusal (first_failing (overlap_tests segments)) stop
overlaps_failed segments i d stop h whole failed =
    let front = map (overlap_test (get_or segments i d)) (drop (i + 1) segments) in
    let here : IsRefusal (first_failing front) stop = subst (λ xs. IsRefusal (first_failing (map (overlap_test (get_or segments i d)) xs)) stop) (take_rest segments (i + 1)) failed in
    let there : IsRefusal (first_failing (front ++ overlap_tests (drop (i + 1) segments))) stop = IsRefusal-failed front (overlap_tests (drop (i + 1) segments)) stop here in
    subst (λ o. IsRefusal o stop) (ap first_failing (sym (overlap_tests-drop segments i d h)) ∙ whole) there

-- where the first list passes, a refusal by the second is one by both
pub IsRefusal-second : (front rest : List Test) (stop : ElfStop) → first_failing front ≡ None → IsRefusal (first_failing rest) stop → IsRefusal (first_failing (front ++ rest)) stop
IsRefusal-second front rest stop none h = subst (λ o. IsRefusal o stop) (sym (first_failing-passed front rest none)) h

-- where a list passes, so does its first test, and the rest
pub test_passed : (b : Bool) (stop : ElfStop) (x : Option ElfStop) → cond b x (Some stop) ≡ None → (b ≡ true) × (x ≡ None)
test_passed true stop x h = (refl, h)
test_passed false stop x h = cc

-- where two lists pass together, each passes
pub both_passed : (front rest : List Test) → first_failing (front ++ rest) ≡ None → (first_failing front ≡ None) × (first_failing rest ≡ None)
both_passed [] rest h = (refl, h)
both_passed (test ∷ front) rest h =
    let here = test_passed test.passes test.refusal (first_failing (front ++ rest)) h in
    let there = both_passed front rest here.1 in
    (ap (λ b. cond b (first_failing front) (Some test.refusal)) here.0 ∙ there.0, there.1)

-- where a list passes, so does the test at a place
pub test_passed_at : (tests : List Test) (k : ℕ) (d : Test) → k < length tests → first_failing tests ≡ None → (get_or tests k d).passes ≡ true
test_passed_at [] k d within h = absurd (omega arith)
test_passed_at (test ∷ tests) zero d within h = (test_passed test.passes test.refusal (first_failing tests) h).0
test_passed_at (test ∷ tests) (suc k) d within h =
    test_passed_at tests k d (omega arith) (test_passed test.passes test.refusal (first_failing tests) h).1
