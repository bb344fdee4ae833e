-- A whole file by the tests of its parts.
use Rattle.std.proofs.Common.{◌≡◌, ℕ, List, ◌++◌, None, ◌∙◌}
use Rattle.sx_elf.specs.declared.elf_stop.ElfStop.{ElfStop}
use Rattle.sx_elf.specs.Tests.{first_failing, first_fault, file_header_tests, segment_tests, overlap_tests, size_tests, loads, IsRefusal}
use Rattle.sx_elf.proofs.Failing.{first_failing-passed, IsRefusal-failed, IsRefusal-second}

-- the tests of the parts, where all pass
pub record IsPassed (bytes : List ℕ) : Type 0 where
  pub header : first_failing (file_header_tests bytes) ≡ None
  pub segments : first_failing (segment_tests bytes) ≡ None
  pub overlaps : first_failing (overlap_tests (loads bytes)) ≡ None
  pub size : first_failing (size_tests (loads bytes)) ≡ None

-- the tests of a segment alone, and with those of overlaps
to_segments : (bytes : List ℕ) → first_failing (file_header_tests bytes) ≡ None → first_failing (segment_tests bytes) ≡ None
    → first_failing (file_header_tests bytes ++ segment_tests bytes) ≡ None
to_segments bytes header segments = first_failing-passed (file_header_tests bytes) (segment_tests bytes) header ∙ segments

to_overlaps : (bytes : List ℕ) → first_failing (file_header_tests bytes) ≡ None → first_failing (segment_tests bytes) ≡ None
    → first_failing (overlap_tests (loads bytes)) ≡ None
    → first_failing (file_header_tests bytes ++ segment_tests bytes ++ overlap_tests (loads bytes)) ≡ None
to_overlaps bytes header segments overlaps =
    first_failing-passed (file_header_tests bytes ++ segment_tests bytes) (overlap_tests (loads bytes)) (to_segments bytes header segments) ∙ overlaps

-- a refusal at the file header, at a program header, at two segments, and at their size
pub in_file_header : (bytes : List ℕ) (stop : ElfStop) → IsRefusal (first_failing (file_header_tests bytes)) stop → IsRefusal (first_fault bytes) stop
unfolding first_fault
in_file_header bytes stop h =
    IsRefusal-failed (file_header_tests bytes ++ segment_tests bytes ++ overlap_tests (loads bytes)) (size_tests (loads bytes)) stop
    (IsRefusal-failed (file_header_tests bytes ++ segment_tests bytes) (overlap_tests (loads bytes)) stop
    (IsRefusal-failed (file_header_tests bytes) (segment_tests bytes) stop h))

pub in_segments : (bytes : List ℕ) (stop : ElfStop) → first_failing (file_header_tests bytes) ≡ None
    → IsRefusal (first_failing (segment_tests bytes)) stop → IsRefusal (first_fault bytes) stop
unfolding first_fault
in_segments bytes stop header h =
    IsRefusal-failed (file_header_tests bytes ++ segment_tests bytes ++ overlap_tests (loads bytes)) (size_tests (loads bytes)) stop
    (IsRefusal-failed (file_header_tests bytes ++ segment_tests bytes) (overlap_tests (loads bytes)) stop
    (IsRefusal-second (file_header_tests bytes) (segment_tests bytes) stop header h))

pub in_overlaps : (bytes : List ℕ) (stop : ElfStop) → first_failing (file_header_tests bytes) ≡ None → first_failing (segment_tests bytes) ≡ None
    → IsRefusal (first_failing (overlap_tests (loads bytes))) stop → IsRefusal (first_fault bytes) stop
unfolding first_fault
in_overlaps bytes stop header segments h =
    IsRefusal-failed (file_header_tests bytes ++ segment_tests bytes ++ overlap_tests (loads bytes)) (size_tests (loads bytes)) stop
    (IsRefusal-second (file_header_tests bytes ++ segment_tests bytes) (overlap_tests (loads bytes)) stop (to_segments bytes header segments) h)

pub in_size : (bytes : List ℕ) (stop : ElfStop) → first_failing (file_header_tests bytes) ≡ None → first_failing (segment_tests bytes) ≡ None
    → first_failing (overlap_tests (loads bytes)) ≡ None
    → IsRefusal (first_failing (size_tests (loads bytes))) stop → IsRefusal (first_fault bytes) stop
unfolding first_fault
in_size bytes stop header segments overlaps h =
    IsRefusal-second (file_header_tests bytes ++ segment_tests bytes ++ overlap_tests (loads bytes)) (size_tests (loads bytes)) stop
    (to_overlaps bytes header segments overlaps) h

-- no refusal
pub nowhere : (bytes : List ℕ) → IsPassed bytes → first_fault bytes ≡ None
unfolding first_fault
nowhere bytes p =
    first_failing-passed (file_header_tests bytes ++ segment_tests bytes ++ overlap_tests (loads bytes)) (size_tests (loads bytes))
    (to_overlaps bytes p.header p.segments p.overlaps) ∙ p.size
