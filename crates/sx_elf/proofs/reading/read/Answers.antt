use Rattle.std.proofs.Common.{◌≡◌, ◌≤◌, Err, length, map, rules, sym, ap, ◌∙◌, subst}
use Rattle.sx_elf.specs.Tests.{first_fault, first_failing, overlap_tests, size_tests, loads, IsAnswer, IsRefusal}
use Rattle.sx_elf.specs.Loading.{loaded, view, part_of, parts_in, IsLoadable}
use Rattle.sx_elf.proofs.Passing.{in_file_header, in_segments, in_overlaps, in_size, nowhere, IsPassed}
use Rattle.sx_elf.proofs.Memory.{few_loads, loadable, loaded_by_parts}
use Rattle.sx_elf.proofs.reading.read.Goals as goal

pub returns-in_err-check_file_header-clause-answer : goal.returns-in_err-check_file_header-clause-answer
returns-in_err-check_file_header-clause-answer c =
    let same : c.from_residual.result ≡ Err c.in_err-check_file_header.field-0.0 = search rules in
    subst (λ r. IsAnswer (first_fault c.args.bytes.now) r) (sym same)
    (in_file_header c.args.bytes.now _ c.in_err-check_file_header.ensures.answer)

pub returns-in_err-headers-clause-answer : goal.returns-in_err-headers-clause-answer
returns-in_err-headers-clause-answer c =
    let same : c.from_residual-in_err-headers.result ≡ Err c.in_err-headers.field-0.0 = search rules in
    subst (λ r. IsAnswer (first_fault c.args.bytes.now) r) (sym same)
    (in_segments c.args.bytes.now _ c.in_ok-check_file_header.ensures.answer c.in_err-headers.ensures.answer)

pub returns-in_err-check_overlaps-clause-answer : goal.returns-in_err-check_overlaps-clause-answer
returns-in_err-check_overlaps-clause-answer c =
    let same : c.from_residual-in_err-check_overlaps.result ≡ Err c.in_err-check_overlaps.field-0.0 = search rules in
    let segments : c.deref.result.now ≡ loads c.args.bytes.now = search rules in
    subst (λ r. IsAnswer (first_fault c.args.bytes.now) r) (sym same)
    (in_overlaps c.args.bytes.now _ c.in_ok-check_file_header.ensures.answer c.in_ok-headers.ensures.answer
    (subst (λ xs. IsRefusal (first_failing (overlap_tests xs)) c.in_err-check_overlaps.field-0.0) segments c.in_err-check_overlaps.ensures))

pub check_size-requires : goal.check_size-requires
check_size-requires c =
    let segments : c.deref-2.result.now ≡ loads c.args.bytes.now = search rules in
    subst (λ xs. length xs ≤ 64) (sym segments) (few_loads c.args.bytes.now c.in_ok-check_file_header.ensures.answer)

pub returns-in_err-check_size-clause-answer : goal.returns-in_err-check_size-clause-answer
returns-in_err-check_size-clause-answer c =
    let same : c.from_residual-in_err-check_size.result ≡ Err c.in_err-check_size.field-0.0 = search rules in
    let segments : c.deref.result.now ≡ loads c.args.bytes.now = search rules in
    let segments-2 : c.deref-2.result.now ≡ loads c.args.bytes.now = search rules in
    subst (λ r. IsAnswer (first_fault c.args.bytes.now) r) (sym same)
    (in_size c.args.bytes.now _ c.in_ok-check_file_header.ensures.answer c.in_ok-headers.ensures.answer
    (ap (λ xs. first_failing (overlap_tests xs)) (sym segments) ∙ c.in_ok-check_overlaps.ensures)
    (subst (λ xs. IsRefusal (first_failing (size_tests xs)) c.in_err-check_size.field-0.0) segments-2 c.in_err-check_size.ensures))

-- every test was made
passed : (c : goal.After-drop-headers-2) → IsPassed c.args.bytes.now
passed c =
    let segments : c.deref.result.now ≡ loads c.args.bytes.now = search rules in
    let segments-2 : c.deref-2.result.now ≡ loads c.args.bytes.now = search rules in
    record {
      header = c.in_ok-check_file_header.ensures.answer;
      segments = c.in_ok-headers.ensures.answer;
      overlaps = ap (λ xs. first_failing (overlap_tests xs)) (sym segments) ∙ c.in_ok-check_overlaps.ensures;
      size = ap (λ xs. first_failing (size_tests xs)) (sym segments-2) ∙ c.in_ok-check_size.ensures;
    }

-- what is answered
same_view : (c : goal.After-drop-headers-2) → loaded c.args.bytes.now ≡ view (record { entry = c.xword_at.result; segments = c.in_ok-segments.field-0 })
same_view c =
    let segments : c.deref-3.result.now ≡ loads c.args.bytes.now = search rules in
    loaded_by_parts c.args.bytes.now c.xword_at.result (parts_in c.in_ok-segments.field-0.items) c.xword_at.ensures
    (c.in_ok-segments.ensures ∙ ap (map (part_of c.args.bytes.now)) segments)

pub returns-clause-answer : goal.returns-clause-answer
returns-clause-answer c = nowhere c.args.bytes.now (passed c)

pub returns-clause-loaded : goal.returns-clause-loaded
returns-clause-loaded c = sym (same_view c)

pub returns-clause-loadable : goal.returns-clause-loadable
returns-clause-loadable c = subst IsLoadable (same_view c) (loadable c.args.bytes.now (passed c))
