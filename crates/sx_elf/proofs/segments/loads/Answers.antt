use Rattle.std.proofs.Common.{◌≡◌, ◌+◌, ◌*◌, ◌-◌, ◌≤◌, true, false, [], ◌∷◌, ◌++◌, length, filter, All, Err, rules, sym, subst, ◌∙◌}
use Rattle.std.proofs.lemmas.List.Elements.{All-push}
use Rattle.sx_elf.specs.Fields.{e_phoff, e_phnum, program_header, headers_from}
use Rattle.sx_elf.specs.Tests.{first_failing, segment_tests, is_load, loads, bytes_end, IsAnswer}
use Rattle.sx_elf.proofs.Headers.{headers_from-step, headers_passed, headers_failed, kept_more, kept_same, passed_load}
use Rattle.sx_elf.proofs.segments.loads.Goals as goal
use Rattle.sx_elf.proofs.segments.loads.Goals.{then-is_load+in_ok-map_err, else-is_load}

pub returns-in_err-check-clause-answer : goal.returns-in_err-check-clause-answer
returns-in_err-check-clause-answer c =
    let bytes = c.args.bytes.now in
    let header = c.program_header_at-header.result in
    let is : header ≡ program_header bytes c.headers.number (e_phoff bytes + 56 * c.headers.number) = search rules in
    let step = headers_from-step bytes c.headers.number (e_phnum bytes) header (search rules) is in
    let same : c.from_residual.result ≡ Err c.in_err-check.field-0.0 = search rules in
    subst (λ r. IsAnswer (first_failing (segment_tests bytes)) r) (sym same)
    (headers_failed bytes c.headers.number (e_phnum bytes) header _ _ step c.headers.invariant.tested c.in_err-check.ensures)

pub headers-preserved : goal.headers-preserved
headers-preserved c =
    let bytes = c.args.bytes.now in
    let found = c.headers.found.items in
    let rest = headers_from bytes (c.headers.number + 1) (e_phnum bytes - (c.headers.number + 1)) in
    let header = c.program_header_at-header.result in
    let is : header ≡ program_header bytes c.headers.number (e_phoff bytes + 56 * c.headers.number) = search rules in
    let step = headers_from-step bytes c.headers.number (e_phnum bytes) header (search rules) is in
    let tested = headers_passed bytes c.headers.number (e_phnum bytes) header _ step c.headers.invariant.tested c.in_ok-check.ensures in
    let kept : found ++ filter is_load (header ∷ rest) ≡ loads bytes = subst (λ headers. found ++ filter is_load headers ≡ loads bytes) step c.headers.invariant.kept in
    elim c.if-is_load.branch [
      | then-is_load+in_ok-map_err w ↦
          let load : is_load header ≡ true = sym c.is_load.ensures ∙ w.if-is_load.true in
          let items : c.if-is_load.found.items ≡ found ++ header ∷ [] = search rules in
          record {
            tested = tested;
            kept = subst (λ xs. xs ++ filter is_load rest ≡ loads bytes) (sym items) (kept_more found header rest (loads bytes) load kept);
            within = subst (λ xs. All (λ header. bytes_end header ≤ length bytes) xs) (sym items)
                (All-push (λ header. bytes_end header ≤ length bytes) found header c.headers.invariant.within (passed_load (length bytes) header c.in_ok-check.ensures load).1);
          }
      | else-is_load w ↦
          let load : is_load header ≡ false = sym c.is_load.ensures ∙ w.if-is_load.false in
          let items : c.if-is_load.found.items ≡ found = search rules in
          record {
            tested = tested;
            kept = subst (λ xs. xs ++ filter is_load rest ≡ loads bytes) (sym items) (kept_same found header rest (loads bytes) load kept);
            within = subst (λ xs. All (λ header. bytes_end header ≤ length bytes) xs) (sym items) c.headers.invariant.within;
          }
    ]
