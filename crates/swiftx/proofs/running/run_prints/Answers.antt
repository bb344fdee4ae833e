use Rattle.std.proofs.Common.{◌≤◌, ◌∙◌, ap, inr, arith, length}
use Rattle.sx_elf.specs.Tests.{first_fault}
use Rattle.swiftx.specs.Found.{bytes_of_all}
use Rattle.swiftx.specs.PrintCode.{code_of}
use Rattle.swiftx.proofs.Whole.{performs_file, never_broken}
use Rattle.swiftx.proofs.running.run_prints.Goals as goal

pub machine_of-requires : goal.machine_of-requires
machine_of-requires g c =
    let fits : length (code_of (bytes_of_all c.args.literals.now)) ≤ 138739712 = omega (arith, c.requires.fits) in
    ap first_fault (c.deref.ensures.value ∙ c.in-Ok.ensures) ∙ c.read_of_write.ensures.passes (code_of (bytes_of_all c.args.literals.now)) 0 fits (omega arith)

pub run_built-requires-clause-sound : goal.run_built-requires-clause-sound
run_built-requires-clause-sound g c =
    never_broken (bytes_of_all c.args.literals.now) c.in-Ok.file.items
    (performs_file (record { fits = c.words_fit.ensures; decodes = c.reads_back.ensures }) c.read_of_write.ensures.loads (bytes_of_all c.args.literals.now) c.in-Ok.file.items c.requires.short c.requires.fits c.in-Ok.ensures)

pub returns : goal.returns
returns g c =
    inr (record {
      file = c.in-Ok.file.items;
      performs = performs_file (record { fits = c.words_fit.ensures; decodes = c.reads_back.ensures }) c.read_of_write.ensures.loads (bytes_of_all c.args.literals.now) c.in-Ok.file.items c.requires.short c.requires.fits c.in-Ok.ensures;
      settled = c.run_built.ensures;
    })
