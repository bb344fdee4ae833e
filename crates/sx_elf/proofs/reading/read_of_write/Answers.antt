use Rattle.sx_elf.proofs.Written.{passes-file_of, loaded-file_of}
use Rattle.sx_elf.proofs.reading.read_of_write.Goals as goal

pub returns-clause-passes : goal.returns-clause-passes
returns-clause-passes c = λ code words long few. passes-file_of code words long few

pub returns-clause-loads : goal.returns-clause-loads
returns-clause-loads c = λ code words long few. loaded-file_of code words long few
