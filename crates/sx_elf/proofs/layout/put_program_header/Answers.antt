use Rattle.std.proofs.Common.{append_assoc}
use Rattle.sx_elf.proofs.layout.put_program_header.Goals as goal

pub returns : goal.returns
returns c = simp (
  c.in_ok-put_xword-6.ensures,
  c.in_ok-put_xword-5.ensures,
  c.in_ok-put_xword-4.ensures,
  c.in_ok-put_xword-3.ensures,
  c.in_ok-put_xword-2.ensures,
  c.in_ok-put_xword.ensures,
  c.in_ok-put_word-2.ensures,
  c.in_ok-put_word.ensures,
  append_assoc,
)
