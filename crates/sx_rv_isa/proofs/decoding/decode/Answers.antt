use Rattle.sx_rv_isa.proofs.Back.{decoded_is}
use Rattle.sx_rv_isa.proofs.Forth.{absent_of}
use Rattle.sx_rv_isa.proofs.decoding.decode.Goals as goal

pub returns-clause-found : goal.returns-clause-found
returns-clause-found c = rw c.decode_by_table.ensures (decoded_is c.args.word c.ranges.word.fits)

pub returns-clause-absent : goal.returns-clause-absent
returns-clause-absent c = absent_of c.args.word c.decode_by_table.result c.decode_by_table.ensures
