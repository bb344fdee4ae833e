use Rattle.std.proofs.Common.{◌≡◌, None, true, false, arith}
use Rattle.std.proofs.lemmas.Option.{slice_get-get_or}
use Rattle.sx_layout.proofs.Searches.{told_not_held}
use Rattle.sx_layout.proofs.holding.holds_itself.Goals as goal

pub returns-in-Some : goal.returns-in-Some
returns-in-Some c = (
  λ told. absurd (let e : false ≡ true = told in cc),
  λ holds. absurd (told_not_held c.args.structures.now c.args.widths.now c.requires.widths c.args.number _ c.in-Some.field-0 (slice_get-get_or c.args.widths.now c.args.number None (let less = c.requires.number in let e = c.requires.widths.0 in omega arith)) c.in-Some.is holds),
)
