use Rattle.std.proofs.Common.{sym, ◌∙◌}
use Rattle.sx_types.proofs.Alike.{numbered}
use Rattle.sx_types.proofs.functions.FunctionTypes.find.Goals as goal

pub returns-in-Some : goal.returns-in-Some
returns-in-Some c = rw (← c.self.view_is) (sym c.in-Some.is ∙ c.get_index_of.ensures.index ∙ numbered c.self.inside.seen.keys c.args.function.now)

pub returns-in-None : goal.returns-in-None
returns-in-None c = rw (← c.self.view_is) (sym c.in-None.is ∙ c.get_index_of.ensures.index ∙ numbered c.self.inside.seen.keys c.args.function.now)
