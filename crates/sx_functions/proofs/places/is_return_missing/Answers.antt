use Rattle.sx_functions.proofs.places.is_return_missing.Goals as goal

pub returns : goal.returns
returns c = c.lacks_return.ensures c.args.declarations.now
