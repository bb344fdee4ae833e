use Rattle.sx_rv_link.proofs.Followed.{followed}
use Rattle.sx_rv_link.proofs.following.walks_are_followed.Goals as goal

pub returns : goal.returns
returns c = followed
