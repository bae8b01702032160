use Rattle.zb_world.proofs.OnceLaws.{happens_once}
use Rattle.zb_world.proofs.laws.once_in_a_history.Goals as goal

pub returns : goal.returns
returns c = happens_once
