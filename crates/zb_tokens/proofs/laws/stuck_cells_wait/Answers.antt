use Rattle.zb_tokens.proofs.ForcedLaws.{stuck_waits}
use Rattle.zb_tokens.proofs.laws.stuck_cells_wait.Goals as goal

pub returns : goal.returns
returns c = stuck_waits
