use Rattle.zb_tokens.proofs.ForcedLaws.{doomed_ends}
use Rattle.zb_tokens.proofs.laws.doomed_cells_end.Goals as goal

pub returns : goal.returns
returns c = doomed_ends
