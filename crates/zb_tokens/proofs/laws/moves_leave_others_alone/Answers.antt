use Rattle.zb_tokens.proofs.EffectLaws.{other_cells_stay, other_tokens_stay}
use Rattle.zb_tokens.proofs.laws.moves_leave_others_alone.Goals as goal

pub returns-clause-cells : goal.returns-clause-cells
returns-clause-cells c = other_cells_stay

pub returns-clause-tokens : goal.returns-clause-tokens
returns-clause-tokens c = other_tokens_stay
