use Rattle.zb_tokens.proofs.ForcedLaws.{quiet_cells, quiet_tokens}
use Rattle.zb_tokens.proofs.laws.quiet_games_rest.Goals as goal

pub returns-clause-cells : goal.returns-clause-cells
returns-clause-cells c = quiet_cells

pub returns-clause-tokens : goal.returns-clause-tokens
returns-clause-tokens c = quiet_tokens
