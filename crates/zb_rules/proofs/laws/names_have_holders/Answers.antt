use Rattle.zb_rules.proofs.UpdateLaws.{holder_is_there, update_is_whole}
use Rattle.zb_rules.proofs.laws.names_have_holders.Goals as goal

pub returns-clause-holders : goal.returns-clause-holders
returns-clause-holders c = holder_is_there

pub returns-clause-updates : goal.returns-clause-updates
returns-clause-updates c = update_is_whole
