use Rattle.zb_once.proofs.OnceLaws.{correlates_once}
use Rattle.zb_once.proofs.laws.messages_are_correlated_once.Goals as goal

pub returns : goal.returns
returns c = correlates_once
