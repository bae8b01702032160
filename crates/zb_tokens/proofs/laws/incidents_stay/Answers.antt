use Rattle.zb_tokens.proofs.EffectLaws.{incidents_stay, incidents_alone}
use Rattle.zb_tokens.proofs.laws.incidents_stay.Goals as goal

pub returns-clause-others : goal.returns-clause-others
returns-clause-others c = incidents_stay

pub returns-clause-alone : goal.returns-clause-alone
returns-clause-alone c = incidents_alone
