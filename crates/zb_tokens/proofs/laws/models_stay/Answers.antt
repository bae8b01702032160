use Rattle.zb_tokens.proofs.EffectLaws.{models_stay}
use Rattle.zb_tokens.proofs.laws.models_stay.Goals as goal

pub returns : goal.returns
returns c = models_stay
