use Rattle.zb_tokens.proofs.EffectLaws.{entry_is}
use Rattle.zb_tokens.proofs.laws.entries_take_first_tokens.Goals as goal

pub returns : goal.returns
returns c = entry_is
