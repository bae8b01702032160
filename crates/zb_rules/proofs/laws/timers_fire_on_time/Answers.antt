use Rattle.zb_rules.proofs.OnTimeLaws.{triggered_on_time}
use Rattle.zb_rules.proofs.laws.timers_fire_on_time.Goals as goal

pub returns : goal.returns
returns c = λ p n moment es command outcome is. triggered_on_time p n moment es command outcome is
