use Rattle.zb_rules.proofs.ProgressLaws.{forced_event}
use Rattle.zb_rules.proofs.laws.forced_events_apply.Goals as goal

pub returns : goal.returns
returns c = forced_event
