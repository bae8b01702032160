use Rattle.zb_rules.proofs.FrontLaws.{front_counts}
use Rattle.zb_rules.proofs.laws.assignments_have_events.Goals as goal

pub returns : goal.returns
returns c = front_counts
