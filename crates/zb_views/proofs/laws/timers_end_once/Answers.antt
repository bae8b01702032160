use Rattle.zb_views.proofs.TimerEndsLaws.{timers_ascend, timer_made_once, timer_ends_once}
use Rattle.zb_views.proofs.laws.timers_end_once.Goals as goal

pub returns-clause-ascend : goal.returns-clause-ascend
returns-clause-ascend c = timers_ascend

pub returns-clause-made : goal.returns-clause-made
returns-clause-made c = timer_made_once

pub returns-clause-once : goal.returns-clause-once
returns-clause-once c = timer_ends_once
