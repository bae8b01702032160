use Rattle.zb_rules.proofs.TimerEndsLaws.{timer_ended_once, timer_ended_home}
use Rattle.zb_rules.proofs.laws.timers_end_once.Goals as goal

pub returns-clause-once : goal.returns-clause-once
returns-clause-once c = timer_ended_once

pub returns-clause-home : goal.returns-clause-home
returns-clause-home c = timer_ended_home
