use Rattle.zb_rules.proofs.JobEndsLaws.{ended_once, ended_home}
use Rattle.zb_rules.proofs.laws.jobs_end_once.Goals as goal

pub returns-clause-once : goal.returns-clause-once
returns-clause-once c = ended_once

pub returns-clause-home : goal.returns-clause-home
returns-clause-home c = ended_home
