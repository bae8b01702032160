use Rattle.zb_rules.proofs.UndoneLaws.{handlers_are_newest, finished_are_kept, others_leave_finished, finished_are_undone_once}
use Rattle.zb_rules.proofs.laws.handlers_run_newest_first.Goals as goal

pub returns-clause-newest : goal.returns-clause-newest
returns-clause-newest c = handlers_are_newest

pub returns-clause-kept : goal.returns-clause-kept
returns-clause-kept c = finished_are_kept

pub returns-clause-others : goal.returns-clause-others
returns-clause-others c = others_leave_finished

pub returns-clause-once : goal.returns-clause-once
returns-clause-once c = finished_are_undone_once
