use Rattle.zb_rules.proofs.RunLaws.{bodies_run_for_all, bodies_complete_then, bodies_run_next}
use Rattle.zb_rules.proofs.laws.bodies_complete_behind_all_runs.Goals as goal

pub returns-clause-all : goal.returns-clause-all
returns-clause-all c = bodies_run_for_all

pub returns-clause-then : goal.returns-clause-then
returns-clause-then c = bodies_complete_then

pub returns-clause-next : goal.returns-clause-next
returns-clause-next c = bodies_run_next
