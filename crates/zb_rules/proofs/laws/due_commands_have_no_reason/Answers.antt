use Rattle.zb_rules.proofs.DueLaws.{due_command_unrefused, due_command_is_run}
use Rattle.zb_rules.proofs.laws.due_commands_have_no_reason.Goals as goal

pub returns-clause-no_reason : goal.returns-clause-no_reason
returns-clause-no_reason c = λ now moment es. due_command_unrefused now es moment

pub returns-clause-run : goal.returns-clause-run
returns-clause-run c = due_command_is_run
