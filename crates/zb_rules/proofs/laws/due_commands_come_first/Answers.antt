use Rattle.zb_rules.proofs.DueLaws.{due_command_first, due_command_none}
use Rattle.zb_rules.proofs.laws.due_commands_come_first.Goals as goal

pub returns-clause-first : goal.returns-clause-first
returns-clause-first c = due_command_first

pub returns-clause-none : goal.returns-clause-none
returns-clause-none c = due_command_none
