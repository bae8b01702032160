use Rattle.zb_tokens.proofs.MappingLaws.{completed_with, completion_fails}
use Rattle.zb_tokens.proofs.laws.outputs_come_before_exits.Goals as goal

pub returns-clause-completed : goal.returns-clause-completed
returns-clause-completed c = completed_with

pub returns-clause-kept : goal.returns-clause-kept
returns-clause-kept c = completion_fails
