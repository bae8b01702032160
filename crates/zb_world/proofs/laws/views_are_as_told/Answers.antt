use Rattle.zb_world.proofs.FreshLaws.{buffered_same}
use Rattle.zb_world.proofs.MessageViewLaws.{locks_same}
use Rattle.zb_world.proofs.SubscriptionViewLaws.{there_same, task_same}
use Rattle.zb_world.proofs.laws.views_are_as_told.Goals as goal

pub returns-clause-buffered : goal.returns-clause-buffered
returns-clause-buffered c = buffered_same

pub returns-clause-locked : goal.returns-clause-locked
returns-clause-locked c = locks_same

pub returns-clause-there : goal.returns-clause-there
returns-clause-there c = there_same

pub returns-clause-task : goal.returns-clause-task
returns-clause-task c = task_same
