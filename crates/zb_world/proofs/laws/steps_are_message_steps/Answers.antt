use Rattle.zb_world.proofs.MessageStepLaws.{step_of_messages}
use Rattle.zb_world.proofs.laws.steps_are_message_steps.Goals as goal

pub returns : goal.returns
returns c = step_of_messages
