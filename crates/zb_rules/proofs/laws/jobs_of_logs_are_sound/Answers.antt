use Rattle.zb_rules.proofs.SoundLaws.{jobs_are_sound}
use Rattle.zb_rules.proofs.laws.jobs_of_logs_are_sound.Goals as goal

pub returns : goal.returns
returns c = jobs_are_sound
