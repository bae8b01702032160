use Rattle.zb_rules.proofs.SoundLaws.{board_is_there, board_is_sound}
use Rattle.zb_rules.proofs.laws.boards_of_logs_are_sound.Goals as goal

pub returns-clause-there : goal.returns-clause-there
returns-clause-there c = board_is_there

pub returns-clause-sound : goal.returns-clause-sound
returns-clause-sound c = board_is_sound
