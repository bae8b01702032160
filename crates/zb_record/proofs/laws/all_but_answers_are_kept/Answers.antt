use Rattle.zb_record.proofs.AnswerLaws.{all_kept}
use Rattle.zb_record.proofs.laws.all_but_answers_are_kept.Goals as goal

pub returns : goal.returns
returns c p n batch = all_kept p n batch
