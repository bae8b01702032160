use Rattle.zb_world.proofs.HistoryLaws.{cut_is_history, front_is_cut, whole_is_cut}
use Rattle.zb_world.proofs.laws.cuts_are_histories.Goals as goal

pub returns-clause-history : goal.returns-clause-history
returns-clause-history c = cut_is_history

pub returns-clause-front : goal.returns-clause-front
returns-clause-front c = front_is_cut

pub returns-clause-whole : goal.returns-clause-whole
returns-clause-whole c = whole_is_cut
