use Rattle.zb_world.proofs.HistoryLaws.{history_none, history_more, history_joined, history_front}
use Rattle.zb_world.proofs.laws.histories_go_on.Goals as goal

pub returns-clause-none : goal.returns-clause-none
returns-clause-none c = history_none

pub returns-clause-more : goal.returns-clause-more
returns-clause-more c = history_more

pub returns-clause-joined : goal.returns-clause-joined
returns-clause-joined c = history_joined

pub returns-clause-front : goal.returns-clause-front
returns-clause-front c = history_front
