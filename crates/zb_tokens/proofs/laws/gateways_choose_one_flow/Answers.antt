use Rattle.zb_tokens.proofs.LeaveLaws.{choice_is_made, choice_fails, all_are_owed}
use Rattle.zb_tokens.proofs.laws.gateways_choose_one_flow.Goals as goal

pub returns-clause-chosen : goal.returns-clause-chosen
returns-clause-chosen c = choice_is_made

pub returns-clause-undecided : goal.returns-clause-undecided
returns-clause-undecided c = choice_fails

pub returns-clause-elsewhere : goal.returns-clause-elsewhere
returns-clause-elsewhere c = all_are_owed
