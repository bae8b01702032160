use Rattle.zb_tokens.proofs.VisibleLaws.{visible_named, visible_ascends}
use Rattle.zb_tokens.proofs.laws.visible_variables_are_those_seen.Goals as goal

pub returns-clause-values : goal.returns-clause-values
returns-clause-values c = visible_named

pub returns-clause-ascending : goal.returns-clause-ascending
returns-clause-ascending c = visible_ascends
