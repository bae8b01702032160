use Rattle.zb_tokens.proofs.EffectLaws.{end_marks, end_empties}
use Rattle.zb_tokens.proofs.laws.ended_scopes_are_emptied.Goals as goal

pub returns-clause-scope : goal.returns-clause-scope
returns-clause-scope c = end_marks

pub returns-clause-inside : goal.returns-clause-inside
returns-clause-inside c = end_empties
