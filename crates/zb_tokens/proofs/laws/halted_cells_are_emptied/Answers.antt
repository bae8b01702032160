use Rattle.zb_tokens.proofs.EffectLaws.{halted_terminates, halted_empties}
use Rattle.zb_tokens.proofs.laws.halted_cells_are_emptied.Goals as goal

pub returns-clause-cell : goal.returns-clause-cell
returns-clause-cell c = halted_terminates

pub returns-clause-inside : goal.returns-clause-inside
returns-clause-inside c = halted_empties
