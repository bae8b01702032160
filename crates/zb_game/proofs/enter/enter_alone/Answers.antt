use Rattle.std.proofs.Common.{refl, ◌∙◌}
use Rattle.zb_game.proofs.enter.enter_alone.Goals as goal

pub returns-clause-entered : goal.returns-clause-entered
returns-clause-entered c = c.in_ok-enter_coming.ensures ∙ rw (c.new_cell-cell.ensures, c.comes_by_none-before.ensures, c.as_str-3.ensures) refl
