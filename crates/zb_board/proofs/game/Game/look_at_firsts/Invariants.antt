use Rattle.std.proofs.Common.{◌≡◌}
use Rattle.zb_board.proofs.game.Game.look_at_firsts.Given as goal

-- nothing has changed on the board
abbrev pub invariant-loop-flow : goal.invariant-loop-flow
invariant-loop-flow l = l.self ≡ l.fn.self
