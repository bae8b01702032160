use Rattle.std.proofs.Common.{◌≡◌}
use Rattle.zb_board.proofs.game.Game.look_at_tokens.Given as goal

-- nothing has changed on the board
abbrev pub invariant-loop-number : goal.invariant-loop-number
invariant-loop-number l = l.self ≡ l.fn.self
