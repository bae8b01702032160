use Rattle.std.proofs.Common.{◌≡◌, drop}
use Rattle.std.specs.List.{find}
use Rattle.zb_tokens.specs.Board.{nearest, up_from}
use Rattle.zb_board.proofs.game.Game.nearest.Given as goal

-- the cells so far don't pass
abbrev pub invariant-loop-step : goal.invariant-loop-step
invariant-loop-step g l = find (g.Q.Query.passes l.query) (up_from (drop l._step l.self.cells) l.self l.key) ≡ nearest (g.Q.Query.passes l.query) l.self l.fn.key
