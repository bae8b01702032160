use Rattle.std.proofs.Common.{◌≡◌, length, not, filter}
use Rattle.zb_tokens.specs.Board.{leaves_in}
use Rattle.zb_board.proofs.game.Game.take_leaving.Given as goal

-- nothing but the cells has changed, and those that stay are there
abbrev pub invariant-loop : goal.invariant-loop
invariant-loop l = (l.self ≡ record l.fn.self { cells = l.self.cells }) × (filter (λ c. not (leaves_in l.scope c)) l.self.cells ≡ filter (λ c. not (leaves_in l.scope c)) l.fn.self.cells)

-- the cells get fewer
abbrev pub decreases-loop : goal.decreases-loop
decreases-loop l = length l.self.cells
