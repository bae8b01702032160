use Rattle.std.proofs.Common.{◌≡◌, map, take}
use Rattle.zb_tokens.specs.declared.board.Spot.TheVariants as spots
use Rattle.zb_tokens.specs.MoveEnter.{without_each}
use Rattle.zb_board.proofs.game.Game.take_each.Given as goal

-- the first token on each of the flows so far is taken
abbrev pub invariant-loop-flow : goal.invariant-loop-flow
invariant-loop-flow l = l.self ≡ record l.fn.self { tokens = without_each l.scope (take l.flow-index (map spots.OnFlow l.flows)) l.fn.self.tokens }
