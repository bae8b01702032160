use Rattle.std.proofs.Common.{rules}
use Rattle.zb_game.proofs.BoardLemmas.{never_illegal}
use Rattle.zb_game.proofs.player.make.Goals as goal

pub returns-then-fits-clause-illegal : goal.returns-then-fits-clause-illegal
returns-then-fits-clause-illegal c = λ is. absurd (never_illegal c.args.game.now c.args.m (search rules) (c.play.ensures.illegal is))

pub returns-then-fits-clause-kept : goal.returns-then-fits-clause-kept
returns-then-fits-clause-kept c = λ is. absurd (never_illegal c.args.game.now c.args.m (search rules) (c.play.ensures.illegal is))
