use Rattle.zb_board.proofs.IndexedLemmas.{kept_model}
use Rattle.zb_board.proofs.game.Game.stand.Goals as goal

pub invariant_of-self-2 : goal.invariant_of-self-2
invariant_of-self-2 c = λ ascends. rw c.in_ok-push.ensures.added (kept_model _ _ _ _ _ _ _ (c.self.invariant ascends) c.args.d)
