use Rattle.zb_board.proofs.KeyLemmas.{left_kept}
use Rattle.zb_board.proofs.keys.forget.Goals as goal

pub returns : goal.returns
returns c = λ other apart was. rw c.remove.ensures (left_kept c.args.key c.args.keys.now other apart was)
