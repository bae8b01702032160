use Rattle.zb_line.proofs.MoveLemmas.{moved_down}
use Rattle.zb_line.proofs.place.move_down.Goals as goal

pub returns : goal.returns
returns g c = rw c.rotate_left.ensures.after (moved_down c.args.row.now c.args.place c.args.item c.requires)
