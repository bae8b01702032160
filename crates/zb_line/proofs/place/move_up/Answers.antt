use Rattle.zb_line.proofs.MoveLemmas.{moved_up}
use Rattle.zb_line.proofs.place.move_up.Goals as goal

pub returns : goal.returns
returns g c = moved_up c.args.row.now c.args.place c.requires c.rotate_right.new.self c.rotate_right.ensures.after
