use Rattle.std.proofs.Common.{◌∙◌, map, arith}
use Rattle.zb_serve.specs.Running.{files_of}
use Rattle.zb_serve.proofs.ClosingLemmas.{filled, rotated}
use Rattle.zb_serve.proofs.closing.hand_back.Goals as goal

pub returns : goal.returns
returns g c =
    rotated c.args.left.items (map files_of c.args.partitions.items) c.args.refused c.len-others.result c.close_behind-volumes.result.items c.push_reserved.new.self.items c.rotate_left.new.self.items
    (c.len-others.ensures ∙ c.args.left.ok.0) c.close_behind-volumes.ensures.volumes c.push_reserved.ensures.items c.rotate_left.ensures.items

pub close_behind-volumes-requires : goal.close_behind-volumes-requires
close_behind-volumes-requires g c = omega (arith, c.requires.room)

pub push_reserved-requires : goal.push_reserved-requires
push_reserved-requires g c =
    let all = filled files_of c.args.left.items c.args.partitions.items c.close_behind-volumes.result.items c.close_behind-volumes.ensures.volumes in
    omega (arith, all, c.close_behind-volumes.result.ok.0, c.args.left.ok.0, c.args.partitions.ok.0, c.requires.room, c.close_behind-volumes.ensures.capacity)

pub rotate_left-requires : goal.rotate_left-requires
rotate_left-requires g c =
    let all = filled files_of c.args.left.items c.args.partitions.items c.close_behind-volumes.result.items c.close_behind-volumes.ensures.volumes in
    omega (arith, all, c.close_behind-volumes.result.ok.0, c.args.left.ok.0, c.len-others.ensures, c.push_reserved.ensures.len)
