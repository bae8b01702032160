use Rattle.std.proofs.Common.{refl}
use Rattle.zb_partition.specs.Log.{bodies_of}
use Rattle.zb_partition.proofs.OpeningLemmas.{opened_by}
use Rattle.zb_partition.proofs.partition.Partition.over.Goals as goal

pub returns-in-Ok-clause-opened : goal.returns-in-Ok-clause-opened
returns-in-Ok-clause-opened g c =
    let read = c.in-Ok.ensures.read in
    opened_by c.args.place c.args.scan c.read_state.new.scan read.0 (record { state = c.in-Ok.state; last_moment = c.in-Ok.last_moment }) _ g.met.D.Disk.images_told c.requires.durable c.in-Ok.ensures.reads read.1 c.finish.ensures.disk
    (λ told. c.finish.ensures.frames told (bodies_of read.0) (read.1.0.found told)) c.finish.ensures.count c.finish.ensures.last refl refl refl
